-- `calls::put` meets its contract. Assumes nothing.
use native.Mathlib.Omega.{arith}
use Rattle.calls.proofs.CallOperands.{gathered_kind}
use Rattle.calls.proofs.put.Goals as goal

pub returns : goal.returns
returns c =
    let a = c.args in
    gathered_kind a.kind _ a.first a.size a.n a.given.now c.from.ensures (omega arith)
