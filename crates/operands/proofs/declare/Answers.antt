-- `operands::declare` meets its contract. Assumes nothing.
use native.Mathlib.Omega.{arith}
use Rattle.operands.proofs.RegisterTable.{one_declared}
use Rattle.operands.proofs.declare.Goals as goal

pub returns : goal.returns
returns c =
    let a = c.args in
    one_declared a.kind _ a.first a.size a.count a.regs.now c.from.ensures (omega arith)
