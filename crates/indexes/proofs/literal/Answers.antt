-- `indexes::literal` meets its contract. Assumes nothing.
use native.Mathlib.Omega.{arith}
use lib.Seq.{slice, length-slice}
use Rattle.indexes.proofs.Leaves.{literal_two, literal_none}
use Rattle.indexes.proofs.literal.Goals as goal

pub returns-then-to-from-ne2 : goal.returns-then-to-from-ne2
returns-then-to-from-ne2 c =
    let a = c.args in
    let n = length-slice a.from a.to a.bytes.now c.requires.1 in
    literal_none (slice a.from a.to a.bytes.now) (λ z. c.if-to-from-ne2.true (omega arith))

pub returns : goal.returns
returns c =
    let a = c.args in
    literal_two a.bytes.now a.from a.to c.two_bytes-n.result (omega arith) c.requires.1 c.two_bytes-n.ensures.0 c.two_bytes-n.ensures.1
