-- `operands::passed` meets its contract. Assumes nothing.
use native.Mathlib.Omega.{arith}
use lib.Seq.{slice, length-slice}
use Rattle.operands.proofs.OperandFields.{passed_short, passed_number}
use Rattle.operands.proofs.passed.Goals as goal

pub returns-then-to-from-lt2 : goal.returns-then-to-from-lt2
returns-then-to-from-lt2 c =
    let a = c.args in
    passed_short (slice a.from a.to a.bytes.now) (omega (arith, length-slice a.from a.to a.bytes.now c.requires.1))

pub returns : goal.returns
returns c =
    let a = c.args in
    passed_number a.bytes.now a.from a.to c.two_bytes-number.result (omega (arith, c.requires.0)) c.requires.1 c.two_bytes-number.ensures.0
