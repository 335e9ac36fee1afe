-- `qasm_length::text_length` meets its contract: the lines before the records, and the records' lines in what is left of the room. Assumes nothing.
use native.Mathlib.Omega.{arith}
use Rattle.qasm_text.proofs.TextLength.{text_length}
use Rattle.qasm_length.proofs.text_length.Goals as goal

pub returns-in_err-left : goal.returns-in_err-left
returns-in_err-left c =
    rw (c.from_residual.ensures, text_length) (omega (arith, c.in_err-left.ensures))

pub returns-in_err-n : goal.returns-in_err-n
returns-in_err-n c =
    let h = rw c.in_err-n.was at c.lines_length.ensures in
    rw (c.from_residual-in_err-n.ensures, text_length) (omega arith)

pub returns : goal.returns
returns c =
    let h = rw c.in_ok-n.was at c.lines_length.ensures in
    rw text_length (omega arith, omega arith)
