-- `qasm_length::line_length` meets its contract: the condition, the operation, and two bytes. Assumes nothing.
use native.Mathlib.Omega.{arith}
use Rattle.qasm_length.proofs.Parts.{line_read}
use Rattle.qasm_length.proofs.line_length.Goals as goal

pub returns : goal.returns
returns c =
    let a = c.args in
    let first = c.number_at-2 in
    let second = c.number_at-3 in
    let bit = c.number_at in
    let k = c.number_at-4 in
    let e = line_read a.output.now a.at first.result second.result bit.result k.result first.ensures second.ensures bit.ensures k.ensures in
    record { same = omega arith; bound = omega arith }
