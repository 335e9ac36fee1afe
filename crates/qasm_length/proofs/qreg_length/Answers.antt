-- `qasm_length::qreg_length` meets its contract: nothing where there is no wire. Assumes nothing.
use native.Mathlib.Omega.{arith}
use Rattle.qasm_text.specs.Text.{qreg_line}
use Rattle.qasm_length.proofs.Parts.{some_wires}
use Rattle.qasm_length.proofs.qreg_length.Goals as goal

pub returns-then-wires-eq0 : goal.returns-then-wires-eq0
unfolding qreg_line
returns-then-wires-eq0 c =
    rw c.if-wires-eq0.true (record { same = omega arith; bound = omega arith })

pub returns : goal.returns
returns c =
    record { same = omega (arith, some_wires c.args.wires c.if-wires-eq0.false); bound = omega arith }
