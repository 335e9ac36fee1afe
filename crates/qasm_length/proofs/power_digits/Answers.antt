-- `qasm_length::power_digits` meets its contract: the width by a product. Assumes nothing.
use native.Mathlib.Omega.{arith}
use Rattle.text_bytes.proofs.Powers.{power_width}
use Rattle.qasm_length.proofs.power_digits.Goals as goal

pub returns : goal.returns
returns c =
    record { same = omega (arith, power_width c.args.k (omega arith)); bound = omega arith }
