-- `qasm_length::digits_of` meets its contract: the width by its tests. Assumes nothing.
use mathlib.Core.Path.{sym}
use native.Mathlib.Omega.{arith}
use Rattle.text_bytes.proofs.DecimalLaws.{width_digit, width_two, width_three, width_four, width_five}
use Rattle.qasm_length.proofs.digits_of.Goals as goal

pub returns-in-0-to-9 : goal.returns-in-0-to-9
returns-in-0-to-9 c =
    record { same = sym (width_digit c.args.n (omega arith)); bound = omega arith }

pub returns-in-10-to-99 : goal.returns-in-10-to-99
returns-in-10-to-99 c =
    record { same = sym (width_two c.args.n (omega arith) (omega arith)); bound = omega arith }

pub returns-in-100-to-999 : goal.returns-in-100-to-999
returns-in-100-to-999 c =
    record { same = sym (width_three c.args.n (omega arith) (omega arith)); bound = omega arith }

pub returns-in-1000-to-9999 : goal.returns-in-1000-to-9999
returns-in-1000-to-9999 c =
    record { same = sym (width_four c.args.n (omega arith) (omega arith)); bound = omega arith }

pub returns-in_default : goal.returns-in_default
returns-in_default c =
    record { same = sym (width_five c.args.n (omega arith) (omega arith)); bound = omega arith }
