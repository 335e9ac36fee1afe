-- `check_declaration::row_number` meets its contract. Assumes nothing.
use native.Mathlib.Omega.{arith}
use Rattle.check_declaration.proofs.Tables.{number_few}
use Rattle.check_declaration.proofs.row_number.Goals as goal

pub overflow_add-result : goal.overflow_add-result
overflow_add-result c =
    omega (arith, c.requires, number_few c.args.kind)
