-- `check_operand::size_by` meets its contract. Assumes nothing.
use Rattle.check_operand.specs.Tables.{size_of_row}
use Rattle.check_operand.proofs.size_by.Goals as goal

pub returns : goal.returns
unfolding size_of_row
returns c =
    c.from.ensures
