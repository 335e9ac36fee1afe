-- `check_operand::kind_by` meets its contract. Assumes nothing.
use Rattle.check_operand.specs.Tables.{kind_of_row}
use Rattle.check_operand.proofs.kind_by.Goals as goal

pub returns : goal.returns
unfolding kind_of_row
returns c =
    c.from.ensures
