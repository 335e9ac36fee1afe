-- `check_operand::two_wires` meets its contract. Assumes nothing.
use Rattle.check_operand.specs.Operands.{wanted_of}
use Rattle.check_operand.proofs.two_wires.Goals as goal

pub returns : goal.returns
unfolding wanted_of
returns c =
    c.two_operands.ensures.result_value
