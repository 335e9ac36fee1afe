-- `gates::first_value` meets its contract. Assumes nothing.
use mir.ValLaws.{to_z-of_z}
use mir.Syntax.{w64}
use Rattle.language.specs.Machine.{start_of}
use Rattle.gates.specs.Gates.{direction_of}
use Rattle.gates.proofs.first_value.Goals as goal

pub returns-then-reversed : goal.returns-then-reversed
unfolding start_of direction_of
returns-then-reversed c =
    rw c.if-reversed.true (to_z-of_z w64 c.args.y c.ranges.y)

pub returns-else-reversed : goal.returns-else-reversed
unfolding start_of direction_of
returns-else-reversed c =
    rw c.if-reversed.false (to_z-of_z w64 c.args.x c.ranges.x)
