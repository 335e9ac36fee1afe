-- `gates::stop` meets its contract. Assumes nothing.
use Rattle.std.proofs.Common.{rules}
use Rattle.gates.specs.Gates.{stop_of}
use Rattle.gates.proofs.stop.Goals as goal

pub returns-in-Over : goal.returns-in-Over
unfolding stop_of
returns-in-Over c = search rules

pub returns-in-Stuck : goal.returns-in-Stuck
unfolding stop_of
returns-in-Stuck c = search rules
