-- `From<Fault> for Unplaced` meets its contract. Assumes nothing.
use Rattle.layout.specs.Layout.{faulted}
use Rattle.layout.proofs.UnplacedFromFault.from.Goals as goal

pub returns-in-Over : goal.returns-in-Over
unfolding faulted
returns-in-Over c =
    rw c.in-Over.is

pub returns-in-Stuck : goal.returns-in-Stuck
unfolding faulted
returns-in-Stuck c =
    rw c.in-Stuck.is
