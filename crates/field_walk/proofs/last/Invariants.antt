-- `field_walk::last` meets its contract. Assumes nothing.
use Prim.Native.Nat.{◌-◌}
use Rattle.field_walk.proofs.Search.{Search}
use Rattle.field_walk.proofs.last.Given as goal

abbrev pub invariant-loop-header : goal.invariant-loop-header
invariant-loop-header l =
    Search l.bytes l.from l.to l.cuts l.at l.d l.depth l.all

abbrev pub decreases-loop-header : goal.decreases-loop-header
decreases-loop-header l =
    l.to - l.at
