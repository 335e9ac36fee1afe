-- `unroller::inmost` meets its contract. Assumes nothing.
use Prim.Native.Nat.{◌-◌}
use Rattle.unroller.specs.Runs.{Inside}
use Rattle.unroller.proofs.inmost.Given as goal

abbrev pub invariant-loop-r : goal.invariant-loop-r
invariant-loop-r l =
    Inside l.bytes l.base l.to l.initial.r l.r

abbrev pub decreases-loop-r : goal.decreases-loop-r
decreases-loop-r l =
    l.to - l.r.from
