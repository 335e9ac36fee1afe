-- `forms::add_scaled` meets its contract. One loop for sum, difference and replacement. Assumes nothing.
use Prim.Native.Nat.{◌-◌}
use Rattle.forms.proofs.Laws.{Scaling}
use Rattle.forms.proofs.add_scaled.Given as goal

abbrev pub invariant-loop-i : goal.invariant-loop-i
invariant-loop-i l = Scaling (l.k) l.initial.f l.g l.initial.f l.f l.i

abbrev pub decreases-loop-i : goal.decreases-loop-i
decreases-loop-i l = 13 - l.i

-- the number that comes in of each list
