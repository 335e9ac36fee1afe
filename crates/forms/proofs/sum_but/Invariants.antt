-- `forms::sum_but` meets its contract: the loop of `add_scaled`, into another form. Assumes nothing.
use Prim.Native.Nat.{◌-◌}
use lib.IntN.{pos}
use lib.ListN.{set}
use Rattle.forms.proofs.Laws.{Scaling}
use Rattle.forms.proofs.sum_but.Given as goal

abbrev pub invariant-loop-i : goal.invariant-loop-i
invariant-loop-i l = Scaling (l.k) (set l.f l.at (pos 0)) l.h l.initial.g l.g l.i

abbrev pub decreases-loop-i : goal.decreases-loop-i
decreases-loop-i l = 13 - l.i

-- l.f without its number
