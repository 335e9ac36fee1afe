-- `forms::scan` meets its contract. The invariant: the scan of the form that came in is the scan of the form as it is, over the loops below the last variable that was replaced.
-- Assumes nothing.
use mathlib.Core.Path.{◌≡◌}
use Prim.Native.Nat.{◌-◌, ◌≤◌}
use Rattle.form_laws.specs.Settled.{scan, after}
use Rattle.forms.specs.Flat.{Kept, as_form}
use Rattle.forms.specs.Rows.{loops_of}
use Rattle.forms.proofs.scan.Given as goal

abbrev pub invariant-loop-f : goal.invariant-loop-f
invariant-loop-f l =
    (l.n ≤ l.loops) × Kept l.f × (scan l.ranges.variables (loops_of l.loops l.ranges.lows.now l.ranges.highs.now) (as_form l.initial.f) ≡ after (l.loops - l.n) (scan l.ranges.variables (loops_of l.n l.ranges.lows.now l.ranges.highs.now) (as_form l.f)))

abbrev pub decreases-loop-f : goal.decreases-loop-f
decreases-loop-f l =
    l.n
