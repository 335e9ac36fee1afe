-- `forms::left` meets its contract. The invariant: the loops that remain are those that remain of the loops not looked at yet. Assumes nothing.
use mathlib.Core.Path.{◌≡◌}
use mathlib.Core.List.{List}
use lib.IntN.{ℤ}
use Rattle.form_laws.specs.Settled.{remaining}
use Rattle.forms.specs.Flat.{as_form}
use Rattle.forms.specs.Rows.{loops_of}
use Rattle.forms.proofs.left.Given as goal

abbrev pub invariant-loop-n : goal.invariant-loop-n
invariant-loop-n l =
    (lows highs : List (List ℤ)) → remaining l.variables (loops_of l.loops lows highs) (as_form l.f) ≡ remaining l.variables (loops_of l.n lows highs) (as_form l.f)
