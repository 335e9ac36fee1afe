-- `forms::load` meets its contract. Assumes nothing.
use mathlib.Core.Path.{◌≡◌}
use lib.IntN.{pos}
use lib.ListN.{replicate}
use Rattle.forms.specs.Flat.{widened}
use Rattle.forms.proofs.Lists.{front}
use Rattle.forms.proofs.load.Given as goal

-- the numbers of the row that are passed stand in the form
abbrev pub invariant-loop-i : goal.invariant-loop-i
invariant-loop-i l = l.f ≡ front l.i (widened l.row) (replicate 13 (pos 0))
