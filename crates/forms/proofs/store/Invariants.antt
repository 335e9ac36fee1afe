-- `forms::store` meets its contract. Assumes nothing.
use mathlib.Core.Path.{◌≡◌}
use lib.IntN.{pos}
use lib.ListN.{take, replicate}
use Rattle.forms.proofs.Lists.{front}
use Rattle.forms.proofs.store.Given as goal

-- the numbers of the form that are passed stand in the row
abbrev pub invariant-loop-i : goal.invariant-loop-i
invariant-loop-i l = l.row ≡ front l.i (take 5 l.f) (replicate 5 (pos 0))
