-- `sizes_in` meets its contract. The loop's invariant: the words so far say so many sizes, which are in the first bytes. Assumes nothing.
use Prim.Native.Nat.{◌-◌}
use mathlib.Core.Path.{◌≡◌}
use lib.ListN.{length}
use Rattle.list_words.proofs.WordLaws.{Sizing}
use Rattle.list_words.proofs.sizes_in.Given as goal

abbrev pub invariant-loop-at : goal.invariant-loop-at
invariant-loop-at l =
    Sizing l.text l.from l.sizes l.at l.many × (length l.sizes ≡ length l.initial.sizes)

abbrev pub decreases-loop-at : goal.decreases-loop-at
decreases-loop-at l =
    length l.text - l.at
