-- The two numbers of a family or of a family type. Assumes nothing.
use mathlib.Core.Path.{◌≡◌, sym, ◌∙◌}
use mathlib.Core.List.{List, [], ◌∷◌}
use mathlib.Core.Bool.{◌&&◌}
use Prim.Native.Nat.{ℕ, ◌+◌, ◌≤◌, ◌<◌}
use native.Mathlib.Omega.{arith}
use lib.Dec.{leb}
use lib.ListN.{length, get_or}
use lib.Seq.{slice}
use borrow.Author.Tests.{le-leb, lt-leb}
use Rattle.language.specs.Limits.{most_variables, most_parameters}
use Rattle.language.specs.Check.{good, refused, ◌>>=◌, ◌>>◌, require, check_number, check_counts}
use Rattle.fields.proofs.Headers.{one_byte}
use Rattle.check_declaration.specs.Families.{first_in, second_in, counts_in}

-- the numbers are the first two bytes of the content
module _ (program : List ℕ) (at next : ℕ) (k : next ≤ length program) where
  pub first_byte : (m : ℕ) → at + 3 < next → m ≡ get_or program (at + 3) 0 → slice (at + 3) next program ≡ (m ∷ slice (at + 4) next program)
  first_byte m h e = let x : at + 3 + 1 ≡ at + 4 = omega arith in one_byte (at + 3) next program h k ∙ (λ i. sym e i ∷ slice (x i) next program)

  pub second_byte : (n : ℕ) → at + 4 < next → n ≡ get_or program (at + 4) 0 → slice (at + 4) next program ≡ (n ∷ slice (at + 5) next program)
  second_byte n h e = let x : at + 4 + 1 ≡ at + 5 = omega arith in one_byte (at + 4) next program h k ∙ (λ i. sym e i ∷ slice (x i) next program)

module _ (q : ℕ) (content : List ℕ) where
  pub counts_none : content ≡ [] → refused 4 q ≡ counts_in q content
  unfolding check_counts require ◌>>◌ ◌>>=◌ first_in check_number
  counts_none e = sym (rw e)

  module _ (m : ℕ) (more : List ℕ) (e : content ≡ (m ∷ more)) where
    counts_first : counts_in q content ≡ (require 6 q (leb m most_variables) >> (check_number q (second_in (m ∷ more)) >>= λ p. (require 6 q (leb 1 p && leb p most_parameters) >> good (m, p))))
    unfolding check_counts require ◌>>◌ ◌>>=◌ first_in check_number
    counts_first = rw e

    pub counts_over : most_variables < m → refused 6 q ≡ counts_in q content
    unfolding require ◌>>◌
    counts_over k = sym (counts_first ∙ rw (lt-leb m most_variables k))

    module _ (k : m ≤ most_variables) where
      pub counts_one : more ≡ [] → refused 4 q ≡ counts_in q content
      unfolding require ◌>>◌ ◌>>=◌ second_in check_number
      counts_one z = sym (counts_first ∙ rw (le-leb m most_variables k, z))

      module _ (p : ℕ) (rest : List ℕ) (z : more ≡ (p ∷ rest)) where
        counts_both : counts_in q content ≡ (require 6 q (leb 1 p && leb p most_parameters) >> good (m, p))
        unfolding require ◌>>◌ ◌>>=◌ second_in check_number
        counts_both = counts_first ∙ rw (le-leb m most_variables k, z)

        pub counts_zero : p ≡ 0 → refused 6 q ≡ counts_in q content
        unfolding require ◌>>◌
        counts_zero y = sym (counts_both ∙ rw (lt-leb 1 p (omega arith)))

        pub counts_above : (p ≡ 0 → ⊥) → most_parameters < p → refused 6 q ≡ counts_in q content
        unfolding require ◌>>◌
        counts_above y x = sym (counts_both ∙ rw (le-leb 1 p (omega arith), lt-leb p most_parameters x))

        pub counts_good : (p ≡ 0 → ⊥) → p ≤ most_parameters → good (m, p) ≡ counts_in q content
        unfolding require ◌>>◌
        counts_good y x = sym (counts_both ∙ rw (le-leb 1 p (omega arith), le-leb p most_parameters x))
