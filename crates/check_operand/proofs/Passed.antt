-- Families as operands: where one is cut off, not in scope, followed by bytes left over, or not due. Assumes nothing.
use mathlib.Core.Path.{◌≡◌, refl, sym, ap, ◌∙◌, subst}
use mathlib.Core.List.{List, [], ◌∷◌}
use mathlib.Core.Option.{Option, none, some}
use Prim.Native.Nat.{ℕ, ◌+◌, ◌≤◌, ◌<◌}
use native.Mathlib.Omega.{arith}
use lib.IntN.{ℤ}
use lib.ListN.{length, get_or, get_elem?}
use lib.Seq.{slice}
use Rattle.language.specs.Read.{two_bytes, ending, read_passed}
use Rattle.language.specs.Check.{Checked, refused, ◌>>=◌, ◌>>◌, no_leftover, in_scope, Signature, family_fits, check_operand}
use Rattle.fields.proofs.Headers.{one_byte}
use Rattle.check_operand.specs.Tables.{Known}
use Rattle.check_operand.specs.Operands.{wanted_of, Answerable}
use Rattle.check_operand.specs.declared.Wanted.{Wanted}
use Rattle.check_operand.specs.declared.Wanted.TheVariants.{Wire, Bit, Register, Family}
use Rattle.language.specs.Check as C

-- the two bytes of a number at the start of content
pub two_first : (from to : ℕ) (bytes : List ℕ) → from + 2 ≤ to → to ≤ length bytes → slice from to bytes ≡ (get_or bytes from 0 ∷ get_or bytes (from + 1) 0 ∷ slice (from + 2) to bytes)
two_first from to bytes h k =
    let e : from + 1 + 1 ≡ from + 2 = omega arith in
    one_byte from to bytes (omega arith) k
    ∙ ap (λ (l : List ℕ). get_or bytes from 0 ∷ l) (one_byte (from + 1) to bytes (omega arith) k ∙ ap (λ (i : ℕ). get_or bytes (from + 1) 0 ∷ slice i to bytes) e)

module _ (s : C.Scope) (d : C.Due) (at : ℕ) (content : List ℕ) where
  pub passed_cut : length content < 2 → refused 4 at ≡ check_operand s d (read_passed at content)
  unfolding check_operand read_passed
  passed_cut h = by content h
    where
      by : (l : List ℕ) → length l < 2 → refused 4 at ≡ check_operand s d (read_passed at l)
      by [] h = refl
      by (x ∷ []) h = refl
      by (x ∷ y ∷ l) h = absurd (omega arith)

  module _ (low high : ℕ) (more : List ℕ) (e : content ≡ (low ∷ high ∷ more)) where
    abbrev fitting : Signature → Checked (Unit {0})
    fitting f = no_leftover at (ending more) >> family_fits at d f

    passed_is : check_operand s d (read_passed at content) ≡ (in_scope at (get_elem? s.families (two_bytes low high)) >>= fitting)
    unfolding check_operand read_passed
    passed_is = ap (λ (l : List ℕ). check_operand s d (read_passed at l)) e

    pub passed_beyond : get_elem? s.families (two_bytes low high) ≡ none → refused 8 at ≡ check_operand s d (read_passed at content)
    unfolding in_scope ◌>>=◌
    passed_beyond q = sym (passed_is ∙ ap (λ (o : Option Signature). in_scope at o >>= fitting) q)

    module _ (f : Signature) (q : get_elem? s.families (two_bytes low high) ≡ some f) where
      passed_some : check_operand s d (read_passed at content) ≡ fitting f
      unfolding in_scope ◌>>=◌
      passed_some = passed_is ∙ ap (λ (o : Option Signature). in_scope at o >>= fitting) q

      pub passed_long : (length more ≡ 0 → ⊥) → refused 4 at ≡ check_operand s d (read_passed at content)
      unfolding no_leftover ending ◌>>◌
      passed_long h = sym (passed_some ∙ by more h)
        where
          by : (l : List ℕ) → (length l ≡ 0 → ⊥) → (no_leftover at (ending l) >> family_fits at d f) ≡ refused 4 at
          by [] h = absurd (h refl)
          by (x ∷ l) h = refl

      pub passed_good : more ≡ [] → family_fits at d f ≡ check_operand s d (read_passed at content)
      unfolding no_leftover ending ◌>>◌
      passed_good z = sym (passed_some ∙ ap (λ (l : List ℕ). no_leftover at (ending l) >> family_fits at d f) z)

-- where no family is due, none fits
pub unwanted : (known : Known) (w : Wanted) (m : List ℤ) (at : ℕ) (content : List ℕ) (low high : ℕ) (more : List ℕ) → content ≡ (low ∷ high ∷ more) → Answerable w (read_passed at content) → (f : Signature) → refused 9 at ≡ family_fits at (wanted_of known w m) f
unfolding wanted_of family_fits read_passed
unwanted known Wire m at content low high more e h f = refl
unwanted known Bit m at content low high more e h f = refl
unwanted known (Register b) m at content low high more e h f = refl
unwanted known (Family x) m at content low high more e h f = absurd (subst (λ (l : List ℕ). Answerable (Family x) (read_passed at l)) e h)
