-- The size of a register. Assumes nothing.
use mathlib.Core.Path.{◌≡◌, refl, sym, ap, ◌∙◌}
use mathlib.Core.List.{List, [], ◌∷◌}
use mathlib.Core.Bool.{Bool, true, false}
use Prim.Native.Nat.{ℕ, ◌+◌, ◌≤◌, ◌<◌}
use native.Mathlib.Omega.{arith}
use lib.Dec.{leb, ltb}
use lib.ListN.{length, get_or}
use lib.Seq.{slice}
use Rattle.fields.proofs.Headers.{one_byte}
use borrow.Author.Tests.{le-leb, lt-leb, le-ltb, lt-ltb, leb-true, ltb-true}
use native.Mathlib.Decide.{dec_lt}
use Rattle.language.specs.Limits.{most_registers}
use Rattle.language.specs.Read.{ending, two_bytes, register_size, register_end}
use Rattle.language.specs.Check.{Checked, good, refused, ◌>>=◌, ◌>>◌, require, no_leftover, check_number, check_register}
use Rattle.check_declaration.specs.Registers.{register_in, checked_register}
use Rattle.std.specs.Prelude.{Result, Ok}
use Rattle.refusals.specs.declared.Refusal.{Refusal}
use Rattle.language.specs.Check as C

-- the content of a register, from its size on
pub size_bytes : (program : List ℕ) (from next : ℕ) → from + 2 ≤ next → next ≤ length program → slice from next program ≡ (get_or program from 0 ∷ get_or program (from + 1) 0 ∷ slice (from + 1 + 1) next program)
size_bytes program from next h k = one_byte from next program (omega arith) k ∙ ap (λ (l : List ℕ). get_or program from 0 ∷ l) (one_byte (from + 1) next program (omega arith) k)

module _ (p count total most : ℕ) (content : List ℕ) where
  pub size_many_registers : most_registers ≤ count → refused 6 p ≡ register_in p count total most content
  unfolding check_register require ◌>>◌
  size_many_registers h = sym (rw (le-ltb count most_registers h))

  module _ (h : count < most_registers) where
    pub size_short : length content < 2 → refused 4 p ≡ register_in p count total most content
    unfolding check_register require ◌>>◌ ◌>>=◌ register_size C.check_number
    size_short k = sym (rw (lt-ltb count most_registers h) (by content k))
      where
        by : (l : List ℕ) → length l < 2 → (C.check_number p (register_size l) >>= λ n. (require 7 p (leb (total + n) most) >> (no_leftover p (register_end content) >> good n))) ≡ refused 4 p
        by [] k = refl
        by (a ∷ []) k = refl
        by (a ∷ b ∷ l) k = absurd (omega arith)

    module _ (a b : ℕ) (more : List ℕ) (e : content ≡ (a ∷ b ∷ more)) where
      size_is_number : register_in p count total most content ≡ (require 7 p (leb (total + two_bytes a b) most) >> (no_leftover p (ending more) >> good (two_bytes a b)))
      unfolding check_register require ◌>>◌ ◌>>=◌ register_size register_end C.check_number
      size_is_number = rw (lt-ltb count most_registers h, e)

      pub size_past : most < total + two_bytes a b → refused 7 p ≡ register_in p count total most content
      unfolding require ◌>>◌
      size_past k = sym (size_is_number ∙ rw (lt-leb (total + two_bytes a b) most k))

      pub size_left : total + two_bytes a b ≤ most → (length more ≡ 0 → ⊥) → refused 4 p ≡ register_in p count total most content
      unfolding require ◌>>◌ no_leftover ending
      size_left k z = sym (size_is_number ∙ rw (le-leb (total + two_bytes a b) most k) (by more z))
        where
          by : (l : List ℕ) → (length l ≡ 0 → ⊥) → (no_leftover p (ending l) >> good (two_bytes a b)) ≡ refused 4 p
          by [] z = absurd (z refl)
          by (x ∷ l) z = refl

      pub size_good : total + two_bytes a b ≤ most → more ≡ [] → good (two_bytes a b) ≡ register_in p count total most content
      unfolding require ◌>>◌ no_leftover ending
      size_good k z = sym (size_is_number ∙ rw (le-leb (total + two_bytes a b) most k, z))

pub record Sized (count total most n : ℕ) : Type 0 where
  pub room : count < most_registers
  pub fits : total + n ≤ most

never : {A : Type 0} {B : Type 0} {a : A} {n p : ℕ} → good a ≡ refused n p → B
never e = absurd (let z : ◌≡◌ {A = ℕ} 0 1 = cc in omega arith)

module _ (p count total most n : ℕ) where
  fit : (x : ℕ) (b : Bool) → leb (total + x) most ≡ b → count < most_registers → (c : Checked (Unit {0})) → good n ≡ (require 7 p b >> (c >> good x)) → Sized count total most n
  unfolding require ◌>>◌
  fit x true q h (good u) e = let z : n ≡ x = cc in let y = leb-true (total + x) most q in record { room = h; fits = omega arith }
  fit x true q h (refused a b) e = never e
  fit x false q h c e = never e

  numbers : (x : Checked ℕ) → count < most_registers → (c : Checked (Unit {0})) → good n ≡ (x >>= λ m. (require 7 p (leb (total + m) most) >> (c >> good m))) → Sized count total most n
  unfolding ◌>>=◌
  numbers (good x) h c e = fit x (leb (total + x) most) refl h c e
  numbers (refused a b) h c e = never e

  many : (b : Bool) → ltb count most_registers ≡ b → (x : Checked ℕ) (c : Checked (Unit {0})) → good n ≡ (require 6 p b >> (x >>= λ m. (require 7 p (leb (total + m) most) >> (c >> good m)))) → Sized count total most n
  unfolding require ◌>>◌
  many true q x c e = numbers x (ltb-true count most_registers q) c e
  many false q x c e = never e

pub size_fits_lem : (r : Result ℕ Refusal) (n p count total most : ℕ) (content : List ℕ) → r ≡ Ok n → checked_register r ≡ register_in p count total most content → Sized count total most n
unfolding checked_register check_register
size_fits_lem r n p count total most content u e = many p count total most n (ltb count most_registers) refl (check_number p (register_size content)) (C.no_leftover p (register_end content)) (sym (ap checked_register u) ∙ e)

-- a register's size takes two bytes
pub size_two : (r : Result ℕ Refusal) (n p count total most : ℕ) (content : List ℕ) → r ≡ Ok n → checked_register r ≡ register_in p count total most content → 2 ≤ length content
unfolding checked_register
size_two r n p count total most content u e = go (dec_lt (length content) 2)
  where
    go : Dec (length content < 2) → 2 ≤ length content
    go (yes k) = never (sym (ap checked_register u) ∙ e ∙ sym (size_short p count total most content (size_fits_lem r n p count total most content u e).room k))
    go (no k) = omega arith
