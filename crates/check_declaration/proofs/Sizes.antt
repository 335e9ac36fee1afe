-- A parameter's size is a form in the family's variables alone, so that a size in a table keeps it. Assumes nothing.
use mathlib.Core.Path.{◌≡◌, refl, sym, ap, ◌∙◌, subst}
use mathlib.Core.List.{List, [], ◌∷◌}
use mathlib.Core.Bool.{Bool, true, false}
use Prim.Native.Nat.{ℕ, ◌+◌, ◌≤◌}
use native.Mathlib.Omega.{arith}
use lib.Dec.{ltb}
use lib.IntN.{ℤ, pos}
use lib.ListN.{length, drop, replicate, length-drop}
use borrow.Author.Tests.{ltb-true}
use Rattle.language.specs.Tree.{Operation, sum, difference, product, Index, literal, variable, operation, bad_index, PlainType, qbit, qbits, bad_type}
use Rattle.language.specs.Form.{Form, Built, built, out_of_range, constant_form, variable_form, sum_of, difference_of, multiple_of, all_zero}
use Rattle.language.specs.Check.{Checked, good, refused, ◌>>=◌, ◌>>◌, require, no_leftover, in_form, product_at, combined, form_of, must_show, Kind, qubit, quantum, classical, formal, Scope, plain_kind}
use Rattle.language.proofs.FormLaws.{Zeros, also, Within, constant_within, variable_within, within_sum, within_difference, within_multiple}
use Rattle.forms.specs.Flat.{Kept, as_form}
use Rattle.check_declaration.specs.Types.{checked_type}
use Rattle.check_declaration.specs.declared.PlainType as P
use Rattle.check_declaration.specs.declared.PlainType.TheVariants.{Many}
use Rattle.std.specs.Prelude.{Result, Ok}
use Rattle.refusals.specs.declared.Refusal.{Refusal}

module _ (n : ℕ) where
  -- a form in the first n variables, or a refusal
  abbrev Few : Checked Form → Type 0
  Few (good f) = Within n f
  Few (refused a b) = Unit {0}

  then_few : (x : Checked (Unit {0})) (y : Checked Form) → Few y → Few (x >> y)
  unfolding ◌>>◌
  then_few (good u) y h = h
  then_few (refused a b) y h = tt

  bind_few : (x : Checked Form) (g : Form → Checked Form) → Few x → ((f : Form) → Within n f → Few (g f)) → Few (x >>= g)
  unfolding ◌>>=◌
  bind_few (good f) g h k = k f h
  bind_few (refused a b) g h k = tt

  in_few : (p : ℕ) (b : Built) → ((k : Form) → b ≡ built k → Within n k) → Few (in_form p b)
  unfolding in_form
  in_few p (built f) h = h f refl
  in_few p out_of_range h = tt

  product_few : (p : ℕ) (f g : Form) (x y : Bool) → Within n f → Within n g → Few (product_at p f g x y)
  unfolding product_at
  product_few p f g true y a b = in_few p (multiple_of f.constant g) (λ k e. within_multiple f.constant g k e b)
  product_few p f g false true a b = in_few p (multiple_of g.constant f) (λ k e. within_multiple g.constant f k e a)
  product_few p f g false false a b = tt

  combined_few : (p : ℕ) (o : Operation) (f g : Form) → Within n f → Within n g → Few (combined p o f g)
  unfolding combined
  combined_few p sum f g a b = in_few p (sum_of f g) (λ k e. within_sum f g k e a b)
  combined_few p difference f g a b = in_few p (difference_of f g) (λ k e. within_difference f g k e a b)
  combined_few p product f g a b = product_few p f g (all_zero f.coefficients) (all_zero g.coefficients) a b

  variable_few : (p v m : ℕ) (b : Bool) → ltb v m ≡ b → m ≤ n → (x : Checked (Unit {0})) → Few (require 8 p b >> (x >> good (variable_form v)))
  unfolding require ◌>>◌
  variable_few p v m true e h x = then_few x (good (variable_form v)) (variable_within v n (let k = ltb-true v m e in omega arith))
  variable_few p v m false e h x = tt

  form_few : (s : Scope) (i : Index) → s.variables + length s.loops ≤ n → Few (form_of s i)
  unfolding form_of
  form_few s (literal p k) h = constant_within n (pos k)
  form_few s (variable p v e) h = variable_few p v (s.variables + length s.loops) (ltb v (s.variables + length s.loops)) refl h (no_leftover p e)
  form_few s (operation p o l r e) h =
      bind_few (form_of s l) (λ f. form_of s r >>= λ g. (no_leftover p e >> combined p o f g)) (form_few s l h)
      λ f a. bind_few (form_of s r) (λ g. no_leftover p e >> combined p o f g) (form_few s r h)
      λ g b. then_few (no_leftover p e) (combined p o f g) (combined_few p o f g a b)
  form_few s (bad_index a b) h = tt

  -- the kind of a parameter whose size is such a form
  abbrev FewKind : Checked Kind → Type 0
  FewKind (good qubit) = Unit {0}
  FewKind (good (quantum f)) = Within n f
  FewKind (good (classical f)) = Unit {0}
  FewKind (good (formal g)) = Unit {0}
  FewKind (refused a b) = Unit {0}

  then_kind : (x : Checked (Unit {0})) (y : Checked Kind) → FewKind y → FewKind (x >> y)
  unfolding ◌>>◌
  then_kind (good u) y h = h
  then_kind (refused a b) y h = tt

  bind_kind : (x : Checked Form) (g : Form → Checked Kind) → Few x → ((f : Form) → Within n f → FewKind (g f)) → FewKind (x >>= g)
  unfolding ◌>>=◌
  bind_kind (good f) g h k = k f h
  bind_kind (refused a b) g h k = tt

  kind_few : (s : Scope) (x : PlainType) → s.variables + length s.loops ≤ n → FewKind (plain_kind s x)
  unfolding plain_kind
  kind_few s (qbit p e) h = then_kind (no_leftover p e) (good qubit) tt
  kind_few s (qbits p i e) h =
      bind_kind (form_of s i) (λ f. no_leftover p e >> (must_show p s (built f) >> good (quantum f))) (form_few s i h)
      λ f a. then_kind (no_leftover p e) (must_show p s (built f) >> good (quantum f)) (then_kind (must_show p s (built f)) (good (quantum f)) a)
  kind_few s (bad_type a b) h = tt

zeros_all : (l : List ℤ) → Zeros l → l ≡ replicate (length l) (pos 0)
zeros_all [] z = refl
zeros_all (c ∷ cs) (also e z) = λ i. e i ∷ zeros_all cs z i

-- beyond the numbers of such a size, the list of such a form has only zeros
pub narrow : (r : Result P.PlainType Refusal) (n : ℕ) (l : List ℤ) (s : Scope) (x : PlainType) → r ≡ Ok (Many n) → Kept l → checked_type r l ≡ plain_kind s x → s.variables + length s.loops ≤ 4 → drop 5 l ≡ replicate 8 (pos 0)
unfolding checked_type as_form
narrow r n l s x u k e h = by l k (subst (λ (c : Checked Kind). FewKind 4 c) (sym e ∙ ap (λ (y : Result P.PlainType Refusal). checked_type y l) u) (kind_few 4 s x h))
  where
    by : (l : List ℤ) → Kept l → Within 4 (as_form l) → drop 5 l ≡ replicate 8 (pos 0)
    by [] k w = absurd (let z = k.long in omega arith)
    by (c ∷ cs) k w =
        let z = k.long in
        let n : length (drop 4 cs) ≡ 8 = omega (arith, length-drop 4 cs) in
        zeros_all (drop 4 cs) w.beyond ∙ ap (λ (j : ℕ). replicate j (pos 0)) n

-- the list of a number's form has only zeros beyond the number
pub constant_narrow : (l : List ℤ) (z : ℤ) → as_form l ≡ constant_form z → Kept l → drop 5 l ≡ replicate 8 (pos 0)
unfolding as_form
constant_narrow [] z e k = absurd (let n = k.long in omega arith)
constant_narrow (c ∷ cs) z e k = ap (λ (f : Form). drop 4 f.coefficients) e
