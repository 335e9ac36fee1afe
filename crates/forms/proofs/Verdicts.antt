-- Verdicts, by whether a form is shown. Assumes nothing.
use mathlib.Core.Path.{◌≡◌, refl, sym, ap, ◌∙◌}
use mathlib.Core.Bool.{Bool, true, false, not}
use Prim.Native.Nat.{ℕ}
use native.Mathlib.Omega.{arith}
use Rattle.std.specs.Prelude.{Result, Ok, Err, is_ok}
use Rattle.language.specs.Form.{Showing, shown, not_shown, beyond_range, is_shown, or_tried}
use Rattle.std.specs.Result.{result_eq}
use Rattle.language.proofs.Integers.{clash}
use Rattle.form_laws.specs.Trials.{if_not_shown}
use Rattle.forms.specs.declared.Unshown.{Unshown}
use Rattle.forms.specs.declared.Unshown.TheVariants.{NotShown, OutOfRange}
use Rattle.forms.specs.Flat.{showing_by, shown_of}

-- whether the answer is `Ok` is whether the form is shown
pub shown_by_ok : (v : Result (Unit {0}) Unshown) → is_ok v ≡ is_shown (shown_of v)
unfolding is_shown shown_of
shown_by_ok (Ok u) = refl
shown_by_ok (Err NotShown) = refl
shown_by_ok (Err OutOfRange) = refl

pub not_shown_lem : (v : Result (Unit {0}) Unshown) {e : Unshown} → v ≡ Err e → false ≡ is_shown (shown_of v)
not_shown_lem v e = ap is_ok (sym e) ∙ shown_by_ok v

pub is_shown_lem : (v : Result (Unit {0}) Unshown) {u : Unit {0}} → v ≡ Ok u → shown_of v ≡ shown
unfolding shown_of
is_shown_lem v e = ap shown_of e

-- what `!=` tells of a verdict, where E and F are the `==` of what it may hold
module _ (E : Unit {0} → Unit {0} → Bool) (F : Unshown → Unshown → Bool) where
  pub is_other : F NotShown NotShown ≡ true → (v : Result (Unit {0}) Unshown) {b : Bool} → b ≡ not (result_eq E F v (Err NotShown)) → b ≡ true → v ≡ Err NotShown → ⊥
  is_other q v h t e = clash (sym t ∙ h ∙ ap (λ (r : Result (Unit {0}) Unshown). not (result_eq E F r (Err NotShown))) e ∙ ap not q)

  pub is_that : F OutOfRange NotShown ≡ false → (v : Result (Unit {0}) Unshown) {b : Bool} → b ≡ not (result_eq E F v (Err NotShown)) → b ≡ false → v ≡ Err NotShown
  is_that q (Ok u) h t = absurd (clash (sym h ∙ t))
  is_that q (Err NotShown) h t = refl
  is_that q (Err OutOfRange) h t = absurd (clash (sym (h ∙ ap not q) ∙ t))

pub shown_not : beyond_range ≡ shown → ⊥
unfolding is_shown
shown_not e = let z : ◌≡◌ {A = ℕ} 0 1 = cc in omega arith

-- what the plain rule does not show is tried
pub is_tried : {plain : Showing} → plain ≡ not_shown → (t : Bool) (made : ℕ) → (showing_by t ≡ or_tried plain t) × (made ≡ if_not_shown plain made)
unfolding or_tried if_not_shown
is_tried e t made = (ap (λ (x : Showing). or_tried x t) (sym e), ap (λ (x : Showing). if_not_shown x made) (sym e))

-- what it shows, or finds out of range, is not
pub not_tried : (v : Result (Unit {0}) Unshown) → (v ≡ Err NotShown → ⊥) → {plain : Showing} → shown_of v ≡ plain → (t : Bool) (made : ℕ) → (shown_of v ≡ or_tried plain t) × (0 ≡ if_not_shown plain made)
unfolding or_tried if_not_shown shown_of
not_tried (Ok u) h e t made = (ap (λ (x : Showing). or_tried x t) e, ap (λ (x : Showing). if_not_shown x made) e)
not_tried (Err NotShown) h e t made = absurd (h refl)
not_tried (Err OutOfRange) h e t made = (ap (λ (x : Showing). or_tried x t) e, ap (λ (x : Showing). if_not_shown x made) e)
