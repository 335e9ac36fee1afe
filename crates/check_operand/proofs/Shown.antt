-- What a verdict answers, alone and before what is checked next. Assumes nothing.
use mathlib.Core.Path.{◌≡◌, refl, sym, ap, ◌∙◌}
use mathlib.Core.Bool.{true, false}
use Prim.Native.Nat.{ℕ}
use native.Mathlib.Omega.{arith}
use Rattle.std.specs.Prelude.{Result, Ok, Err, is_err}
use Rattle.language.specs.Form.{Form, Showing, shown, not_shown, beyond_range, is_shown, built}
use Rattle.language.specs.Check.{Checked, ◌>>◌, fine, by_showing, must_show, room_after, check_within}
use Rattle.language.proofs.Integers.{clash}
use Rattle.forms.specs.declared.Unshown.{Unshown}
use Rattle.forms.specs.Flat.{shown_of}
use Rattle.forms.proofs.Verdicts.{is_shown_lem, not_shown_lem}
use Rattle.language.specs.Check as C

module _ (p : ℕ) where
  -- what is not shown stops the check there
  pub stops : {B : Type 0} (x : Showing) → false ≡ is_shown x → (c d : Checked B) → (by_showing p x >> c) ≡ (by_showing p x >> d)
  unfolding is_shown by_showing ◌>>◌
  stops shown e c d = absurd (let z : ◌≡◌ {A = ℕ} 0 1 = cc in omega arith)
  stops not_shown e c d = refl
  stops beyond_range e c d = refl

  -- what is shown lets it go on
  pub goes : {B : Type 0} {x : Showing} → x ≡ shown → (c : Checked B) → c ≡ (by_showing p x >> c)
  unfolding by_showing ◌>>◌
  goes e c = ap (λ (x : Showing). by_showing p x >> c) (sym e)

  pub alone : (x : Showing) → by_showing p x ≡ (by_showing p x >> fine)
  unfolding by_showing ◌>>◌
  alone shown = refl
  alone not_shown = refl
  alone beyond_range = refl

-- the index f within a size, where x is what is shown of f
module _ (p : ℕ) (s : C.Scope) (size f : Form) {x : Showing} (e : x ≡ C.showing_in s (built f)) where
  within_is : (by_showing p x >> must_show p s (room_after size f)) ≡ check_within p s size f
  unfolding check_within must_show
  within_is = ap (λ (y : Showing). by_showing p y >> must_show p s (room_after size f)) e

  pub within_stops : false ≡ is_shown x → by_showing p x ≡ check_within p s size f
  within_stops h = alone p x ∙ stops p x h fine (must_show p s (room_after size f)) ∙ within_is

  pub within_goes : x ≡ shown → {y : Showing} → y ≡ C.showing_in s (room_after size f) → by_showing p y ≡ check_within p s size f
  unfolding must_show
  within_goes h q = ap (by_showing p) q ∙ goes p h (must_show p s (room_after size f)) ∙ within_is

-- by a test by `is_err`
pub err_not_shown : (v : Result (Unit {0}) Unshown) → is_err v ≡ true → false ≡ is_shown (shown_of v)
err_not_shown (Ok u) e = absurd (clash (sym e))
err_not_shown (Err x) e = not_shown_lem (Err x) refl

pub ok_shown : (v : Result (Unit {0}) Unshown) → is_err v ≡ false → shown_of v ≡ shown
ok_shown (Ok u) e = is_shown_lem (Ok u) refl
ok_shown (Err x) e = absurd (clash e)
