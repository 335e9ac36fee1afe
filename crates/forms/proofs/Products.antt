-- The product of two forms, by which side is constant. Assumes nothing.
use mathlib.Core.Path.{◌≡◌, sym, ap}
use mathlib.Core.List.{List}
use mathlib.Core.Bool.{Bool, true, false}
use lib.IntN.{ℤ}
use Rattle.std.specs.Prelude.{Result, Ok, Err, IsErrAnd}
use Rattle.std.proofs.lemmas.Result.{err_from_is_err_and}
use Rattle.language.specs.Tree.{Place, product}
use Rattle.language.specs.Form.{Form, Built, all_zero, multiple_of}
use Rattle.language.specs.Check.{in_form, product_at, combined, refused}
use Rattle.forms.specs.declared.OutOfRange as F
use Rattle.forms.specs.declared.NoProduct.{NoProduct}
use Rattle.forms.specs.declared.NoProduct.TheVariants.{OutOfRange}
use Rattle.forms.specs.Flat.{built_of}
use Rattle.forms.specs.Products.{product_of}
use Rattle.forms.proofs.Lists.{when_built, when_out}

-- the answer for a form that was built, and for one that was not
pub product_made : (p : Place) {r : Result (Unit {0}) F.OutOfRange} {u : Unit {0}} (l : List ℤ) {b : Built} → r ≡ Ok u → built_of r l ≡ b → product_of p (Ok u) l ≡ in_form p b
unfolding product_of in_form
product_made p l e h = ap (in_form p) (when_built l e h)

pub product_out : (p : Place) {r : Result (Unit {0}) F.OutOfRange} {x : F.OutOfRange} (s : Result (Unit {0}) NoProduct) (l : List ℤ) {b : Built} → IsErrAnd s (λ e. e ≡ OutOfRange) → r ≡ Err x → built_of r l ≡ b → product_of p s l ≡ in_form p b
unfolding product_of in_form
product_out p s l h e k =
    let d = err_from_is_err_and s h in
    rw (d.1, d.2) (ap (in_form p) (when_out l e k))

module _ (p : Place) (f g : Form) where
  pub product_left : all_zero f.coefficients ≡ true → in_form p (multiple_of f.constant g) ≡ combined p product f g
  unfolding combined product_at
  product_left e = sym (ap (λ (t : Bool). product_at p f g t (all_zero g.coefficients)) e)

  pub product_right : all_zero f.coefficients ≡ false → all_zero g.coefficients ≡ true → in_form p (multiple_of g.constant f) ≡ combined p product f g
  unfolding combined product_at
  product_right e d = sym (λ j. product_at p f g (e j) (d j))

  pub product_none : all_zero f.coefficients ≡ false → all_zero g.coefficients ≡ false → refused 10 p ≡ combined p product f g
  unfolding combined product_at
  product_none e d = sym (λ j. product_at p f g (e j) (d j))
