-- `forms::put_sum` meets its contract: a product and a sum of numbers in range, each tested. Assumes nothing.
use borrow.Author.Rules.{rules}
use mathlib.Core.Path.{◌≡◌, sym, ap, ◌∙◌}
use mathlib.Core.Bool.{Bool, true, ◌&&◌}
use lib.IntN.{ℤ, ◌+ℤ◌, ◌*ℤ◌}
use lib.ListN.{set}
use mir.Syntax.{w64}
use mir.Val.{SFits, to_z, of_z}
use mir.ValLaws.{to_z-of_z}
use Rattle.language.specs.Form.{in_range}
use Rattle.language.proofs.Integers.{ranged-fits, product_fits, sum_fits, range_back}
use Rattle.forms.proofs.put_sum.Goals as goal

module _ (x k y : ℤ) (hx : in_range x ≡ true) (hk : in_range k ≡ true) (hy : in_range y ≡ true) where
  -- the product, as the machine reads it back
  p-is : to_z w64 (of_z w64 (to_z w64 (of_z w64 k) *ℤ to_z w64 (of_z w64 y))) ≡ k *ℤ y
  p-is = ap (λ (z : ℤ). to_z w64 (of_z w64 z)) (λ j. range_back hk j *ℤ range_back hy j) ∙ to_z-of_z w64 _ (product_fits k y hk hy)

  p-in : {r t : Bool} → r ≡ in_range (to_z w64 (of_z w64 (to_z w64 (of_z w64 k) *ℤ to_z w64 (of_z w64 y)))) → r ≡ t → in_range (k *ℤ y) ≡ t
  p-in a e = ap in_range (sym p-is) ∙ sym a ∙ e

  -- the sum, as it is added, and as the machine reads it back
  abbrev added : ℤ
  added = to_z w64 (of_z w64 x) +ℤ to_z w64 (of_z w64 (to_z w64 (of_z w64 k) *ℤ to_z w64 (of_z w64 y)))

  module _ {r : Bool} (a : r ≡ in_range (to_z w64 (of_z w64 (to_z w64 (of_z w64 k) *ℤ to_z w64 (of_z w64 y))))) (e : r ≡ true) where
    z-fits : SFits w64 added
    z-fits = rw (range_back hx, p-is) (sum_fits x (k *ℤ y) hx (p-in a e))

    z-is : to_z w64 (of_z w64 added) ≡ x +ℤ k *ℤ y
    z-is = to_z-of_z w64 _ z-fits ∙ (λ j. range_back hx j +ℤ p-is j)

    z-in : {s t : Bool} → s ≡ in_range (to_z w64 (of_z w64 added)) → s ≡ t → in_range (x +ℤ k *ℤ y) ≡ t
    z-in b d = ap in_range (sym z-is) ∙ sym b ∙ d

pub overflow_mul-p : goal.overflow_mul-p
overflow_mul-p c = search (rules, ranged-fits)

pub returns-then-not-in_range-clause-value : goal.returns-then-not-in_range-clause-value
returns-then-not-in_range-clause-value c =
    sym (λ j. p-in c.args.x c.args.k c.args.y c.requires.x_value c.requires.k_value c.requires.y_value c.in_range.ensures c.if-not-in_range.true j && in_range (c.args.x +ℤ c.args.k *ℤ c.args.y))

pub overflow_add-z : goal.overflow_add-z
overflow_add-z c = z-fits c.args.x c.args.k c.args.y c.requires.x_value c.requires.k_value c.requires.y_value c.in_range.ensures c.if-not-in_range.false

pub returns-then-not-in_range-2-clause-value : goal.returns-then-not-in_range-2-clause-value
returns-then-not-in_range-2-clause-value c =
    let hx = c.requires.x_value in
    let hk = c.requires.k_value in
    let hy = c.requires.y_value in
    sym (λ j. p-in c.args.x c.args.k c.args.y hx hk hy c.in_range.ensures c.if-not-in_range.false j && z-in c.args.x c.args.k c.args.y hx hk hy c.in_range.ensures c.if-not-in_range.false c.in_range-2.ensures c.if-not-in_range-2.true j)

pub returns : goal.returns
returns c =
    let hx = c.requires.x_value in
    let hk = c.requires.k_value in
    let hy = c.requires.y_value in
    record {
      value = sym (λ j. p-in c.args.x c.args.k c.args.y hx hk hy c.in_range.ensures c.if-not-in_range.false j && z-in c.args.x c.args.k c.args.y hx hk hy c.in_range.ensures c.if-not-in_range.false c.in_range-2.ensures c.if-not-in_range-2.false j);
      f_after = ap (λ (z : ℤ). set c.args.f.now c.args.i z) (z-is c.args.x c.args.k c.args.y hx hk hy c.in_range.ensures c.if-not-in_range.false);
    }
