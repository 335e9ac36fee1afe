-- `forms::multiply` meets its contract. Assumes nothing.
use mathlib.Core.Path.{◌≡◌, sym, ap, ◌∙◌}
use mathlib.Core.Bool.{true}
use mathlib.Core.List.{List}
use native.Mathlib.Omega.{arith}
use lib.IntN.{ℤ, pos}
use lib.ListN.{get_or}
use mir.Syntax.{w64}
use mir.Val.{to_z, of_z}
use Rattle.language.specs.Form.{in_range, multiple_of}
use Rattle.language.proofs.Integers.{range_back}
use Rattle.forms.specs.Flat.{Kept, as_form}
use Rattle.forms.specs.Products.{product_of}
use Rattle.forms.proofs.Lists.{kept_at, head_flat}
use Rattle.forms.proofs.Products.{product_made, product_out, product_left, product_right, product_none}
use Rattle.forms.proofs.multiply.Goals as goal

-- a constant, as the machine reads it back
constant-in : (f : List ℤ) → Kept f → in_range (to_z w64 (of_z w64 (get_or f 0 (pos 0)))) ≡ true
constant-in f k = let q = kept_at f 0 (omega arith) k in rw (range_back q) q

constant-times : (f g : List ℤ) → Kept f → multiple_of (to_z w64 (of_z w64 (get_or f 0 (pos 0)))) (as_form g) ≡ multiple_of (as_form f).constant (as_form g)
constant-times f g k = ap (λ (z : ℤ). multiple_of z (as_form g)) (range_back (kept_at f 0 (omega arith) k) ∙ sym (head_flat f k))

pub set_multiple-requires-clause-k_value : goal.set_multiple-requires-clause-k_value
set_multiple-requires-clause-k_value c = constant-in c.args.f.now c.requires.kept

pub returns-in_err-set_multiple-clause-f_after : goal.returns-in_err-set_multiple-clause-f_after
returns-in_err-set_multiple-clause-f_after c =
    let a = c.args in
    λ p. product_out p _ _ c.from_residual.ensures.1 c.in_err-set_multiple.was (c.set_multiple.ensures.f_after ∙ constant-times a.f.now a.g.now c.requires.kept)
    ∙ product_left p (as_form a.f.now) (as_form a.g.now) (sym c.is_constant.ensures ∙ c.if-is_constant.true)

pub returns-then-is_constant-clause-f_after : goal.returns-then-is_constant-clause-f_after
returns-then-is_constant-clause-f_after c =
    let a = c.args in
    λ p. product_made p _ c.in_ok-set_multiple.was (c.set_multiple.ensures.f_after ∙ constant-times a.f.now a.g.now c.requires.kept)
    ∙ product_left p (as_form a.f.now) (as_form a.g.now) (sym c.is_constant.ensures ∙ c.if-is_constant.true)

pub set_multiple-requires-then-is_constant-2-clause-k_value : goal.set_multiple-requires-then-is_constant-2-clause-k_value
set_multiple-requires-then-is_constant-2-clause-k_value c = constant-in c.args.g.now c.requires.kept_2

pub returns-in_err-set_multiple-2-clause-f_after : goal.returns-in_err-set_multiple-2-clause-f_after
returns-in_err-set_multiple-2-clause-f_after c =
    let a = c.args in
    λ p. product_out p _ _ c.from_residual-in_err-set_multiple-2.ensures.1 c.in_err-set_multiple-2.was (c.set_multiple-then-is_constant-2.ensures.f_after ∙ constant-times a.g.now a.f.now c.requires.kept_2)
    ∙ product_right p (as_form a.f.now) (as_form a.g.now) (sym c.is_constant.ensures ∙ c.if-is_constant.false) (sym c.is_constant-2.ensures ∙ c.if-is_constant-2.true)

pub returns-then-is_constant-2-clause-f_after : goal.returns-then-is_constant-2-clause-f_after
returns-then-is_constant-2-clause-f_after c =
    let a = c.args in
    λ p. product_made p _ c.in_ok-set_multiple-2.was (c.set_multiple-then-is_constant-2.ensures.f_after ∙ constant-times a.g.now a.f.now c.requires.kept_2)
    ∙ product_right p (as_form a.f.now) (as_form a.g.now) (sym c.is_constant.ensures ∙ c.if-is_constant.false) (sym c.is_constant-2.ensures ∙ c.if-is_constant-2.true)

pub returns-clause-f_after : goal.returns-clause-f_after
unfolding product_of
returns-clause-f_after c =
    let a = c.args in
    λ p. product_none p (as_form a.f.now) (as_form a.g.now) (sym c.is_constant.ensures ∙ c.if-is_constant.false) (sym c.is_constant-2.ensures ∙ c.if-is_constant-2.false)
