-- `forms::add_scaled` meets its contract. One loop for sum, difference and replacement. Assumes nothing.
use mathlib.Core.Path.{◌≡◌, sym, ap, ◌∙◌, subst}
use mathlib.Core.List.{List}
use mathlib.Core.Bool.{Bool, true, ◌&&◌}
use Prim.Native.Nat.{◌+◌}
use lib.IntN.{ℤ, pos, ◌+ℤ◌, ◌*ℤ◌}
use lib.ListN.{get_or, set}
use mir.Syntax.{w64}
use mir.Val.{to_z, of_z}
use Rattle.language.specs.Form.{in_range, sum_of, multiple_of, ◌then_build◌}
use Rattle.forms.specs.Flat.{as_form, built_of}
use Rattle.language.proofs.Integers.{range_back}
use Rattle.forms.proofs.Lists.{kept_at, stands, not_built}
use Rattle.forms.proofs.Laws.{Scaling, scaling_again, scaling_stopped, scaling_ended}
use Rattle.forms.proofs.add_scaled.Goals as goal

-- the definition, for the number k as the machine reads it back

meets : (k : ℤ) (f g : List ℤ) → in_range k ≡ true → (multiple_of (to_z w64 (of_z w64 k)) (as_form g) then_build sum_of (as_form f)) ≡ (multiple_of k (as_form g) then_build sum_of (as_form f))
meets k f g h = ap (λ (v : ℤ). (multiple_of v (as_form g) then_build sum_of (as_form f))) (range_back h)

-- the leaf's answer, of the two lists' entries: x is read where x' stood

number-told : (k x x' y : ℤ) {r : Bool} → x ≡ x' → in_range y ≡ true → r ≡ (in_range (k *ℤ to_z w64 (of_z w64 y)) && in_range (x +ℤ k *ℤ to_z w64 (of_z w64 y))) → r ≡ (in_range (k *ℤ y) && in_range (x' +ℤ k *ℤ y))
number-told k x x' y e h p = p ∙ (λ j. in_range (k *ℤ range_back h j) && in_range (e j +ℤ k *ℤ range_back h j))

pub add_number-requires-clause-pos_value : goal.add_number-requires-clause-pos_value
add_number-requires-clause-pos_value c =
    let x-in = stands c.loop-i.invariant.sums c.requires.kept c.requires.kept_2 c.loop-i-test.true in
    ap in_range x-in ∙ kept_at c.args.f.now c.loop-i.i c.loop-i-test.true c.requires.kept

pub add_number-requires-clause-y_value : goal.add_number-requires-clause-y_value
add_number-requires-clause-y_value c =
    let y-in = kept_at c.args.g.now c.loop-i.i c.loop-i-test.true c.requires.kept_2 in
    ap in_range (range_back y-in) ∙ y-in

pub returns-in_err-add_number-clause-f_after : goal.returns-in_err-add_number-clause-f_after
returns-in_err-add_number-clause-f_after c =
    let x-in = stands c.loop-i.invariant.sums c.requires.kept c.requires.kept_2 c.loop-i-test.true in
    let y-in = kept_at c.args.g.now c.loop-i.i c.loop-i-test.true c.requires.kept_2 in
    let told = number-told (to_z w64 (of_z w64 c.args.k)) _ _ (get_or c.args.g.now c.loop-i.i (pos 0)) x-in y-in c.in_err-add_number.ensures.value in
    not_built _ _ c.from_residual.ensures.0 ∙ (scaling_stopped c.loop-i.invariant c.requires.kept c.requires.kept_2 c.requires.kept.long c.loop-i-test.true (sym told) ∙ meets c.args.k c.args.f.now c.args.g.now c.requires.k_value)

pub loop-i-preserved : goal.loop-i-preserved
loop-i-preserved c =
    let i = c.loop-i.i in
    let k = to_z w64 (of_z w64 c.args.k) in
    let x-in = stands c.loop-i.invariant.sums c.requires.kept c.requires.kept_2 c.loop-i-test.true in
    let y-in = kept_at c.args.g.now c.loop-i.i c.loop-i-test.true c.requires.kept_2 in
    let told = number-told k _ _ (get_or c.args.g.now i (pos 0)) x-in y-in c.in_ok-add_number.ensures.value in
    let put = c.in_ok-add_number.ensures.f_after ∙ (λ j. set c.loop-i.f i (x-in j +ℤ k *ℤ range_back y-in j)) in
    subst (λ (f : List ℤ). Scaling k c.args.f.now c.args.g.now c.args.f.now f (i + 1)) (sym put)
    (scaling_again c.loop-i.invariant c.requires.kept c.requires.kept_2 c.requires.kept.long c.loop-i-test.true (sym told))

pub returns : goal.returns
unfolding built_of
returns c =
    let e = scaling_ended c.loop-i.invariant c.requires.kept c.requires.kept_2 c.requires.kept.long c.loop-i-test.false in
    record {
      f_after = e.0 ∙ meets c.args.k c.args.f.now c.args.g.now c.requires.k_value;
      kept_3 = e.1;
    }
