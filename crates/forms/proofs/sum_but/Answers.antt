-- `forms::sum_but` meets its contract: the loop of `add_scaled`, into another form. Assumes nothing.
use mathlib.Core.Path.{◌≡◌, refl, sym, ap, ◌∙◌, subst}
use mathlib.Core.List.{List}
use mathlib.Core.Bool.{Bool, true, ◌&&◌}
use Prim.Native.Nat.{ℕ, ◌+◌}
use lib.IntN.{ℤ, pos, ◌+ℤ◌, ◌*ℤ◌}
use lib.ListN.{get_or, set}
use mir.Syntax.{w64}
use mir.Val.{to_z, of_z}
use Rattle.language.specs.Form.{in_range, sum_of, multiple_of, ◌then_build◌}
use Rattle.forms.specs.Flat.{Kept, as_form, built_of}
use Rattle.language.proofs.Integers.{range_back}
use Rattle.forms.proofs.Lists.{kept_at, set_kept, not_built}
use Rattle.forms.proofs.Laws.{Scaling, scaling_again, scaling_stopped, scaling_ended}
use Rattle.forms.proofs.sum_but.Goals as goal

rest-kept : (f : List ℤ) (at : ℕ) → Kept f → Kept (set f at (pos 0))
unfolding in_range
rest-kept f at h = set_kept f at (pos 0) refl h

-- the definition, for the number k as the machine reads it back

meets : (k : ℤ) (f h : List ℤ) → in_range k ≡ true → (multiple_of (to_z w64 (of_z w64 k)) (as_form h) then_build sum_of (as_form f)) ≡ (multiple_of k (as_form h) then_build sum_of (as_form f))
meets k f h q = ap (λ (v : ℤ). (multiple_of v (as_form h) then_build sum_of (as_form f))) (range_back q)

-- the number that comes in of f, as the machine reads it back

x-told : {r x : ℤ} → r ≡ x → in_range x ≡ true → to_z w64 (of_z w64 r) ≡ x
x-told e h = ap (λ (z : ℤ). to_z w64 (of_z w64 z)) e ∙ range_back h

-- the leaf's answer, of the two lists' entries: x is read where x' stood

number-told : (k x x' y : ℤ) {r : Bool} → x ≡ x' → in_range y ≡ true → r ≡ (in_range (k *ℤ to_z w64 (of_z w64 y)) && in_range (x +ℤ k *ℤ to_z w64 (of_z w64 y))) → r ≡ (in_range (k *ℤ y) && in_range (x' +ℤ k *ℤ y))
number-told k x x' y e h p = p ∙ (λ j. in_range (k *ℤ range_back h j) && in_range (e j +ℤ k *ℤ range_back h j))

pub put_number-requires-clause-x_value : goal.put_number-requires-clause-x_value
put_number-requires-clause-x_value c =
    let rk = rest-kept c.args.f.now c.args.at c.requires.kept in
    let x-in = kept_at (set c.args.f.now c.args.at (pos 0)) c.loop-i.i c.loop-i-test.true rk in
    ap in_range (x-told c.number_but-x.ensures x-in) ∙ x-in

pub put_number-requires-clause-y_value : goal.put_number-requires-clause-y_value
put_number-requires-clause-y_value c =
    let y-in = kept_at c.args.h.now c.loop-i.i c.loop-i-test.true c.requires.kept_2 in
    ap in_range (range_back y-in) ∙ y-in

pub returns-in_err-put_number-clause-g_after : goal.returns-in_err-put_number-clause-g_after
returns-in_err-put_number-clause-g_after c =
    let rk = rest-kept c.args.f.now c.args.at c.requires.kept in
    let x-in = kept_at (set c.args.f.now c.args.at (pos 0)) c.loop-i.i c.loop-i-test.true rk in
    let y-in = kept_at c.args.h.now c.loop-i.i c.loop-i-test.true c.requires.kept_2 in
    let told = number-told (to_z w64 (of_z w64 c.args.k)) _ _ (get_or c.args.h.now c.loop-i.i (pos 0)) (x-told c.number_but-x.ensures x-in) y-in c.in_err-put_number.ensures.value in
    not_built _ _ c.from_residual.ensures.0 ∙ (scaling_stopped c.loop-i.invariant rk c.requires.kept_2 c.requires.g_len c.loop-i-test.true (sym told) ∙ meets c.args.k (set c.args.f.now c.args.at (pos 0)) c.args.h.now c.requires.k_value)

pub loop-i-preserved : goal.loop-i-preserved
loop-i-preserved c =
    let i = c.loop-i.i in
    let k = to_z w64 (of_z w64 c.args.k) in
    let rest = set c.args.f.now c.args.at (pos 0) in
    let rk = rest-kept c.args.f.now c.args.at c.requires.kept in
    let x-in = kept_at rest i c.loop-i-test.true rk in
    let y-in = kept_at c.args.h.now i c.loop-i-test.true c.requires.kept_2 in
    let x-is = x-told c.number_but-x.ensures x-in in
    let told = number-told k _ _ (get_or c.args.h.now i (pos 0)) x-is y-in c.in_ok-put_number.ensures.value in
    let put = c.in_ok-put_number.ensures.g_after ∙ (λ j. set c.loop-i.g i (x-is j +ℤ k *ℤ range_back y-in j)) in
    subst (λ (g : List ℤ). Scaling k rest c.args.h.now c.args.g.now g (i + 1)) (sym put)
    (scaling_again c.loop-i.invariant rk c.requires.kept_2 c.requires.g_len c.loop-i-test.true (sym told))

pub returns : goal.returns
unfolding built_of
returns c =
    let e = scaling_ended c.loop-i.invariant (rest-kept c.args.f.now c.args.at c.requires.kept) c.requires.kept_2 c.requires.g_len c.loop-i-test.false in
    record {
      g_after = e.0 ∙ meets c.args.k (set c.args.f.now c.args.at (pos 0)) c.args.h.now c.requires.k_value;
      kept_3 = e.1;
    }
