-- `forms::put_in` meets its contract. Assumes nothing.
use mathlib.Core.Path.{◌≡◌, sym, ap, ◌∙◌}
use mathlib.Core.List.{List, []}
use mathlib.Core.Bool.{true}
use Prim.Native.Nat.{ℕ, ◌+◌, ◌<◌, ◌≤◌}
use native.Mathlib.Omega.{arith}
use lib.IntN.{ℤ, pos}
use lib.ListN.{get_or, drop}
use mir.Syntax.{w32, w64}
use mir.Val.{to_z, of_z}
use Rattle.language.specs.Form.{in_range, Form, Built, multiple_of, sum_of, ◌then_build◌, constant_form, put_in, terms_put_in}
use Rattle.forms.specs.Flat.{Short, widened, as_form, built_of}
use Rattle.forms.specs.Rows.{Rows, forms_of}
use Rattle.forms.proofs.Lists.{head_flat, rest_long, term_flat, short_kept, short_at, short_range, widen_read, when_built, when_out, not_built}
use Rattle.forms.proofs.Laws.{put_step, put_end}
use Rattle.forms.proofs.put_in.Goals as goal

-- a turn: k times the form at j is added
module _ (size : List ℤ) (forms : List (List ℤ)) (m j : ℕ) (f : List ℤ) (s : Short size) (r : Rows forms m) (p : m ≤ 4) (h : j < m) {k : ℤ} (e : k ≡ to_z w32 (of_z w32 (get_or size (j + 1) (pos 0)))) where
  k-in : in_range (to_z w64 (of_z w64 k)) ≡ true
  k-in = let q = short_range size (j + 1) (omega arith) s in ap in_range (widen_read e q) ∙ q

  added : {b : Built} → put_in (as_form (widened size)) (forms_of m forms) ≡ terms_put_in (drop j (as_form (widened size)).coefficients) (drop j (forms_of m forms)) (as_form f)
      → b ≡ (multiple_of (to_z w64 (of_z w64 k)) (as_form (get_or forms j [])) then_build sum_of (as_form f))
      → put_in (as_form (widened size)) (forms_of m forms) ≡ (b then_build terms_put_in (drop (j + 1) (as_form (widened size)).coefficients) (drop (j + 1) (forms_of m forms)))
  added i u =
      let w = short_kept size s in
      let t = rest_long (widened size) w in
      let n = r.enough in
      let k-is = widen_read e (short_range size (j + 1) (omega arith) s) ∙ sym (term_flat (widened size) j w ∙ short_at size (j + 1) (omega arith) s) in
      i
      ∙ put_step m j (as_form (widened size)).coefficients forms (as_form f) h n (omega arith)
      ∙ sym (ap (λ (b : Built). b then_build terms_put_in (drop (j + 1) (as_form (widened size)).coefficients) (drop (j + 1) (forms_of m forms)))
      (u ∙ ap (λ (v : ℤ). multiple_of v (as_form (get_or forms j [])) then_build sum_of (as_form f)) k-is))

pub set_constant-requires : goal.set_constant-requires
set_constant-requires c =
    let q = short_range c.args.size.now 0 (omega arith) c.requires.short in
    ap in_range (widen_read c.from-z.ensures q) ∙ q

pub loop-j-init : goal.loop-j-init
unfolding put_in
loop-j-init c =
    let a = c.args in
    let s = c.requires.short in
    let k = short_kept a.size.now s in
    let q = short_range a.size.now 0 (omega arith) s in (
      c.set_constant.ensures.kept,
      ap (λ (z : Form). terms_put_in (as_form (widened a.size.now)).coefficients (forms_of a.m a.forms.now) z)
          (ap constant_form (head_flat (widened a.size.now) k ∙ short_at a.size.now 0 (omega arith) s ∙ sym (widen_read c.from-z.ensures q)) ∙ sym c.set_constant.ensures.f_after),
    )

pub add_scaled-requires-clause-k_value : goal.add_scaled-requires-clause-k_value
add_scaled-requires-clause-k_value c =
    let a = c.args in
    k-in a.size.now a.forms.now a.m c.loop-j.j c.loop-j.f c.requires.short c.requires.rows c.requires.m_le_most_variables c.loop-j-test.true c.from-k.ensures

pub returns-in_err-add_scaled-clause-f_after : goal.returns-in_err-add_scaled-clause-f_after
unfolding ◌then_build◌
returns-in_err-add_scaled-clause-f_after c =
    let a = c.args in
    let b = when_out c.add_scaled.new.f c.in_err-add_scaled.was c.add_scaled.ensures.f_after in
    not_built _ _ c.from_residual.ensures.0
    ∙ sym (added a.size.now a.forms.now a.m c.loop-j.j c.loop-j.f c.requires.short c.requires.rows c.requires.m_le_most_variables c.loop-j-test.true c.from-k.ensures c.loop-j.invariant.1 b)

pub loop-j-preserved : goal.loop-j-preserved
unfolding ◌then_build◌
loop-j-preserved c =
    let a = c.args in
    let b = when_built c.add_scaled.new.f c.in_ok-add_scaled.was c.add_scaled.ensures.f_after in
    (c.in_ok-add_scaled.ensures.kept_3, added a.size.now a.forms.now a.m c.loop-j.j c.loop-j.f c.requires.short c.requires.rows c.requires.m_le_most_variables c.loop-j-test.true c.from-k.ensures c.loop-j.invariant.1 b)

pub returns : goal.returns
unfolding built_of
returns c =
    let a = c.args in
    let i = c.loop-j in
    record {
      f_after = sym (i.invariant.1 ∙ put_end a.m i.j (as_form (widened a.size.now)).coefficients a.forms.now (as_form i.f) c.loop-j-test.false);
      kept = i.invariant.0;
    }
