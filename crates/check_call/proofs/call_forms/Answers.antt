-- `check_call::call_forms` meets its contract. Assumes nothing.
use mathlib.Core.Path.{◌≡◌, sym, ap, ◌∙◌}
use mathlib.Core.List.{List, map, ◌++◌}
use Prim.Native.Nat.{ℕ, suc, ◌+◌, ◌-◌}
use native.Mathlib.Omega.{arith}
use lib.ListN.{set}
use Rattle.refusals.proofs.Handed.{handed}
use Rattle.language.specs.Tree.{bad_index}
use Rattle.language.specs.Read.{due, read_index, read_argument}
use Rattle.language.specs.Form.{Form, built}
use Rattle.language.specs.Check.{Checked, good, ◌>>=◌, Kind, Signature, must_show, call_forms}
use Rattle.fields.specs.Header.{fields_at}
use Rattle.forms.specs.Flat.{as_form}
use Rattle.forms.specs.Rows.{loops_of, forms_of}
use Rattle.check_operand.specs.Tables.{scope_with}
use Rattle.check_call.specs.Calls.{checked_forms}
use Rattle.check_index.proofs.Answers.{form_passes_upto, beyond_none, beyond_more}
use Rattle.check_operand.proofs.Tables.{scope_forms, rows_set}
use Rattle.check_call.proofs.Forms.{form_none, show_none, show_good, list_stops, more_forms, all_forms, no_forms_lem}
use Rattle.check_call.proofs.call_forms.Goals as goal

pub loop-i-init : goal.loop-i-init
loop-i-init c =
    let a = c.args in
    (omega arith, c.requires.rows, beyond_none a.program.now a.at a.to, (λ fs ks. let z : a.m - 0 ≡ a.m = omega arith in rw z (no_forms_lem _ a.forms.now)))

pub returns-in_err-next : goal.returns-in_err-next
returns-in_err-next c =
    let a = c.args in
    let v = a.scope.now.visible in
    let program = a.program.now in
    let i = c.loop-i in
    let n = a.m - (i.i + 1) in
    let low = a.scope.now.lows.now in
    let high = a.scope.now.highs.now in
    let s = λ (fs : List Signature) (ks : List Kind). scope_with fs ks v.variables (loops_of v.loops low high) in
    let e : a.m - i.i ≡ suc n = (let h = c.loop-i-test.true in omega arith) in
    let x = due (read_index 16) (bad_index 4 a.parent) (fields_at program i.from a.to) in
    let then = λ (c : Checked (List Form)). c >>= λ rest. good (forms_of i.i i.forms ++ rest) in rw (handed c.from_residual.result c.from_residual.ensures.1) (record {
      forms_after = λ fs ks. list_stops c.in_err-next.field-0.0 a.m i.forms (λ rest. good (forms_of i.i i.forms ++ rest))
          ∙ ap then (form_none (s fs ks) a.parent n a.m program i.from a.to c.requires.to_in_bounds c.index.result c.index.new.f (c.index.ensures.f_after ∙ scope_forms fs ks v.variables v.loops low high x) i.forms c.in_err-next.was
          ∙ ap (λ (n : ℕ). call_forms (s fs ks) a.parent n (map read_argument (fields_at program i.from a.to))) (sym e))
          ∙ sym (i.invariant.3 fs ks);
      passes_count = tt;
      rows_2 = i.invariant.1;
    })

pub returns-in_err-must_show : goal.returns-in_err-must_show
returns-in_err-must_show c =
    let a = c.args in
    let v = a.scope.now.visible in
    let program = a.program.now in
    let i = c.loop-i in
    let n = a.m - (i.i + 1) in
    let low = a.scope.now.lows.now in
    let high = a.scope.now.highs.now in
    let s = λ (fs : List Signature) (ks : List Kind). scope_with fs ks v.variables (loops_of v.loops low high) in
    let e : a.m - i.i ≡ suc n = (let h = c.loop-i-test.true in omega arith) in
    let x = due (read_index 16) (bad_index 4 a.parent) (fields_at program i.from a.to) in
    let l = c.index.new.f in
    let next = c.in_ok-next.next in
    let u = form_passes_upto program i.from a.to c.index.result l next c.in_ok-next.was c.index.ensures.form_passes in
    let r = c.ranges-in-loop-i.ensures in
    let new = set i.forms i.i l in
    let then = λ (c : Checked (List Form)). c >>= λ rest. good (forms_of i.i i.forms ++ rest) in rw (handed c.from_residual-in_err-must_show.result c.from_residual-in_err-must_show.ensures.1) (record {
      forms_after = λ fs ks. list_stops c.in_err-must_show.field-0.0 a.m new (λ rest. good (forms_of i.i i.forms ++ rest))
          ∙ ap then (show_none (s fs ks) a.parent n a.m program i.from a.to c.requires.to_in_bounds c.index.result l (c.index.ensures.f_after ∙ scope_forms fs ks v.variables v.loops low high x) next c.in_ok-next.was u.0 c.must_show.result (c.must_show.ensures.result_value fs ks ∙ (λ z. must_show i.from (scope_with fs ks (r.variables z) (loops_of (r.loops z) (r.lows z) (r.highs z))) (built (as_form l)))) new c.in_err-must_show.was
          ∙ ap (λ (n : ℕ). call_forms (s fs ks) a.parent n (map read_argument (fields_at program i.from a.to))) (sym e))
          ∙ sym (i.invariant.3 fs ks);
      passes_count = tt;
      rows_2 = rows_set i.forms 4 i.i l i.invariant.1 u.1;
    })

pub loop-i-preserved : goal.loop-i-preserved
loop-i-preserved c =
    let a = c.args in
    let v = a.scope.now.visible in
    let program = a.program.now in
    let i = c.loop-i in
    let n = a.m - (i.i + 1) in
    let low = a.scope.now.lows.now in
    let high = a.scope.now.highs.now in
    let s = λ (fs : List Signature) (ks : List Kind). scope_with fs ks v.variables (loops_of v.loops low high) in
    let e : a.m - i.i ≡ suc n = (let h = c.loop-i-test.true in omega arith) in
    let x = due (read_index 16) (bad_index 4 a.parent) (fields_at program i.from a.to) in
    let l = c.index.new.f in
    let next = c.in_ok-next.next in
    let u = form_passes_upto program i.from a.to c.index.result l next c.in_ok-next.was c.index.ensures.form_passes in
    let r = c.ranges-in-loop-i.ensures in
    let then = λ (c : Checked (List Form)). c >>= λ rest. good (forms_of i.i i.forms ++ rest) in
    let h = c.loop-i-test.true in
    let y = c.requires.m_le_most_variables in
    let w = i.invariant.1.enough in (
      omega arith,
      rows_set i.forms 4 i.i l i.invariant.1 u.1,
      beyond_more program a.at a.to i.i i.from next i.invariant.2 u.0,
      (λ fs ks. i.invariant.3 fs ks
          ∙ ap (λ (n : ℕ). then (call_forms (s fs ks) a.parent n (map read_argument (fields_at program i.from a.to)))) e
          ∙ ap then (show_good (s fs ks) a.parent n a.m program i.from a.to c.requires.to_in_bounds c.index.result l (c.index.ensures.f_after ∙ scope_forms fs ks v.variables v.loops low high x) next c.in_ok-next.was u.0 c.must_show.result (c.must_show.ensures.result_value fs ks ∙ (λ z. must_show i.from (scope_with fs ks (r.variables z) (loops_of (r.loops z) (r.lows z) (r.highs z))) (built (as_form l)))) c.in_ok-must_show.was)
          ∙ more_forms (call_forms (s fs ks) a.parent n (map read_argument (fields_at program next a.to))) i.i i.forms l (omega arith)),
    )

pub returns : goal.returns
unfolding checked_forms
returns c =
    let a = c.args in
    let v = a.scope.now.visible in
    let program = a.program.now in
    let i = c.loop-i in
    let s = λ (fs : List Signature) (ks : List Kind). scope_with fs ks v.variables (loops_of v.loops a.scope.now.lows.now a.scope.now.highs.now) in
    let h = c.loop-i-test.false in
    let b = i.invariant.0 in
    let z : a.m - i.i ≡ 0 = omega arith in
    let y : i.i ≡ a.m = omega arith in
    let args = map read_argument (fields_at program i.from a.to) in
    record {
      forms_after = λ fs ks. sym (i.invariant.3 fs ks ∙ ap (λ (n : ℕ). call_forms (s fs ks) a.parent n args >>= λ rest. good (forms_of i.i i.forms ++ rest)) z ∙ all_forms (s fs ks) a.parent args (forms_of i.i i.forms) ∙ ap (λ (n : ℕ). good (forms_of n i.forms)) y);
      passes_count = rw y at i.invariant.2;
      rows_2 = i.invariant.1;
    }
