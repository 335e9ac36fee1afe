-- `forms::show_plainly` meets its contract: the first variable is replaced into another form, and the scan goes on with that. Assumes nothing.
use borrow.Author.Rules.{rules}
use native.Mathlib.Omega.{arith}
use mathlib.Core.Path.{◌≡◌, sym, ap, ◌∙◌}
use Prim.Native.Nat.{ℕ, ◌+◌, ◌-◌, ◌<◌}
use Rattle.language.specs.Form.{showing_of}
use Rattle.forms.specs.Flat.{as_form, shown_of}
use Rattle.forms.specs.Rows.{loops_of}
use Rattle.forms.proofs.Lists.{built_when, out_when}
use Rattle.forms.proofs.Laws.{gone_few, told, told_after, none_after, scan_on, scan_out, scan_end}
use Rattle.forms.proofs.show_plainly.Goals as goal

pub returns-then-next-eq0 : goal.returns-then-next-eq0
returns-then-next-eq0 c =
    let r = c.args.ranges.now in
    let l = r.lows.now in
    let u = r.highs.now in
    let f = as_form c.args.f.now in
    let n = r.loops in
    let e = scan_end r.variables n n l u f f (omega arith) (none_after n _) (c.left-next.ensures.f_value l u ∙ ap (λ (k : ℕ). loops_of k l u) c.if-next-eq0.true) in
    let t = told _ _ _ _ e in
    let z : 0 ≡ n - n = omega arith in
    record {
      verdict_value = c.verdict_of.ensures ∙ c.none_negative.ensures ∙ t.0;
      through_value = z ∙ t.1;
    }

pub returns-then-is_err : goal.returns-then-is_err
unfolding shown_of showing_of
returns-then-is_err c =
    let r = c.args.ranges.now in
    let l = r.lows.now in
    let u = r.highs.now in
    let f = as_form c.args.f.now in
    let n = r.loops in
    let out = out_when _ c.replace_into.new.g (sym c.is_err.ensures.value ∙ c.if-is_err.true) c.replace_into.ensures.g_after in
    let both = told _ _ _ _ (scan_out r.variables n n l u f f (omega arith) (none_after n _) c.left-next.result (omega (arith, c.if-next-eq0.false)) c.left-next.ensures.upper_bound (c.left-next.ensures.f_value l u) out) in
    record {
      verdict_value = both.0;
      through_value = both.1;
    }

pub overflow_add-result : goal.overflow_add-result
overflow_add-result c =
    let r = c.args.ranges.now in
    let few = r.few in
    let g = gone_few r.variables (c.left-next.result - 1) r.lows.now r.highs.now _ c.scan-s.ensures.through_value in
    let h : r.loops - (c.left-next.result - 1) + c.scan-s.result.through < 100 = omega (arith, c.left-next.ensures.upper_bound, few) in
    search rules

pub returns : goal.returns
returns c =
    let r = c.args.ranges.now in
    let l = r.lows.now in
    let u = r.highs.now in
    let f = as_form c.args.f.now in
    let n = r.loops in
    let g = c.replace_into.new.g in
    let made = built_when _ g (sym c.is_err.ensures.value ∙ c.if-is_err.false) c.replace_into.ensures.g_after in
    let e = scan_on r.variables n n l u f f (omega arith) (none_after n _) c.left-next.result (as_form g) (omega (arith, c.if-next-eq0.false)) c.left-next.ensures.upper_bound (c.left-next.ensures.f_value l u) made in
    let t = told_after r.variables (loops_of n l u) (loops_of (c.left-next.result - 1) l u) f (as_form g) (n - (c.left-next.result - 1)) e in
    record {
      verdict_value = c.scan-s.ensures.verdict_value ∙ t.0;
      through_value = ap (λ (i : ℕ). n - (c.left-next.result - 1) + i) c.scan-s.ensures.through_value ∙ t.1;
    }
