-- `forms::scan` meets its contract. The invariant: the scan of the form that came in is the scan of the form as it is, over the loops below the last variable that was replaced.
-- Assumes nothing.
use native.Mathlib.Omega.{arith}
use mathlib.Core.Path.{sym, ap, ◌∙◌}
use Prim.Native.Nat.{ℕ, ◌<◌}
use Rattle.language.specs.Form.{showing_of}
use Rattle.forms.specs.Flat.{as_form, shown_of}
use Rattle.forms.specs.Rows.{loops_of}
use Rattle.forms.proofs.Lists.{built_when, out_when, kept_when}
use Rattle.forms.proofs.Laws.{told, none_after, scan_on, scan_out, scan_end}
use Rattle.forms.proofs.scan.Goals as goal

pub loop-f-init : goal.loop-f-init
loop-f-init c =
    (omega arith, c.requires.kept, none_after c.args.loops _)

pub returns-then-next-eq0 : goal.returns-then-next-eq0
returns-then-next-eq0 c =
    let r = c.args.ranges.now in
    let l = r.lows.now in
    let u = r.highs.now in
    let t = told _ _ _ _ (scan_end r.variables c.args.loops c.loop-f.n l u (as_form c.args.f.now) (as_form c.loop-f.f) c.loop-f.invariant.0 c.loop-f.invariant.2 (c.left-next.ensures.f_value l u ∙ ap (λ (k : ℕ). loops_of k l u) c.if-next-eq0.true)) in
    record {
      verdict_value = c.verdict_of.ensures ∙ c.none_negative.ensures ∙ t.0;
      through_value = t.1;
    }

pub returns-then-is_err : goal.returns-then-is_err
unfolding shown_of showing_of
returns-then-is_err c =
    let r = c.args.ranges.now in
    let l = r.lows.now in
    let u = r.highs.now in
    let some : 0 < c.left-next.result = omega (arith, c.if-next-eq0.false) in
    let out = scan_out r.variables c.args.loops c.loop-f.n l u (as_form c.args.f.now) (as_form c.loop-f.f) c.loop-f.invariant.0 c.loop-f.invariant.2 c.left-next.result some c.left-next.ensures.upper_bound (c.left-next.ensures.f_value l u)
    (out_when _ c.substitute.new.f (sym c.is_err.ensures.value ∙ c.if-is_err.true) c.substitute.ensures.f_after) in
    let both = told _ _ _ _ out in
    record {
      verdict_value = both.0;
      through_value = both.1;
    }

pub loop-f-preserved : goal.loop-f-preserved
loop-f-preserved c =
    let r = c.args.ranges.now in
    let l = r.lows.now in
    let u = r.highs.now in
    let some : 0 < c.left-next.result = omega (arith, c.if-next-eq0.false) in
    let e = sym c.is_err.ensures.value ∙ c.if-is_err.false in
    let on = scan_on r.variables c.args.loops c.loop-f.n l u (as_form c.args.f.now) (as_form c.loop-f.f) c.loop-f.invariant.0 c.loop-f.invariant.2 c.left-next.result (as_form c.substitute.new.f) some c.left-next.ensures.upper_bound (c.left-next.ensures.f_value l u)
    (built_when _ c.substitute.new.f e c.substitute.ensures.f_after) in
    (omega (arith, c.loop-f.invariant.0, c.left-next.ensures.upper_bound), kept_when _ e c.substitute.ensures.kept_2, on)
