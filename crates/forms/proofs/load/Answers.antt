-- `forms::load` meets its contract. Assumes nothing.
use native.Mathlib.Omega.{arith}
use native.Mathlib.Numerals.{add-one}
use mathlib.Core.Path.{◌≡◌, sym, ap, ◌∙◌, subst}
use lib.IntN.{pos}
use lib.ListN.{set, replicate}
use Rattle.forms.specs.Flat.{Kept, widened}
use Rattle.forms.proofs.Lists.{front, front_put, short_at, short_range, short_kept, widen_read, loaded}
use Rattle.forms.proofs.load.Goals as goal

pub loop-i-preserved : goal.loop-i-preserved
loop-i-preserved c =
    let l = c.args.row.now in
    let i = c.loop-i.i in
    let k = short_kept l c.requires in
    let v = widen_read c.from.ensures (short_range l i c.loop-i-test.true c.requires) ∙ sym (short_at l i c.loop-i-test.true c.requires) in
    (λ j. set (c.loop-i.invariant j) i (v j)) ∙ rw add-one (front_put i (widened l) (replicate 13 (pos 0)) (pos 0) (omega (arith, k.long)) (sym k.long))

pub returns-clause-kept : goal.returns-clause-kept
returns-clause-kept c =
    let l = c.args.row.now in
    let e : c.loop-i.i ≡ 5 = omega arith in
    let f : c.loop-i.f ≡ widened l = c.loop-i.invariant ∙ ap (λ i. front i (widened l) (replicate 13 (pos 0))) e ∙ loaded l c.requires in
    subst Kept (sym f) (short_kept l c.requires)
