-- `showing::rows_kept` meets its contract. The invariant: the rows passed are right. Assumes nothing.
use native.Mathlib.Omega.{arith}
use mathlib.Core.Path.{◌≡◌, sym, ap, ◌∙◌, subst}
use mathlib.Core.List.{[]}
use Prim.Native.Nat.{◌<◌}
use lib.Seq.{length-take-le, get_or-take}
use Rattle.language.specs.Form.{all_in_range}
use Rattle.forms.specs.Rows.{Rows}
use Rattle.showing.proofs.Forms.{too_few, one_out, all_in}
use Rattle.showing.proofs.rows_kept.Goals as goal

pub returns-then-rows-n-clause-value : goal.returns-then-rows-n-clause-value
returns-then-rows-n-clause-value c = sym (too_few _ _ c.if-rows-n.true)

pub returns-then-not-kept-clause-value : goal.returns-then-not-kept-clause-value
returns-then-not-kept-clause-value c =
    let l = c.args.rows.now in
    let n = c.args.n in
    let i = c.loop-row.row-index in
    let h : i < n = omega (arith, length-take-le n l c.if-rows-n.false, c.loop-row-test.true) in
    sym (one_out n i l h (ap all_in_range (sym (get_or-take n l i [] h)) ∙ sym c.kept.ensures.value ∙ c.if-not-kept.true))

pub returns-clause-value : goal.returns-clause-value
returns-clause-value c =
    let l = c.args.rows.now in
    let e : c.loop-row.row-index ≡ c.args.n = omega (arith, length-take-le c.args.n l c.if-rows-n.false) in
    sym (all_in _ _ (subst (Rows l) e c.loop-row.invariant))
