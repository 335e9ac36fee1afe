-- `check_operand::part` meets its contract. Assumes nothing.
use mathlib.Core.Path.{ap, ◌∙◌}
use mathlib.Core.List.{[]}
use lib.ListN.{get_or}
use Rattle.refusals.proofs.Handed.{handed}
use Rattle.language.specs.Check.{slice_fits, Due, Scope}
use Rattle.forms.specs.Flat.{widened, as_form}
use Rattle.check_index.specs.Answers.{checked_part}
use Rattle.check_operand.specs.Tables.{Known, kind_in, tabulated, kinds_at}
use Rattle.check_operand.specs.Scopes.{scope_at}
use Rattle.check_operand.specs.Operands.{wanted_of}
use Rattle.check_operand.proofs.Rows.{ranges_scope, row_slice_stops, row_slice_long, row_slice}
use Rattle.check_operand.proofs.part.Goals as goal

pub returns-in_err-row : goal.returns-in_err-row
returns-in_err-row c =
    let a = c.args in
    let u = rw c.in_err-row.was at c.row_at.ensures in
    rw (handed c.from_residual.result c.from_residual.ensures.1) (record {
      result_value = λ fs. u.part fs (wanted_of fs a.wanted a.size.now);
      ends_at = tt;
    })

pub returns-in_err-end : goal.returns-in_err-end
returns-in_err-end c =
    let a = c.args in
    let q = rw c.in_ok-row.was at c.row_at.ensures in
    let i = c.two_indexes in
    rw (handed c.from_residual-in_err-end.result c.from_residual-in_err-end.ensures.1) (record {
      result_value = λ fs. row_slice_stops fs a.scope.now (wanted_of fs a.wanted a.size.now) a.program.now a.at a.next c.in_ok-row.row q c.requires.at_bound.1 i.result i.new.low i.new.high i.ensures.high_after c.in_err-end.was;
      ends_at = tt;
    })

pub returns-then-end-next : goal.returns-then-end-next
unfolding checked_part
returns-then-end-next c =
    let a = c.args in
    let q = rw c.in_ok-row.was at c.row_at.ensures in
    let i = c.two_indexes in
    record {
      result_value = λ fs. row_slice_long fs a.scope.now (wanted_of fs a.wanted a.size.now) a.program.now a.at a.next c.in_ok-row.row q c.requires.at_bound.1 i.result i.new.low i.new.high i.ensures.high_after c.in_ok-end.end c.in_ok-end.was i.ensures.bounds_pass c.if-end-next.true;
      ends_at = tt;
    }

pub returns : goal.returns
returns c =
    let a = c.args in
    let s = a.scope.now in
    let q = rw c.in_ok-row.was at c.row_at.ensures in
    let i = c.two_indexes in
    let l = as_form i.new.low in
    let h = as_form i.new.high in
    let r = c.ranges-2.ensures in
    let d : Known → Due = λ fs. wanted_of fs a.wanted a.size.now in
    record {
      result_value = λ fs. c.slice_fits.ensures.result_value (tabulated fs.declared s.visible.families 0) (kinds_at fs.formals s.visible.count s.visible.first s.kinds.now s.sizes.now) fs (fs.formals c.size_by-own.result)
          ∙ ap (λ (t : Scope). slice_fits a.at t (d fs) (kind_in c.kind_by-kind.result (as_form (widened (get_or s.sizes.now c.size_by-own.result []))) (fs.formals c.size_by-own.result)) l h) (ranges_scope fs s c.ranges-2.result r.variables r.loops r.lows r.highs)
          ∙ (λ i. slice_fits a.at (scope_at fs s) (d fs) (kind_in (c.kind_by-kind.ensures i) (as_form (widened (get_or s.sizes.now (c.size_by-own.ensures i) []))) (fs.formals (c.size_by-own.ensures i))) l h)
          ∙ row_slice fs s (d fs) a.program.now a.at a.next c.in_ok-row.row q c.requires.at_bound.1 i.result i.new.low i.new.high i.ensures.high_after c.in_ok-end.end c.in_ok-end.was i.ensures.bounds_pass c.if-end-next.false;
      ends_at = c.slice_fits.ensures.ends_at;
    }
