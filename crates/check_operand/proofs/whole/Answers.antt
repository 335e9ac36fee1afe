-- `check_operand::whole` meets its contract. Assumes nothing.
use mathlib.Core.Path.{ap, ◌∙◌}
use mathlib.Core.List.{[]}
use lib.ListN.{get_or}
use Rattle.refusals.proofs.Handed.{handed}
use Rattle.language.specs.Check.{whole_fits, Due, Scope}
use Rattle.forms.specs.Flat.{widened, as_form}
use Rattle.check_index.specs.Answers.{checked_part}
use Rattle.check_operand.specs.Tables.{Known, kind_in, tabulated, kinds_at}
use Rattle.check_operand.specs.Scopes.{scope_at}
use Rattle.check_operand.specs.Operands.{wanted_of}
use Rattle.check_operand.proofs.Rows.{ranges_scope, row_whole_long, row_whole}
use Rattle.check_operand.proofs.whole.Goals as goal

pub returns-in_err-row : goal.returns-in_err-row
returns-in_err-row c =
    let a = c.args in
    let u = rw c.in_err-row.was at c.row_at.ensures in
    rw (handed c.from_residual.result c.from_residual.ensures.1) (record {
      result_value = λ fs. u.whole fs (wanted_of fs a.wanted a.size.now);
      ends_at = tt;
    })

pub returns-then-at-next : goal.returns-then-at-next
unfolding checked_part
returns-then-at-next c =
    let a = c.args in
    let q = rw c.in_ok-row.was at c.row_at.ensures in
    record {
      result_value = λ fs. row_whole_long fs a.scope.now (wanted_of fs a.wanted a.size.now) a.program.now a.at a.next c.in_ok-row.row q c.requires.at_bound.1 c.if-at-next.true;
      ends_at = tt;
    }

pub returns : goal.returns
returns c =
    let a = c.args in
    let s = a.scope.now in
    let q = rw c.in_ok-row.was at c.row_at.ensures in
    let r = c.ranges-2.ensures in
    let d : Known → Due = λ fs. wanted_of fs a.wanted a.size.now in
    record {
      result_value = λ fs. c.whole_fits.ensures.result_value (tabulated fs.declared s.visible.families 0) (kinds_at fs.formals s.visible.count s.visible.first s.kinds.now s.sizes.now) fs (fs.formals c.size_by-own.result)
          ∙ ap (λ (t : Scope). whole_fits a.at t (d fs) (kind_in c.kind_by-kind.result (as_form (widened (get_or s.sizes.now c.size_by-own.result []))) (fs.formals c.size_by-own.result))) (ranges_scope fs s c.ranges-2.result r.variables r.loops r.lows r.highs)
          ∙ (λ i. whole_fits a.at (scope_at fs s) (d fs) (kind_in (c.kind_by-kind.ensures i) (as_form (widened (get_or s.sizes.now (c.size_by-own.ensures i) []))) (fs.formals (c.size_by-own.ensures i))))
          ∙ row_whole fs s (d fs) a.program.now a.at a.next c.in_ok-row.row q c.requires.at_bound.1 c.if-at-next.false;
      ends_at = c.whole_fits.ensures.ends_at;
    }
