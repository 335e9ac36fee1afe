-- `check_operand::element` meets its contract. Assumes nothing.
use mathlib.Core.Path.{ap, ◌∙◌}
use mathlib.Core.List.{[]}
use Prim.Native.Nat.{ℕ, ◌+◌}
use lib.ListN.{get_or}
use lib.Seq.{slice}
use Rattle.refusals.proofs.Handed.{handed}
use Rattle.language.specs.Read.{read_element}
use Rattle.language.specs.Check.{element_size, check_within, Scope}
use Rattle.kinds.specs.declared.Kind.{Kind}
use Rattle.forms.specs.Flat.{widened, as_form}
use Rattle.check_index.specs.Answers.{checked_part}
use Rattle.check_operand.specs.Tables.{kind_in, tabulated, size_of_row, kind_at, kinds_at}
use Rattle.check_operand.specs.Scopes.{scope_at}
use Rattle.check_operand.specs.Operands.{wanted_of}
use Rattle.check_operand.proofs.Operands.{kind_stops, kind_goes}
use Rattle.check_operand.proofs.Rows.{ranges_scope, row_element_stops, row_element_long, row_element, row_form}
use Rattle.check_operand.proofs.Wires.{leaves_form}
use Rattle.check_operand.proofs.element.Goals as goal

pub returns-in_err-row : goal.returns-in_err-row
returns-in_err-row c =
    let a = c.args in
    let u = rw c.in_err-row.was at c.row_at.ensures in
    rw (handed c.from_residual.result c.from_residual.ensures.1) (record {
      result_value = λ fs z. u.element fs (wanted_of fs a.wanted z);
      ends_at = tt;
      leaves = λ fs. tt;
    })

pub returns-in_err-end : goal.returns-in_err-end
returns-in_err-end c =
    let a = c.args in
    let q = rw c.in_ok-row.was at c.row_at.ensures in
    let i = c.index in
    rw (handed c.from_residual-in_err-end.result c.from_residual-in_err-end.ensures.1) (record {
      result_value = λ fs z. row_element_stops fs a.scope.now (wanted_of fs a.wanted z) a.program.now a.at a.next c.in_ok-row.row q c.requires.at_bound.1 i.result i.new.f i.ensures.f_after c.in_err-end.was;
      ends_at = tt;
      leaves = λ fs. tt;
    })

pub returns-then-end-next : goal.returns-then-end-next
unfolding checked_part
returns-then-end-next c =
    let a = c.args in
    let q = rw c.in_ok-row.was at c.row_at.ensures in
    let i = c.index in
    record {
      result_value = λ fs z. row_element_long fs a.scope.now (wanted_of fs a.wanted z) a.program.now a.at a.next c.in_ok-row.row q c.requires.at_bound.1 i.result i.new.f i.ensures.f_after c.in_ok-end.end c.in_ok-end.was i.ensures.form_passes c.if-end-next.true;
      ends_at = tt;
      leaves = λ fs. tt;
    }

pub returns-in_err-element_kind : goal.returns-in_err-element_kind
returns-in_err-element_kind c =
    let a = c.args in
    let s = a.scope.now in
    let row = c.in_ok-row.row in
    let q = rw c.in_ok-row.was at c.row_at.ensures in
    let i = c.index in
    let l = i.new.f in
    let own = size_of_row (get_or s.kinds.now row 0) in
    let size = as_form (widened (get_or s.sizes.now own [])) in
    rw (handed c.from_residual-in_err-element_kind.result c.from_residual-in_err-element_kind.ensures.1) (record {
      result_value = λ fs z. kind_stops (element_size a.at (wanted_of fs a.wanted z) (kind_at fs.formals row s.kinds.now s.sizes.now)) (λ m. check_within a.at (scope_at fs s) m (as_form l)) size c.element_kind.result
          (c.element_kind.ensures.f_value size z fs (fs.formals own) ∙ ap (λ (k : Kind). element_size a.at (wanted_of fs a.wanted z) (kind_in k size (fs.formals own))) c.kind_by-kind.ensures) c.in_err-element_kind.was
          ∙ row_element fs s (wanted_of fs a.wanted z) a.program.now a.at a.next row q c.requires.at_bound.1 i.result l i.ensures.f_after c.in_ok-end.end c.in_ok-end.was i.ensures.form_passes c.if-end-next.false;
      ends_at = tt;
      leaves = λ fs. tt;
    })

pub returns : goal.returns
returns c =
    let a = c.args in
    let s = a.scope.now in
    let row = c.in_ok-row.row in
    let q = rw c.in_ok-row.was at c.row_at.ensures in
    let i = c.index in
    let l = i.new.f in
    let own = size_of_row (get_or s.kinds.now row 0) in
    let size = as_form (widened (get_or s.sizes.now own [])) in
    let r = c.ranges-2.ensures in
    record {
      result_value = λ fs z. c.answered.ensures.result_value
          ∙ c.within-v.ensures a.at (tabulated fs.declared s.visible.families 0) (kinds_at fs.formals s.visible.count s.visible.first s.kinds.now s.sizes.now)
          ∙ ap (λ (t : Scope). check_within a.at t (as_form (widened (get_or s.sizes.now c.size_by-own.result []))) (as_form l)) (ranges_scope fs s c.ranges-2.result r.variables r.loops r.lows r.highs)
          ∙ ap (λ (j : ℕ). check_within a.at (scope_at fs s) (as_form (widened (get_or s.sizes.now j []))) (as_form l)) c.size_by-own.ensures
          ∙ kind_goes (element_size a.at (wanted_of fs a.wanted z) (kind_at fs.formals row s.kinds.now s.sizes.now)) (λ m. check_within a.at (scope_at fs s) m (as_form l)) size c.element_kind.result
          (c.element_kind.ensures.f_value size z fs (fs.formals own) ∙ ap (λ (k : Kind). element_size a.at (wanted_of fs a.wanted z) (kind_in k size (fs.formals own))) c.kind_by-kind.ensures) c.in_ok-element_kind.was
          ∙ row_element fs s (wanted_of fs a.wanted z) a.program.now a.at a.next row q c.requires.at_bound.1 i.result l i.ensures.f_after c.in_ok-end.end c.in_ok-end.was i.ensures.form_passes c.if-end-next.false;
      ends_at = c.answered.ensures.ends_at;
      leaves = λ fs. leaves_form (scope_at fs s) (read_element a.at (slice (a.at + 3) a.next a.program.now)) c.answered.result l
          (row_form fs s (wanted_of fs a.wanted []) a.program.now a.at a.next row q c.requires.at_bound.1 i.result l i.ensures.f_after c.in_ok-end.end c.in_ok-end.was i.ensures.form_passes);
    }
