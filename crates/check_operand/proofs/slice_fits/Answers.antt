-- `check_operand::slice_fits` meets its contract. Assumes nothing.
use mathlib.Core.Path.{sym, ap, ◌∙◌}
use mathlib.Core.List.{List}
use Rattle.language.specs.Check.{Kind, Signature, Scope, by_showing, must_show, slice_fits}
use Rattle.forms.specs.Flat.{widened, as_form, shown_of}
use Rattle.forms.specs.Ranges.{all_loops}
use Rattle.check_index.specs.Answers.{checked_part}
use Rattle.check_operand.specs.Tables.{kind_in, scope_with}
use Rattle.check_operand.specs.Operands.{wanted_of, shown_form}
use Rattle.check_operand.specs.declared.Wanted.{Wanted}
use Rattle.check_operand.proofs.OperandKinds.{register_good}
use Rattle.check_operand.proofs.Shown.{err_not_shown, ok_shown}
use Rattle.check_operand.proofs.Slices.{slice_unwanted, slice_no_register, lies_stops, lies_goes}
use Rattle.check_operand.proofs.slice_fits.Goals as goal

pub returns-in_default-clause-result_value : goal.returns-in_default-clause-result_value
unfolding checked_part
returns-in_default-clause-result_value c =
    let a = c.args in
    let s : List Signature → List Kind → Scope = λ fs ks. scope_with fs ks a.ranges.now.variables (all_loops a.ranges.now) in
    let m = a.size.now in
    let size = as_form (widened a.own.now) in
    let first = as_form a.first.now in
    let last = as_form a.last.now in
    λ fs ks k g. slice_no_register a.at (s fs ks) m size first last k g _ a.kind c.in_default.not-Quantum-1
    ∙ ap (λ (w : Wanted). slice_fits a.at (s fs ks) (wanted_of k w m) (kind_in a.kind size g) first last) (sym c.in_default.is-0)

pub returns-in_default-2-clause-result_value : goal.returns-in_default-2-clause-result_value
unfolding checked_part
returns-in_default-2-clause-result_value c =
    let a = c.args in
    let size = as_form (widened a.own.now) in
    λ fs ks k g. slice_unwanted a.at (scope_with fs ks a.ranges.now.variables (all_loops a.ranges.now)) a.size.now size (as_form a.first.now) (as_form a.last.now) k g a.wanted (kind_in a.kind size g) c.in_default.not-Register-0

pub returns-then-is_err : goal.returns-then-is_err
unfolding shown_form
returns-then-is_err c =
    let a = c.args in
    let s : List Signature → List Kind → Scope = λ fs ks. scope_with fs ks a.ranges.now.variables (all_loops a.ranges.now) in
    let m = a.size.now in
    let size = as_form (widened a.own.now) in
    let first = as_form a.first.now in
    let last = as_form a.last.now in
    let v = c.slice_within-v in
    let w = c.in-Register-Quantum in
    record {
      result_value = λ fs ks k g. c.answered.ensures.result_value
          ∙ lies_stops a.at (s fs ks) m size first last k g w.known (shown_of v.result) v.new.last (v.ensures.last_after a.at fs ks) (err_not_shown v.result (sym c.is_err.ensures.value ∙ c.if-is_err.true))
          ∙ (λ i. slice_fits a.at (s fs ks) (wanted_of k (sym w.is-0 i) m) (kind_in (sym w.is-1 i) size g) first last);
      ends_at = c.answered.ensures.ends_at;
    }

pub large_enough-w-requires-clause-kept_2 : goal.large_enough-w-requires-clause-kept_2
large_enough-w-requires-clause-kept_2 c =
    c.slice_within-v.ensures.kept_3 (ok_shown c.slice_within-v.result (sym c.is_err.ensures.value ∙ c.if-is_err.false))

pub returns : goal.returns
unfolding must_show shown_form
returns c =
    let a = c.args in
    let s : List Signature → List Kind → Scope = λ fs ks. scope_with fs ks a.ranges.now.variables (all_loops a.ranges.now) in
    let m = a.size.now in
    let size = as_form (widened a.own.now) in
    let first = as_form a.first.now in
    let last = as_form a.last.now in
    let v = c.slice_within-v in
    let l = v.new.last in
    let w = c.in-Register-Quantum in
    record {
      result_value = λ fs ks k g. c.answered-2.ensures.result_value ∙ ap (by_showing a.at) c.large_enough-w.ensures
          ∙ register_good a.at (s fs ks) (as_form l) m k g w.known
          ∙ lies_goes a.at (s fs ks) m size first last k g w.known (shown_of v.result) l (v.ensures.last_after a.at fs ks) (ok_shown v.result (sym c.is_err.ensures.value ∙ c.if-is_err.false))
          ∙ (λ i. slice_fits a.at (s fs ks) (wanted_of k (sym w.is-0 i) m) (kind_in (sym w.is-1 i) size g) first last);
      ends_at = c.answered-2.ensures.ends_at;
    }
