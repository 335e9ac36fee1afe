-- `check_operand::whole_fits` meets its contract. Assumes nothing.
use mathlib.Core.Path.{refl, sym, ap, ◌∙◌}
use mathlib.Core.List.{List}
use lib.IntN.{ℤ}
use Rattle.language.specs.Form.{difference_of, ◌then_build◌}
use Rattle.language.specs.Check.{by_showing, must_show, whole_fits}
use Rattle.forms.specs.Flat.{widened, as_form, built_of}
use Rattle.forms.specs.Ranges.{all_loops}
use Rattle.check_index.specs.Answers.{checked_part}
use Rattle.check_operand.specs.Tables.{kind_in, scope_with}
use Rattle.check_operand.specs.Operands.{wanted_of}
use Rattle.check_operand.specs.declared.Wanted.{Wanted}
use Rattle.check_operand.proofs.OperandKinds.{wire_bad, register_good, register_bad, other_bad}
use Rattle.check_operand.proofs.whole_fits.Goals as goal

pub returns-in-Wire-Qubit-clause-result_value : goal.returns-in-Wire-Qubit-clause-result_value
unfolding checked_part whole_fits wanted_of kind_in
returns-in-Wire-Qubit-clause-result_value c = λ fs ks k g. rw (c.in-Wire-Qubit.is-0, c.in-Wire-Qubit.is-1) refl

pub returns-in-Register-Quantum-clause-result_value : goal.returns-in-Register-Quantum-clause-result_value
unfolding must_show
returns-in-Register-Quantum-clause-result_value c =
    let a = c.args in
    let m = c.in-Register-Quantum in
    let r = a.ranges.now in
    let f = as_form (widened a.own.now) in
    let l = a.size.now in
    λ fs ks k g. c.answered.ensures.result_value ∙ ap (by_showing a.at) c.large_enough-v.ensures
    ∙ ap (λ (x : List ℤ). must_show a.at (scope_with fs ks r.variables (all_loops r)) (built_of m.known l then_build difference_of (as_form x))) c.load.ensures.f_after
    ∙ register_good a.at (scope_with fs ks r.variables (all_loops r)) f l k g m.known
    ∙ (λ i. whole_fits a.at (scope_with fs ks r.variables (all_loops r)) (wanted_of k (sym m.is-0 i) l) (kind_in (sym m.is-1 i) f g))

pub returns-in_default-clause-result_value : goal.returns-in_default-clause-result_value
unfolding checked_part
returns-in_default-clause-result_value c =
    let a = c.args in
    let r = a.ranges.now in
    let f = as_form (widened a.own.now) in
    λ fs ks k g. wire_bad a.at (scope_with fs ks r.variables (all_loops r)) f a.size.now k g a.kind c.in_default.not-Qubit-1
    ∙ ap (λ (w : Wanted). whole_fits a.at (scope_with fs ks r.variables (all_loops r)) (wanted_of k w a.size.now) (kind_in a.kind f g)) (sym c.in_default.is-0)

pub returns-in_default-2-clause-result_value : goal.returns-in_default-2-clause-result_value
unfolding checked_part
returns-in_default-2-clause-result_value c =
    let a = c.args in
    let r = a.ranges.now in
    let f = as_form (widened a.own.now) in
    λ fs ks k g. register_bad a.at (scope_with fs ks r.variables (all_loops r)) f a.size.now k g _ a.kind c.in_default.not-Quantum-1
    ∙ ap (λ (w : Wanted). whole_fits a.at (scope_with fs ks r.variables (all_loops r)) (wanted_of k w a.size.now) (kind_in a.kind f g)) (sym c.in_default.is-0)

pub returns-in_default-3-clause-result_value : goal.returns-in_default-3-clause-result_value
unfolding checked_part
returns-in_default-3-clause-result_value c =
    let a = c.args in
    let r = a.ranges.now in
    let f = as_form (widened a.own.now) in
    λ fs ks k g. other_bad a.at (scope_with fs ks r.variables (all_loops r)) f a.size.now k g a.wanted (kind_in a.kind f g) c.in_default.not-Wire-0 c.in_default.not-Register-0
