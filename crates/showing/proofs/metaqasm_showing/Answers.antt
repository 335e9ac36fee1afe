-- `showing::metaqasm_showing` meets its contract. Assumes nothing.
use native.Mathlib.Omega.{arith}
use mathlib.Core.Path.{sym, ap, ◌∙◌}
use Rattle.forms.proofs.Laws.{gone_few, trials_few}
use Rattle.showing.specs.Answers.{number_of}
use Rattle.showing.proofs.Forms.{no_forms_lem, forms_given}
use Rattle.showing.proofs.metaqasm_showing.Goals as goal

pub returns-then-not-are_forms : goal.returns-then-not-are_forms
returns-then-not-are_forms c =
    sym (no_forms_lem _ _ _ _ _ (sym c.are_forms.ensures.value ∙ c.if-not-are_forms.true))

pub overflow_cast-through : goal.overflow_cast-through
overflow_cast-through c =
    let few = (c.are_forms.ensures.are_forms c.if-not-are_forms.false).few in
    let g = gone_few _ _ _ _ _ c.show-s.ensures.through_value in
    record { fits = omega arith }

pub overflow_cast-trials : goal.overflow_cast-trials
overflow_cast-trials c =
    let few = (c.are_forms.ensures.are_forms c.if-not-are_forms.false).few in
    let g = trials_few _ _ _ _ _ c.show-s.ensures.trials_value in
    record { fits = omega arith }

pub returns : goal.returns
returns c =
    let a = sym c.are_forms.ensures.value ∙ c.if-not-are_forms.false in
    sym (forms_given _ _ _ _ _ a (c.number.ensures ∙ ap number_of c.show-s.ensures.verdict_value) c.show-s.ensures.through_value c.show-s.ensures.trials_value)
