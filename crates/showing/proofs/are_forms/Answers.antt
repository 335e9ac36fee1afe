-- `showing::are_forms` meets its contract. Assumes nothing.
use mathlib.Core.Path.{sym, ◌∙◌}
use Rattle.showing.proofs.Forms.{too_many_lem, form_out, low_out, up_to_high}
use Rattle.showing.proofs.are_forms.Goals as goal

pub returns-then-all-gt-ALL_VARIABLES-clause-value : goal.returns-then-all-gt-ALL_VARIABLES-clause-value
returns-then-all-gt-ALL_VARIABLES-clause-value c =
    sym (too_many_lem _ _ _ _ _ c.if-all-gt-ALL_VARIABLES.true)

pub returns-then-not-kept-clause-value : goal.returns-then-not-kept-clause-value
returns-then-not-kept-clause-value c =
    let e = sym c.kept.ensures.value ∙ c.if-not-kept.true in
    sym (form_out _ _ _ _ _ c.if-all-gt-ALL_VARIABLES.false e)

pub returns-then-not-rows_kept-clause-value : goal.returns-then-not-rows_kept-clause-value
returns-then-not-rows_kept-clause-value c =
    let e = sym c.kept.ensures.value ∙ c.if-not-kept.false in
    let g = sym c.rows_kept.ensures.value ∙ c.if-not-rows_kept.true in
    sym (low_out _ _ _ _ _ c.if-all-gt-ALL_VARIABLES.false e g)

pub returns-clause-value : goal.returns-clause-value
returns-clause-value c =
    let e = sym c.kept.ensures.value ∙ c.if-not-kept.false in
    let g = sym c.rows_kept.ensures.value ∙ c.if-not-rows_kept.false in
    c.rows_kept-2.ensures.value ∙ sym (up_to_high _ _ _ _ _ c.if-all-gt-ALL_VARIABLES.false e g)
