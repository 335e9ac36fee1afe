-- `check_call::passed` meets its contract. Assumes nothing.
use mathlib.Core.Path.{sym, ap, ◌∙◌}
use mathlib.Core.List.{[]}
use native.Mathlib.Omega.{arith}
use lib.ListN.{get_or}
use Rattle.language.specs.Check.{fitting, taken, family_fits}
use Rattle.kinds.specs.declared.Kind.{Kind}
use Rattle.forms.specs.Flat.{widened, as_form}
use Rattle.check_index.specs.Answers.{checked_part}
use Rattle.check_operand.specs.Tables.{kind_in, size_of_row}
use Rattle.check_call.specs.Scopes.{formals_of, signatures_of}
use Rattle.check_call.proofs.PassedFamilies.{cut_at, beyond_at, late_at, long_at, good_at, not_due, family_due}
use Rattle.check_call.proofs.passed.Goals as goal

pub returns-then-next-from-lt2-clause-result_value : goal.returns-then-next-from-lt2-clause-result_value
unfolding checked_part
returns-then-next-from-lt2-clause-result_value c =
    let a = c.args in
    λ forms loops. cut_at a.full.now a.program.now a.at a.next a.before a.number c.requires.at_bound.1 forms loops c.if-next-from-lt2.true

pub returns-then-full-named-clause-result_value : goal.returns-then-full-named-clause-result_value
unfolding checked_part
returns-then-full-named-clause-result_value c =
    let a = c.args in
    λ forms loops. beyond_at a.full.now a.program.now a.at a.next a.before a.number c.requires.at_bound.1 forms loops (omega arith) c.two_bytes-named.result c.two_bytes-named.ensures.0 c.if-full-named.true

pub returns-then-before-named-clause-result_value : goal.returns-then-before-named-clause-result_value
unfolding checked_part
returns-then-before-named-clause-result_value c =
    let a = c.args in
    λ forms loops. late_at a.full.now a.program.now a.at a.next a.before a.number c.requires.at_bound.1 forms loops (omega arith) c.two_bytes-named.result c.two_bytes-named.ensures.0 c.if-full-named.false c.if-before-named.true

pub returns-then-next-from-ne2-clause-result_value : goal.returns-then-next-from-ne2-clause-result_value
unfolding checked_part
returns-then-next-from-ne2-clause-result_value c =
    let a = c.args in
    λ forms loops. long_at a.full.now a.program.now a.at a.next a.before a.number c.requires.at_bound.1 forms loops (omega arith) c.two_bytes-named.result c.two_bytes-named.ensures.0 c.if-full-named.false c.if-before-named.false c.if-next-from-ne2.true

pub returns-in_default-clause-result_value : goal.returns-in_default-clause-result_value
unfolding checked_part
returns-in_default-clause-result_value c =
    let a = c.args in
    let full = a.full.now in
    let f = signatures_of full c.two_bytes-named.result in
    let size = as_form (widened (get_or full.scope.sizes.now (size_of_row a.number) [])) in
    let g = formals_of full (size_of_row a.number) in
    λ forms loops. not_due a.at forms c.kind_by.result size g f c.in_default.not-Family
    ∙ ap (λ (k : Kind). family_fits a.at (taken forms (kind_in k size g)) f) c.kind_by.ensures
    ∙ good_at full a.program.now a.at a.next a.before a.number c.requires.at_bound.1 forms loops (omega arith) c.two_bytes-named.result c.two_bytes-named.ensures.0 c.if-full-named.false c.if-before-named.false c.if-next-from-ne2.false

pub returns-clause-result_value : goal.returns-clause-result_value
returns-clause-result_value c =
    let a = c.args in
    let full = a.full.now in
    let f = signatures_of full c.two_bytes-named.result in
    let size = as_form (widened (get_or full.scope.sizes.now (size_of_row a.number) [])) in
    let g = formals_of full (size_of_row a.number) in
    λ forms loops. c.family_fits.ensures.result_value
    ∙ (λ z. family_fits a.at (fitting (formals_of full (c.size_by-formal.ensures z))) f)
    ∙ family_due a.at forms size g f
    ∙ ap (λ (k : Kind). family_fits a.at (taken forms (kind_in k size g)) f) (sym c.in-Family.is ∙ c.kind_by.ensures)
    ∙ good_at full a.program.now a.at a.next a.before a.number c.requires.at_bound.1 forms loops (omega arith) c.two_bytes-named.result c.two_bytes-named.ensures.0 c.if-full-named.false c.if-before-named.false c.if-next-from-ne2.false
