-- `check_call::family_fits` meets its contract. Assumes nothing.
use mathlib.Core.Path.{sym, ◌∙◌}
use mathlib.Core.List.{[]}
use Prim.Native.Nat.{ℕ, ◌+◌}
use lib.ListN.{get_or}
use Rattle.language.specs.Check.{same_kinds, sizes_fit}
use Rattle.check_index.specs.Answers.{checked_part}
use Rattle.check_operand.specs.Tables.{kind_at, kinds_at}
use Rattle.check_operand.proofs.Tables.{length_rows}
use Rattle.check_call.specs.Calls.{plain_by, plains_at}
use Rattle.check_call.specs.Scopes.{formals_of, signatures_of}
use Rattle.check_call.proofs.PassedFamilies.{fits_counts, fits_kinds, fits_sizes, many_alike}
use Rattle.check_call.proofs.family_fits.Goals as goal

pub returns-then-wanted-given-clause-result_value : goal.returns-then-wanted-given-clause-result_value
unfolding checked_part
returns-then-wanted-given-clause-result_value c =
    let a = c.args in
    fits_counts a.at (formals_of a.full.now a.formal) (signatures_of a.full.now a.n) c.if-wanted-given.true

pub returns-then-wanted-given-2-clause-result_value : goal.returns-then-wanted-given-2-clause-result_value
unfolding checked_part
returns-then-wanted-given-2-clause-result_value c =
    let a = c.args in
    let full = a.full.now in
    let kinds = full.scope.kinds.now in
    let sizes = full.scope.sizes.now in
    let row = get_or full.families.now (4096 + a.formal) [] in
    let given = get_or full.families.now a.n [] in
    let t = c.if-wanted-given-2.true in
    fits_kinds a.at (formals_of full a.formal) (signatures_of full a.n) c.if-wanted-given.false (many_alike _ _ λ e. t (sym (length_rows (λ (j : ℕ). plain_by (get_or kinds j 0) sizes) (get_or row 1 0) (get_or row 2 0)) ∙ e ∙ length_rows (λ (j : ℕ). kind_at (formals_of full) j kinds sizes) (get_or given 1 0) (get_or given 2 0)))

pub returns-then-not-same_kinds-clause-result_value : goal.returns-then-not-same_kinds-clause-result_value
unfolding checked_part
returns-then-not-same_kinds-clause-result_value c =
    let a = c.args in
    let full = a.full.now in
    let kinds = full.scope.kinds.now in
    let sizes = full.scope.sizes.now in
    let formals = formals_of full in
    let e = c.from-count.ensures ∙ c.if-wanted-given-2.false in
    let same = sym (λ z. same_kinds (plains_at (c.from-count.ensures z) (c.from-f.ensures z) kinds sizes) (kinds_at formals (e z) (c.from-a.ensures z) kinds sizes)) ∙ sym (c.same_kinds.ensures formals sizes) in
    fits_kinds a.at (formals a.formal) (signatures_of full a.n) c.if-wanted-given.false (same ∙ c.if-not-same_kinds.true)

pub returns-clause-result_value : goal.returns-clause-result_value
returns-clause-result_value c =
    let a = c.args in
    let full = a.full.now in
    let kinds = full.scope.kinds.now in
    let sizes = full.scope.sizes.now in
    let formals = formals_of full in
    let e = c.from-count.ensures ∙ c.if-wanted-given-2.false in
    let same = sym (λ z. same_kinds (plains_at (c.from-count.ensures z) (c.from-f.ensures z) kinds sizes) (kinds_at formals (e z) (c.from-a.ensures z) kinds sizes)) ∙ sym (c.same_kinds.ensures formals sizes) in
    c.sizes_fit.ensures.result_value formals
    ∙ (λ z. sizes_fit a.at (c.from.ensures z) (plains_at (c.from-count.ensures z) (c.from-f.ensures z) kinds sizes) (kinds_at formals (e z) (c.from-a.ensures z) kinds sizes))
    ∙ fits_sizes a.at (formals a.formal) (signatures_of full a.n) c.if-wanted-given.false (same ∙ c.if-not-same_kinds.false)
