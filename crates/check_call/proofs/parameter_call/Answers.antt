-- `check_call::parameter_call` meets its contract. Assumes nothing.
use mathlib.Core.Path.{sym, ap, ◌∙◌}
use mathlib.Core.List.{[], map}
use mathlib.Core.Option.{some}
use Prim.Native.Nat.{ℕ, ◌+◌}
use lib.ListN.{get_or}
use Rattle.language.specs.Read.{read_argument}
use Rattle.language.specs.Check.{call_fits}
use Rattle.fields.specs.Header.{fields_at}
use Rattle.forms.specs.Flat.{widened, as_form}
use Rattle.kinds.specs.declared.Kind as K
use Rattle.check_index.specs.Answers.{checked_part}
use Rattle.check_operand.specs.Tables.{kind_in, size_of_row}
use Rattle.check_operand.proofs.Tables.{kinds_get, kinds_none, length_rows}
use Rattle.check_call.specs.Calls.{signature_in}
use Rattle.check_call.specs.Scopes.{formals_of, signatures_of, scope_full}
use Rattle.check_call.proofs.Calls.{parameter_beyond, parameter_other, parameter_found}
use Rattle.check_call.proofs.PassedFamilies.{formal_kind, formal_signature}
use Rattle.check_call.proofs.parameter_call.Goals as goal

pub returns-then-full-n : goal.returns-then-full-n
unfolding checked_part
returns-then-full-n c =
    let a = c.args in
    let full = a.full.now in
    let v = full.scope.visible in
    parameter_beyond (scope_full full) a.at a.n (fields_at a.program.now a.from a.next) (kinds_none (formals_of full) v.count v.first a.n full.scope.kinds.now full.scope.sizes.now c.if-full-n.true)

pub returns-in_default : goal.returns-in_default
unfolding checked_part
returns-in_default c =
    let a = c.args in
    let full = a.full.now in
    let v = full.scope.visible in
    let kinds = full.scope.kinds.now in
    let sizes = full.scope.sizes.now in
    let formals = formals_of full in
    let number = get_or kinds (v.first + a.n) 0 in
    let size = as_form (widened (get_or sizes (size_of_row number) [])) in
    let g = formals (size_of_row number) in
    parameter_other (scope_full full) a.at a.n (fields_at a.program.now a.from a.next) c.kind_by.result size g (kinds_get formals v.count v.first a.n kinds sizes c.if-full-n.false ∙ ap (λ (k : K.Kind). some (kind_in k size g)) (sym c.kind_by.ensures)) c.in_default.not-Family

pub returns : goal.returns
returns c =
    let a = c.args in
    let full = a.full.now in
    let v = full.scope.visible in
    let kinds = full.scope.kinds.now in
    let sizes = full.scope.sizes.now in
    let formals = formals_of full in
    let s = scope_full full in
    let number = get_or kinds (v.first + a.n) 0 in
    let size = as_form (widened (get_or sizes (size_of_row number) [])) in
    let g = formals (size_of_row number) in
    let fields = fields_at a.program.now a.from a.next in
    let args = map read_argument fields in
    c.call_fits.ensures
    ∙ ap (λ (x : ℕ). call_fits a.at s v.families (signature_in formals (get_or full.families.now (4096 + x) []) kinds sizes) args) c.size_by-row.ensures
    ∙ (λ z. call_fits a.at s (sym (length_rows (signatures_of full) v.families 0) z) (sym (formal_signature formals kinds sizes (get_or full.families.now (4096 + size_of_row number) []) (full.families_right.rows.plain (size_of_row number))) z) args)
    ∙ parameter_found s a.at a.n fields g (kinds_get formals v.count v.first a.n kinds sizes c.if-full-n.false ∙ ap (λ (k : K.Kind). some (kind_in k size g)) (sym c.kind_by.ensures ∙ c.in-Family.is) ∙ ap some (formal_kind size g))
