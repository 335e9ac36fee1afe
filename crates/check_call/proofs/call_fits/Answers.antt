-- `check_call::call_fits` meets its contract. Assumes nothing.
use mathlib.Core.Path.{◌∙◌}
use mathlib.Core.List.{[], map}
use lib.ListN.{get_or}
use Rattle.refusals.proofs.Handed.{handed}
use Rattle.language.specs.Read.{read_argument}
use Rattle.language.specs.Check.{call_operands}
use Rattle.forms.specs.Rows.{forms_of}
use Rattle.fields.specs.Header.{fields_at}
use Rattle.check_operand.specs.Tables.{kinds_at}
use Rattle.check_call.specs.Calls.{signature_in}
use Rattle.check_call.specs.Scopes.{formals_of, scope_full}
use Rattle.check_call.proofs.Calls.{fits_stops, fits_good}
use Rattle.check_index.proofs.Answers.{count_upto}
use Rattle.check_call.proofs.Forms.{four_rows}
use Rattle.check_call.proofs.call_fits.Goals as goal

pub call_forms-requires-clause-rows : goal.call_forms-requires-clause-rows
call_forms-requires-clause-rows c = four_rows

pub returns-in_err-mid : goal.returns-in_err-mid
returns-in_err-mid c =
    let a = c.args in
    let full = a.full.now in
    let s = scope_full full in
    let f = signature_in (formals_of full) (get_or full.families.now a.row []) full.scope.kinds.now full.scope.sizes.now in
    rw (handed c.from_residual.result c.from_residual.ensures.1) (fits_stops s a.at a.before a.from a.program.now a.next f c.call_forms.result c.call_forms.new.forms c.from-m.result c.from-m.ensures (c.call_forms.ensures.forms_after s.families s.operands) c.in_err-mid.was)

pub returns : goal.returns
returns c =
    let a = c.args in
    let full = a.full.now in
    let kinds = full.scope.kinds.now in
    let sizes = full.scope.sizes.now in
    let s = scope_full full in
    let f = signature_in (formals_of full) (get_or full.families.now a.row []) kinds sizes in
    let program = a.program.now in
    let l = c.call_forms.new.forms in
    let m = c.from-m.result in
    let mid = c.in_ok-mid.mid in
    let b = count_upto program a.from a.next m c.call_forms.result mid c.in_ok-mid.was c.call_forms.ensures.passes_count in
    c.call_operands.ensures.result_value
    ∙ (λ i. call_operands s a.at a.before (forms_of m l) (kinds_at (formals_of full) (c.from-count.ensures i) (c.from-first.ensures i) kinds sizes) (map read_argument (fields_at program mid a.next)))
    ∙ fits_good s a.at a.before a.from program a.next f c.call_forms.result l m c.from-m.ensures (c.call_forms.ensures.forms_after s.families s.operands) mid c.in_ok-mid.was b
