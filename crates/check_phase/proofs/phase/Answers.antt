-- `check_phase::phase` meets its contract. Assumes nothing.
use mathlib.Core.Path.{refl, ◌∙◌, sym}
use lib.ListN.{drop}
use Rattle.language.specs.Tree.{bad_index}
use Rattle.language.specs.Read.{due, outer_index}
use Rattle.language.specs.Check.{Scope, check_natural}
use Rattle.fields.specs.Header.{fields_at}
use Rattle.refusals.proofs.Handed.{handed}
use Rattle.check_index.proofs.Answers.{part_goes, part_stops, passes_upto}
use Rattle.check_operand.specs.Tables.{Known}
use Rattle.check_operand.specs.Scopes.{scope_at}
use Rattle.check_operand.specs.Operands.{one_wire}
use Rattle.check_phase.proofs.Naturals.{phase_is}
use Rattle.check_phase.proofs.phase.Goals as goal

pub returns-in_err-mid : goal.returns-in_err-mid
returns-in_err-mid c =
    let a = c.args in
    let s : Known → Scope = λ k. scope_at k a.scope.now in
    let gs = fields_at a.program.now a.from a.next in
    λ k. rw (handed c.from_residual.result c.from_residual.ensures.1) (part_stops c.natural.result (check_natural (s k) (due outer_index (bad_index 4 a.at) gs)) (one_wire (s k) a.at (drop 1 gs)) (c.natural.ensures.result_value k) c.in_err-mid.was ∙ phase_is (s k) a.at gs (drop 1 gs) refl)

pub returns : goal.returns
returns c =
    let a = c.args in
    let program = a.program.now in
    let s : Known → Scope = λ k. scope_at k a.scope.now in
    let gs = fields_at program a.from a.next in
    let mid = c.in_ok-mid.mid in
    let v = passes_upto program a.from a.next c.natural.result mid c.in_ok-mid.was c.natural.ensures.passes in
    λ k. c.one_wire.ensures.result_value k ∙ sym (part_goes c.natural.result (check_natural (s k) (due outer_index (bad_index 4 a.at) gs)) (c.natural.ensures.result_value k) mid (one_wire (s k) a.at (fields_at program mid a.next)) c.in_ok-mid.was) ∙ phase_is (s k) a.at gs (fields_at program mid a.next) v.rest
