-- `check_call::call_operand` meets its contract. Assumes nothing.
use mathlib.Core.Path.{sym, ap, ◌∙◌}
use mathlib.Core.List.{[]}
use native.Mathlib.Omega.{arith}
use lib.ListN.{get_or}
use Rattle.language.specs.Tree.{Operand, bad_operand}
use Rattle.language.specs.Read.{due, read_operand}
use Rattle.language.specs.Check.{Due, taken, check_operand}
use Rattle.fields.specs.Header.{fields_at}
use Rattle.fields.proofs.Headers.{when_tagged}
use Rattle.forms.specs.Flat.{widened, as_form}
use Rattle.forms.specs.Rows.{forms_of}
use Rattle.check_index.proofs.Answers.{ends_passes}
use Rattle.check_operand.specs.Tables.{kind_in, kind_by}
use Rattle.check_call.specs.Calls.{call_operand}
use Rattle.check_call.specs.Scopes.{formals_of, known_of, scope_full}
use Rattle.check_call.proofs.PassedFamilies.{plain_operand, no_family_lem, answerable, passed_due}
use Rattle.check_call.proofs.call_operand.Goals as goal

pub passed-requires-clause-at_bound : goal.passed-requires-clause-at_bound
passed-requires-clause-at_bound c =
    let a = c.args in
    let w = when_tagged a.program.now a.at a.to 51 c.in-Some.next c.requires.to_in_bounds (sym c.with_tag.ensures ∙ c.in-Some.is) in
    (w.low, omega (arith, w.high, c.requires.to_in_bounds))

pub returns-in-Some : goal.returns-in-Some
returns-in-Some c =
    let a = c.args in
    let full = a.full.now in
    let sizes = full.scope.sizes.now in
    let formals = formals_of full in
    let s = scope_full full in
    let program = a.program.now in
    let next = c.in-Some.next in
    let w = when_tagged program a.at a.to 51 next c.requires.to_in_bounds (sym c.with_tag.ensures ∙ c.in-Some.is) in
    record {
      result_value = c.passed.ensures.result_value (forms_of a.m a.forms.now) s.loops ∙ ap (λ (o : Operand). call_operand s a.before (forms_of a.m a.forms.now) (kind_by formals a.number sizes) o) (passed_due program a.at a.to a.parent next w);
      passes = ends_passes program a.at a.to 51 next c.passed.result w c.passed.ensures.ends_at;
    }

pub operand-requires-clause-answerable : goal.operand-requires-clause-answerable
operand-requires-clause-answerable c =
    let a = c.args in
    answerable c.taken_by-wanted.result _ (no_family_lem a.program.now a.at a.to a.parent c.requires.to_in_bounds (sym c.with_tag.ensures ∙ c.in_default.is))

pub returns : goal.returns
returns c =
    let a = c.args in
    let full = a.full.now in
    let sizes = full.scope.sizes.now in
    let known = known_of full in
    let formals = formals_of full in
    let s = scope_full full in
    let program = a.program.now in
    let gs = forms_of a.m a.forms.now in
    let o = due read_operand (bad_operand 4 a.parent) (fields_at program a.at a.to) in
    let none = no_family_lem program a.at a.to a.parent c.requires.to_in_bounds (sym c.with_tag.ensures ∙ c.in_default.is) in record {
      result_value = c.operand.ensures.result_value known
          ∙ ap (λ (d : Due). check_operand s d o) (c.taken_by-wanted.ensures.size_after known ∙ (λ z. taken gs (kind_in (c.kind_by-kind.ensures z) (as_form (widened (get_or sizes (c.size_by-own.ensures z) []))) (formals (c.size_by-own.ensures z)))))
          ∙ plain_operand s a.before gs (kind_by formals a.number sizes) o none;
      passes = c.operand.ensures.passes;
    }
