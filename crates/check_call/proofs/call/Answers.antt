-- `check_call::call` meets its contract. Assumes nothing.
use mathlib.Core.Path.{sym, ap, ◌∙◌}
use Prim.Native.Nat.{ℕ, ◌+◌}
use native.Mathlib.Omega.{arith}
use lib.Seq.{slice}
use borrow.Author.Tests.{eq-eqb, ne_eqb}
use mathlib.Core.Bool.{Bool, cond}
use Rattle.language.specs.Tree.{Statement, call, call_parameter}
use Rattle.language.specs.Read.{call_of}
use Rattle.language.specs.Check.{check_statement}
use Rattle.fields.specs.Header.{fields_at}
use Rattle.fields.specs.CallNumber.{numbered}
use Rattle.refusals.specs.Reasons.{number_of}
use Rattle.fields.proofs.CallNumbers.{named_bad, named_in_lem}
use Rattle.check_index.specs.Answers.{checked_part}
use Rattle.check_call.specs.Scopes.{scope_full}
use Rattle.check_call.proofs.Calls.{call_unnamed}
use Rattle.check_call.proofs.call.Goals as goal

pub returns-then-tag-eq-PARAMETER_CALL : goal.returns-then-tag-eq-PARAMETER_CALL
unfolding fields_at numbered
returns-then-tag-eq-PARAMETER_CALL c =
    let a = c.args in
    let full = a.full.now in
    let s = scope_full full in
    let program = a.program.now in
    let n = c.in-Ok.named.number in
    let from = c.in-Ok.named.next in
    let w = named_in_lem a.tag (a.at + 3) a.next program c.requires.at_bound.0 c.requires.at_bound.1 n from (sym c.called_number.ensures ∙ ap numbered c.in-Ok.is) in
    c.parameter_call.ensures
    ∙ ap (λ (k : ℕ). check_statement (call_of call_parameter a.at k (fields_at program from a.next)) s) c.from-n.ensures
    ∙ ap (λ (b : Bool). check_statement (call_of (cond b call_parameter call) a.at n (fields_at program from a.next)) s) (sym (eq-eqb a.tag 42 c.if-tag-eq-PARAMETER_CALL.true))
    ∙ ap (λ (x : Statement). check_statement x s) (sym (w.reads a.at from (omega (arith, w.low))))

pub returns-in-Err : goal.returns-in-Err
unfolding checked_part numbered
returns-in-Err c =
    let a = c.args in
    let full = a.full.now in
    let s = scope_full full in
    let program = a.program.now in
    let content = slice (a.at + 3) a.next program in
    call_unnamed s a.at (number_of c.in-Err.reason) a.tag content (named_bad a.tag (a.at + 3) content (number_of c.in-Err.reason) (sym c.called_number.ensures ∙ ap numbered c.in-Err.is) a.at)

pub returns-else-tag-eq-PARAMETER_CALL : goal.returns-else-tag-eq-PARAMETER_CALL
unfolding fields_at numbered
returns-else-tag-eq-PARAMETER_CALL c =
    let a = c.args in
    let full = a.full.now in
    let s = scope_full full in
    let program = a.program.now in
    let n = c.in-Ok.named.number in
    let from = c.in-Ok.named.next in
    let w = named_in_lem a.tag (a.at + 3) a.next program c.requires.at_bound.0 c.requires.at_bound.1 n from (sym c.called_number.ensures ∙ ap numbered c.in-Ok.is) in
    c.family_call.ensures
    ∙ ap (λ (k : ℕ). check_statement (call_of call a.at k (fields_at program from a.next)) s) c.from-n.ensures
    ∙ ap (λ (b : Bool). check_statement (call_of (cond b call_parameter call) a.at n (fields_at program from a.next)) s) (sym (ne_eqb a.tag 42 c.if-tag-eq-PARAMETER_CALL.false))
    ∙ ap (λ (x : Statement). check_statement x s) (sym (w.reads a.at from (omega (arith, w.low))))
