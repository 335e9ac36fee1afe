-- `check_statement::conditional` meets its contract. Assumes nothing.
use mathlib.Core.Path.{sym, ap, ◌∙◌}
use mathlib.Core.List.{List, ◌∷◌}
use Prim.Native.Nat.{ℕ, ◌+◌}
use lib.ListN.{drop}
use lib.Seq.{slice}
use Rattle.language.specs.Tree.{bad_operand}
use Rattle.language.specs.Read.{Field, due, read_operand, read_statement, statements_by}
use Rattle.language.specs.Check.{Checked, good, ◌>>◌, check_operand, check_statements, top_scope}
use Rattle.language.specs.Check as C
use Rattle.refusals.proofs.Handed.{handed}
use Rattle.fields.specs.Header.{fields_at}
use Rattle.fields.proofs.Headers.{one_byte, slice_none}
use Rattle.check_operand.specs.Operands.{wanted_of}
use Rattle.check_call.specs.Scopes.{known_of}
use Rattle.check_statement.specs.Statements.{checked_declared}
use Rattle.check_index.proofs.Answers.{part_goes, passes_upto}
use Rattle.check_statement.proofs.Actions.{kept_is, kept_stops, if_none, if_large, if_bit, bit, rest}
use Rattle.check_statement.proofs.conditional.Goals as goal

pub returns-then-next-from : goal.returns-then-next-from
unfolding checked_declared
returns-then-next-from c =
    let a = c.args in
    let program = a.program.now in
    let from = a.at + 3 in
    λ d q. if_none d a.at (slice from a.next program) (slice_none from a.next program c.if-next-from.true)

pub returns-then-value-gt1 : goal.returns-then-value-gt1
unfolding checked_declared
returns-then-value-gt1 c =
    let a = c.args in
    let program = a.program.now in
    let from = a.at + 3 in
    let e = one_byte from a.next program c.if-next-from.false c.requires.at_bound.1 ∙ ap (λ (x : ℕ). x ∷ slice (from + 1) a.next program) (sym c.from-value.ensures) in
    λ d q. if_large d a.at (slice from a.next program) c.from-value.result program a.next e c.if-value-gt1.true

pub returns-in_err-mid : goal.returns-in_err-mid
unfolding wanted_of
returns-in_err-mid c =
    let a = c.args in
    let program = a.program.now in
    let from = a.at + 3 in
    let content = slice from a.next program in
    let v = c.from-value.result in
    let e = one_byte from a.next program c.if-next-from.false c.requires.at_bound.1 ∙ ap (λ (x : ℕ). x ∷ slice (from + 1) a.next program) (sym c.from-value.ensures) in
    rw (handed c.from_residual.result c.from_residual.ensures.1) (λ d q. kept_stops c.operand.result d (bit d a.at content v program a.next e) (rest d a.at content v program a.next e (drop 1 (fields_at program (a.at + 4) a.next))) (c.operand.ensures.result_value (known_of a.full.now) ∙ ap (λ (s : C.Scope). check_operand s C.bit (due read_operand (bad_operand 4 a.at) (fields_at program (a.at + 4) a.next))) (sym q)) c.in_err-mid.was
    ∙ if_bit d a.at content v program a.next e c.if-value-gt1.false)

pub returns : goal.returns
unfolding wanted_of
returns c =
    let a = c.args in
    let program = a.program.now in
    let from = a.at + 3 in
    let content = slice from a.next program in
    let v = c.from-value.result in
    let e = one_byte from a.next program c.if-next-from.false c.requires.at_bound.1 ∙ ap (λ (x : ℕ). x ∷ slice (from + 1) a.next program) (sym c.from-value.ensures) in
    let mid = c.in_ok-mid.mid in
    let u = passes_upto program (a.at + 4) a.next c.operand.result mid c.in_ok-mid.was c.operand.ensures.passes in
    λ d q. kept_is c.list.result d ∙ ap (λ (x : Checked (Unit {0})). x >> good d) (c.list.ensures ∙ ap (λ (s : C.Scope). check_statements (statements_by (read_statement 15) (fields_at program mid a.next)) s) (sym q))
    ∙ ap (λ (l : List Field). check_statements (statements_by (read_statement 15) l) (top_scope d) >> good d) (sym u.rest)
    ∙ sym (part_goes c.operand.result (bit d a.at content v program a.next e) (c.operand.ensures.result_value (known_of a.full.now) ∙ ap (λ (s : C.Scope). check_operand s C.bit (due read_operand (bad_operand 4 a.at) (fields_at program (a.at + 4) a.next))) (sym q)) mid (rest d a.at content v program a.next e (drop 1 (fields_at program (a.at + 4) a.next))) c.in_ok-mid.was)
    ∙ if_bit d a.at content v program a.next e c.if-value-gt1.false
