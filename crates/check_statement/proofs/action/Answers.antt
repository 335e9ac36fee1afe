-- `check_statement::action` meets its contract. Assumes nothing.
use mathlib.Core.Path.{sym, ap, ◌∙◌}
use Rattle.std.proofs.Common.{rules}
use Prim.Native.Nat.{◌+◌}
use lib.Seq.{slice}
use Rattle.language.specs.Read.{field, read_statement}
use Rattle.language.specs.Check.{Checked, good, ◌>>◌, check_statement}
use Rattle.language.specs.Check as C
use Rattle.fields.specs.Header.{fields_at}
use Rattle.check_operand.specs.Operands.{wanted_of, one_wire, two_operands}
use Rattle.check_call.specs.Scopes.{known_of}
use Rattle.check_statement.proofs.Actions.{kept_is, top_measure, top_reset, top_if, top_statement}
use Rattle.check_statement.proofs.action.Goals as goal

pub returns-in-4 : goal.returns-in-4
unfolding wanted_of
returns-in-4 c =
    let a = c.args in
    let program = a.program.now in
    λ d q. kept_is c.two_operands.result d ∙ ap (λ (x : Checked (Unit {0})). x >> good d) (c.two_operands.ensures.result_value (known_of a.full.now) ∙ ap (λ (s : C.Scope). two_operands s C.bit a.at (fields_at program (a.at + 3) a.next)) (sym q)) ∙ top_measure d a.at a.next a.tag program c.in-4.is

pub returns-in-5 : goal.returns-in-5
returns-in-5 c =
    let a = c.args in
    let program = a.program.now in
    λ d q. kept_is c.one_wire.result d ∙ ap (λ (x : Checked (Unit {0})). x >> good d) (c.one_wire.ensures.result_value (known_of a.full.now) ∙ ap (λ (s : C.Scope). one_wire s a.at (fields_at program (a.at + 3) a.next)) (sym q)) ∙ top_reset d a.at a.next a.tag program c.in-5.is

pub returns-in-6 : goal.returns-in-6
returns-in-6 c =
    let a = c.args in
    λ d q. c.conditional.ensures d q ∙ top_if d a.at a.next a.tag a.program.now c.in-6.is

pub returns-in_default : goal.returns-in_default
returns-in_default c =
    let a = c.args in
    let program = a.program.now in
    λ d q. kept_is c.one_statement.result d ∙ ap (λ (x : Checked (Unit {0})). x >> good d) (c.one_statement.ensures ∙ ap (λ (s : C.Scope). check_statement (read_statement 16 (field a.at a.tag (slice (a.at + 3) a.next program))) s) (sym q)) ∙ top_statement d a.at a.next a.tag program c.requires.declares_nothing.0 c.requires.declares_nothing.1 c.requires.declares_nothing.2 (search rules) (search rules) (search rules)
