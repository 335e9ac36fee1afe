-- The cycle of calls meets its contracts. Assumes nothing.
use Prim.Native.Nat.{◌-◌, ◌+◌, ◌*◌}
use mathlib.Core.Path.{◌≡◌}
use Rattle.language.specs.Read.{read_statement, statements_by}
use Rattle.language.specs.Check.{check_statements}
use Rattle.fields.specs.Header.{fields_at}
use Rattle.check_call.specs.Scopes.{scope_full}
use Rattle.check_statement.proofs.+list_one_statement_repeated.Given as goal

abbrev pub decreases-list : goal.decreases-list
decreases-list l =
    4 * l.levels + 1

abbrev pub decreases-one_statement : goal.decreases-one_statement
decreases-one_statement l =
    4 * l.levels

abbrev pub decreases-repeated : goal.decreases-repeated
decreases-repeated l =
    4 * l.levels + 2

abbrev pub invariant-list-loop-header : goal.invariant-list-loop-header
invariant-list-loop-header l =
    check_statements (statements_by (read_statement l.levels) (fields_at l.program l.from l.to)) (scope_full l.full) ≡ check_statements (statements_by (read_statement l.levels) (fields_at l.program l.at l.to)) (scope_full l.full)

abbrev pub decreases-list-loop-header : goal.decreases-list-loop-header
decreases-list-loop-header l =
    l.to - l.at
