-- `check_call::call_operands` meets its contract. Assumes nothing.
use mathlib.Core.Path.{◌≡◌}
use mathlib.Core.List.{map}
use Prim.Native.Nat.{◌-◌, ◌≤◌}
use lib.ListN.{drop}
use Rattle.language.specs.Read.{read_argument}
use Rattle.language.specs.Check.{call_operands}
use Rattle.fields.specs.Header.{fields_at}
use Rattle.forms.specs.Rows.{forms_of}
use Rattle.check_operand.specs.Tables.{kinds_at}
use Rattle.check_call.specs.Scopes.{formals_of, scope_full}
use Rattle.check_call.proofs.call_operands.Given as goal

abbrev pub invariant-loop-j : goal.invariant-loop-j
invariant-loop-j l =
    (l.j ≤ l.count) × (call_operands (scope_full l.full) l.parent l.before (forms_of l.m l.forms) (kinds_at (formals_of l.full) l.count l.first l.full.scope.kinds.now l.full.scope.sizes.now) (map read_argument (fields_at l.program l.at l.to)) ≡ call_operands (scope_full l.full) l.parent l.before (forms_of l.m l.forms) (drop l.j (kinds_at (formals_of l.full) l.count l.first l.full.scope.kinds.now l.full.scope.sizes.now)) (map read_argument (fields_at l.program l.from l.to)))

abbrev pub decreases-loop-j : goal.decreases-loop-j
decreases-loop-j l =
    l.count - l.j
