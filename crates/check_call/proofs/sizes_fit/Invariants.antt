-- `check_call::sizes_fit` meets its contract. Assumes nothing.
use mathlib.Core.Path.{◌≡◌}
use Prim.Native.Nat.{◌-◌, ◌≤◌}
use lib.ListN.{drop}
use Rattle.language.specs.Check.{sizes_fit}
use Rattle.check_operand.specs.Tables.{Formals, kinds_at}
use Rattle.check_call.specs.Calls.{plains_at}
use Rattle.check_call.proofs.sizes_fit.Given as goal

abbrev pub invariant-loop-i : goal.invariant-loop-i
invariant-loop-i l =
    (l.i ≤ l.count) × ((formals : Formals) → sizes_fit l.at l.m (plains_at l.count l.formal l.scope.kinds.now l.scope.sizes.now) (kinds_at formals l.count l.actual l.scope.kinds.now l.scope.sizes.now) ≡ sizes_fit l.at l.m (drop l.i (plains_at l.count l.formal l.scope.kinds.now l.scope.sizes.now)) (drop l.i (kinds_at formals l.count l.actual l.scope.kinds.now l.scope.sizes.now)))

abbrev pub decreases-loop-i : goal.decreases-loop-i
decreases-loop-i l =
    l.count - l.i
