-- `check_call::same_kinds` meets its contract. Assumes nothing.
use mathlib.Core.Path.{◌≡◌}
use mathlib.Core.List.{List}
use Prim.Native.Nat.{◌-◌, ◌≤◌}
use lib.IntN.{ℤ}
use lib.ListN.{drop}
use Rattle.language.specs.Check.{same_kinds}
use Rattle.check_operand.specs.Tables.{Formals, kinds_at}
use Rattle.check_call.specs.Calls.{plains_at}
use Rattle.check_call.proofs.same_kinds.Given as goal

abbrev pub invariant-loop-i : goal.invariant-loop-i
invariant-loop-i l =
    (l.i ≤ l.count) × ((formals : Formals) (sizes : List (List ℤ)) → same_kinds (plains_at l.count l.formal l.kinds sizes) (kinds_at formals l.count l.actual l.kinds sizes) ≡ same_kinds (drop l.i (plains_at l.count l.formal l.kinds sizes)) (drop l.i (kinds_at formals l.count l.actual l.kinds sizes)))

abbrev pub decreases-loop-i : goal.decreases-loop-i
decreases-loop-i l =
    l.count - l.i
