-- `check_call::call_forms` meets its contract. Assumes nothing.
use mathlib.Core.Path.{◌≡◌}
use mathlib.Core.List.{List, map, ◌++◌}
use Prim.Native.Nat.{◌-◌, ◌≤◌}
use Rattle.language.specs.Read.{read_argument}
use Rattle.language.specs.Check.{good, ◌>>=◌, Kind, Signature, call_forms}
use Rattle.fields.specs.Header.{fields_at}
use Rattle.forms.specs.Rows.{Rows, loops_of, forms_of}
use Rattle.check_operand.specs.Tables.{scope_with}
use Rattle.check_index.specs.Answers.{Beyond}
use Rattle.check_call.proofs.call_forms.Given as goal

abbrev pub invariant-loop-i : goal.invariant-loop-i
invariant-loop-i l =
    (l.i ≤ l.m) × Rows l.forms 4 × Beyond l.program l.at l.to l.i l.from × ((fs : List Signature) (ks : List Kind) → call_forms (scope_with fs ks l.scope.visible.variables (loops_of l.scope.visible.loops l.scope.lows.now l.scope.highs.now)) l.parent l.m (map read_argument (fields_at l.program l.at l.to)) ≡ (call_forms (scope_with fs ks l.scope.visible.variables (loops_of l.scope.visible.loops l.scope.lows.now l.scope.highs.now)) l.parent (l.m - l.i) (map read_argument (fields_at l.program l.from l.to)) >>= λ rest. good (forms_of l.i l.forms ++ rest)))

abbrev pub decreases-loop-i : goal.decreases-loop-i
decreases-loop-i l =
    l.m - l.i
