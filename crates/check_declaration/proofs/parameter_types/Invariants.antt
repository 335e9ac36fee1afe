-- `check_declaration::parameter_types` meets its contract. Assumes nothing.
use mathlib.Core.Path.{◌≡◌}
use mathlib.Core.List.{List, [], ◌++◌}
use Prim.Native.Nat.{◌+◌, ◌-◌, ◌≤◌}
use lib.ListN.{length}
use Rattle.language.specs.Read.{types_of}
use Rattle.language.specs.Check.{good, ◌>>=◌, Kind, Signature, kinds_of}
use Rattle.fields.specs.Header.{fields_at}
use Rattle.check_operand.specs.Tables.{scope_with, kinds_at}
use Rattle.check_call.specs.Calls.{formal_at}
use Rattle.check_index.specs.Answers.{Beyond}
use Rattle.check_declaration.specs.Types.{FormalsIn, Stays, InUse}
use Rattle.check_declaration.proofs.parameter_types.Given as goal

abbrev pub invariant-loop-j : goal.invariant-loop-j
invariant-loop-j l =
    (l.j ≤ l.count) × Stays (length l.program) l.first l.at l.registers l.initial.families l.initial.kinds l.initial.sizes l.families l.kinds l.sizes × Beyond l.program l.at l.to l.j l.from × InUse (l.first + l.j) l.registers l.from l.kinds × (l.from ≤ l.to) × FormalsIn l.from l.families l.kinds × ((fs : List Signature) (ks : List Kind) → kinds_of (scope_with fs ks l.m []) (types_of l.parent l.count (fields_at l.program l.at l.to)) ≡ (kinds_of (scope_with fs ks l.m []) (types_of l.parent (l.count - l.j) (fields_at l.program l.from l.to)) >>= λ rest. good (kinds_at (formal_at l.families l.kinds l.sizes) l.j l.first l.kinds l.sizes ++ rest)))

abbrev pub decreases-loop-j : goal.decreases-loop-j
decreases-loop-j l =
    l.count - l.j
