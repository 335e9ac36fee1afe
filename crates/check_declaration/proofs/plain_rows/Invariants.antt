-- `check_declaration::plain_rows` meets its contract. Assumes nothing.
use mathlib.Core.Path.{◌≡◌}
use mathlib.Core.List.{List, [], ◌++◌}
use Prim.Native.Nat.{◌+◌, ◌*◌, ◌-◌, ◌≤◌}
use lib.ListN.{length}
use Rattle.language.specs.Tree.{bad_type}
use Rattle.language.specs.Read.{read_plain, parts_of}
use Rattle.language.specs.Check.{good, ◌>>=◌, Kind, Signature, plain_kinds}
use Rattle.fields.specs.Header.{fields_at}
use Rattle.check_operand.specs.Tables.{Formals, scope_with, kinds_at}
use Rattle.check_index.specs.Answers.{Beyond}
use Rattle.check_declaration.specs.Types.{Apart, InUse, PlainRows}
use Rattle.check_declaration.proofs.plain_rows.Given as goal

abbrev pub invariant-loop-j : goal.invariant-loop-j
invariant-loop-j l =
    (l.j ≤ l.count) × Apart (length l.program) l.first l.count l.initial.kinds l.initial.sizes l.kinds l.sizes × Beyond l.program l.at l.to l.j l.from × InUse 0 l.registers l.from l.kinds × (l.from ≤ l.to) × (l.at + 3 * l.j ≤ l.from) × PlainRows l.j l.first l.kinds × ((fs : List Signature) (ks : List Kind) (g : Formals) → plain_kinds (scope_with fs ks l.m []) (parts_of read_plain (bad_type 4 l.parent) l.count (fields_at l.program l.at l.to)) ≡ (plain_kinds (scope_with fs ks l.m []) (parts_of read_plain (bad_type 4 l.parent) (l.count - l.j) (fields_at l.program l.from l.to)) >>= λ rest. good (kinds_at g l.j l.first l.kinds l.sizes ++ rest)))

abbrev pub decreases-loop-j : goal.decreases-loop-j
decreases-loop-j l =
    l.count - l.j
