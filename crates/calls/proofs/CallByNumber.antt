-- A call of a family by its number, from the entry of its field. Assumes nothing.
use mathlib.Core.Path.{◌≡◌, ap, ◌∙◌}
use mathlib.Core.List.{List, []}
use mathlib.Core.Option.{some}
use Prim.Native.Nat.{ℕ, ◌+◌, ◌*◌, ◌<◌}
use lib.IntN.{ℤ}
use lib.ListN.{get_or, take}
use lib.Seq.{slice}
use Rattle.language.specs.Tree.{Place, call}
use Rattle.language.specs.Read.{read}
use Rattle.language.specs.Lookup.{family_in, declaration_of}
use Rattle.language.specs.Machine.{call_family, Meaning, Run, Direction, Condition, all_declared, run_statement, run_statements, step, ◌>>◌}
use Rattle.language.proofs.Families.{declaration_is, call_falls}
use Rattle.fields.specs.Table.{past_of}
use Rattle.operands.specs.Meanings.{frame_of}
use Rattle.std.specs.Prelude.{Result}
use Rattle.indexes.specs.declared.Fault.{Fault}
use Rattle.calls.specs.declared.Taken.{Taken}
use Rattle.calls.specs.Families.{FamilyHead, Entry, declared_at}
use Rattle.calls.specs.Arguments.{arguments_in, gathered_operands, arguments_told, Arguments}
use Rattle.calls.proofs.FamilyTable.{content_is}

pub head_of : {l : List ℕ} {k at : ℕ} → Entry l k at → FamilyHead l at
head_of e = record { long = e.long; within = e.within; variables = e.variables; parameters = e.parameters }

-- what the field of a family declares
pub declared_at_lem : (l : List ℕ) (k at : ℕ) → Entry l k at → family_in (read l) k ≡ some (declared_at l at)
declared_at_lem l k at e =
    e.declares ∙ ap (λ (c : List ℕ). declaration_of (at, c)) (content_is l at e.long e.within)
    ∙ declaration_is at (get_or l (at + 3) 0) (get_or l (at + 4) 0) (slice (at + 5) (past_of l at) l)

module _ (program : List ℕ) (k at seen : ℕ) (e : Entry program k at) (h : k < seen) where
  -- a call of the family, by its number, of which l are the arguments
  pub call_is : (l : List ℕ) (values : List ℤ) (ms : List Meaning) (sizes : List ℤ) (numbers : List ℕ) (r : Result Taken Fault) → Arguments l program at values ms sizes numbers r
      → (limit out : ℕ) (q t : Place) (d : Direction) (c : Condition)
      → run_statement limit out (call q k (arguments_in t l)) (take seen (all_declared limit out (read program) [])) (frame_of d c values ms)
      ≡ (step limit out q >> arguments_told q r (λ n. run_statements limit out (declared_at program at).body (take k (all_declared limit out (read program) []))
      (frame_of d c (take (get_or program (at + 3) 0) sizes) (gathered_operands (take (3 * n) numbers)))))
  unfolding call_family
  call_is l values ms sizes numbers r a limit out q t d c =
      call_falls limit out (read program) seen k q (arguments_in t l) (frame_of d c values ms) (declared_at program at) h (declared_at_lem program k at e)
      ∙ ap (λ (run : Run (Unit {0})). step limit out q >> run) (a.same q t d c limit out (take k (all_declared limit out (read program) [])))
