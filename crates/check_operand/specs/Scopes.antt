-- The scope of the definitions that the code's scope stands for, and the operands that bytes name there.
use Rattle.std.specs.Prelude.{◌≡◌, List, ℕ, ◌+◌, ◌<◌, get_or, Result, Ok, Err}
use Rattle.std.proofs.Math.Seq.{slice}
use Rattle.language.specs.Check as C
use Rattle.language.specs.Read.{read_whole, read_element, read_slice}
use Rattle.forms.specs.Rows.{loops_of}
use Rattle.refusals.specs.declared.Refusal.{Refusal}
use Rattle.check_index.specs.Answers.{checked_part}
use Rattle.check_operand.specs.Tables.{Known, tabulated, kinds_at, scope_with}
use Rattle.check_operand.specs.declared.scope.Visible.{Visible}
use Rattle.check_operand.specs.declared.scope.Scope.{Scope}

-- with what is known of families
abbrev pub scope_at : Known → Scope → C.Scope
scope_at k s =
    scope_with (tabulated k.declared s.visible.families 0) (kinds_at k.formals s.visible.count s.visible.first s.kinds.now s.sizes.now) s.visible.variables (loops_of s.visible.loops s.lows.now s.highs.now)

-- the row of the operand that the bytes past the header at `at` name, which is in scope
pub record InRow (s : Visible) (program : List ℕ) (at next row : ℕ) : Type 0 where
  pub there : at + 3 < next
  pub below : get_or program (at + 3) 0 < s.count
  pub row_is : row ≡ s.first + get_or program (at + 3) 0

-- they name none: this refuses a whole operand, an element and a slice
pub record Unnamed (s : Scope) (program : List ℕ) (at next : ℕ) (e : Refusal) : Type 0 where
  pub whole : (k : Known) (d : C.Due) → checked_part (Err e) ≡ C.check_operand (scope_at k s) d (read_whole at (slice (at + 3) next program))
  pub element : (k : Known) (d : C.Due) → checked_part (Err e) ≡ C.check_operand (scope_at k s) d (read_element at (slice (at + 3) next program))
  pub part : (k : Known) (d : C.Due) → checked_part (Err e) ≡ C.check_operand (scope_at k s) d (read_slice at (slice (at + 3) next program))

abbrev pub Names : Scope → List ℕ → (at next : ℕ) → Result ℕ Refusal → Type 0
Names s program at next (Ok row) = InRow s.visible program at next row
Names s program at next (Err e) = Unnamed s program at next e
