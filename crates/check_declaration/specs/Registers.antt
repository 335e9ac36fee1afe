-- The size of a register, and its row.
use Rattle.std.specs.Prelude.{List, ◌≡◌, ℕ, ◌+◌, ◌*◌, ◌≤◌, ◌<◌, get_or, ℤ, pos, Result, Ok, Err}
use Rattle.language.specs.Limits.{most_registers}
use Rattle.language.specs.Read.{register_size, register_end}
use Rattle.language.specs.Check.{Checked, good, refused, check_register}
use Rattle.language.specs.Form.{constant_form}
use Rattle.kinds.specs.declared.Kind.{Kind}
use Rattle.refusals.specs.Reasons.{number_of}
use Rattle.refusals.specs.declared.Refusal.{Refusal}
use Rattle.check_operand.specs.Tables.{Formals, kind_in, size_of_row, kind_at}
use Rattle.check_declaration.specs.Types.{InUse, Apart}

-- the size of the register at p with this content, after so many registers and qubits or bits, of which there may be at most so many
abbrev pub register_in : (p count total most : ℕ) → List ℕ → Checked ℕ
register_in p count total most content = check_register p count total most (register_size content) (register_end content)

-- what the answer on a register stands for: its size
unfoldable pub checked_register : Result ℕ Refusal → Checked ℕ
checked_register (Ok n) = good n
checked_register (Err e) = refused (number_of e.0) e.1

-- the row of a register, and that no other changes
pub record RegisterRow (bytes next size : ℕ) (kind : Kind) (count total most : ℕ) (kinds : List ℕ) (sizes : List (List ℤ)) (kinds' : List ℕ) (sizes' : List (List ℤ)) : Type 0 where
  pub room : count < most_registers
  pub fits : total + size ≤ most
  pub apart : Apart bytes count 1 kinds sizes kinds' sizes'
  pub used : (rows : ℕ) → 3 * rows ≤ 3 * most_registers + next → InUse rows (count + 1) next kinds'
  pub row : (formals : Formals) → kind_at formals count kinds' sizes' ≡ kind_in kind (constant_form (pos size)) (formals (size_of_row (get_or kinds' count 0)))

abbrev pub RegisterSet : (bytes next : ℕ) → Result ℕ Refusal → Kind → (count total most : ℕ) → List ℕ → List (List ℤ) → List ℕ → List (List ℤ) → Type 0
RegisterSet bytes next (Ok n) kind count total most kinds sizes kinds' sizes' = RegisterRow bytes next n kind count total most kinds sizes kinds' sizes'
RegisterSet bytes next (Err e) kind count total most kinds sizes kinds' sizes' = Unit {0}
