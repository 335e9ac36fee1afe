-- What the tables say is declared.
use Rattle.std.specs.Prelude.{List, [], ℕ, ◌≤◌, ◌<◌, ℤ, length, get_or, drop, Result, Ok, Err}
use Rattle.language.specs.Limits.{longest_program, most_families, most_registers, most_wires, most_bits}
use Rattle.language.specs.Tree.{Place}
use Rattle.language.specs.Read.{Field, types_of, statements_by, outer_statement}
use Rattle.language.specs.Check.{Checked, good, refused, Kind, Declared, check_family}
use Rattle.check_operand.specs.Tables.{scope_with, kinds_at, tabulated}
use Rattle.check_operand.specs.declared.scope.Visible.{Visible}
use Rattle.check_call.specs.Calls.{formal_at, signature_at, FamilyRight}
use Rattle.check_program.specs.declared.SoFar.{SoFar}
use Rattle.refusals.specs.Reasons.{number_of}
use Rattle.refusals.specs.declared.Refusal.{Refusal}
use Rattle.check_declaration.specs.Types.{most_rows, OperandTable, InUse, FormalsIn, FamilyTable}
use Rattle.language.specs.Check as C

-- bytes of a program that is short
abbrev pub short_program : ℕ
short_program = 4_096

-- what the tables say is declared
abbrev pub declared_in : SoFar → List (List ℕ) → List ℕ → List (List ℤ) → Declared
declared_in t families kinds sizes = record
    { families = tabulated (signature_at families kinds sizes) t.families 0; registers = kinds_at (formal_at families kinds sizes) t.registers 0 kinds sizes; qubits = t.qubits; bits = t.bits }

-- what the tables hold before a place of a program of so many bytes is right: rows of parameters stand behind those of registers
pub record DeclaredRight (bytes at : ℕ) (t : SoFar) (families : List (List ℕ)) (kinds : List ℕ) (sizes : List (List ℤ)) : Type 0 where
  pub short : bytes ≤ longest_program
  pub table : OperandTable bytes kinds sizes
  pub used : InUse t.rows t.registers at kinds
  pub wide : length kinds ≤ most_rows
  pub long : FamilyTable families sizes
  pub families_fit : t.families ≤ most_families
  pub qubits_fit : t.qubits ≤ most_wires
  pub bits_fit : t.bits ≤ most_bits
  pub least_rows : most_registers ≤ t.rows
  pub each : (k : ℕ) → k < t.families → FamilyRight (get_or families k []) t.rows
  pub behind : (k : ℕ) → k < t.families → most_registers ≤ get_or (get_or families k []) 2 0
  pub rows_right : (k : ℕ) → k < most_families → FamilyRight (get_or families k []) (length kinds)
  pub taken : FormalsIn at families kinds

abbrev pub none_so_far : SoFar
none_so_far = record { families = 0; rows = most_registers; registers = 0; qubits = 0; bits = 0 }

-- the scope of rows of the tables, outside loops
abbrev pub scope_in : Visible → List (List ℕ) → List ℕ → List (List ℤ) → C.Scope
scope_in s families kinds sizes = scope_with (tabulated (signature_at families kinds sizes) s.families 0) (kinds_at (formal_at families kinds sizes) s.count s.first kinds sizes) s.variables []

-- what the answer on a top field, with the tables, stands for
unfoldable pub checked_step : Result SoFar Refusal → List (List ℕ) → List ℕ → List (List ℤ) → Checked Declared
checked_step (Ok t) families kinds sizes = good (declared_in t families kinds sizes)
checked_step (Err e) families kinds sizes = refused (number_of e.0) e.1

abbrev pub StepRight : (bytes next : ℕ) → Result SoFar Refusal → List (List ℕ) → List ℕ → List (List ℤ) → Type 0
StepRight bytes next (Ok t) families kinds sizes = DeclaredRight bytes next t families kinds sizes
StepRight bytes next (Err e) families kinds sizes = Unit {0}

-- the kinds of the parameters of the family at q with these fields, of m index variables and n parameters
abbrev pub family_in : Declared → Place → (m n : ℕ) → List Field → Checked (List Kind)
family_in d q m n fs = check_family d m (types_of q n fs) (statements_by outer_statement (drop n fs))
