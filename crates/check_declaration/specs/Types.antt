-- The rows of parameters, and what the answers on their types stand for.
use Rattle.std.specs.Prelude.{List, [], ◌≡◌, ℕ, ◌+◌, ◌*◌, ◌/◌, ◌≤◌, ◌<◌, ℤ, length, get_or, Result, Ok, Err}
use Rattle.language.specs.Limits.{most_families, most_registers, most_variables}
use Rattle.language.specs.Check.{Checked, good, refused, Kind, qubit, quantum}
use Rattle.forms.specs.Flat.{Kept, as_form}
use Rattle.forms.specs.Rows.{ShortRows}
use Rattle.check_index.specs.Answers.{PastField}
use Rattle.check_declaration.specs.declared.PlainType.{PlainType}
use Rattle.check_declaration.specs.declared.PlainType.TheVariants.{Single, Many}
use Rattle.refusals.specs.Reasons.{number_of}
use Rattle.refusals.specs.declared.Refusal.{Refusal}
use Rattle.kinds.specs.Numbers.{number_of as kind_number}
use Rattle.check_operand.specs.Tables.{Formals, kind_of_row, size_of_row, kind_at, kinds_at}
use Rattle.check_call.specs.Calls.{formal_at, IsPlain}
use Rattle.kinds.specs.declared.Kind as K

-- the row of the size that is declared at a place, after so many registers. A register takes 5 bytes and a type with a size 7 at least, so that each has a row of its own; the row 0 is nobody's.
-- A family type has the number of this row, too.
abbrev pub size_row : (at registers : ℕ) → ℕ
size_row at registers = 1 + (at + 2 * registers) / 7

-- the number in the table of operands for a kind whose size is in a row
abbrev pub row_number : K.Kind → (row : ℕ) → ℕ
row_number kind row = row * 4 + kind_number kind

-- the first row of the plain types of the family type at a place, in a table of so many rows: its upper half is theirs
abbrev pub plain_row : (rows at : ℕ) → ℕ
plain_row rows at = rows / 2 + 1 + at / 3

-- rows that a table of operands has at most, so that two bytes name each
abbrev pub most_rows : ℕ
most_rows = 65_535

-- what the answer on a type Qbit[I], with the form beside it, stands for
unfoldable pub checked_sized_type : Result ℕ Refusal → List ℤ → Checked Kind
checked_sized_type (Ok n) l = good (quantum (as_form l))
checked_sized_type (Err e) l = refused (number_of e.0) e.1

-- what the answer on a plain type, with the form beside it, stands for
unfoldable pub checked_type : Result PlainType Refusal → List ℤ → Checked Kind
checked_type (Ok (Single n)) l = good qubit
checked_type (Ok (Many n)) l = good (quantum (as_form l))
checked_type (Err e) l = refused (number_of e.0) e.1

abbrev pub TypePasses : List ℕ → ℕ → ℕ → Result PlainType Refusal → List ℤ → Type 0
TypePasses program at to (Ok (Single n)) l = PastField program at to n
TypePasses program at to (Ok (Many n)) l = PastField program at to n × Kept l × (at + 7 ≤ n)
TypePasses program at to (Err e) l = Unit {0}

-- tables for what so many bytes can declare: in the lower half a row for each register and for each type, which takes 3 bytes at least, and one for each size
pub record OperandTable (bytes : ℕ) (kinds : List ℕ) (sizes : List (List ℤ)) : Type 0 where
  pub kinds_long : 3 * most_registers + bytes < 3 * (length kinds / 2)
  pub sizes_long : size_row bytes most_registers < length sizes
  pub size_rows : ShortRows sizes (length sizes)

-- the rows that are in use before a place: so many of operands, and those of the sizes that they name
pub record InUse (rows registers at : ℕ) (kinds : List ℕ) : Type 0 where
  pub few : 3 * rows ≤ 3 * most_registers + at
  pub few_registers : registers ≤ most_registers
  pub named : (j : ℕ) → size_of_row (get_or kinds j 0) < size_row at registers

-- those in use after a part that is right: before its end, and before a place behind it
abbrev pub InUseAfter : (rows registers : ℕ) → Result ℕ Refusal → List ℕ → Type 0
InUseAfter rows registers (Ok n) kinds = InUse rows registers n kinds
InUseAfter rows registers (Err e) kinds = Unit {0}

abbrev pub InUseBefore : (rows registers to : ℕ) → Result ℕ Refusal → List ℕ → Type 0
InUseBefore rows registers to (Ok n) kinds = InUse rows registers to kinds
InUseBefore rows registers to (Err e) kinds = Unit {0}

-- tables whose rows are as before, but for so many from a first one on
pub record Apart (bytes first count : ℕ) (kinds : List ℕ) (sizes : List (List ℤ)) (kinds' : List ℕ) (sizes' : List (List ℤ)) : Type 0 where
  pub table : OperandTable bytes kinds' sizes'
  pub kinds_same : length kinds' ≡ length kinds
  pub sizes_same : length sizes' ≡ length sizes
  pub below : (j : ℕ) → j < first → get_or kinds' j 0 ≡ get_or kinds j 0
  pub above : (j : ℕ) → first + count ≤ j → get_or kinds' j 0 ≡ get_or kinds j 0
  pub kinds_below : (formals : Formals) (j : ℕ) → j < first → kind_at formals j kinds' sizes' ≡ kind_at formals j kinds sizes
  pub kinds_above : (formals : Formals) (j : ℕ) → first + count ≤ j → kind_at formals j kinds' sizes' ≡ kind_at formals j kinds sizes

-- what the answer on a parameter, with its row, stands for
unfoldable pub checked_row : Formals → Result ℕ Refusal → ℕ → List ℕ → List (List ℤ) → Checked Kind
checked_row formals (Ok n) row kinds sizes = good (kind_at formals row kinds sizes)
checked_row formals (Err e) row kinds sizes = refused (number_of e.0) e.1

-- what the answer on parameters, with their rows, stands for
unfoldable pub checked_rows : Formals → Result ℕ Refusal → (count first : ℕ) → List ℕ → List (List ℤ) → Checked (List Kind)
checked_rows formals (Ok n) count first kinds sizes = good (kinds_at formals count first kinds sizes)
checked_rows formals (Err e) count first kinds sizes = refused (number_of e.0) e.1

-- so many rows from a first one on are plain
abbrev pub PlainRows : (count first : ℕ) → List ℕ → Type 0
PlainRows count first kinds = (i : ℕ) → i < count → IsPlain (kind_of_row (get_or kinds (first + i) 0))

abbrev pub PlainAfter : Result ℕ Refusal → (count first : ℕ) → List ℕ → Type 0
PlainAfter (Ok n) count first kinds = PlainRows count first kinds
PlainAfter (Err e) count first kinds = Unit {0}

-- so many types take 3 bytes each, and are in the field
abbrev pub TypesWithin : (at to count : ℕ) → Result ℕ Refusal → Type 0
TypesWithin at to count (Ok n) = (at + 3 * count ≤ n) × (n ≤ to)
TypesWithin at to count (Err e) = Unit {0}

-- a row of what a family parameter takes is right: few index variables, and plain types in rows of the upper half, before a row
pub record FormalRight (row : List ℕ) (before : ℕ) (kinds : List ℕ) : Type 0 where
  pub few : get_or row 0 0 ≤ most_variables
  pub inside : get_or row 2 0 + get_or row 1 0 ≤ length kinds
  pub low : (i : ℕ) → i < get_or row 1 0 → length kinds / 2 ≤ get_or row 2 0 + i
  pub high : (i : ℕ) → i < get_or row 1 0 → get_or row 2 0 + i < before
  pub plain : PlainRows (get_or row 1 0) (get_or row 2 0) kinds

-- all of them are right, with rows before the one of a family type at a place
abbrev pub FormalsIn : (at : ℕ) → List (List ℕ) → List ℕ → Type 0
FormalsIn at families kinds = (x : ℕ) → FormalRight (get_or families (most_families + x) []) (plain_row (length kinds) at) kinds

abbrev pub FormalsAfter : Result ℕ Refusal → List (List ℕ) → List ℕ → Type 0
FormalsAfter (Ok n) families kinds = FormalsIn n families kinds
FormalsAfter (Err e) families kinds = Unit {0}

abbrev pub FormalsBefore : (to : ℕ) → Result ℕ Refusal → List (List ℕ) → List ℕ → Type 0
FormalsBefore to (Ok n) families kinds = FormalsIn to families kinds
FormalsBefore to (Err e) families kinds = Unit {0}

-- the table of families has a row behind those of the families for each row of a size
abbrev pub FamilyTable : List (List ℕ) → List (List ℤ) → Type 0
FamilyTable families sizes = most_families + length sizes ≤ length families

-- what was in the tables before a place, after so many registers, stays: rows of operands before a first one, families, and what family parameters take
pub record Stays (bytes first at registers : ℕ) (families : List (List ℕ)) (kinds : List ℕ) (sizes : List (List ℤ)) (families' : List (List ℕ)) (kinds' : List ℕ) (sizes' : List (List ℤ)) : Type 0 where
  pub table : OperandTable bytes kinds' sizes'
  pub families_same : length families' ≡ length families
  pub kinds_same : length kinds' ≡ length kinds
  pub sizes_same : length sizes' ≡ length sizes
  pub declared : (k : ℕ) → k < most_families → get_or families' k [] ≡ get_or families k []
  pub below : (formals : Formals) (j : ℕ) → j < first → kind_at formals j kinds' sizes' ≡ kind_at formals j kinds sizes
  pub numbers : (j : ℕ) → j < first → get_or kinds' j 0 ≡ get_or kinds j 0
  pub taken : (x : ℕ) → x < size_row at registers → formal_at families' kinds' sizes' x ≡ formal_at families kinds sizes x
