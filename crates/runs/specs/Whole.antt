-- What the tables of a whole run stand for.
use Rattle.std.specs.Prelude.{ℕ, ◌+◌, ◌*◌, ◌≤◌, ◌<◌, ◌≡◌, List, [], ◌∷◌, ◌++◌, map, Bool, true, false, length, take, get_or}
use Rattle.language.specs.Tree.{Top}
use Rattle.language.specs.Limits.{most_families, most_registers, most_wires, longest_program}
use Rattle.language.specs.Read.{read, read_top, two_bytes}
use Rattle.language.specs.Check.{Declared, check, good}
use Rattle.language.specs.Machine.{Meaning, wires, bits, Globals, Family, all_declared}
use Rattle.fields.specs.Header.{fields_at}
use Rattle.fields.specs.Table.{Listed}
use Rattle.records.specs.declared.State.{State}
use Rattle.language.specs.Lookup.{meaning}
use Rattle.operands.specs.Meanings.{the_wire, the_bit, registers_of}
use Rattle.calls.specs.Families.{declared_at}
use Rattle.runs.specs.declared.Totals.{Totals}

-- the top fields from a position on
abbrev pub tops_at : List ℕ → ℕ → List Top
tops_at l at = map read_top (fields_at l at (length l))

-- what is declared: the first families of the program, and the registers of the table
abbrev pub globals_of : (limit room : ℕ) → List ℕ → Totals → List ℕ → Globals
globals_of limit room l t regs = record
    { families = take t.families (all_declared limit room (read l) []); registers = registers_of (take (3 * t.registers) regs); qubits = t.qubits; bits = t.bits }

-- one family more
abbrev pub more_families : Totals → Totals
more_families t = record { families = t.families + 1; registers = t.registers; qubits = t.qubits; bits = t.bits }

-- the qubits or the bits so far
unfoldable pub total_of : (is_quantum : Bool) → Totals → ℕ
total_of true t = t.qubits
total_of false t = t.bits

unfoldable pub more_locations : (is_quantum : Bool) → Totals → ℕ → Totals
more_locations true t n = record { families = t.families; registers = t.registers + 1; qubits = t.qubits + n; bits = t.bits }
more_locations false t n = record { families = t.families; registers = t.registers + 1; qubits = t.qubits; bits = t.bits + n }

-- what a register stands for
unfoldable pub register_from : (is_quantum : Bool) → (first size : ℕ) → Meaning
register_from true first size = wires (the_wire first) size
register_from false first size = bits (the_bit first) size

-- the size that a register's content begins with
abbrev pub size_in : List ℕ → ℕ
size_in p = two_bytes (get_or p 0 0) (get_or p 1 0)

-- content that declares a register, after so many registers with so many qubits or bits
pub record RegisterRoom (p : List ℕ) (count total : ℕ) : Type 0 where
  pub long : 2 ≤ length p
  pub few : count < most_registers
  pub fits : total + size_in p ≤ most_wires

-- a program that the check accepts, and that is no longer than a program may be
pub record Acceptable (l : List ℕ) : Type 0 where
  pub declares : Declared
  pub accepted : check (read l) ≡ good declares
  pub short : length l ≤ longest_program

-- the content of a field that declares something
pub record DeclareReady (tag : ℕ) (p : List ℕ) (t : Totals) : Type 0 where
  pub least : 1 ≤ tag
  pub most : tag ≤ 3
  pub family : tag ≡ 1 → t.families < most_families
  pub quantum : tag ≡ 2 → RegisterRoom p t.registers t.qubits
  pub classical : tag ≡ 3 → RegisterRoom p t.registers t.bits

-- the tables with one register more
abbrev pub OneMore : (is_quantum : Bool) → (p : List ℕ) → Totals → (regs regs' : List ℕ) → Totals → Type 0
OneMore b p t regs regs' r = (r ≡ more_locations b t (size_in p))
    × (registers_of (take (3 * (t.registers + 1)) regs') ≡ registers_of (take (3 * t.registers) regs) ++ (register_from b (total_of b t) (size_in p) ∷ []))

-- what the field declares, by its tag
pub record Declares (tag : ℕ) (p : List ℕ) (t : Totals) (regs regs' : List ℕ) (r : Totals) : Type 0 where
  pub family : tag ≡ 1 → (r ≡ more_families t) × (regs' ≡ regs)
  pub quantum : tag ≡ 2 → OneMore true p t regs regs' r
  pub classical : tag ≡ 3 → OneMore false p t regs regs' r

-- whether a tag declares something
pub record DeclaringTag (tag : ℕ) (r : Bool) : Type 0 where
  pub yes : r ≡ true → (1 ≤ tag) × (tag ≤ 3)
  pub no : r ≡ false → (tag ≡ 1 → ⊥) × (tag ≡ 2 → ⊥) × (tag ≡ 3 → ⊥)

-- a table that holds all families of a program
pub record FullTable (l table : List ℕ) : Type 0 where
  pub count : ℕ
  pub listed : Listed l table count
  pub long : length table ≡ most_families

-- nothing is written yet, and no step is taken
abbrev pub started : State
started = record { written = 0; steps = 0 }

-- the family k of a program, whose field is at `at`, as the machine knows it
abbrev pub family_with : (limit room : ℕ) → List ℕ → (k at : ℕ) → Family
family_with limit room l k at = meaning limit room (take k (all_declared limit room (read l) [])) (declared_at l at)
