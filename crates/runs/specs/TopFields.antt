-- What the top fields that declare nothing do.
use Rattle.std.specs.Prelude.{ℕ, ◌+◌, ◌≤◌, pred, ◌≡◌, List, [], false, length, take, drop, get_or}
use Rattle.language.specs.Limits.{deepest, longest_program}
use Rattle.language.specs.Tree.{Place}
use Rattle.language.specs.Read.{fields, read, operand_due, read_statement, statements_by}
use Rattle.language.specs.Machine.{Run, Frame, Family, Globals, all_declared, run_if, run_statements}
use Rattle.operands.specs.Meanings.{registers_of}
use Rattle.records.specs.declared.Condition.{Condition}
use Rattle.records.specs.declared.Condition.TheVariants.{Always}
use Rattle.gates.specs.declared.Mode.{Mode}

-- what statements at the top see: so many families, and the registers of a table
abbrev pub globals_in : (limit room : ℕ) → (program : List ℕ) → (seen : ℕ) → (regs : List ℕ) → (qubits bits : ℕ) → Globals
globals_in limit room program seen regs qubits bits = record
    { families = take seen (all_declared limit room (read program) []); registers = registers_of regs; qubits = qubits; bits = bits }

-- how statements at the top, or those of a family with so many values, and those under a condition are run
abbrev pub top_mode : (limit seen many : ℕ) → Mode
top_mode limit seen many = record { limit = limit; families_visible = seen; levels = deepest; variables = many; reversed = false; condition = Always }

abbrev pub under_mode : (limit seen : ℕ) → Condition → Mode
under_mode limit seen c = record { limit = limit; families_visible = seen; levels = pred deepest; variables = 0; reversed = false; condition = c }

-- the if with the content l, whose step is taken
abbrev pub if_at : (limit room : ℕ) → Place → (l : List ℕ) → List Family → Frame → Run (Unit {0})
if_at limit room p l fs f =
    let parts = fields (p + 4) (drop 1 l) in
    run_if limit room p (get_or l 0 0) (operand_due p 0 parts) (λ g. run_statements limit room (statements_by (read_statement (pred deepest)) (drop 1 parts)) fs g) f

-- a whole field from `at` to `next`, in a program that is not too long
pub record WholeField (l : List ℕ) (at next : ℕ) : Type 0 where
  pub low : at + 3 ≤ next
  pub high : next ≤ length l
  pub short : length l ≤ longest_program

-- the content of an if: it begins with a value that a bit can have
pub record IfReady (l : List ℕ) : Type 0 where
  pub long : 1 ≤ length l
  pub value : get_or l 0 0 ≤ 1

-- the content of a field that declares nothing
pub record ActReady (tag : ℕ) (l : List ℕ) : Type 0 where
  pub apart : (tag ≡ 1 → ⊥) × (tag ≡ 2 → ⊥) × (tag ≡ 3 → ⊥)
  pub ready : tag ≡ 6 → IfReady l
