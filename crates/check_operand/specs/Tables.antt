-- The scope that the tables of operands and of loops stand for.
use Rattle.std.specs.Prelude.{List, [], ◌∷◌, ℕ, zero, suc, ◌+◌, ◌/◌, ◌%◌, ◌≤◌, ◌<◌, ℤ, length, get_or}
use Rattle.language.specs.Limits.{most_variables, most_loops}
use Rattle.language.specs.Form.{Form, Loop}
use Rattle.language.specs.Check.{Formal, Kind, qubit, quantum, classical, formal, Signature}
use Rattle.forms.specs.Flat.{widened, as_form}
use Rattle.forms.specs.Rows.{Rows, ShortRows}
use Rattle.kinds.specs.Numbers.{kind_with}
use Rattle.kinds.specs.declared.Kind.TheVariants.{Qubit, Quantum, Classical, Family}
use Rattle.check_operand.specs.declared.scope.Visible.{Visible}
use Rattle.kinds.specs.declared.Kind as K
use Rattle.language.specs.Check as C

-- what the numbers of family parameters in the tables stand for
abbrev pub Formals : Type 0
Formals = ℕ → Formal

-- and those of declared families beside them
pub record Known : Type 0 where
  pub declared : ℕ → Signature
  pub formals : Formals

-- a kind with its size, or with what a family parameter takes
unfoldable pub kind_in : K.Kind → Form → Formal → Kind
kind_in Qubit f g = qubit
kind_in Quantum f g = quantum f
kind_in Classical f g = classical f
kind_in Family f g = formal g

-- a number in the table of operands stands for a kind and for the row of a size or of a family parameter: it is four times that row, and the number of the kind
unfoldable pub kind_of_row : ℕ → K.Kind
kind_of_row number = kind_with (number % 4)

unfoldable pub size_of_row : ℕ → ℕ
size_of_row number = number / 4

abbrev pub kind_by : Formals → ℕ → List (List ℤ) → Kind
kind_by formals number sizes = kind_in (kind_of_row number) (as_form (widened (get_or sizes (size_of_row number) []))) (formals (size_of_row number))

abbrev pub kind_at : Formals → ℕ → List ℕ → List (List ℤ) → Kind
kind_at formals i kinds sizes = kind_by formals (get_or kinds i 0) sizes

-- so many rows from a first one on
unfoldable pub tabulated : {A : Type 0} → (ℕ → A) → (count first : ℕ) → List A
tabulated row zero i = []
tabulated row (suc n) i = row i ∷ tabulated row n (suc i)

abbrev pub kinds_at : Formals → (count first : ℕ) → List ℕ → List (List ℤ) → List Kind
kinds_at formals n i kinds sizes = tabulated (λ j. kind_at formals j kinds sizes) n i

-- a scope by its parts
abbrev pub scope_with : List Signature → List Kind → ℕ → List Loop → C.Scope
scope_with fs ks m ls = record { families = fs; operands = ks; variables = m; loops = ls; rules = C.all_rules }

-- what the tables hold is right
pub record TablesRight (s : Visible) (kinds : List ℕ) (sizes lows highs : List (List ℤ)) : Type 0 where
  pub few : s.variables ≤ most_variables
  pub nested : s.loops ≤ most_loops
  pub kind_rows : s.first + s.count ≤ length kinds
  pub size_rows : ShortRows sizes (length sizes)
  pub named : (j : ℕ) → size_of_row (get_or kinds j 0) < length sizes
  pub low_rows : Rows lows most_loops
  pub high_rows : Rows highs most_loops
