-- The table of families, the forms of a call, and its operands.
use Rattle.std.specs.Prelude.{List, [], ℕ, ◌+◌, ◌≤◌, ◌<◌, ℤ, length, get_or, Result, Ok, Err}
use Rattle.std.specs.Coded.{Unit-prop}
use Rattle.std.proofs.Math.Option.{Option, none, some}
use Rattle.language.specs.Limits.{most_families, most_variables}
use Rattle.language.specs.Tree.{Operand}
use Rattle.language.specs.Form.{Form}
use Rattle.language.specs.Check.{Checked, good, refused, ◌>>◌, Formal, Kind, Signature, taken, declared_before, check_operand}
use Rattle.forms.specs.Flat.{widened, as_form}
use Rattle.forms.specs.Rows.{ShortRows, forms_of}
use Rattle.kinds.specs.declared.Kind.TheVariants.{Qubit, Quantum, Classical, Family}
use Rattle.check_operand.specs.Tables.{Formals, Known, kind_of_row, size_of_row, tabulated, kinds_at}
use Rattle.check_operand.specs.declared.scope.Visible.{Visible}
use Rattle.refusals.specs.Reasons.{number_of}
use Rattle.refusals.specs.declared.Refusal.{Refusal}
use Rattle.kinds.specs.declared.Kind as K
use Rattle.language.specs.Check as C

-- what the answer on a call's m indexes, with the forms beside it, stands for
unfoldable pub checked_forms : Result ℕ Refusal → ℕ → List (List ℤ) → Checked (List Form)
checked_forms (Ok n) m l = good (forms_of m l)
checked_forms (Err e) m l = refused (number_of e.0) e.1

-- the size of a parameter of a kind and an own size, if it is a Qbit[I]
unfoldable pub plain_in : K.Kind → Form → Option Form
plain_in Qubit f = none
plain_in Quantum f = some f
plain_in Classical f = none
plain_in Family f = none

abbrev pub plain_by : (number : ℕ) → List (List ℤ) → Option Form
plain_by number sizes = plain_in (kind_of_row number) (as_form (widened (get_or sizes (size_of_row number) [])))

abbrev pub plains_at : (count first : ℕ) → List ℕ → List (List ℤ) → List (Option Form)
plains_at n i kinds sizes = tabulated (λ j. plain_by (get_or kinds j 0) sizes) n i

-- a row of the table of families: the number of index variables, that of parameters, and the first of their rows in the table of operands
abbrev pub formal_in : (row : List ℕ) → List ℕ → List (List ℤ) → Formal
formal_in row kinds sizes = record { variables = get_or row 0 0; sizes = plains_at (get_or row 1 0) (get_or row 2 0) kinds sizes }

abbrev pub signature_in : Formals → (row : List ℕ) → List ℕ → List (List ℤ) → Signature
signature_in formals row kinds sizes = record { variables = get_or row 0 0; parameters = kinds_at formals (get_or row 1 0) (get_or row 2 0) kinds sizes }

-- what the family parameter with the number x takes; its row is behind those of the families
abbrev pub formal_at : List (List ℕ) → List ℕ → List (List ℤ) → Formals
formal_at families kinds sizes x = formal_in (get_or families (most_families + x) []) kinds sizes

abbrev pub signature_at : List (List ℕ) → List ℕ → List (List ℤ) → ℕ → Signature
signature_at families kinds sizes k = signature_in (formal_at families kinds sizes) (get_or families k []) kinds sizes

abbrev pub known_in : List (List ℕ) → List ℕ → List (List ℤ) → Known
known_in families kinds sizes = record { declared = signature_at families kinds sizes; formals = formal_at families kinds sizes }

-- an operand of a call of a family with so many before it, for a parameter of a kind
unfoldable pub call_operand : C.Scope → (before : ℕ) → List Form → Kind → Operand → Checked (Unit {0})
call_operand s before forms k o = declared_before s before o >> check_operand s (taken forms k) o

-- the sizes that numbers in the table of operands name are right
pub record SizesRight (kinds : List ℕ) (sizes : List (List ℤ)) : Type 0 where
  pub rows : ShortRows sizes (length sizes)
  pub named : (j : ℕ) → size_of_row (get_or kinds j 0) < length sizes

-- a row of the table of families is right: few index variables, and rows of parameters within the table of operands
pub record FamilyRight (row : List ℕ) (rows : ℕ) : Type 0 where
  pub few : get_or row 0 0 ≤ most_variables
  pub inside : get_or row 2 0 + get_or row 1 0 ≤ rows

-- a Qbit or a Qbit[I]
abbrev pub IsPlain : K.Kind → Type 0
IsPlain Qubit = Unit {0}
IsPlain Quantum = Unit {0}
IsPlain Classical = ⊥
IsPlain Family = ⊥

pub plain_prop : (k : K.Kind) → IsProp (IsPlain k)
plain_prop Qubit = Unit-prop
plain_prop Quantum = Unit-prop
plain_prop Classical = λ x y. absurd x
plain_prop Family = λ x y. absurd x

-- every row of the table of families is right, a number in the table of operands has a row behind those of the families, and what a family parameter takes is plain
pub record FamilyRows (families : List (List ℕ)) (kinds : List ℕ) : Type 0 where
  pub enough : most_families ≤ length families
  pub each : (k : ℕ) → FamilyRight (get_or families k []) (length kinds)
  pub formals : (j : ℕ) → most_families + size_of_row (get_or kinds j 0) < length families
  pub plain : (x i : ℕ) → i < get_or (get_or families (most_families + x) []) 1 0 → IsPlain (kind_of_row (get_or kinds (get_or (get_or families (most_families + x) []) 2 0 + i) 0))

-- what the table of families holds is right
pub record FamiliesRight (s : Visible) (families : List (List ℕ)) (kinds : List ℕ) : Type 0 where
  pub few : s.families ≤ most_families
  pub rows : FamilyRows families kinds
