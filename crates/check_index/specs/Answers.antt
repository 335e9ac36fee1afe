-- What the answers of the check stand for, and how far the fields are read then.
use Rattle.std.specs.Prelude.{◌≡◌, List, ℕ, ◌+◌, ◌≤◌, ℤ, drop, Result, Ok, Err}
use Rattle.language.specs.Form.{Form}
use Rattle.language.specs.Check.{Checked, good, refused}
use Rattle.fields.specs.Header.{fields_at}
use Rattle.forms.specs.Flat.{Kept, as_form}
use Rattle.refusals.specs.Reasons.{number_of}
use Rattle.refusals.specs.declared.Refusal.{Refusal}

-- what the answer on a part stands for
unfoldable pub checked_part : Result ℕ Refusal → Checked (Unit {0})
checked_part (Ok n) = good tt
checked_part (Err e) = refused (number_of e.0) e.1

-- a part that is right ends at `next`
abbrev pub EndsAt : ℕ → Result ℕ Refusal → Type 0
EndsAt next (Ok n) = n ≡ next
EndsAt next (Err e) = Unit {0}

-- what the answer on an index, with the form beside it, stands for
unfoldable pub checked_form : Result ℕ Refusal → List ℤ → Checked Form
checked_form (Ok n) l = good (as_form l)
checked_form (Err e) l = refused (number_of e.0) e.1

-- an index that is right ends at `next`, and its form is beside the answer
abbrev pub FormEndsAt : ℕ → Result ℕ Refusal → List ℤ → Type 0
FormEndsAt next (Ok n) l = (n ≡ next) × Kept l
FormEndsAt next (Err e) l = Unit {0}

-- past the first of the fields from `at` to `to`
pub record PastField (program : List ℕ) (at to next : ℕ) : Type 0 where
  pub rest : drop 1 (fields_at program at to) ≡ fields_at program next to
  pub low : at + 3 ≤ next
  pub high : next ≤ to

-- an index that is right is the first of the fields from `at` to `to`
abbrev pub FormPasses : List ℕ → ℕ → ℕ → Result ℕ Refusal → List ℤ → Type 0
FormPasses program at to (Ok n) l = PastField program at to n × Kept l
FormPasses program at to (Err e) l = Unit {0}

-- a part that is right is the first of them
abbrev pub Passes : List ℕ → ℕ → ℕ → Result ℕ Refusal → Type 0
Passes program at to (Ok n) = PastField program at to n
Passes program at to (Err e) = Unit {0}

-- past so many of the fields from `at` to `to`
pub record Beyond (program : List ℕ) (at to count next : ℕ) : Type 0 where
  pub rest : drop count (fields_at program at to) ≡ fields_at program next to
  pub low : at ≤ next

-- parts that are right are the first of them, so many
abbrev pub PassesCount : List ℕ → ℕ → ℕ → ℕ → Result ℕ Refusal → Type 0
PassesCount program at to count (Ok n) = Beyond program at to count n
PassesCount program at to count (Err e) = Unit {0}
