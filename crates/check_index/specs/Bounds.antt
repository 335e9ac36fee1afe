-- Two indexes in a row, and what the answer on them stands for.
use Rattle.std.specs.Prelude.{List, ℕ, ◌≤◌, ℤ, drop, Result, Ok, Err}
use Rattle.language.specs.Tree.{bad_index}
use Rattle.language.specs.Read.{Field, due, outer_index}
use Rattle.language.specs.Form.{Loop}
use Rattle.language.specs.Check.{Checked, good, refused, Scope, check_bounds}
use Rattle.forms.specs.Flat.{Kept, as_form}
use Rattle.refusals.specs.Reasons.{number_of}
use Rattle.refusals.specs.declared.Refusal.{Refusal}
use Rattle.check_index.specs.Answers.{Beyond}

-- what the answer on two indexes, with the two forms beside it, stands for
unfoldable pub checked_bounds : Result ℕ Refusal → List ℤ → List ℤ → Checked Loop
checked_bounds (Ok n) l h = good (record { low = as_form l; high = as_form h })
checked_bounds (Err e) l h = refused (number_of e.0) e.1

-- the two indexes that are due first of the fields in the field at p
abbrev pub bounds_due : Scope → ℕ → List Field → Checked Loop
bounds_due s p fs = check_bounds s (due outer_index (bad_index 4 p) fs) (due outer_index (bad_index 4 p) (drop 1 fs))

-- indexes that are right are the first two of the fields from `at` to `to`, and their forms are beside the answer
abbrev pub BoundsPass : List ℕ → ℕ → ℕ → Result ℕ Refusal → List ℤ → List ℤ → Type 0
BoundsPass program at to (Ok n) l h = Beyond program at to 2 n × Kept l × Kept h × (n ≤ to)
BoundsPass program at to (Err e) l h = Unit {0}
