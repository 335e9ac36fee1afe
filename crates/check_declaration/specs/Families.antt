-- The two numbers of a family or of a family type.
use Rattle.std.specs.Prelude.{List, [], ◌∷◌, ℕ, ◌+◌, ◌≤◌, Result, Ok, Err}
use Rattle.language.specs.Limits.{most_variables, most_parameters}
use Rattle.language.specs.Tree.{Place, Number, number, missing}
use Rattle.language.specs.Check.{Checked, good, refused, check_counts}
use Rattle.check_declaration.specs.declared.Counts.{Counts}
use Rattle.refusals.specs.Reasons.{number_of}
use Rattle.refusals.specs.declared.Refusal.{Refusal}

-- the first and the second number in the content
unfoldable pub first_in : List ℕ → Number
first_in [] = missing
first_in (m ∷ rest) = number m

unfoldable pub second_in : List ℕ → Number
second_in [] = missing
second_in (m ∷ []) = missing
second_in (m ∷ n ∷ rest) = number n

-- the two numbers of the field at p with this content
abbrev pub counts_in : Place → List ℕ → Checked (ℕ × ℕ)
counts_in p content = check_counts p (first_in content) (second_in content)

-- what an answer on them stands for
unfoldable pub checked_counts : Result Counts Refusal → Checked (ℕ × ℕ)
checked_counts (Ok c) = good (c.variables, c.parameters)
checked_counts (Err e) = refused (number_of e.0) e.1

-- the two numbers are within their limits, and stand in the field
abbrev pub BothRight : ℕ → ℕ → Result Counts Refusal → Type 0
BothRight at next (Ok c) = (c.variables ≤ most_variables) × (1 ≤ c.parameters) × (c.parameters ≤ most_parameters) × (at + 5 ≤ next)
BothRight at next (Err e) = Unit {0}
