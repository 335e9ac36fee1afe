-- What the showing of a form answers to C.
use Rattle.std.specs.Prelude.{List, [], ◌∷◌, Bool, true, false, cond, ◌&&◌, ℕ, zero, suc, ◌+◌, ◌≤◌, leb, ℤ}
use Rattle.language.specs.Limits.{all_variables}
use Rattle.language.specs.Form.{built, all_in_range, Showing, shown, not_shown, beyond_range, showing}
use Rattle.form_laws.specs.Settled.{gone_through}
use Rattle.form_laws.specs.Trials.{trials_made}
use Rattle.forms.specs.Flat.{Kept, as_form}
use Rattle.forms.specs.Rows.{Rows, loops_of}
use Rattle.showing.specs.declared.ShowingResult.{ShowingResult}

-- there are n forms at least, and every number of the first n is in range
unfoldable pub forms_in_range : ℕ → List (List ℤ) → Bool
forms_in_range zero l = true
forms_in_range (suc n) [] = false
forms_in_range (suc n) (f ∷ l) = all_in_range f && forms_in_range n l

-- the arguments are forms, of no more variables than there may be
unfoldable pub are_forms : (variables loops : ℕ) (f : List ℤ) (lows highs : List (List ℤ)) → Bool
are_forms variables loops f lows highs = leb (variables + loops) all_variables && all_in_range f && forms_in_range loops lows && forms_in_range loops highs

-- what a showing requires of them
pub record AreForms (variables loops : ℕ) (f : List ℤ) (lows highs : List (List ℤ)) : Type 0 where
  pub few : variables + loops ≤ all_variables
  pub form : Kept f
  pub low : Rows lows loops
  pub high : Rows highs loops

-- What a showing answers: its number, how many loop variables the plain rule went through, and how many trials were made.
pub record Answer : Type 0 where
  pub number : ℕ
  pub through : ℕ
  pub trials : ℕ

abbrev pub answered : ShowingResult → Answer
answered r = record { number = r.number; through = r.through; trials = r.trials }

unfoldable pub number_of : Showing → ℕ
number_of shown = 0
number_of not_shown = 12
number_of beyond_range = 11

-- the number where the arguments are no forms, which is no number of a refusal
abbrev pub no_forms : ℕ
no_forms = 255

-- the number and the counts of the showing, or that the arguments are no forms
unfoldable pub answer : (variables loops : ℕ) (f : List ℤ) (lows highs : List (List ℤ)) → Answer
answer variables loops f lows highs =
    let e = built (as_form f) in
    let ls = loops_of loops lows highs in
    cond (are_forms variables loops f lows highs)
    (record { number = number_of (showing variables ls e); through = gone_through variables ls e; trials = trials_made variables ls e })
    (record { number = no_forms; through = 0; trials = 0 })
