-- Forms and loops written down: what the examples of forms and showings are made of.
use Rattle.std.specs.Prelude.{◌∷◌, Bool, true, false, ℕ, ℤ, pos, take}
use Rattle.language.specs.Limits.{all_variables}
use Rattle.language.specs.Form.{Form, no_variables, Loop, Showing, shown, not_shown, beyond_range}

infix 40 ◌to◌
-- a constant, then the coefficients of n and of the loop variables 1, 2 and 3
abbrev pub form : ℤ → ℤ → ℤ → ℤ → ℤ → Form
form k n a b c = record { constant = k; coefficients = take all_variables (n ∷ a ∷ b ∷ c ∷ no_variables) }

abbrev pub number : ℕ → Form
number k = form (pos k) (pos 0) (pos 0) (pos 0) (pos 0)

-- the family variable, and the loop variables
abbrev pub n : Form
n = form (pos 0) (pos 1) (pos 0) (pos 0) (pos 0)

abbrev pub one : Form
one = form (pos 0) (pos 0) (pos 1) (pos 0) (pos 0)

abbrev pub two : Form
two = form (pos 0) (pos 0) (pos 0) (pos 1) (pos 0)

abbrev pub three : Form
three = form (pos 0) (pos 0) (pos 0) (pos 0) (pos 1)

abbrev pub ◌to◌ : Form → Form → Loop
f to g = record { low = f; high = g }

unfoldable pub same_showing : Showing → Showing → Bool
same_showing shown shown = true
same_showing shown not_shown = false
same_showing shown beyond_range = false
same_showing not_shown shown = false
same_showing not_shown not_shown = true
same_showing not_shown beyond_range = false
same_showing beyond_range shown = false
same_showing beyond_range not_shown = false
same_showing beyond_range beyond_range = true
