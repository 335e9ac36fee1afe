-- Computed showings that end early: the variables 1, 2 and 3 of three open loops after one family variable n.
use Rattle.std.specs.Prelude.{◌≡◌, refl, List, [], ◌∷◌, Bool, true, ◌&&◌, ℕ, eqb, pos, neg_ℤ}
use Rattle.language.specs.Form.{Built, built, out_of_range, Loop, Showing, shown, not_shown, beyond_range, plainly}
use Rattle.language.specs.Forms.{form, number, n, one, two, three, ◌to◌, same_showing}
use Rattle.language.specs.Computed.{forming}
use Rattle.form_laws.specs.Settled.{Settling, settling, gone_through}
use Rattle.form_laws.specs.Computed.{settlings}

-- loops stand innermost first
abbrev plain : List Loop
plain = (number 0 to n) ∷ (number 0 to n) ∷ (number 0 to n) ∷ []

-- the loop of 3 from 1, and from 2
abbrev from_one : List Loop
from_one = (one to n) ∷ (number 0 to n) ∷ (number 0 to n) ∷ []

abbrev from_two : List Loop
from_two = (two to n) ∷ (number 0 to n) ∷ (number 0 to n) ∷ []

-- the loops of 3, and of 2, from 1,500,000,000
abbrev far : List Loop
far = (number 1_500_000_000 to n) ∷ (number 0 to n) ∷ (number 0 to n) ∷ []

abbrev farther : List Loop
farther = (number 0 to n) ∷ (number 1_500_000_000 to n) ∷ (number 0 to n) ∷ []

record Example : Type 0 where
  loops : List Loop
  shows : Built
  gives : Settling

unfoldable same_settling : Settling → Settling → Bool
same_settling s t = same_showing s.answer t.answer && eqb s.through t.through

-- the scan that ends early, and the one that goes on with its number, each on its own
unfoldable all_hold : List Example → Bool
all_hold [] = true
all_hold (e ∷ es) =
    same_settling (settling 1 e.loops e.shows) e.gives
    && same_settling (record { answer = plainly 1 e.loops e.shows; through = gone_through 1 e.loops e.shows }) e.gives
    && all_hold es

abbrev example : List Loop → Built → Showing → ℕ → Example
example ls e s k = record { loops = ls; shows = e; gives = record { answer = s; through = k } }

abbrev examples : List Example
examples =
    -- no loops
    example [] (built (number 5)) shown 0
    ∷ example [] (built (form (pos 0) (neg_ℤ (pos 1)) (pos 0) (pos 0) (pos 0))) not_shown 0
    -- three loops: no loop variable, only the highest, only the middle one, only the lowest
    ∷ example plain (built n) shown 0
    ∷ example plain (built three) shown 1
    ∷ example plain (built two) shown 2
    ∷ example plain (built one) shown 3
    -- 3 and 1, not 2: gone through, not replaced
    ∷ example plain (built (form (pos 0) (pos 1) (pos 1) (pos 0) (neg_ℤ (pos 1)))) shown 3
    -- a replacement brings in a lower one: 3 from 1, and 3 from 2
    ∷ example from_one (built three) shown 3
    ∷ example from_two (built three) shown 2
    -- and takes one away: 3 − 1
    ∷ example from_one (built (form (pos 0) (pos 0) (neg_ℤ (pos 1)) (pos 0) (pos 1))) shown 1
    -- not shown
    ∷ example plain (built (form (pos 0) (pos 0) (pos 0) (neg_ℤ (pos 1)) (pos 0))) not_shown 2
    -- out of range on the way, at 3 with 1 still to come, and at 2
    ∷ example far (built (form (pos 0) (pos 0) (pos 1) (pos 0) (pos 2))) beyond_range 1
    ∷ example farther (built (form (pos 0) (pos 0) (pos 1) (pos 2) (pos 0))) beyond_range 2
    -- the same low form where it is not put in
    ∷ example far (built one) shown 3
    -- out of range before the scan
    ∷ example plain out_of_range beyond_range 0
    ∷ []

examples_hold : all_hold examples ≡ true
unfolding forming settlings same_showing same_settling all_hold
examples_hold = refl
