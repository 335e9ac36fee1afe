-- Computed showings by trials, and how many are made: the variables 1, 2 and 3 of three open loops after one family variable n.
use Rattle.std.specs.Prelude.{◌≡◌, refl, List, [], ◌∷◌, Bool, true, ◌&&◌, ℕ, eqb, pos, neg_ℤ}
use Rattle.language.specs.Form.{Form, Built, built, out_of_range, Loop, Showing, shown, not_shown, beyond_range, showing}
use Rattle.language.specs.Forms.{form, number, n, ◌to◌, same_showing}
use Rattle.language.specs.Computed.{forming}
use Rattle.form_laws.specs.Trials.{trials_made}
use Rattle.form_laws.specs.Computed.{trying}

-- n − k
abbrev less : ℕ → Form
less k = form (neg_ℤ (pos k)) (pos 1) (pos 0) (pos 0) (pos 0)

-- a loop from 1 to n − 1, which shows n − 1 ≥ 0, and one that does not
abbrev guard : Loop
guard = number 1 to less 1

abbrev once : Loop
once = number 0 to number 0

-- a loop from 1,900,000,000 to n, which shows n − 1,900,000,000 ≥ 0
abbrev far_guard : Loop
far_guard = number 1_900_000_000 to n

-- in these loops, innermost first, a form is answered so after so many trials
tries : List Loop → Built → Showing → ℕ → Bool
tries ls e s k = same_showing (showing 1 ls e) s && eqb (trials_made 1 ls e) k

counted : Bool
counted =
    -- no loops; by the plain rule; out of range by the plain rule
    tries [] (built (less 1)) not_shown 0
    && tries (once ∷ guard ∷ []) (built n) shown 0
    && tries (guard ∷ []) out_of_range beyond_range 0
    && tries ((number 1_500_000_000 to n) ∷ guard ∷ []) (built (form (pos 0) (pos 0) (pos 0) (pos 2) (pos 0))) beyond_range 0
    -- the innermost first, then outwards, ending at the first that shows it
    && tries (guard ∷ once ∷ once ∷ []) (built (less 1)) shown 1
    && tries (once ∷ guard ∷ once ∷ []) (built (less 1)) shown 2
    && tries (once ∷ once ∷ guard ∷ []) (built (less 1)) shown 3
    && tries (guard ∷ once ∷ guard ∷ []) (built (less 1)) shown 1
    && tries (once ∷ guard ∷ guard ∷ []) (built (less 1)) shown 2
    -- all, where none does
    && tries (once ∷ once ∷ once ∷ []) (built (less 1)) not_shown 3
    && tries (guard ∷ guard ∷ guard ∷ []) (built (less 3)) not_shown 3
    -- out of range in high − low, in e − (high − low), and once 2 is replaced: these trials fail, the later ones are made
    && tries ((form (neg_ℤ (pos 1_800_000_000)) (pos 0) (pos 0) (pos 0) (pos 0) to number 1_800_000_000) ∷ guard ∷ []) (built (less 1)) shown 2
    && tries ((number 0 to number 1_500_000_000) ∷ far_guard ∷ []) (built (less 1_900_000_000)) shown 2
    && tries ((number 0 to form (pos 0) (pos 0) (pos 0) (pos 2) (pos 0)) ∷ (number 0 to number 1_500_000_000) ∷ guard ∷ []) (built (less 1)) shown 3

counted_hold : counted ≡ true
unfolding forming trying same_showing tries counted
counted_hold = refl
