-- Showings, computed: one family variable n, and loops of a from 0 to n and, inside it, of b from a to n.
use Rattle.std.specs.Prelude.{◌≡◌, refl, List, [], ◌∷◌, Bool, true, ◌&&◌, ℕ, eqb, ℤ, pos, negsuc, neg_ℤ, replicate}
use Rattle.language.specs.Computed.{forming}
use Rattle.form_laws.specs.Computed.{settlings, trying}
use Rattle.forms.specs.Flat.{as_form}
use Rattle.forms.specs.Rows.{loops_of}
use Rattle.showing.specs.Answers.{forms_in_range, are_forms, number_of, answer}

-- a constant, then the coefficients of n, a and b
abbrev form : ℤ → ℤ → ℤ → ℤ → List ℤ
form k n a b = k ∷ n ∷ a ∷ b ∷ replicate 9 (pos 0)

abbrev zeros : List ℤ
zeros = replicate 13 (pos 0)

abbrev n : List ℤ
n = form (pos 0) (pos 1) (pos 0) (pos 0)

abbrev a : List ℤ
a = form (pos 0) (pos 0) (pos 1) (pos 0)

abbrev b : List ℤ
b = form (pos 0) (pos 0) (pos 0) (pos 1)

-- the call under so many variables and loops, with these low and high forms, answers this number and these counts
called : (lows highs : List (List ℤ)) → (variables loops : ℕ) → List ℤ → (number through trials : ℕ) → Bool
called lows highs variables loops f number through trials =
    let r = answer variables loops f lows highs in
    eqb r.number number && eqb r.through through && eqb r.trials trials

gives : (variables loops : ℕ) → List ℤ → (number through trials : ℕ) → Bool
gives = called (zeros ∷ a ∷ []) (n ∷ n ∷ [])

-- n - k
abbrev less : ℕ → List ℤ
less k = form (neg_ℤ (pos k)) (pos 1) (pos 0) (pos 0)

-- a from 1 to n - 1, and b from 0 to 0
guarded : List ℤ → (number through trials : ℕ) → Bool
guarded = called (form (pos 1) (pos 0) (pos 0) (pos 0) ∷ zeros ∷ []) (less 1 ∷ zeros ∷ []) 1 2

examples : Bool
examples =
    gives 1 2 n 0 0 0
    && gives 1 2 a 0 2 0
    && gives 1 2 b 0 2 0
    -- n - b
    && gives 1 2 (form (pos 0) (pos 1) (pos 0) (negsuc 0)) 0 1 0
    -- n - 1, and b - 1
    && gives 1 2 (form (negsuc 0) (pos 1) (pos 0) (pos 0)) 12 0 2
    && gives 1 2 (form (negsuc 0) (pos 0) (pos 0) (pos 1)) 12 2 2
    -- n - 2 is shown by the range of a, after that of b; n - 3 by none
    && guarded (less 2) 0 0 2
    && guarded (less 3) 12 0 2
    -- a's coefficient is out of range once b is replaced by a
    && gives 1 2 (form (pos 0) (pos 0) (pos 2_000_000_000) (pos 1)) 11 1 0
    -- no forms: a number out of range, a loop too many, a variable too many
    && gives 1 2 (form (pos 2_000_000_001) (pos 0) (pos 0) (pos 0)) 255 0 0
    && gives 1 3 n 255 0 0
    && gives 11 2 n 255 0 0

examples_hold : examples ≡ true
unfolding forming settlings trying as_form loops_of forms_in_range are_forms number_of answer called gives guarded examples
examples_hold = refl
