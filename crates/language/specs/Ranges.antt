-- Computed examples of showings by a loop's range: a body runs only where the range of each loop around it is not empty.
use Rattle.std.specs.Prelude.{◌≡◌, refl, List, [], ◌∷◌, ◌++◌, true, ℕ}
use Rattle.language.specs.Rules.{no_ranges, check_program_by}
use Rattle.language.specs.Result.{verdict}
use Rattle.language.specs.Result as R
use Rattle.language.specs.Calls.{instance, Example, all_hold, computed, field, lit, var, ◌plus◌, ◌minus◌, ◌times◌, at, h, t, phase, reverse, for, qreg, family, n, i, L, size, lent, one, gives, accepted, turned_down, family₂, call, from}

-- for i=1..n-1 around a body
abbrev guarded : List ℕ → List ℕ
guarded body = for (lit 1) (n minus lit 1) body

-- the same in a family of x:Qbit[n]
abbrev F : List ℕ → List ℕ
F body = family n (guarded body)

-- 1,800,000,000
abbrev large : List ℕ
large = lit 60_000 times lit 30_000

-- L on k wires with a slice of x
abbrev sliced : ℕ → List ℕ → List ℕ → List ℕ
sliced k first last = L ++ F (field 36 (0 ∷ lit k ++ from first last))

programs : List Example
programs =
    -- x[0] is there in every round: no round at n=1, one at n=2, two at n=3, and backwards
    accepted (F (h (lit 0)))
    ∷ gives (instance (F (h (lit 0))) 0 (size 1) 100 (lent 12)) 0 0 0 1 (lent 12)
    ∷ gives (instance (F (h (lit 0))) 0 (size 2) 100 (lent 12)) 0 0 1 3 (one 1 0)
    ∷ gives (instance (F (t (lit 0))) 0 (size 3) 100 (lent 24)) 0 0 2 5 (one 2 0 ++ one 2 0)
    ∷ gives (instance (family n (reverse (guarded (t (lit 0))))) 0 (size 3) 100 (lent 24)) 0 0 2 6 (one 3 0 ++ one 3 0)
    -- so is x[1]; x[2] may not be
    ∷ accepted (F (h (lit 1)))
    ∷ turned_down (F (h (lit 2))) 12 35
    -- the range of an outer loop
    ∷ accepted (F (for (lit 0) (lit 0) (h (lit 0))))
    ∷ accepted (F (for (lit 0) (var 1) (for (lit 0) (lit 0) (h (lit 0)))))
    -- outside the loop there is none
    ∷ turned_down (family n (guarded [] ++ h (lit 0))) 12 35
    -- one loop at a time: for i=1..n, for j=1..k, x:Qbit[n+k], x[1] is not shown
    ∷ turned_down (family₂ (n plus i) (for (lit 1) n (for (lit 1) i (h (lit 1))))) 12 46
    -- what was hidden behind a 12: a later 12, and a later 3
    ∷ turned_down (F (h (lit 0) ++ h (lit 2))) 12 47
    ∷ turned_down (F (h (lit 0) ++ field 7 [])) 3 44
    -- a number out of range fails its trial only: an inner loop from −1,800,000,000 to 1,800,000,000
    ∷ accepted (F (for (lit 0 minus large) large (h (lit 0))))
    ∷ turned_down (family n (for (lit 0 minus large) large (h (lit 0)))) 12 52
    -- what the plain rule finds out of range stays 11: for i=P..P, for j=0..2i, q[2i]
    ∷ turned_down (qreg 1 ++ for large large (for (lit 0) (lit 2 times var 0) (h (lit 2 times var 0)))) 11 57
    -- each kind of showing: an element's index, a size and a register of a call, k, a slice's first, room, size, and that it is large enough
    ∷ accepted (F (h (n minus lit 2)))
    ∷ turned_down (F (h (n minus lit 3))) 12 35
    ∷ accepted (L ++ F (call 0 (n minus lit 2)))
    ∷ turned_down (L ++ F (call 0 (n minus lit 3))) 12 79
    ∷ accepted (L ++ F (call 0 (lit 2)))
    ∷ turned_down (L ++ F (call 0 (lit 3))) 12 84
    ∷ accepted (F (phase (n minus lit 2) (at (lit 0))))
    ∷ turned_down (F (phase (n minus lit 3) (at (lit 0)))) 12 35
    ∷ accepted (sliced 2 (n minus lit 2) (n minus lit 1))
    ∷ turned_down (sliced 2 (n minus lit 3) (n minus lit 1)) 12 84
    ∷ accepted (sliced 2 (lit 0) (lit 1))
    ∷ turned_down (sliced 2 (lit 1) (lit 2)) 12 84
    ∷ accepted (sliced 0 (lit 2) (n minus lit 1))
    ∷ turned_down (sliced 0 (lit 3) (n minus lit 1)) 12 84
    ∷ accepted (sliced 2 (lit 0) (n minus lit 1))
    ∷ turned_down (sliced 2 (lit 1) (n minus lit 1)) 12 84
    ∷ []

programs_hold : all_hold programs ≡ true
unfolding computed programs
programs_hold = refl

-- the plain rule alone does not show x[0]
plain_unlike : verdict (check_program_by no_ranges (F (h (lit 0)))) ≡ R.turned_down 12 35
unfolding computed check_program_by
plain_unlike = refl
