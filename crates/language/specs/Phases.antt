-- Computed examples of phases: their records, what the check shows of k, and the order of their ends.
use Rattle.std.specs.Prelude.{◌≡◌, refl, List, [], ◌∷◌, ◌++◌, true, ℕ, pos}
use Rattle.language.specs.Tree.{Index, literal, variable, operation, sum, difference, ended, element, bad_operand, Statement}
use Rattle.language.specs.Tree as T
use Rattle.language.specs.Machine as M
use Rattle.language.specs.Machine.{Outcome, stuck, wires, forward, always, run_statement, begin}
use Rattle.language.specs.Computed.{forming, machining}
use Rattle.language.specs.Calls.{Example, run, instance, all_hold, computed, field, lit, var, ◌plus◌, ◌minus◌, ◌times◌, at, bit, h, phase, cphase, reverse, for, qreg, creg, family, n, i, size, row, one, lent, gives, accepted, turned_down, nested}

-- q[0], q[1]
abbrev q₀ : List ℕ
q₀ = at (lit 0)

abbrev q₁ : List ℕ
q₁ = at (lit 1)

-- a k below 0
abbrev below : List ℕ
below = lit 0 minus lit 1

-- records, in both directions
records : List Example
records =
    gives (run (qreg 1 ++ phase (lit 3) q₀) 100 (lent 13)) 0 0 1 1 (row 7 0 0 3 ++ lent 1)
    ∷ gives (run (qreg 1 ++ reverse (phase (lit 3) q₀)) 100 (lent 12)) 0 0 1 2 (row 8 0 0 3)
    ∷ gives (run (qreg 2 ++ cphase (lit 2) (q₁ ++ q₀)) 100 (lent 12)) 0 0 1 1 (row 9 1 0 2)
    ∷ gives (run (qreg 2 ++ reverse (cphase (lit 2) (q₁ ++ q₀))) 100 (lent 12)) 0 0 1 2 (row 10 1 0 2)
    ∷ gives (run (qreg 2 ++ reverse (reverse (cphase (lit 2) (q₁ ++ q₀)))) 100 (lent 12)) 0 0 1 3 (row 9 1 0 2)
    ∷ gives (run (qreg 1 ++ creg 1 ++ field 6 (1 ∷ bit (lit 0) ++ phase (lit 1) q₀)) 100 (lent 12)) 0 0 1 2 (7 ∷ 2 ∷ 0 ∷ 0 ∷ 0 ∷ 0 ∷ 0 ∷ 0 ∷ 1 ∷ 0 ∷ 0 ∷ 0 ∷ [])
    -- the least k and the largest
    ∷ gives (run (qreg 1 ++ phase (lit 0) q₀ ++ phase (lit 63) q₀) 100 (lent 24)) 0 0 2 2 (row 7 0 0 0 ++ row 7 0 0 63)
    ∷ []

-- a product of n, for which 24 is met at large sizes, less itself
abbrev large : List ℕ
large = n times lit 40_000

-- a family of n and x:Qbit[1]: in the only round of a loop, cphase of x[0] with itself by another form
abbrev itself : List ℕ → List ℕ
itself k = family (lit 1) (for (lit 0) (lit 0) (cphase k (q₀ ++ at i)))

-- 26, 24, 25, 32, 27
ends : List Example
ends =
    accepted (qreg 1 ++ phase (lit 64) q₀)
    ∷ gives (run (qreg 1 ++ phase (lit 64) q₀) 100 (lent 12)) 32 5 0 1 (lent 12)
    ∷ gives (run (qreg 1 ++ h (lit 0) ++ reverse (phase (lit 65_535) q₀)) 100 (lent 12)) 32 20 1 3 (one 1 0)
    ∷ gives (run (qreg 1 ++ for (lit 0) (lit 0) (cphase (lit 64) (q₀ ++ at (var 0)))) 100 (lent 0)) 25 18 0 3 []
    ∷ gives (run (qreg 2 ++ cphase (lit 64) (q₀ ++ q₁)) 100 (lent 0)) 32 5 0 1 []
    ∷ gives (run (qreg 1 ++ phase (lit 63) q₀) 100 (lent 11)) 27 5 0 1 (lent 11)
    ∷ gives (run (qreg 1 ++ phase (lit 64) q₀) 0 (lent 0)) 26 5 0 0 []
    ∷ gives (instance (itself (large minus large)) 0 (size 60_000) 100 (lent 0)) 24 26 0 3 []
    ∷ gives (instance (itself (large minus large)) 0 (size 10) 100 (lent 0)) 25 26 0 3 []
    ∷ []

-- k is shown ≥ 0 at its own end, before the operands are read
showings : List Example
showings =
    turned_down (qreg 1 ++ phase below q₀) 12 8
    ∷ turned_down (qreg 1 ++ phase below (field 48 (9 ∷ []))) 12 8
    ∷ turned_down (qreg 1 ++ phase below []) 12 8
    ∷ turned_down (qreg 1 ++ cphase below (q₀ ++ q₀)) 12 8
    ∷ turned_down (qreg 1 ++ phase (lit 0) (field 48 (9 ∷ []))) 8 13
    ∷ turned_down (qreg 1 ++ phase (lit 0) (field 48 (0 ∷ []))) 9 13
    ∷ turned_down (qreg 1 ++ phase (lit 0) []) 4 5
    ∷ turned_down (qreg 1 ++ phase (lit 0) (q₀ ++ q₀)) 4 5
    ∷ turned_down (qreg 1 ++ cphase (lit 0) q₀) 4 5
    ∷ turned_down (qreg 1 ++ field 40 []) 4 5
    ∷ turned_down (qreg 1 ++ phase q₀ (lit 0)) 3 8
    ∷ turned_down (qreg 1 ++ phase (var 0) q₀) 8 8
    ∷ turned_down (nested 16 reverse (field 41 [])) 5 48
    ∷ accepted (family (n plus lit 1) (phase n q₀))
    ∷ turned_down (family (n plus lit 1) (phase (n minus lit 1) q₀)) 12 23
    ∷ accepted (family (n plus lit 1) (for (lit 1) n (phase (i minus lit 1) q₀)))
    ∷ []

-- the Fourier transform of x:Qbit[n]: for i=0..n-1 { h x[i]; for j=i+1..n-1 cphase j-i+1 x[j] x[i] }
abbrev fourier : List ℕ
fourier = for (lit 0) (n minus lit 1) (h i ++ for (i plus lit 1) (n minus lit 1) (cphase (var 2 minus i plus lit 1) (at (var 2) ++ at i)))

transforms : List Example
transforms =
    gives (instance (family n fourier) 0 (size 3) 100 (lent 72)) 0 0 6 16 (one 1 0 ++ row 9 1 0 2 ++ row 9 2 0 3 ++ one 1 1 ++ row 9 2 1 2 ++ one 1 2)
    ∷ gives (instance (family n (reverse fourier)) 0 (size 3) 100 (lent 72)) 0 0 6 17 (one 1 2 ++ row 10 2 1 2 ++ one 1 1 ++ row 10 2 0 3 ++ row 10 1 0 2 ++ one 1 0)
    ∷ []

records_hold : all_hold records ≡ true
unfolding computed records
records_hold = refl

ends_hold : all_hold ends ≡ true
unfolding computed ends
ends_hold = refl

showings_hold : all_hold showings ≡ true
unfolding computed showings
showings_hold = refl

transforms_hold : all_hold transforms ≡ true
unfolding computed transforms
transforms_hold = refl

-- ---- the machine without the check: a register of one wire, and n = 2,000,000,000

abbrev runs : Statement → Outcome (Unit {0})
runs x = run_statement 9 12 x [] (record { direction = forward; condition = always; variables = pos 2_000_000_000 ∷ []; operands = wires (record { number = 0 }) 1 ∷ [] }) begin

-- −1, and n + 1, which is out of range
abbrev negative : Index
negative = operation 0 difference (literal 0 0) (literal 0 1) ended

abbrev outside : Index
outside = operation 0 sum (variable 0 0 ended) (literal 0 1) ended

-- the machine's outcome: 1 for stuck, a number for an end
unfoldable number_of : Outcome (Unit {0}) → ℕ
number_of (M.going u s) = 0
number_of (M.ended k p s) = k
number_of stuck = 1

below_stuck : number_of (runs (T.phase 0 negative (element 0 0 (literal 0 0) ended) ended)) ≡ 1
unfolding machining forming number_of
below_stuck = refl

-- k before the operands
below_first : number_of (runs (T.phase 0 negative (element 0 0 outside ended) ended)) ≡ 1
unfolding machining forming number_of
below_first = refl

outside_first : number_of (runs (T.phase 0 outside (bad_operand 4 0) ended)) ≡ 24
unfolding machining forming number_of
outside_first = refl
