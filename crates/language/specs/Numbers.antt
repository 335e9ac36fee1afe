-- A computed example for each number that a call answers, with its place.
use Rattle.std.specs.Prelude.{◌≡◌, refl, List, [], ◌∷◌, ◌++◌, true, ℕ, replicate}
use Rattle.language.specs.Calls.{instance, run, Example, all_hold, computed, field, lit, var, ◌plus◌, ◌minus◌, ◌times◌, at, h, cx, phase, reverse, for, qreg, family, n, L, size, lent, row, one, gives, accepted, turned_down, call, creg, nested}

-- 2,000,000,000, the largest number of a form and of an index value
abbrev pub furthest_index : List ℕ
furthest_index = lit 40_000 times lit 50_000

-- turned down for the input: by the check, before the machine
for_input : List Example
for_input =
    -- 1: 65,536 bytes
    turned_down (replicate 65_536 255) 1 0
    -- 2: one byte left for a header; content past the end
    ∷ turned_down (qreg 1 ++ (32 ∷ [])) 2 5
    ∷ turned_down (qreg 1 ++ (32 ∷ 1 ∷ 0 ∷ [])) 2 5
    -- 3: the tag 7 at the top
    ∷ turned_down (qreg 1 ++ field 7 []) 3 5
    -- 4: an operand is due; a byte is left over
    ∷ turned_down (qreg 1 ++ field 32 []) 4 5
    ∷ turned_down (qreg 1 ++ field 32 (at (lit 0) ++ (0 ∷ []))) 4 5
    -- 5: a gate within 16 fields
    ∷ turned_down (qreg 1 ++ nested 16 reverse (h (lit 0))) 5 53
    ∷ accepted (qreg 1 ++ nested 15 reverse (h (lit 0)))
    -- 6: five index variables; no parameter; a ninth open loop
    ∷ turned_down (qreg 1 ++ field 1 (5 ∷ 1 ∷ field 16 [])) 6 5
    ∷ turned_down (qreg 1 ++ field 1 (0 ∷ 0 ∷ [])) 6 5
    ∷ turned_down (nested 9 (for (lit 0) (lit 0)) []) 6 104
    ∷ accepted (nested 8 (for (lit 0) (lit 0)) [])
    -- 7: 65,536 qubits; 65,536 bits
    ∷ turned_down (qreg 65_535 ++ qreg 1) 7 5
    ∷ turned_down (creg 65_535 ++ creg 1) 7 5
    ∷ accepted (qreg 65_535 ++ creg 65_535)
    -- 8: no such operand, index variable, family
    ∷ turned_down (h (lit 0)) 8 3
    ∷ turned_down (qreg 1 ++ h (var 0)) 8 12
    ∷ turned_down (qreg 1 ++ call 0 []) 8 5
    -- 9: a bit where a wire is due
    ∷ turned_down (creg 1 ++ h (lit 0)) 9 8
    -- 10: n · n
    ∷ turned_down (family n (h (n times n))) 10 19
    -- 11: 60,000 · 60,000
    ∷ turned_down (qreg 1 ++ h (lit 60_000 times lit 60_000)) 11 12
    -- 12: an element past the register's end
    ∷ turned_down (qreg 1 ++ h (lit 1)) 12 8
    -- 13: a condition on the value 2
    ∷ turned_down (creg 1 ++ field 6 (2 ∷ at (lit 0))) 13 5
    -- 31: a two-byte family number that fits into one byte
    ∷ turned_down (qreg 1 ++ field 39 (255 ∷ 0 ∷ [])) 31 5
    -- 33: the family called is passed to itself
    ∷ turned_down (field 1 (0 ∷ 1 ∷ field 16 []) ++ field 36 (0 ∷ field 51 (0 ∷ 0 ∷ []))) 33 12
    -- 35: cx on q[0] and q[0]
    ∷ turned_down (qreg 1 ++ cx (lit 0) (lit 0)) 35 5
    ∷ []

-- turned down for the state: before the machine starts, or by the machine
for_state : List Example
for_state =
    -- 20: one family only
    gives (instance L 1 (size 0) 100 (lent 8)) 20 0 0 0 (lent 8)
    -- 21: no size for one index variable
    ∷ gives (instance L 0 [] 100 (lent 8)) 21 0 0 0 (lent 8)
    -- 22: the size 65,536
    ∷ gives (instance L 0 (0 ∷ 0 ∷ 1 ∷ 0 ∷ []) 100 (lent 8)) 22 0 0 0 (lent 8)
    -- 23: 80,000 wires; 65,536, and not 65,535
    ∷ gives (instance (family (n plus n) []) 0 (size 40_000) 100 (lent 8)) 23 5 0 0 (lent 8)
    ∷ gives (instance (family (n plus lit 1) []) 0 (size 65_535) 100 (lent 8)) 23 5 0 0 (lent 8)
    ∷ gives (instance (family (n plus lit 1) []) 0 (size 65_534) 100 (lent 8)) 0 0 0 0 (lent 8)
    -- 24: 60,000 · n at n = 65,535, as a parameter's size and as a loop's end
    ∷ gives (instance (family (n times lit 60_000) []) 0 (size 65_535) 100 (lent 8)) 24 5 0 0 (lent 8)
    ∷ gives (instance (family (n plus lit 1) (h (lit 0) ++ for (lit 0) (n times lit 60_000) [])) 0 (size 65_534) 100 (lent 13)) 24 32 1 2 (one 1 0 ++ lent 1)
    -- 2,000,000,000 and its negative are in range, and one more is not
    ∷ gives (instance (family n (for (furthest_index plus n) (furthest_index plus n) [])) 0 (size 0) 100 (lent 8)) 0 0 0 2 (lent 8)
    ∷ gives (instance (family n (for (furthest_index plus n) (furthest_index plus n) [])) 0 (size 1) 100 (lent 8)) 24 12 0 1 (lent 8)
    ∷ gives (instance (family n (for (lit 0 minus furthest_index minus n) (lit 0 minus furthest_index minus n) [])) 0 (size 0) 100 (lent 8)) 0 0 0 2 (lent 8)
    ∷ gives (instance (family n (for (lit 0 minus furthest_index minus n) (lit 0 minus furthest_index minus n) [])) 0 (size 1) 100 (lent 8)) 24 12 0 1 (lent 8)
    -- 25: both operands are one wire in the round i = 1
    ∷ gives (run (qreg 2 ++ h (lit 1) ++ for (lit 1) (lit 1) (cx (lit 1) (var 0))) 100 (lent 13)) 25 30 1 4 (one 1 1 ++ lent 1)
    -- 26: the third step
    ∷ gives (run (qreg 1 ++ h (lit 0) ++ h (lit 0) ++ h (lit 0)) 2 (lent 32)) 26 29 2 2 (one 1 0 ++ one 1 0 ++ lent 8)
    -- 27: eleven bytes left
    ∷ gives (run (qreg 1 ++ h (lit 0) ++ h (lit 0)) 100 (lent 23)) 27 17 1 2 (one 1 0 ++ lent 11)
    -- 32: k = 64, after the largest, 63
    ∷ gives (run (qreg 1 ++ phase (lit 63) (at (lit 0)) ++ phase (lit 64) (at (lit 0))) 100 (lent 24)) 32 22 1 2 (row 7 0 0 63 ++ lent 12)
    -- 34: a family whose parameter is a family
    ∷ gives (instance (field 1 (0 ∷ 1 ∷ field 18 (0 ∷ 1 ∷ field 16 []))) 0 [] 100 (lent 8)) 34 0 0 0 (lent 8)
    ∷ []

for_input_hold : all_hold for_input ≡ true
unfolding computed for_input
for_input_hold = refl

for_state_hold : all_hold for_state ≡ true
unfolding computed for_state
for_state_hold = refl
