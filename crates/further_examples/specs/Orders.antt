-- Which of two faults is the answer, and the edges of what is read: a computed program for each rule of the order within a field.
use Rattle.std.specs.Prelude.{◌≡◌, refl, List, [], ◌∷◌, ◌++◌, true, ℕ, replicate}
use Rattle.language.specs.Tree.{missing, family, nil}
use Rattle.language.specs.Check.{refused, Declared, check_top}
use Rattle.language.specs.Computed.{checking}
use Rattle.language.specs.Calls.{Example, run, all_hold, computed, field, lit, var, ◌plus◌, ◌minus◌, ◌times◌, at, h, phase, cphase, reverse, for, qreg, one, lent, gives, accepted, turned_down, family₂, call, creg, bit, nested, from}
use Rattle.language.specs.Numbers.{furthest_index}
use Rattle.language.specs.LongCalls.{gate}
use Rattle.language.specs.Passing.{whole, passed}

-- a family without index variables whose parameter is of this type
abbrev taking : List ℕ → List ℕ
taking type = field 1 (0 ∷ 1 ∷ type)

-- a call of the family 0 with this argument
abbrev calling : List ℕ → List ℕ
calling argument = field 36 (0 ∷ argument)

-- a family of a register of any size, 13 bytes, and one of a family of a Qbit, 13 bytes
abbrev of_register : List ℕ
of_register = taking (field 17 (lit 0))

abbrev of_family : List ℕ
of_family = taking (field 18 (0 ∷ 1 ∷ field 16 []))

-- a family of one index variable n and x:Qbit[n], 12 bytes
abbrev sized : List ℕ
sized = field 1 (1 ∷ 1 ∷ field 17 (var 0))

-- −1
abbrev below : List ℕ
below = lit 0 minus lit 1

-- 0 as an index of 16 levels, and of 17, whose last is 48 bytes on
abbrev sixteen : List ℕ
sixteen = nested 15 (λ i. i plus lit 0) (lit 0)

abbrev seventeen : List ℕ
seventeen = nested 16 (λ i. i plus lit 0) (lit 0)

orders : List Example
orders =
    -- 2 where a field is due and two bytes are left: an operand, an index
    turned_down (qreg 1 ++ field 32 (49 ∷ 6 ∷ [])) 2 8
    ∷ turned_down (qreg 1 ++ field 32 (field 49 (0 ∷ 64 ∷ 2 ∷ []))) 2 12
    -- 4 where a field is due and none is left, at the field that lacks it: an element without its index, a family without its type
    ∷ turned_down (qreg 1 ++ field 32 (field 49 (0 ∷ []))) 4 8
    ∷ turned_down (field 1 (0 ∷ 1 ∷ [])) 4 0
    -- 3 among a call's arguments
    ∷ turned_down (taking (field 16 []) ++ qreg 1 ++ calling (field 7 [])) 3 17
    -- the tag before the depth: of an index at level 17
    ∷ turned_down (qreg 1 ++ h (nested 16 (λ i. i plus lit 0) (field 7 []))) 3 60
    ∷ turned_down (qreg 1 ++ h (nested 16 (λ i. i plus lit 0) (lit 0))) 5 60
    ∷ accepted (qreg 1 ++ h (nested 15 (λ i. i plus lit 0) (lit 0)))
    -- statements in a conditional are at level 2
    ∷ turned_down (qreg 1 ++ creg 1 ++ field 6 (1 ∷ bit (lit 0) ++ nested 15 reverse (h (lit 0)))) 5 68
    ∷ accepted (qreg 1 ++ creg 1 ++ field 6 (1 ∷ bit (lit 0) ++ nested 14 reverse (h (lit 0))))
    -- 6: the 256th register, before its size is read
    ∷ accepted (nested 255 (λ rest. qreg 0 ++ rest) [])
    ∷ turned_down (nested 255 (λ rest. qreg 0 ++ rest) (field 3 [])) 6 1275
    -- 6 of m before p is due, and of a ninth loop before its bounds are
    ∷ turned_down (field 1 (5 ∷ [])) 6 0
    ∷ turned_down (nested 8 (for (lit 0) (lit 0)) (field 38 [])) 6 104
    -- numbers are tested before leftover bytes: 7, 8
    ∷ turned_down (qreg 65_535 ++ field 2 (1 ∷ 0 ∷ 0 ∷ [])) 7 5
    ∷ turned_down (qreg 1 ++ h (field 65 (0 ∷ 0 ∷ []))) 8 12
    -- 13 before the operand
    ∷ turned_down (field 6 (2 ∷ at (lit 0))) 13 0
    -- an index is typed at its own end, before the kind of its operand: 11, then 9
    ∷ turned_down (creg 1 ++ h (lit 60_000 times lit 60_000)) 11 12
    -- I ≥ 0 before size − 1 − I, which is out of range here; and so in a slice
    ∷ turned_down (qreg 2 ++ h (lit 0 minus furthest_index)) 12 8
    ∷ turned_down (taking (field 17 (lit 0)) ++ qreg 2 ++ calling (from (lit 0 minus lit 1) (lit 0 minus furthest_index))) 12 22
    -- size − 1 first, then I: size − I would leave the range; and last − first before 1 is added
    ∷ accepted (qreg 1 ++ for furthest_index furthest_index (h (var 0 minus furthest_index)))
    ∷ accepted (taking (field 17 (lit 1)) ++ qreg 1 ++ for furthest_index furthest_index (calling (from (furthest_index minus var 0) (furthest_index minus var 0))))
    ∷ []

orders_hold : all_hold orders ≡ true
unfolding computed orders
orders_hold = refl

-- what is due in a field, and what is left over in it
due : List Example
due =
    -- 65,535 bytes are not too long; two bytes are no header, whatever they are
    turned_down (replicate 65_535 255) 2 0
    ∷ turned_down (qreg 1 ++ (32 ∷ 0 ∷ [])) 2 5
    ∷ turned_down (reverse (32 ∷ [])) 2 3
    ∷ turned_down (taking (17 ∷ [])) 2 5
    ∷ turned_down (gate [] ++ qreg 1 ++ calling (49 ∷ [])) 2 17
    ∷ turned_down (sized ++ qreg 1 ++ calling (64 ∷ [])) 2 21
    -- a literal has two bytes, a variable one, an operation two indexes
    ∷ turned_down (qreg 1 ++ h (field 64 [])) 4 12
    ∷ turned_down (qreg 1 ++ h (field 64 (0 ∷ []))) 4 12
    ∷ turned_down (qreg 1 ++ h (field 64 (0 ∷ 0 ∷ 0 ∷ []))) 4 12
    ∷ turned_down (qreg 1 ++ h (field 65 [])) 4 12
    ∷ turned_down (qreg 1 ++ for (lit 0) (lit 0) (h (field 65 (0 ∷ 0 ∷ [])))) 4 25
    ∷ turned_down (qreg 1 ++ h (field 66 [])) 4 12
    ∷ turned_down (qreg 1 ++ h (field 66 (lit 0))) 4 12
    ∷ turned_down (qreg 1 ++ h (field 66 (lit 0 ++ lit 0 ++ lit 0))) 4 12
    -- an operand has its number, an element one index
    ∷ turned_down (field 32 (field 48 [])) 4 3
    ∷ turned_down (field 32 (field 49 [])) 4 3
    ∷ turned_down (qreg 1 ++ field 32 (field 49 (0 ∷ lit 0 ++ lit 0))) 4 8
    -- the parts of a for, cphase, measure, reset, conditional, register and family
    ∷ turned_down (field 38 []) 4 0
    ∷ turned_down (field 38 (lit 0)) 4 0
    ∷ turned_down (field 41 []) 4 0
    ∷ turned_down (qreg 1 ++ field 4 (at (lit 0))) 4 5
    ∷ turned_down (qreg 1 ++ creg 1 ++ field 4 (at (lit 0) ++ bit (lit 0) ++ bit (lit 0))) 4 10
    ∷ turned_down (qreg 1 ++ field 5 (at (lit 0) ++ at (lit 0))) 4 5
    ∷ turned_down (field 6 []) 4 0
    ∷ turned_down (field 6 (1 ∷ [])) 4 0
    ∷ turned_down (field 2 []) 4 0
    ∷ turned_down (field 2 (1 ∷ [])) 4 0
    ∷ turned_down (field 2 (1 ∷ 0 ∷ 0 ∷ [])) 4 0
    ∷ turned_down (field 1 []) 4 0
    ∷ turned_down (field 1 (0 ∷ [])) 4 0
    -- what is left over in a call is 4 at the call, whatever it is
    ∷ turned_down (gate [] ++ qreg 1 ++ calling (at (lit 0) ++ field 7 [])) 4 13
    ∷ turned_down (gate [] ++ qreg 1 ++ calling (at (lit 0) ++ (49 ∷ []))) 4 13
    ∷ []

-- which tags are allowed where: the neighbours of each table's first and last
tags : List Example
tags =
    -- at the top
    turned_down (field 0 []) 3 0
    ∷ turned_down (qreg 1 ++ field 31 (at (lit 0))) 3 5
    ∷ turned_down (qreg 1 ++ field 43 (0 ∷ [])) 3 5
    -- in a family, a reverse, a loop and a conditional: the fields of the top are not statements
    ∷ turned_down (gate (qreg 1)) 3 8
    ∷ turned_down (reverse (qreg 1)) 3 3
    ∷ turned_down (for (lit 0) (lit 0) (qreg 1)) 3 13
    ∷ turned_down (creg 1 ++ field 6 (1 ∷ at (lit 0) ++ qreg 1)) 3 18
    -- past the deepest statement: a bad header and the tag come before the depth
    ∷ turned_down (nested 16 reverse (32 ∷ [])) 2 48
    ∷ turned_down (nested 16 reverse (field 31 [])) 3 48
    ∷ turned_down (nested 16 reverse (qreg 1)) 3 48
    -- a type
    ∷ turned_down (taking (field 15 [])) 3 5
    ∷ turned_down (taking (field 19 [])) 3 5
    -- an operand
    ∷ turned_down (qreg 1 ++ field 32 (field 47 (0 ∷ []))) 3 8
    ∷ turned_down (qreg 1 ++ field 32 (field 52 (0 ∷ 0 ∷ []))) 3 8
    ∷ turned_down (qreg 1 ++ field 32 (lit 0)) 3 8
    -- an index, and one past the deepest
    ∷ turned_down (qreg 1 ++ h (field 63 (0 ∷ 0 ∷ []))) 3 12
    ∷ turned_down (qreg 1 ++ h (field 69 (0 ∷ 0 ∷ []))) 3 12
    ∷ turned_down (qreg 1 ++ h (nested 16 (λ i. i plus lit 0) (field 63 []))) 3 60
    ∷ turned_down (qreg 1 ++ h (nested 16 (λ i. i plus lit 0) (field 69 []))) 3 60
    ∷ turned_down (qreg 1 ++ h (nested 16 (λ i. i plus lit 0) (field 68 []))) 5 60
    ∷ turned_down (qreg 1 ++ h (nested 16 (λ i. i plus lit 0) (64 ∷ 255 ∷ 255 ∷ []))) 2 60
    -- a part of a call: its tag before its content, where the other kind is due
    ∷ turned_down (sized ++ qreg 1 ++ calling (field 7 [])) 3 21
    ∷ turned_down (sized ++ qreg 1 ++ calling (whole 9)) 3 21
    ∷ turned_down (gate [] ++ qreg 1 ++ calling (var 9)) 3 17
    -- tdg is neither h nor t
    ∷ gives (run (qreg 1 ++ field 34 (at (lit 0))) 100 (lent 12)) 0 0 1 1 (one 3 0)
    ∷ []

-- the levels of each list of statements and of each index
levels : List Example
levels =
    -- directly in a family
    accepted (gate (nested 16 reverse []))
    ∷ turned_down (gate (nested 17 reverse [])) 5 56
    -- the two indexes of a slice, a call's, a k, and the two of a for
    ∷ accepted (of_register ++ qreg 1 ++ calling (from sixteen sixteen))
    ∷ turned_down (of_register ++ qreg 1 ++ calling (from seventeen (lit 0))) 5 74
    ∷ turned_down (of_register ++ qreg 1 ++ calling (from (lit 0) seventeen)) 5 79
    ∷ accepted (sized ++ qreg 1 ++ call 0 sixteen)
    ∷ turned_down (sized ++ qreg 1 ++ call 0 seventeen) 5 69
    ∷ accepted (qreg 2 ++ phase sixteen (at (lit 0)) ++ cphase sixteen (at (lit 0) ++ at (lit 1)))
    ∷ turned_down (qreg 1 ++ phase seventeen (at (lit 0))) 5 56
    ∷ turned_down (qreg 2 ++ cphase seventeen (at (lit 0) ++ at (lit 1))) 5 56
    ∷ accepted (for sixteen sixteen [])
    ∷ turned_down (for seventeen (lit 0) []) 5 51
    ∷ turned_down (for (lit 0) seventeen []) 5 56
    ∷ []

-- which of two faults in one field is the answer
faults : List Example
faults =
    -- an operation: left, right, bytes left over, 11
    turned_down (qreg 1 ++ h (var 0 plus field 7 [])) 8 15
    ∷ turned_down (qreg 1 ++ h (field 66 (lit 0 ++ var 0 ++ lit 0))) 8 20
    ∷ turned_down (qreg 1 ++ h (field 68 (lit 60_000 ++ lit 60_000 ++ lit 0))) 4 12
    -- a whole operand and a family: the number, bytes left over
    ∷ turned_down (field 32 (field 48 (0 ∷ 0 ∷ []))) 8 3
    ∷ turned_down (field 32 (field 51 (0 ∷ 0 ∷ 0 ∷ []))) 8 3
    -- an element: the number, the index, bytes left over, 9, 12
    ∷ turned_down (h (var 0)) 8 3
    ∷ turned_down (qreg 1 ++ field 32 (field 49 (0 ∷ var 0 ++ lit 0))) 8 12
    ∷ turned_down (creg 1 ++ field 32 (field 49 (0 ∷ lit 0 ++ lit 0))) 4 8
    ∷ turned_down (qreg 1 ++ field 32 (field 49 (0 ∷ lit 1 ++ lit 0))) 4 8
    ∷ turned_down (creg 1 ++ h below) 9 8
    -- a slice: first, last, bytes left over, 9, then first ≥ 0, its room and its size
    ∷ turned_down (of_register ++ qreg 2 ++ calling (from (var 0) (field 7 []))) 8 26
    ∷ turned_down (of_register ++ qreg 2 ++ calling (field 50 (0 ∷ lit 0 ++ var 0 ++ lit 0))) 8 31
    ∷ turned_down (of_register ++ qreg 2 ++ calling (from below (var 0))) 8 39
    ∷ turned_down (of_register ++ creg 2 ++ calling (from (var 0) (lit 0))) 8 26
    ∷ turned_down (of_family ++ qreg 2 ++ calling (from below (lit 0))) 9 22
    ∷ turned_down (of_register ++ qreg 2 ++ calling (from (lit 0) furthest_index)) 12 22
    ∷ turned_down (of_register ++ qreg 2 ++ calling (from (lit 0) (lit 0 minus furthest_index))) 11 22
    -- a type: the index, bytes left over, 12; of two types the first; a family type's and a family's counts before their types
    ∷ turned_down (taking (field 17 (var 0 ++ lit 0))) 8 8
    ∷ turned_down (taking (field 17 (below ++ lit 0))) 4 5
    ∷ turned_down (field 1 (0 ∷ 2 ∷ field 16 (0 ∷ []) ++ field 7 [])) 4 5
    ∷ turned_down (taking (field 18 (0 ∷ 2 ∷ field 16 (0 ∷ []) ++ field 7 []))) 4 10
    ∷ turned_down (taking (field 18 (5 ∷ 1 ∷ field 7 []))) 6 5
    ∷ turned_down (taking (field 18 (5 ∷ 1 ∷ field 16 [] ++ field 16 []))) 6 5
    ∷ turned_down (field 1 (5 ∷ 1 ∷ field 7 [])) 6 0
    -- a gate, reset and measure: the operands in order, bytes left over
    ∷ turned_down (field 32 (at (lit 0) ++ at (lit 0))) 8 3
    ∷ turned_down (field 5 (at (lit 0) ++ at (lit 0))) 8 3
    ∷ turned_down (qreg 1 ++ field 35 (at (lit 0) ++ at (lit 1) ++ at (lit 0))) 12 17
    ∷ turned_down (qreg 1 ++ creg 1 ++ field 4 (at (lit 1) ++ bit (lit 1))) 12 13
    -- a cphase: k is shown before its operands are read
    ∷ turned_down (qreg 1 ++ cphase below (at (lit 1))) 12 8
    -- a for: low, high; a conditional: the bit, the statements
    ∷ turned_down (for (var 0) (field 7 []) []) 8 3
    ∷ turned_down (field 6 (1 ∷ at (lit 0) ++ field 7 [])) 8 4
    -- a call: each index is shown at its own end, the indexes come before the operands, and these in order; all before what is lacking or left over
    ∷ turned_down (family₂ (var 0) [] ++ qreg 1 ++ call 0 (below ++ var 9)) 12 21
    ∷ turned_down (sized ++ qreg 1 ++ calling (var 9 ++ whole 9)) 8 21
    ∷ turned_down (field 1 (0 ∷ 2 ∷ field 16 [] ++ field 16 []) ++ calling (whole 0 ++ passed 0)) 8 15
    ∷ turned_down (sized ++ qreg 1 ++ calling (var 9)) 8 21
    ∷ turned_down (gate [] ++ calling (whole 0 ++ whole 0)) 8 12
    -- 6 of the 256th register before bytes left over in it
    ∷ turned_down (nested 255 (λ rest. qreg 0 ++ rest) (field 3 (0 ∷ 0 ∷ 0 ∷ []))) 6 1275
    ∷ []

-- what an operand names, and what is due: 9
kinds : List Example
kinds =
    -- a creg is no wire, and neither it nor a wire is a bit
    turned_down (creg 1 ++ field 32 (whole 0)) 9 8
    ∷ turned_down (creg 1 ++ field 6 (1 ∷ whole 0)) 9 9
    ∷ turned_down (qreg 1 ++ field 6 (1 ∷ whole 0)) 9 9
    ∷ turned_down (qreg 1 ++ field 6 (1 ∷ at (lit 0))) 9 9
    ∷ turned_down (creg 1 ++ field 6 (1 ∷ from below (lit 0))) 9 9
    ∷ turned_down (qreg 1 ++ field 6 (1 ∷ from below (lit 0))) 9 9
    -- for a register of size 0: a creg, an element of one; a Qbit parameter, an element of it, and of a family parameter
    ∷ turned_down (of_register ++ creg 1 ++ calling (whole 0)) 9 22
    ∷ turned_down (of_register ++ creg 1 ++ calling (at (lit 0))) 9 22
    ∷ turned_down (of_register ++ gate (calling (whole 0))) 9 25
    ∷ turned_down (of_register ++ gate (calling (at (lit 0)))) 9 25
    ∷ turned_down (of_register ++ taking (field 18 (0 ∷ 1 ∷ field 16 []) ++ calling (at (lit 0)))) 9 30
    -- for a family: an element of a creg, and a family whose own parameter is a family where a register is asked for
    ∷ turned_down (of_family ++ creg 1 ++ calling (at (lit 0))) 9 22
    ∷ turned_down (of_family ++ taking (field 18 (0 ∷ 1 ∷ field 17 (lit 0))) ++ field 36 (1 ∷ passed 0)) 9 35
    -- a family names no register
    ∷ turned_down (qreg 1 ++ gate (field 32 (bit (lit 0)))) 8 16
    -- either side of a product may be the number: 2i where i is 1
    ∷ accepted (qreg 3 ++ for (lit 1) (lit 1) (h (var 0 times lit 2)))
    ∷ turned_down (qreg 2 ++ for (lit 1) (lit 1) (h (var 0 times lit 2))) 12 21
    ∷ turned_down (qreg 2 ++ for (lit 1) (lit 1) (h (lit 2 times var 0))) 12 21
    -- all qubits count, and all bits, and bits do not count as qubits
    ∷ turned_down (qreg 1 ++ qreg 65_534 ++ qreg 1) 7 10
    ∷ turned_down (creg 1 ++ creg 65_534 ++ creg 1) 7 10
    ∷ accepted (creg 65_535 ++ qreg 65_535)
    ∷ []

due_hold : all_hold due ≡ true
unfolding computed due
due_hold = refl

tags_hold : all_hold tags ≡ true
unfolding computed tags
tags_hold = refl

levels_hold : all_hold levels ≡ true
unfolding computed levels
levels_hold = refl

faults_hold : all_hold faults ≡ true
unfolding computed faults
faults_hold = refl

kinds_hold : all_hold kinds ≡ true
unfolding computed kinds
kinds_hold = refl

-- 6 of one family too many, before its counts are due
abbrev full : Declared
full = record { families = replicate 4_096 (record { variables = 0; parameters = [] }); registers = []; qubits = 0; bits = 0 }

too_many_first : check_top (family 7 missing missing [] nil) full ≡ refused 6 7
unfolding checking
too_many_first = refl
