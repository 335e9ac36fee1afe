-- Computed examples of families as arguments: what a parameter's call runs, what the check refuses and in which order, and where the machine is stuck.
use Rattle.std.specs.Prelude.{◌≡◌, refl, List, [], ◌∷◌, ◌++◌, true, false, ℕ, ◌/◌, ◌%◌, pos, negsuc}
use Rattle.std.proofs.Math.Option.{Option, none, some}
use Rattle.language.specs.Tree.{number, ended, leftover, literal, qbit, qbits, plain, family_type, Argument, index, operand}
use Rattle.language.specs.Tree as T
use Rattle.language.specs.Form as F
use Rattle.language.specs.Form.{Form, constant_form, variable_form}
use Rattle.language.specs.Check.{fine, good, refused, Kind, qubit, quantum, formal, Signature, all_rules, Due, wire, register, fitting, family_fits, size_scope, declared_before, kind_of}
use Rattle.language.specs.Check as C
use Rattle.language.specs.Machine.{Meaning, a_wire, wires, the_family, Outcome, stuck, forward, always, Family, takes, run_statement, layout, begin}
use Rattle.language.specs.Machine as M
use Rattle.language.specs.Computed.{forming, checking, machining}
use Rattle.language.specs.Calls.{Example, run, instance, all_hold, computed, field, lit, var, ◌plus◌, ◌minus◌, ◌times◌, at, bit, h, phase, reverse, for, qreg, creg, family, family₂, n, i, L, falling, call, size, one, row, lent, gives, accepted, turned_down, nested}
use Rattle.language.specs.LongCalls.{gate, h_of_it}

-- ---- how they are written

-- an operand as a whole
abbrev pub whole : ℕ → List ℕ
whole k = field 48 (k ∷ [])

-- a family as an operand
abbrev pub passed : ℕ → List ℕ
passed k = field 51 (k % 256 ∷ k / 256 ∷ [])

abbrev call_parameter : ℕ → List ℕ → List ℕ
call_parameter k parts = field 42 (k ∷ parts)

-- the type of a family f(n, x:Qbit[I])
abbrev taking : List ℕ → List ℕ
taking size = field 18 (1 ∷ 1 ∷ field 17 size)

-- the type of a family f(x:Qbit)
abbrev of_qbit : List ℕ
of_qbit = field 18 (0 ∷ 1 ∷ field 16 [])

-- a family of n with the parameters f, of a family type, and x:Qbit[n]
abbrev taker : List ℕ → List ℕ → List ℕ
taker type body = field 1 (1 ∷ 2 ∷ type ++ field 17 n ++ body)

-- f(n, x); 36 bytes, the parameter's call at 24
abbrev applies : List ℕ
applies = taker (taking n) (call_parameter 0 (n ++ whole 1))

-- for i=0..n-1 f(x[i]); 52 bytes
abbrev pub each : List ℕ
each = taker of_qbit (for (lit 0) (n minus lit 1) (call_parameter 0 (bit i)))

-- the same with each of its calls reversed
abbrev each_reversed : List ℕ
each_reversed = taker of_qbit (for (lit 0) (n minus lit 1) (reverse (call_parameter 0 (bit i))))

-- a call at n=3 with an operand for f and the register 0; the operand is 9 bytes on
abbrev giving : ℕ → List ℕ → List ℕ
giving k f = field 36 (k ∷ lit 3 ++ f ++ whole 0)

-- the same at n=2
abbrev giving_two : ℕ → List ℕ → List ℕ
giving_two k f = field 36 (k ∷ lit 2 ++ f ++ whole 0)

-- L of 43 bytes, `applies` up to 79, a register of 3, and a call at 84 of `applies` with an operand for f at 93
abbrev given : List ℕ → List ℕ
given f = L ++ applies ++ qreg 3 ++ giving 1 f

-- x:Qbit; h and t
abbrev h_and_t : List ℕ
h_and_t = gate (h_of_it ++ field 33 (whole 0))

-- ---- runs

-- the family passed is the one entered: one step for the call, one for the parameter's, and those of its body
runs : List Example
runs =
    gives (run (given (passed 0)) 100 (lent 36)) 0 0 3 9 (one 1 0 ++ one 1 1 ++ one 1 2)
    ∷ gives (run (L ++ family n falling ++ applies ++ qreg 3 ++ giving 2 (passed 1)) 100 (lent 36)) 0 0 3 9 (one 1 2 ++ one 1 1 ++ one 1 0)
    ∷ gives (run (L ++ family n falling ++ applies ++ qreg 3 ++ giving 2 (passed 0)) 100 (lent 36)) 0 0 3 9 (one 1 0 ++ one 1 1 ++ one 1 2)
    -- in a loop; at sizes that follow the loop
    ∷ gives (run (gate h_of_it ++ each ++ qreg 2 ++ giving_two 1 (passed 0)) 100 (lent 24)) 0 0 2 8 (one 1 0 ++ one 1 1)
    ∷ gives (run (L ++ taker (taking n) (for (lit 0) n (call_parameter 0 (i ++ whole 1))) ++ qreg 2 ++ giving_two 1 (passed 0)) 100 (lent 36)) 0 0 3 17
    (one 1 0 ++ one 1 0 ++ one 1 1)
    -- reversed: the call, the parameter's calls in a loop, the call of such a loop, and both
    ∷ gives (run (L ++ applies ++ qreg 3 ++ reverse (giving 1 (passed 0))) 100 (lent 36)) 0 0 3 10 (one 1 2 ++ one 1 1 ++ one 1 0)
    ∷ gives (run (h_and_t ++ each_reversed ++ qreg 2 ++ giving_two 1 (passed 0)) 100 (lent 48)) 0 0 4 12
    (one 3 0 ++ one 1 0 ++ one 3 1 ++ one 1 1)
    ∷ gives (run (h_and_t ++ each ++ qreg 2 ++ reverse (giving_two 1 (passed 0))) 100 (lent 48)) 0 0 4 11 (one 3 1 ++ one 1 1 ++ one 3 0 ++ one 1 0)
    ∷ gives (run (h_and_t ++ each_reversed ++ qreg 2 ++ reverse (giving_two 1 (passed 0))) 100 (lent 48)) 0 0 4 13
    (one 1 1 ++ one 2 1 ++ one 1 0 ++ one 2 0)
    -- x:Qbit[n+1]: f on the slice x[1..n]
    ∷ gives (run (L ++ field 1 (1 ∷ 2 ∷ taking n ++ field 17 (n plus lit 1) ++ call_parameter 0 (n ++ field 50 (1 ∷ lit 1 ++ n))) ++ qreg 3 ++ giving_two 1 (passed 0)) 100 (lent 24)) 0 0 2 7
    (one 1 1 ++ one 1 2)
    -- phases in the family passed, reversed by the one that calls it
    ∷ gives (run (family n (for (lit 1) n (phase i (at (i minus lit 1)))) ++ taker (taking n) (reverse (call_parameter 0 (n ++ whole 1))) ++ qreg 2 ++ giving_two 1 (passed 0)) 100 (lent 24)) 0 0 2 8
    (row 8 1 0 2 ++ row 8 0 0 1)
    -- under a condition
    ∷ gives (run (L ++ applies ++ qreg 3 ++ creg 1 ++ field 6 (1 ∷ bit (lit 0) ++ field 36 (1 ∷ lit 1 ++ passed 0 ++ whole 0))) 100 (lent 12)) 0 0 1 6
    (1 ∷ 2 ∷ 0 ∷ 0 ∷ 0 ∷ 0 ∷ 0 ∷ 0 ∷ 0 ∷ 0 ∷ 0 ∷ 0 ∷ [])
    ∷ []

-- a family of n with two family parameters and x:Qbit[n]: f(n, x), g(n, x)
abbrev both : List ℕ
both = field 1 (1 ∷ 3 ∷ taking n ++ taking n ++ field 17 n ++ call_parameter 0 (n ++ whole 2) ++ call_parameter 1 (n ++ whole 2))

-- a family of n with the parameter f and x:Qbit[n], which calls f and passes L to the family 1
abbrev further : List ℕ
further = taker (taking n) (call_parameter 0 (n ++ whole 1) ++ field 36 (1 ∷ n ++ passed 0 ++ whole 1))

several : List Example
several =
    -- two families passed to one, in both orders, and one passed twice
    gives (run (L ++ family n falling ++ both ++ qreg 2 ++ giving_two 2 (passed 0 ++ passed 1)) 100 (lent 48)) 0 0 4 13 (one 1 0 ++ one 1 1 ++ one 1 1 ++ one 1 0)
    ∷ gives (run (L ++ family n falling ++ both ++ qreg 2 ++ giving_two 2 (passed 1 ++ passed 0)) 100 (lent 48)) 0 0 4 13 (one 1 1 ++ one 1 0 ++ one 1 0 ++ one 1 1)
    ∷ gives (run (L ++ family n falling ++ both ++ qreg 2 ++ giving_two 2 (passed 0 ++ passed 0)) 100 (lent 48)) 0 0 4 13 (one 1 0 ++ one 1 1 ++ one 1 0 ++ one 1 1)
    -- a family is passed to one that itself passes another
    ∷ gives (run (L ++ applies ++ family n falling ++ further ++ qreg 2 ++ giving_two 3 (passed 2)) 100 (lent 48)) 0 0 4 14 (one 1 1 ++ one 1 0 ++ one 1 0 ++ one 1 1)
    ∷ []

-- x:Qbit, y:Qbit; cx(x, y), at 11
abbrev pair : List ℕ
pair = field 1 (0 ∷ 2 ∷ field 16 [] ++ field 16 [] ++ field 35 (whole 0 ++ whole 1))

-- f(x, x), x:Qbit
abbrev on_one : List ℕ
on_one = field 1 (0 ∷ 2 ∷ field 18 (0 ∷ 2 ∷ field 16 [] ++ field 16 []) ++ field 16 [] ++ call_parameter 0 (whole 1 ++ whole 1))

-- f(60,000·n, x), x:Qbit, where f takes n and x:Qbit; after a gate of 8 bytes with one index variable, the parameter's call is at 24
abbrev farther : List ℕ
farther = field 1 (1 ∷ 2 ∷ field 18 (1 ∷ 1 ∷ field 16 []) ++ field 16 [] ++ call_parameter 0 ((n times lit 60_000) ++ whole 1))

-- where a run ends
ends : List Example
ends =
    -- 26 at the call, at the parameter's call, and at the statement in the family passed
    gives (run (given (passed 0)) 0 (lent 24)) 26 84 0 0 (lent 24)
    ∷ gives (run (given (passed 0)) 1 (lent 24)) 26 67 0 1 (lent 24)
    ∷ gives (run (given (passed 0)) 2 (lent 24)) 26 12 0 2 (lent 24)
    -- 27 and 25 in the family passed, 24 at the parameter's call
    ∷ gives (run (given (passed 0)) 100 (lent 23)) 27 24 1 7 (one 1 0 ++ lent 11)
    ∷ gives (run (pair ++ on_one ++ qreg 1 ++ field 36 (1 ∷ passed 0 ++ at (lit 0))) 100 (lent 12)) 25 11 0 3 (lent 12)
    ∷ gives (run (field 1 (1 ∷ 1 ∷ field 16 []) ++ farther ++ qreg 1 ++ field 36 (1 ∷ lit 65_535 ++ passed 0 ++ at (lit 0))) 100 (lent 12)) 24 24 0 2 (lent 12)
    ∷ gives (run (field 1 (1 ∷ 1 ∷ field 16 []) ++ farther ++ qreg 1 ++ field 36 (1 ∷ lit 3 ++ passed 0 ++ at (lit 0))) 100 (lent 12)) 0 0 0 2 (lent 12)
    ∷ []

-- ---- an operand that names a family

-- 4 where the number is cut off, 8, 33, 4 for bytes left over, 9; all at the operand
in_order : List Example
in_order =
    turned_down (given (field 51 [])) 4 93
    ∷ turned_down (given (field 51 (1 ∷ []))) 4 93
    ∷ turned_down (given (passed 2)) 8 93
    ∷ turned_down (given (passed 256)) 8 93
    ∷ turned_down (given (passed 1)) 33 93
    -- 8 and 33 before bytes left over
    ∷ turned_down (given (field 51 (2 ∷ 0 ∷ 7 ∷ []))) 8 93
    ∷ turned_down (given (field 51 (1 ∷ 0 ∷ 7 ∷ []))) 33 93
    ∷ turned_down (given (field 51 (0 ∷ 0 ∷ 7 ∷ []))) 4 93
    -- where a register is due: 33 and bytes left over come before 9
    ∷ turned_down (L ++ applies ++ qreg 3 ++ giving 0 (passed 0)) 33 93
    ∷ turned_down (L ++ applies ++ qreg 3 ++ field 36 (1 ∷ lit 3 ++ passed 0 ++ passed 1)) 33 98
    ∷ turned_down (L ++ applies ++ qreg 3 ++ field 36 (1 ∷ lit 3 ++ passed 0 ++ field 51 (0 ∷ 0 ∷ 7 ∷ []))) 4 98
    ∷ turned_down (L ++ applies ++ qreg 3 ++ field 36 (1 ∷ lit 3 ++ passed 0 ++ passed 0)) 9 98
    -- 33 before kinds that differ: the family 2 has a family parameter of its own
    ∷ turned_down (L ++ applies ++ applies ++ qreg 3 ++ giving 1 (passed 2)) 33 129
    -- in a family's body: a family after the one called is 33, and its own number is not in scope
    ∷ accepted (L ++ applies ++ family n (field 36 (1 ∷ n ++ passed 0 ++ whole 0)))
    ∷ turned_down (L ++ applies ++ family n (field 36 (1 ∷ n ++ passed 1 ++ whole 0))) 33 99
    ∷ turned_down (L ++ applies ++ family n (field 36 (1 ∷ n ++ passed 2 ++ whole 0))) 8 99
    ∷ []

-- no family is called, or one that a parameter stands for: 4, 8, 4, 9, and never 33
elsewhere : List Example
elsewhere =
    turned_down (L ++ field 32 (field 51 (0 ∷ []))) 4 46
    ∷ turned_down (L ++ field 32 (passed 1)) 8 46
    ∷ turned_down (L ++ field 32 (field 51 (0 ∷ 0 ∷ 7 ∷ []))) 4 46
    ∷ turned_down (L ++ field 32 (passed 0)) 9 46
    ∷ turned_down (L ++ field 40 (lit 1 ++ passed 0)) 9 51
    ∷ turned_down (L ++ qreg 1 ++ creg 1 ++ field 4 (at (lit 0) ++ passed 0)) 9 65
    ∷ turned_down (L ++ field 5 (passed 0)) 9 46
    ∷ turned_down (L ++ field 6 (0 ∷ passed 0)) 9 47
    ∷ turned_down (L ++ taker (taking n) (call_parameter 0 (n ++ field 51 (0 ∷ [])))) 4 75
    ∷ turned_down (L ++ taker (taking n) (call_parameter 0 (n ++ passed 1))) 8 75
    ∷ turned_down (L ++ taker (taking n) (call_parameter 0 (n ++ field 51 (0 ∷ 0 ∷ 7 ∷ [])))) 4 75
    ∷ turned_down (L ++ taker (taking n) (call_parameter 0 (n ++ passed 0))) 9 75
    -- where an index is due, it is an operand's tag
    ∷ turned_down (L ++ qreg 3 ++ field 36 (0 ∷ passed 0 ++ whole 0)) 3 52
    ∷ []

-- ---- what may stand for a family parameter

-- a call of the family 1, a taker, with the family 0
abbrev fits : List ℕ → List ℕ → List ℕ
fits actual taker = actual ++ taker ++ qreg 3 ++ giving 1 (passed 0)

-- 9 for other counts or kinds, before any size
kinds : List Example
kinds =
    -- a family parameter of its own, two index variables for one, none for one
    turned_down (L ++ applies ++ applies ++ qreg 3 ++ giving 2 (passed 1)) 9 129
    ∷ turned_down (fits (family₂ n []) applies) 9 62
    ∷ turned_down (fits (gate []) (taker (field 18 (1 ∷ 1 ∷ field 16 [])) [])) 9 42
    -- two parameters for one, one for two
    ∷ turned_down (fits (field 1 (1 ∷ 2 ∷ field 17 n ++ field 17 n)) applies) 9 69
    ∷ turned_down (fits (family n []) (taker (field 18 (1 ∷ 2 ∷ field 17 n ++ field 17 n)) [])) 9 57
    -- Qbit for Qbit[I], and the other way round
    ∷ turned_down (fits (field 1 (1 ∷ 1 ∷ field 16 [])) applies) 9 58
    ∷ turned_down (fits (family n []) (taker (field 18 (1 ∷ 1 ∷ field 16 [])) [])) 9 46
    -- the kind of the second parameter comes before the size of the first
    ∷ turned_down (fits (field 1 (1 ∷ 2 ∷ field 17 (n plus lit 1) ++ field 17 n)) (taker (field 18 (1 ∷ 2 ∷ field 17 n ++ field 16 [])) [])) 9 68
    ∷ []

-- the formal size minus the actual one is shown, over the formal's own index variables
sizes : List Example
sizes =
    accepted (fits (family n []) (taker (taking (n plus lit 1)) []))
    ∷ accepted (fits (family n []) (taker (taking n) []))
    ∷ turned_down (fits (family (n plus lit 1) []) applies) 12 70
    ∷ turned_down (fits (family (lit 2) []) applies) 12 63
    ∷ accepted (fits (family (lit 0) []) applies)
    -- the second of two sizes
    ∷ turned_down (fits (field 1 (1 ∷ 2 ∷ field 17 n ++ field 17 (n plus lit 1))) (taker (field 18 (1 ∷ 2 ∷ field 17 n ++ field 17 n)) [])) 12 72
    -- a variable is the one of the same number: Qbit[n] and Qbit[k], each of n and k
    ∷ turned_down (fits (family₂ i []) (taker (field 18 (2 ∷ 1 ∷ field 17 n)) [])) 12 50
    ∷ accepted (fits (family₂ n []) (taker (field 18 (2 ∷ 1 ∷ field 17 n)) []))
    -- the caller's loops don't count: n+1 ≤ n+n is shown for a register in a loop from 1 to n, and not for a family's size
    ∷ accepted (family (n plus lit 1) [] ++ family (n plus n) (for (lit 1) n (call 0 n)))
    ∷ turned_down (family (n plus lit 1) [] ++ taker (taking (n plus n)) [] ++ family n (for (lit 1) n (field 36 (1 ∷ n ++ passed 0 ++ whole 0)))) 12 83
    ∷ []

-- ---- the family type

-- the type at 5, its first inner type at 10
types : List Example
types =
    accepted (taker (field 18 (0 ∷ 8 ∷ nested 8 (λ rest. field 16 [] ++ rest) [])) [])
    ∷ accepted (taker (field 18 (4 ∷ 1 ∷ field 17 (var 3))) [])
    -- its index variables are its own
    ∷ accepted (field 1 (0 ∷ 1 ∷ taking n))
    ∷ turned_down (taker (field 18 (0 ∷ 1 ∷ field 17 n)) []) 8 13
    -- counts, as a family's: each when it is read
    ∷ turned_down (taker (field 18 []) []) 4 5
    ∷ turned_down (taker (field 18 (5 ∷ [])) []) 6 5
    ∷ turned_down (taker (field 18 (1 ∷ [])) []) 4 5
    ∷ turned_down (taker (field 18 (1 ∷ 0 ∷ [])) []) 6 5
    ∷ turned_down (taker (field 18 (0 ∷ 9 ∷ nested 9 (λ rest. field 16 [] ++ rest) [])) []) 6 5
    -- inner types: none left, a bad header, tags other than 16 and 17, bytes left over, no index, not shown
    ∷ turned_down (taker (field 18 (1 ∷ 2 ∷ field 17 n)) []) 4 5
    ∷ turned_down (taker (field 18 (1 ∷ 1 ∷ 17 ∷ 9 ∷ 0 ∷ [])) []) 2 10
    ∷ turned_down (taker (field 18 (1 ∷ 1 ∷ taking n)) []) 3 10
    ∷ turned_down (taker (field 18 (1 ∷ 1 ∷ field 19 [])) []) 3 10
    ∷ turned_down (taker (field 18 (1 ∷ 1 ∷ field 16 (0 ∷ []))) []) 4 10
    ∷ turned_down (taker (taking (n ++ n)) []) 4 10
    ∷ turned_down (taker (taking []) []) 4 10
    ∷ turned_down (taker (taking (n minus lit 1)) []) 12 10
    -- bytes left over after the inner types
    ∷ turned_down (taker (field 18 (1 ∷ 1 ∷ field 17 n ++ field 17 n)) []) 4 5
    ∷ turned_down (taker (field 18 (1 ∷ 1 ∷ field 17 (n minus lit 1) ++ field 17 n)) []) 12 10
    -- an index in an inner type is at the first level
    ∷ accepted (taker (taking (nested 15 (λ x. lit 0 plus x) n)) [])
    ∷ turned_down (taker (taking (nested 16 (λ x. x plus lit 0) n)) []) 5 61
    ∷ []

-- ---- the call of a parameter

-- the number when it is read: 4, 8, 9
numbers : List Example
numbers =
    turned_down (taker (taking n) (field 42 [])) 4 24
    ∷ turned_down (taker (taking n) (call_parameter 2 (n ++ whole 1))) 8 24
    ∷ turned_down (taker (taking n) (call_parameter 1 (n ++ whole 1))) 9 24
    ∷ turned_down (taker (taking n) (call_parameter 1 (var 9))) 9 24
    ∷ turned_down (gate (call_parameter 0 [])) 9 8
    -- at the top there is none
    ∷ turned_down (field 42 []) 4 0
    ∷ turned_down (call_parameter 0 []) 8 0
    ∷ turned_down (qreg 3 ++ call_parameter 0 []) 9 5
    ∷ turned_down (creg 3 ++ call_parameter 0 []) 9 5
    -- a statement's tag at every level
    ∷ turned_down (nested 16 reverse (call_parameter 0 [])) 5 48
    ∷ turned_down (nested 15 reverse (call_parameter 0 [])) 8 45
    ∷ []

-- then as a call of a family of that type
parts : List Example
parts =
    turned_down (taker (taking n) (call_parameter 0 ((n minus lit 1) ++ whole 1))) 12 28
    ∷ turned_down (taker (taking n) (call_parameter 0 ((n plus lit 1) ++ whole 1))) 12 40
    ∷ turned_down (taker (taking n) (call_parameter 0 [])) 4 24
    ∷ turned_down (taker (taking n) (call_parameter 0 n)) 4 24
    ∷ turned_down (taker (taking n) (call_parameter 0 (n ++ whole 1 ++ whole 1))) 4 24
    ∷ turned_down (taker (taking n) (call_parameter 0 (whole 1 ++ n))) 3 28
    ∷ turned_down (taker (taking n) (call_parameter 0 (n ++ n))) 3 32
    ∷ turned_down (taker (taking n) (call_parameter 0 (n ++ bit (lit 0)))) 9 32
    ∷ accepted (taker (taking (n plus lit 1)) (for (lit 1) n (call_parameter 0 ((i minus lit 1) ++ whole 1))))
    ∷ []

-- a family parameter named as an operand: 9 after 8, the indexes and bytes left over, whatever is due
handed_on : List Example
handed_on =
    turned_down (taker (taking n) (field 32 (whole 0))) 9 27
    ∷ turned_down (taker (taking n) (h (lit 0))) 9 27
    ∷ turned_down (taker (taking n) (call_parameter 0 (n ++ whole 0))) 9 32
    ∷ turned_down (taker (taking n) (call_parameter 0 (n ++ field 50 (0 ∷ lit 0 ++ lit 0)))) 9 32
    ∷ turned_down (taker (taking n) (h (var 9))) 8 31
    ∷ turned_down (taker (taking n) (field 32 (field 48 (0 ∷ 7 ∷ [])))) 4 27
    -- also where a family is due: it may be called, not handed on
    ∷ turned_down (L ++ applies ++ taker (taking n) (field 36 (1 ∷ n ++ whole 0 ++ whole 1))) 9 111
    ∷ turned_down (L ++ applies ++ taker (taking n) (field 36 (1 ∷ n ++ at (lit 0) ++ whole 1))) 9 111
    ∷ turned_down (L ++ applies ++ taker (taking n) (field 36 (1 ∷ n ++ field 50 (0 ∷ lit 0 ++ lit 0) ++ whole 1))) 9 111
    -- and nothing else stands for a family
    ∷ turned_down (given (whole 0)) 9 93
    ∷ turned_down (given (at (lit 0))) 9 93
    ∷ turned_down (given (at (lit 9))) 9 93
    ∷ []

-- ---- instances

-- 34 after 20, before 21 and 22
instances : List Example
instances =
    gives (instance (L ++ applies) 1 (size 2) 100 (lent 8)) 34 0 0 0 (lent 8)
    ∷ gives (instance (L ++ applies) 1 [] 100 (lent 8)) 34 0 0 0 (lent 8)
    ∷ gives (instance (L ++ applies) 1 (0 ∷ 0 ∷ 1 ∷ 0 ∷ []) 100 (lent 8)) 34 0 0 0 (lent 8)
    ∷ gives (instance (L ++ applies) 2 [] 100 (lent 8)) 20 0 0 0 (lent 8)
    ∷ gives (instance (L ++ applies) 0 [] 100 (lent 8)) 21 0 0 0 (lent 8)
    -- the family parameter is the last
    ∷ gives (instance (field 1 (0 ∷ 2 ∷ field 16 [] ++ of_qbit)) 0 [] 100 (lent 8)) 34 0 0 0 (lent 8)
    -- an instance of a family that passes one
    ∷ gives (instance (L ++ applies ++ family n (field 36 (1 ∷ n ++ passed 0 ++ whole 0))) 2 (size 2) 100 (lent 24)) 0 0 2 7 (one 1 0 ++ one 1 1)
    ∷ []

runs_hold : all_hold runs ≡ true
unfolding computed runs
runs_hold = refl

several_hold : all_hold several ≡ true
unfolding computed several
several_hold = refl

ends_hold : all_hold ends ≡ true
unfolding computed ends
ends_hold = refl

in_order_hold : all_hold in_order ≡ true
unfolding computed in_order
in_order_hold = refl

elsewhere_hold : all_hold elsewhere ≡ true
unfolding computed elsewhere
elsewhere_hold = refl

kinds_hold : all_hold kinds ≡ true
unfolding computed kinds
kinds_hold = refl

sizes_hold : all_hold sizes ≡ true
unfolding computed sizes
sizes_hold = refl

types_hold : all_hold types ≡ true
unfolding computed types
types_hold = refl

numbers_hold : all_hold numbers ≡ true
unfolding computed numbers
numbers_hold = refl

parts_hold : all_hold parts ≡ true
unfolding computed parts
parts_hold = refl

handed_on_hold : all_hold handed_on ≡ true
unfolding computed handed_on
handed_on_hold = refl

instances_hold : all_hold instances ≡ true
unfolding computed instances
instances_hold = refl

-- ---- what the check says of a family and a family parameter, in an operand at 7

-- what a family parameter takes, and what a declared family has: so many index variables, and these parameters
abbrev asks : ℕ → List (Option Form) → Due
asks v sizes = fitting (record { variables = v; sizes = sizes })

abbrev has : ℕ → List Kind → Signature
has v kinds = record { variables = v; parameters = kinds }

-- a size n, and a number as a size
abbrev size_n : Form
size_n = variable_form 0

abbrev size_of : ℕ → Form
size_of k = constant_form (pos k)

same_fits : family_fits 7 (asks 1 (some size_n ∷ none ∷ [])) (has 1 (quantum size_n ∷ qubit ∷ [])) ≡ fine
unfolding forming checking
same_fits = refl

smaller_fits : family_fits 7 (asks 0 (some (size_of 3) ∷ [])) (has 0 (quantum (size_of 2) ∷ [])) ≡ fine
unfolding forming checking
smaller_fits = refl

larger_not_shown : family_fits 7 (asks 0 (some (size_of 3) ∷ [])) (has 0 (quantum (size_of 4) ∷ [])) ≡ refused 12 7
unfolding forming checking
larger_not_shown = refl

-- a difference out of range; of two sizes the first is tested first
too_far : family_fits 7 (asks 0 (some (constant_form (negsuc 1_999_999_999)) ∷ [])) (has 0 (quantum (size_of 1) ∷ [])) ≡ refused 11 7
unfolding forming checking
too_far = refl

first_too_far : family_fits 7 (asks 0 (some (constant_form (negsuc 1_999_999_999)) ∷ some (size_of 0) ∷ [])) (has 0 (quantum (size_of 1) ∷ quantum (size_of 1) ∷ [])) ≡ refused 11 7
unfolding forming checking
first_too_far = refl

first_not_shown : family_fits 7 (asks 0 (some (size_of 0) ∷ some (constant_form (negsuc 1_999_999_999)) ∷ [])) (has 0 (quantum (size_of 1) ∷ quantum (size_of 1) ∷ [])) ≡ refused 12 7
unfolding forming checking
first_not_shown = refl

other_variables : family_fits 7 (asks 1 (none ∷ [])) (has 0 (qubit ∷ [])) ≡ refused 9 7
unfolding forming checking
other_variables = refl

more_parameters : family_fits 7 (asks 0 (none ∷ [])) (has 0 (qubit ∷ qubit ∷ [])) ≡ refused 9 7
unfolding forming checking
more_parameters = refl

fewer_parameters : family_fits 7 (asks 0 (none ∷ none ∷ [])) (has 0 (qubit ∷ [])) ≡ refused 9 7
unfolding forming checking
fewer_parameters = refl

-- a family parameter of the family passed is of no kind that may be asked for
own_parameter : family_fits 7 (asks 0 (none ∷ [])) (has 0 (formal (record { variables = 0; sizes = none ∷ [] }) ∷ [])) ≡ refused 9 7
unfolding forming checking
own_parameter = refl

-- a kind that differs comes before a size that is not shown
kind_first : family_fits 7 (asks 0 (some (size_of 0) ∷ none ∷ [])) (has 0 (quantum (size_of 1) ∷ quantum (size_of 1) ∷ [])) ≡ refused 9 7
unfolding forming checking
kind_first = refl

wire_due : family_fits 7 wire (has 0 (qubit ∷ [])) ≡ refused 9 7
unfolding forming checking
wire_due = refl

register_due : family_fits 7 (register (F.built size_n)) (has 0 (qubit ∷ [])) ≡ refused 9 7
unfolding forming checking
register_due = refl

-- three families, and the operand at 7 that names one of them, in a call of the family 2
abbrev three_families : C.Scope
three_families = record { families = has 0 [] ∷ has 0 [] ∷ has 0 [] ∷ []; operands = []; variables = 0; loops = []; rules = all_rules }

one_before : declared_before three_families 2 (T.passed 7 1 ended) ≡ fine
unfolding checking
one_before = refl

itself_not_before : declared_before three_families 2 (T.passed 7 2 leftover) ≡ refused 33 7
unfolding checking
itself_not_before = refl

not_declared : declared_before three_families 2 (T.passed 7 3 ended) ≡ refused 8 7
unfolding checking
not_declared = refl

-- the kind of a parameter of a family type: f(n, x:Qbit[n], y:Qbit)
family_kind_lem :
    kind_of (size_scope 0) (family_type 5 (number 1) (number 2) (qbits 10 (T.variable 13 0 ended) ended ∷ qbit 17 ended ∷ []) ended)
    ≡ good (formal (record { variables = 1; sizes = some size_n ∷ none ∷ [] }))
unfolding forming checking
family_kind_lem = refl

-- ---- the machine without the check: 0 for stuck, 1 for an end, else 2

unfoldable came : {A : Type 0} → Outcome A → ℕ
came (M.going a s) = 2
came (M.ended k p s) = 1
came stuck = 0

-- a family of n and x:Qbit that does nothing
abbrev idle : Family
idle = record { variables = 1; types = plain (qbit 0 ended) ∷ []; body = λ f. M.done }

-- f(..) where the operands mean these, and `idle` is the only family declared before; so many steps are allowed
abbrev calls : ℕ → List Meaning → List Argument → ℕ
calls limit meanings parts = came (run_statement limit 0 (T.call_parameter 5 0 parts) (idle ∷ []) (record { direction = forward; condition = always; variables = []; operands = meanings }) begin)

-- a wire and a register, the index 3, and the operand 1
abbrev a_qbit : Meaning
a_qbit = a_wire (record { number = 0 })

abbrev a_register : Meaning
a_register = wires (record { number = 0 }) 5

abbrev at_three : Argument
at_three = index 9 (literal 9 3)

abbrev x : Argument
x = operand 14 (T.whole 14 1 ended)

goes_on_lem : calls 1 (the_family 0 ∷ a_qbit ∷ []) (at_three ∷ x ∷ []) ≡ 2
unfolding forming machining came
goes_on_lem = refl

no_step_left : calls 0 (the_family 0 ∷ a_qbit ∷ []) (at_three ∷ x ∷ []) ≡ 1
unfolding forming machining came
no_step_left = refl

-- the operand has no meaning, or is no family
no_operand : calls 1 [] (at_three ∷ []) ≡ 0
unfolding forming machining came
no_operand = refl

wire_called : calls 1 (a_qbit ∷ a_qbit ∷ []) (at_three ∷ x ∷ []) ≡ 0
unfolding forming machining came
wire_called = refl

register_called : calls 1 (a_register ∷ a_qbit ∷ []) (at_three ∷ x ∷ []) ≡ 0
unfolding forming machining came
register_called = refl

-- no such family before
not_before : calls 1 (the_family 1 ∷ a_qbit ∷ []) (at_three ∷ x ∷ []) ≡ 0
unfolding forming machining came
not_before = refl

-- counts or kinds of the family entered differ
no_index : calls 1 (the_family 0 ∷ a_qbit ∷ []) (x ∷ []) ≡ 0
unfolding forming machining came
no_index = refl

two_operands_lem : calls 1 (the_family 0 ∷ a_qbit ∷ []) (at_three ∷ x ∷ x ∷ []) ≡ 0
unfolding forming machining came
two_operands_lem = refl

register_given : calls 1 (the_family 0 ∷ a_register ∷ []) (at_three ∷ x ∷ []) ≡ 0
unfolding forming machining came
register_given = refl

family_given : calls 1 (the_family 0 ∷ the_family 0 ∷ []) (at_three ∷ x ∷ []) ≡ 0
unfolding forming machining came
family_given = refl

-- a family parameter takes a family, whatever its counts and kinds, and nothing else; it has no layout
takes_family_lem : takes (family_type 5 (number 1) (number 0) [] ended) (the_family 9) ≡ true
unfolding machining
takes_family_lem = refl

takes_no_wire : takes (family_type 5 (number 1) (number 0) [] ended) a_qbit ≡ false
unfolding machining
takes_no_wire = refl

wire_no_family : takes (plain (qbit 5 ended)) (the_family 0) ≡ false
unfolding machining
wire_no_family = refl

no_layout : came (layout [] 0 (family_type 5 (number 0) (number 0) [] ended ∷ []) begin) ≡ 0
unfolding machining came
no_layout = refl
