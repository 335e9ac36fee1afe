-- Computed examples of gates that use one wire twice: what the check sees of it, in which order, and what is left to a run.
use Rattle.std.specs.Prelude.{◌≡◌, refl, List, [], ◌∷◌, ◌++◌, Bool, true, not, ◌&&◌, ℕ, pos, negsuc, replicate}
use Rattle.language.specs.Tree.{Index, literal, variable, operation, bad_index, product, ended, leftover, Operand}
use Rattle.language.specs.Tree as T
use Rattle.language.specs.Form.{constant_form, variable_form, same_numbers, same_form}
use Rattle.language.specs.Check.{all_rules, Scope, same_wire}
use Rattle.language.specs.Rules.{no_twice, check_program_by}
use Rattle.language.specs.Result.{verdict}
use Rattle.language.specs.Result as R
use Rattle.language.specs.Forms.{form}
use Rattle.language.specs.Forms as S
use Rattle.language.specs.Computed.{forming, checking}
use Rattle.language.specs.Calls.{Example, run, instance, all_hold, computed, field, lit, var, ◌plus◌, ◌minus◌, ◌times◌, at, bit, h, cx, cphase, reverse, for, qreg, creg, family, n, i, L, size, one, two, lent, gives, accepted, turned_down, nested, from}
use Rattle.language.specs.Passing.{whole, passed}

-- ---- how they are written

-- cx on two operands
abbrev pair : List ℕ → List ℕ → List ℕ
pair c o = field 35 (c ++ o)

-- q[0], q[1]
abbrev q₀ : List ℕ
q₀ = at (lit 0)

abbrev q₁ : List ℕ
q₁ = at (lit 1)

-- a register of one wire, and cx of it with itself, at 5
abbrev itself : List ℕ
itself = qreg 1 ++ cx (lit 0) (lit 0)

-- a family of x:Qbit and y:Qbit; its body is at 11
abbrev couple : List ℕ → List ℕ
couple body = field 1 (0 ∷ 2 ∷ field 16 [] ++ field 16 [] ++ body)

-- a family of x:Qbit[I] and y:Qbit[I]; its body is at 21, where I is a literal
abbrev registers : List ℕ → List ℕ → List ℕ
registers I body = field 1 (0 ∷ 2 ∷ field 17 I ++ field 17 I ++ body)

-- a family of x:Qbit[n+1], for i=0..n; the loop's body is at 32
abbrev up_to : List ℕ → List ℕ
up_to body = family (n plus lit 1) (for (lit 0) n body)

-- a family of x:Qbit[n+n], for i=0..n-1; the loop's body is at 39
abbrev halves : List ℕ → List ℕ
halves body = family (n plus n) (for (lit 0) (n minus lit 1) body)

-- ---- equal forms, in whatever way they are written

forms : List Example
forms =
    turned_down itself 35 5
    ∷ turned_down (qreg 2 ++ cx (lit 1) (lit 2 minus lit 1)) 35 5
    ∷ turned_down (family (n plus lit 1) (cx n n)) 35 20
    ∷ turned_down (family (n plus lit 1) (cx n (n plus lit 1 minus lit 1))) 35 20
    ∷ turned_down (family (n plus lit 2) (cx (n plus lit 1) (lit 1 plus n))) 35 20
    -- in a loop: i and i, i+1 and 1+i, 2i-i and i, i+0n and i, 2i and i+i
    ∷ turned_down (up_to (cx i i)) 35 32
    ∷ turned_down (qreg 3 ++ for (lit 0) (lit 1) (cx (var 0 plus lit 1) (lit 1 plus var 0))) 35 18
    ∷ turned_down (up_to (cx ((lit 2 times i) minus i) i)) 35 32
    ∷ turned_down (up_to (cx i (i plus (lit 0 times n)))) 35 32
    ∷ turned_down (halves (cx (lit 2 times i) (i plus i))) 35 39
    -- unequal ones: another constant, another coefficient, another variable
    ∷ accepted (qreg 2 ++ cx (lit 1) (lit 1 minus lit 1))
    ∷ accepted (family (n plus lit 2) (cx n (n plus lit 1)))
    ∷ accepted (halves (cx (lit 2 times i) i))
    ∷ accepted (up_to (cx i n))
    -- equal ones of different registers
    ∷ accepted (qreg 1 ++ qreg 1 ++ pair q₀ (bit (lit 0)))
    ∷ gives (run (qreg 1 ++ qreg 1 ++ pair q₀ (bit (lit 0))) 100 (lent 12)) 0 0 1 1 (two 4 0 1)
    -- wholes of one number, and of another
    ∷ turned_down (couple (pair (whole 1) (whole 1))) 35 11
    ∷ accepted (couple (pair (whole 0) (whole 1)))
    ∷ []

-- ---- cphase

phases : List Example
phases =
    turned_down (qreg 1 ++ cphase (lit 1) (q₀ ++ q₀)) 35 5
    ∷ turned_down (couple (cphase (lit 1) (whole 0 ++ whole 0))) 35 11
    ∷ turned_down (up_to (cphase i (at (i plus lit 0) ++ at i))) 35 32
    ∷ accepted (qreg 2 ++ cphase (lit 1) (q₀ ++ q₁))
    ∷ accepted (couple (cphase (lit 1) (whole 0 ++ whole 1)))
    -- whatever k is, once it is shown: 64 ends a run only
    ∷ turned_down (qreg 1 ++ cphase (lit 64) (q₀ ++ q₀)) 35 5
    -- a k that is not shown, or not in scope, comes first, and so do the operands and bytes left over
    ∷ turned_down (qreg 1 ++ cphase (lit 0 minus lit 1) (q₀ ++ q₀)) 12 8
    ∷ turned_down (qreg 1 ++ cphase (var 0) (q₀ ++ q₀)) 8 8
    ∷ turned_down (qreg 1 ++ cphase (lit 1) (q₁ ++ q₁)) 12 13
    ∷ turned_down (qreg 1 ++ cphase (lit 1) (q₀ ++ whole 0)) 9 22
    ∷ turned_down (qreg 1 ++ cphase (lit 1) (q₀ ++ q₀ ++ (0 ∷ []))) 4 5
    ∷ []

-- ---- in which order

-- what comes first in the gate: each operand fully, then bytes left over
order : List Example
order =
    turned_down (qreg 1 ++ cx (lit 1) (lit 1)) 12 8
    ∷ turned_down (qreg 1 ++ cx (lit 0) (lit 1)) 12 17
    ∷ turned_down (qreg 1 ++ pair (whole 9) (whole 9)) 8 8
    ∷ turned_down (qreg 1 ++ pair q₀ (whole 9)) 8 17
    ∷ turned_down (qreg 1 ++ pair q₀ []) 4 5
    ∷ turned_down (qreg 1 ++ pair q₀ (field 49 (0 ∷ lit 0 ++ (0 ∷ [])))) 4 17
    ∷ turned_down (qreg 1 ++ pair q₀ (q₀ ++ (0 ∷ []))) 4 5
    -- registers, bits, slices and families are no wires
    ∷ turned_down (qreg 1 ++ pair (whole 0) (whole 0)) 9 8
    ∷ turned_down (creg 1 ++ cx (lit 0) (lit 0)) 9 8
    ∷ turned_down (qreg 2 ++ pair (from (lit 0) (lit 0)) (from (lit 0) (lit 0))) 9 8
    ∷ turned_down (qreg 2 ++ pair q₀ (from (lit 0) (lit 0))) 9 17
    ∷ turned_down (L ++ pair (passed 0) (passed 0)) 9 46
    ∷ turned_down (field 1 (0 ∷ 1 ∷ field 18 (0 ∷ 1 ∷ field 16 []) ++ pair (whole 0) (whole 0))) 9 16
    -- one number, whole and element: one of them is not a wire
    ∷ turned_down (qreg 1 ++ pair q₀ (whole 0)) 9 17
    ∷ turned_down (qreg 1 ++ pair (whole 0) q₀) 9 8
    ∷ turned_down (couple (pair (whole 0) q₀)) 9 18
    ∷ turned_down (couple (pair q₀ (whole 0))) 9 14
    ∷ []

-- among gates and fields: the first fault is the answer
around : List Example
around =
    -- an earlier one stays
    turned_down (qreg 1 ++ h (lit 1) ++ cx (lit 0) (lit 0)) 12 8
    ∷ turned_down (qreg 1 ++ reverse (h (lit 1) ++ cx (lit 0) (lit 0))) 12 11
    ∷ turned_down (qreg 1 ++ for (var 0) (lit 0) (cx (lit 0) (lit 0))) 8 8
    ∷ turned_down (family (n minus lit 1) (cx (lit 0) (lit 0))) 12 5
    ∷ turned_down (qreg 1 ++ creg 1 ++ field 6 (2 ∷ bit (lit 0) ++ cx (lit 0) (lit 0))) 13 10
    ∷ turned_down (qreg 1 ++ nested 16 reverse (cx (lit 0) (lit 0))) 5 53
    ∷ turned_down (qreg 1 ++ nested 9 (for (lit 0) (lit 0)) (cx (lit 0) (lit 0))) 6 109
    -- a later one is hidden: not shown, an unknown tag, a header that is cut off, another such gate
    ∷ turned_down (itself ++ h (lit 1)) 35 5
    ∷ turned_down (itself ++ field 7 []) 35 5
    ∷ turned_down (itself ++ (32 ∷ [])) 35 5
    ∷ turned_down (itself ++ cx (lit 0) (lit 0)) 35 5
    ∷ turned_down (qreg 1 ++ reverse (cx (lit 0) (lit 0) ++ h (lit 1))) 35 8
    ∷ turned_down (family (n plus lit 1) (cx n n) ++ family n (h (lit 0))) 35 20
    ∷ []

-- ---- wherever the gate stands, whether or not it is ever run

anywhere : List Example
anywhere =
    -- a loop without rounds, a family that is not called, the last loop and the last level, a reverse, an if
    turned_down (qreg 1 ++ for (lit 1) (lit 0) (cx (lit 0) (lit 0))) 35 18
    ∷ turned_down (couple (pair (whole 0) (whole 0)) ++ qreg 1 ++ h (lit 0)) 35 11
    ∷ turned_down (qreg 1 ++ nested 8 (for (lit 0) (lit 0)) (cx (var 7) (var 7))) 35 109
    ∷ turned_down (qreg 1 ++ nested 15 reverse (cx (lit 0) (lit 0))) 35 50
    ∷ turned_down (qreg 1 ++ reverse (cx (lit 0) (lit 0))) 35 8
    ∷ turned_down (qreg 1 ++ creg 1 ++ field 6 (1 ∷ bit (lit 0) ++ cx (lit 0) (lit 0))) 35 23
    -- a family that is passed: at its declaration
    ∷ turned_down (field 1 (0 ∷ 1 ∷ field 16 [] ++ pair (whole 0) (whole 0)) ++ field 1 (0 ∷ 2 ∷ field 18 (0 ∷ 1 ∷ field 16 []) ++ field 16 [] ++ field 42 (0 ∷ whole 1)) ++ qreg 1 ++ field 36 (1 ∷ passed 0 ++ q₀)) 35 8
    -- runs and instances answer as the check does: no step, no record, the output as it was
    ∷ gives (run itself 100 (lent 13)) 35 5 0 0 (lent 13)
    ∷ gives (run itself 0 []) 35 5 0 0 []
    ∷ gives (run (qreg 1 ++ h (lit 0) ++ cphase (lit 1) (q₀ ++ q₀)) 100 (lent 13)) 35 17 0 0 (lent 13)
    ∷ gives (instance (couple (pair (whole 1) (whole 1))) 0 [] 100 (lent 8)) 35 11 0 0 (lent 8)
    ∷ gives (instance (family (n plus lit 1) (cx n n)) 0 (size 3) 100 (lent 8)) 35 20 0 0 (lent 8)
    -- before 20 and 21, and also for another family
    ∷ gives (instance (couple (pair (whole 1) (whole 1))) 7 [] 100 (lent 8)) 35 11 0 0 (lent 8)
    ∷ gives (instance (family (n plus lit 1) (cx n n)) 0 [] 100 (lent 8)) 35 20 0 0 (lent 8)
    ∷ gives (instance (L ++ couple (pair (whole 1) (whole 1))) 0 (size 1) 100 (lent 12)) 35 54 0 0 (lent 12)
    ∷ []

-- ---- what is left to a run: 25 where both operands come to be one wire

-- for i=0..1, for j=i..i, cx(q[i],q[j])
abbrev meeting : List ℕ
meeting = qreg 2 ++ for (lit 0) (lit 1) (for (var 0) (var 0) (cx (var 0) (var 1)))

-- cx(x,y) called with q[0] and q[0]
abbrev same_twice : List ℕ → List ℕ
same_twice body = couple body ++ qreg 1 ++ field 36 (0 ∷ q₀ ++ q₀)

-- a call with two operands of a family of two registers, at the size 2
abbrev laid : List ℕ → List ℕ → List ℕ
laid body operands = registers (lit 2) body ++ qreg 4 ++ field 36 (0 ∷ operands)

in_runs : List Example
in_runs =
    -- different forms of one value
    accepted meeting
    ∷ gives (run meeting 100 (lent 8)) 25 29 0 5 (lent 8)
    ∷ accepted (qreg 2 ++ for (lit 0) (lit 1) (cx (var 0) (lit 0)))
    ∷ gives (run (qreg 2 ++ for (lit 0) (lit 1) (cx (var 0) (lit 0))) 100 (lent 12)) 25 18 0 3 (lent 12)
    ∷ gives (run (qreg 2 ++ reverse (for (lit 0) (lit 1) (cx (var 0) (lit 0)))) 100 (lent 13)) 25 21 1 6 (two 4 1 0 ++ lent 1)
    ∷ gives (instance (up_to (cx i n)) 0 (size 1) 100 (lent 13)) 25 32 1 5 (two 4 0 1 ++ lent 1)
    ∷ gives (instance (halves (cx (lit 2 times i) i)) 0 (size 1) 100 (lent 12)) 25 39 0 3 (lent 12)
    -- two parameters that get one wire, by cx and by cphase, where 25 comes before 32
    ∷ accepted (same_twice (pair (whole 0) (whole 1)))
    ∷ gives (run (same_twice (pair (whole 0) (whole 1))) 100 (lent 8)) 25 11 0 2 (lent 8)
    ∷ gives (run (same_twice (field 32 (whole 0) ++ pair (whole 0) (whole 1))) 100 (lent 13)) 25 18 1 3 (one 1 0 ++ lent 1)
    ∷ accepted (same_twice (cphase (lit 64) (whole 0 ++ whole 1)))
    ∷ gives (run (same_twice (cphase (lit 64) (whole 0 ++ whole 1))) 100 (lent 8)) 25 11 0 2 (lent 8)
    -- two parameters that get one register
    ∷ accepted (laid (pair q₀ (bit (lit 0))) (whole 0 ++ whole 0))
    ∷ gives (run (laid (pair q₀ (bit (lit 0))) (whole 0 ++ whole 0)) 100 (lent 12)) 25 21 0 2 (lent 12)
    ∷ gives (run (laid (pair q₀ (bit (lit 1))) (whole 0 ++ whole 0)) 100 (lent 12)) 0 0 1 2 (two 4 0 1)
    -- slices that overlap: q[0..1] and q[1..2]; those that do not: q[0..1] and q[2..3]
    ∷ accepted (laid (pair q₁ (bit (lit 0))) (from (lit 0) (lit 1) ++ from (lit 1) (lit 2)))
    ∷ gives (run (laid (pair q₁ (bit (lit 0))) (from (lit 0) (lit 1) ++ from (lit 1) (lit 2))) 100 (lent 12)) 25 21 0 2 (lent 12)
    ∷ gives (run (laid (pair q₁ (bit (lit 0))) (from (lit 0) (lit 1) ++ from (lit 2) (lit 3))) 100 (lent 12)) 0 0 1 2 (two 4 1 2)
    -- a family that is passed and called with one wire twice
    ∷ gives (run (couple (pair (whole 0) (whole 1)) ++ field 1 (0 ∷ 2 ∷ field 18 (0 ∷ 2 ∷ field 16 [] ++ field 16 []) ++ field 16 [] ++ field 42 (0 ∷ whole 1 ++ whole 1)) ++ qreg 1 ++ field 36 (1 ∷ passed 0 ++ q₀)) 100 (lent 12)) 25 11 0 3 (lent 12)
    ∷ []

forms_hold : all_hold forms ≡ true
unfolding computed forms
forms_hold = refl

-- without 35 the check accepts cx of a wire with itself
unlike : verdict (check_program_by no_twice itself) ≡ R.turned_down 0 0
unfolding computed check_program_by
unlike = refl

phases_hold : all_hold phases ≡ true
unfolding computed phases
phases_hold = refl

order_hold : all_hold order ≡ true
unfolding computed order
order_hold = refl

around_hold : all_hold around ≡ true
unfolding computed around
around_hold = refl

anywhere_hold : all_hold anywhere ≡ true
unfolding computed anywhere
anywhere_hold = refl

in_runs_hold : all_hold in_runs ≡ true
unfolding computed in_runs
in_runs_hold = refl

-- ---- the tests themselves

-- four index variables and eight loops
abbrev full : Scope
full = record { families = []; operands = []; variables = 4; loops = replicate 8 (record { low = constant_form (pos 0); high = constant_form (pos 0) }); rules = all_rules }

abbrev element_of : ℕ → Index → Operand
element_of k i = T.element 3 k i ended

abbrev index_variable : ℕ → Index
index_variable v = variable 7 v ended

abbrev same : Operand → Operand → Bool
same c o = same_wire full c o

abbrev other : Operand → Operand → Bool
other c o = not (same_wire full c o)

wires : Bool
wires =
    -- places and endings do not matter, the number does
    same (T.whole 3 0 ended) (T.whole 7 0 leftover)
    && other (T.whole 3 0 ended) (T.whole 3 1 ended)
    && same (T.element 3 0 (literal 7 5) ended) (T.element 9 0 (literal 13 5) leftover)
    && other (element_of 0 (literal 7 5)) (element_of 1 (literal 7 5))
    && other (element_of 0 (literal 7 5)) (element_of 0 (literal 7 6))
    -- a whole and an element, slices, families, and what cannot be read
    && other (T.whole 3 0 ended) (element_of 0 (literal 7 0))
    && other (element_of 0 (literal 7 0)) (T.whole 3 0 ended)
    && other (T.slice 3 0 (literal 7 0) (literal 7 0) ended) (T.slice 3 0 (literal 7 0) (literal 7 0) ended)
    && other (T.slice 3 0 (literal 7 0) (literal 7 0) ended) (element_of 0 (literal 7 0))
    && other (element_of 0 (literal 7 0)) (T.slice 3 0 (literal 7 0) (literal 7 0) ended)
    && other (T.whole 3 0 ended) (T.slice 3 0 (literal 7 0) (literal 7 0) ended)
    && other (T.passed 3 0 ended) (T.passed 3 0 ended)
    && other (T.whole 3 0 ended) (T.passed 3 0 ended)
    && other (T.bad_operand 4 3) (T.bad_operand 4 3)
    -- each variable in scope is one of its own
    && same (element_of 0 (index_variable 11)) (element_of 0 (index_variable 11))
    && other (element_of 0 (index_variable 11)) (element_of 0 (index_variable 10))
    && other (element_of 0 (index_variable 0)) (element_of 0 (index_variable 4))
    -- indexes without a form
    && other (element_of 0 (index_variable 12)) (element_of 0 (index_variable 12))
    && other (element_of 0 (operation 7 product (index_variable 0) (index_variable 0) ended)) (element_of 0 (operation 7 product (index_variable 0) (index_variable 0) ended))
    && other (element_of 0 (bad_index 4 7)) (element_of 0 (bad_index 4 7))
    && other (element_of 0 (literal 7 0)) (element_of 0 (bad_index 4 7))

wires_hold : wires ≡ true
unfolding forming checking wires
wires_hold = refl

numbers : Bool
numbers =
    same_form (form (negsuc 2) (pos 1) (negsuc 0) (pos 0) (pos 7)) (form (negsuc 2) (pos 1) (negsuc 0) (pos 0) (pos 7))
    -- 0 and −1, 1 and −1, 1 and −2
    && not (same_form (constant_form (pos 0)) (constant_form (negsuc 0)))
    && not (same_form (constant_form (pos 1)) (constant_form (negsuc 0)))
    && not (same_form (constant_form (negsuc 1)) (constant_form (pos 1)))
    && not (same_form (constant_form (negsuc 0)) (constant_form (negsuc 1)))
    -- the constant, and the first, a middle and the last coefficient
    && not (same_form (constant_form (pos 1)) (constant_form (pos 2)))
    && not (same_form S.n (form (pos 0) (pos 2) (pos 0) (pos 0) (pos 0)))
    && not (same_form S.one S.two)
    && not (same_form (variable_form 11) (constant_form (pos 0)))
    && not (same_numbers (pos 0 ∷ []) [])
    && not (same_numbers [] (pos 0 ∷ []))

numbers_hold : numbers ≡ true
unfolding forming numbers
numbers_hold = refl
