-- Computed examples of slices: the wires they stand for, what the check shows of them in order, and where the machine is stuck.
use Rattle.std.specs.Prelude.{◌≡◌, refl, List, [], ◌∷◌, ◌++◌, true, ℕ, ◌+◌, ◌*◌, ℤ, pos, negsuc}
use Rattle.language.specs.Machine as M
use Rattle.language.specs.Machine.{Meaning, a_wire, a_bit, wires, bits, the_family, Outcome, stuck, slice_at, begin}
use Rattle.language.specs.Computed.{machining}
use Rattle.language.specs.Calls.{Example, run, instance, all_hold, computed, field, lit, var, ◌plus◌, ◌minus◌, for, qreg, creg, family, n, i, L, size, one, lent, gives, accepted, turned_down, from}

-- a call of the family 0, which is L: h on each of n wires; its slice is the last operand
abbrev call : List ℕ → List ℕ → List ℕ
call size operands = field 36 (0 ∷ size ++ operands)

-- L, a register of 5 at 43, and the call at 48; the operand is at 57 where the size is a literal
abbrev called : List ℕ → List ℕ → List ℕ
called size operands = L ++ qreg 5 ++ call size operands

-- −1, and 1,600,000,000
abbrev below : List ℕ
below = lit 0 minus lit 1

abbrev large : List ℕ
large = field 68 (lit 40_000 ++ lit 40_000)

-- what a slice stands for; the last wire is in it
runs : List Example
runs =
    gives (run (called (lit 2) (from (lit 1) (lit 2))) 100 (lent 24)) 0 0 2 6 (one 1 1 ++ one 1 2)
    ∷ gives (run (called (lit 1) (from (lit 4) (lit 4))) 100 (lent 12)) 0 0 1 4 (one 1 4)
    ∷ gives (run (called (lit 1) (from (lit 1) (lit 3))) 100 (lent 12)) 0 0 1 4 (one 1 1)
    ∷ accepted (called (lit 5) (from (lit 0) (lit 4)))
    -- empty slices: at the beginning, inside, at the very end, and of an empty register
    ∷ gives (run (called (lit 0) (from (lit 0) below)) 100 (lent 12)) 0 0 0 2 (lent 12)
    ∷ gives (run (called (lit 0) (from (lit 3) (lit 2))) 100 (lent 12)) 0 0 0 2 (lent 12)
    ∷ gives (run (called (lit 0) (from (lit 5) (lit 4))) 100 (lent 12)) 0 0 0 2 (lent 12)
    ∷ gives (run (L ++ qreg 0 ++ call (lit 0) (from (lit 0) below)) 100 (lent 12)) 0 0 0 2 (lent 12)
    ∷ []

-- 9, then first ≥ 0, size − 1 − last ≥ 0, last − first + 1 ≥ 0, then large enough
showings : List Example
showings =
    turned_down (called (lit 0) (from below (lit 4))) 12 57
    ∷ turned_down (called (lit 0) (from (lit 0) (lit 5))) 12 57
    ∷ turned_down (called (lit 0) (from (lit 6) (lit 5))) 12 57
    ∷ turned_down (called (lit 0) (from (lit 2) (lit 0))) 12 57
    ∷ turned_down (called (lit 3) (from (lit 1) (lit 2))) 12 57
    ∷ turned_down (called (lit 1) (from (lit 5) (lit 4))) 12 57
    -- last − first out of range is 11, after first ≥ 0 and size − 1 − last ≥ 0
    ∷ turned_down (called (lit 0) (from large (lit 0 minus large))) 11 57
    ∷ turned_down (called (lit 0) (from (lit 0 minus large) large)) 12 57
    ∷ turned_down (called (lit 0) (from large large)) 12 57
    -- 12 of its own size comes before 11 of the size that is due
    ∷ turned_down (family (n plus n) [] ++ qreg 5 ++ call large (from (lit 2) (lit 0))) 12 41
    ∷ turned_down (family (n plus n) [] ++ qreg 5 ++ call large (from (lit 2) (lit 2))) 11 41
    -- 9 where Qbit[I] is not wanted, or not under the number; before the showings
    ∷ turned_down (qreg 5 ++ field 32 (from (lit 0) (lit 0))) 9 8
    ∷ turned_down (qreg 5 ++ field 32 (from below (lit 9))) 9 8
    ∷ turned_down (qreg 5 ++ creg 5 ++ field 6 (0 ∷ field 50 (1 ∷ lit 0 ++ lit 0))) 9 14
    ∷ turned_down (field 1 (0 ∷ 1 ∷ field 16 []) ++ qreg 5 ++ field 36 (0 ∷ from (lit 0) (lit 0))) 9 17
    ∷ turned_down (L ++ creg 5 ++ call (lit 0) (from below (lit 9))) 9 57
    ∷ turned_down (L ++ field 1 (0 ∷ 1 ∷ field 16 [] ++ call (lit 0) (from (lit 0) (lit 0)))) 9 60
    -- the number when read, then the indexes, then leftover bytes, then 9
    ∷ turned_down (called (lit 0) (field 50 [])) 4 57
    ∷ turned_down (called (lit 0) (field 50 (1 ∷ []))) 8 57
    ∷ turned_down (called (lit 0) (field 50 (0 ∷ []))) 4 57
    ∷ turned_down (called (lit 0) (field 50 (0 ∷ lit 0))) 4 57
    ∷ turned_down (called (lit 0) (from (lit 0) (var 0))) 8 66
    ∷ turned_down (called (lit 0) (from (lit 0) (field 48 (0 ∷ [])))) 3 66
    ∷ turned_down (called (lit 0) (field 50 (0 ∷ below ++ lit 4 ++ lit 0))) 4 57
    ∷ turned_down (qreg 5 ++ field 32 (field 50 (0 ∷ lit 0 ++ lit 0 ++ lit 0))) 4 8
    -- an operand, also where an index is due
    ∷ turned_down (L ++ qreg 5 ++ call (from (lit 0) (lit 0)) []) 3 52
    ∷ []

-- x:Qbit[n+2], L on x[1..n]
abbrev inner : List ℕ
inner = family (n plus lit 2) (call n (from (lit 1) n))

-- z:Qbit[n+n], for i=0..n-1 L on z[i..i+n-1]
abbrev shifted : List ℕ
shifted = family (n plus n) (for (lit 0) (n minus lit 1) (call n (from i (i plus n minus lit 1))))

-- slices of slices, and slices at every size
nested : List Example
nested =
    gives (run (L ++ inner ++ qreg 2 ++ qreg 6 ++ field 36 (1 ∷ lit 2 ++ field 50 (1 ∷ lit 1 ++ lit 4))) 100 (lent 24)) 0 0 2 7 (one 1 4 ++ one 1 5)
    ∷ gives (run (L ++ inner ++ qreg 2 ++ field 36 (1 ∷ lit 0 ++ from (lit 0) (lit 1))) 100 (lent 24)) 0 0 0 3 (lent 24)
    ∷ gives (instance (L ++ shifted) 1 (size 2) 100 (lent 48)) 0 0 4 15 (one 1 0 ++ one 1 1 ++ one 1 1 ++ one 1 2)
    ∷ gives (instance (L ++ shifted) 1 (size 0) 100 (lent 48)) 0 0 0 1 (lent 48)
    -- one further: z[i..i+n] leaves room, z[i+1..i+n+1] does not
    ∷ accepted (L ++ family (n plus n) (for (lit 0) (n minus lit 1) (call n (from i (i plus n)))))
    ∷ turned_down (L ++ family (n plus n) (for (lit 0) (n minus lit 1) (call n (from (i plus lit 1) (i plus n plus lit 1))))) 12 90
    ∷ []

runs_hold : all_hold runs ≡ true
unfolding computed runs
runs_hold = refl

showings_hold : all_hold showings ≡ true
unfolding computed showings
showings_hold = refl

nested_hold : all_hold nested ≡ true
unfolding computed nested
nested_hold = refl

-- ---- the machine without the check, on the 5 wires from 10 on: 0 for stuck, else 100 times the first wire and the size

unfoldable shown : Meaning → ℕ
shown (a_wire w) = 1
shown (a_bit b) = 1
shown (wires w k) = 100 * w.number + k
shown (bits b k) = 1
shown (the_family k) = 1

unfoldable sliced : Outcome Meaning → ℕ
sliced (M.going m s) = shown m
sliced (M.ended k p s) = 2
sliced stuck = 0

abbrev cut : ℤ → ℤ → ℕ
cut x y = sliced (slice_at (wires (record { number = 10 }) 5) x y begin)

whole_cut : cut (pos 0) (pos 4) ≡ 1005
unfolding machining sliced shown
whole_cut = refl

end_cut : cut (pos 5) (pos 4) ≡ 1500
unfolding machining sliced shown
end_cut = refl

begin_cut : cut (pos 0) (negsuc 0) ≡ 1000
unfolding machining sliced shown
begin_cut = refl

first_stuck : cut (negsuc 0) (pos 4) ≡ 0
unfolding machining sliced shown
first_stuck = refl

last_stuck : cut (pos 0) (pos 5) ≡ 0
unfolding machining sliced shown
last_stuck = refl

size_stuck : cut (pos 5) (pos 3) ≡ 0
unfolding machining sliced shown
size_stuck = refl

bits_stuck : sliced (slice_at (bits (record { number = 0 }) 5) (pos 0) (pos 0) begin) ≡ 0
unfolding machining sliced shown
bits_stuck = refl

family_stuck : sliced (slice_at (the_family 0) (pos 0) (pos 0) begin) ≡ 0
unfolding machining sliced shown
family_stuck = refl

wire_stuck : sliced (slice_at (a_wire (record { number = 0 })) (pos 0) (pos 0) begin) ≡ 0
unfolding machining sliced shown
wire_stuck = refl
