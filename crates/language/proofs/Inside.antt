-- Runs of wires inside registers: the laws of specs/Inside. Assumes nothing.
use mathlib.Core.Path.{◌≡◌, refl}
use mathlib.Core.List.{List, [], ◌∷◌, ◌++◌}
use mathlib.Core.Bool.{Bool, true, false, cond}
use mathlib.Core.Option.{Option, none, some}
use Prim.Native.Nat.{ℕ, zero, suc, ◌+◌, ◌≤◌}
use native.Mathlib.Omega.{arith}
use lib.IntN.{ℤ, pos, negsuc, ◌+ℤ◌, ◌-ℤ◌}
use lib.Dec.{ltb}
use lib.ListN.{get_elem?}
use Rattle.language.specs.Tree.{Place, Operand, whole, element, slice, passed, bad_operand, Argument, index, operand, bad_argument}
use Rattle.language.specs.Machine as M
use Rattle.language.specs.Machine.{Meaning, a_wire, a_bit, wires, bits, the_family, Frame, State, Outcome, going, ended, stuck, Run}
use Rattle.language.specs.Inside.{Inside, here, later, Lies, AllLie, Gives, SliceLaw, OperandLaw, CallLaw}
use Rattle.language.proofs.Integers.{slice_within}

-- a part of a run of wires lies where the run lies
pub inside_part : {rs : List Meaning} {from n : ℕ} (first size : ℕ) → Inside rs from n → from ≤ first → first + size ≤ from + n → Inside rs first size
inside_part first size (here {a = a} {n = n} l u) h k = here {a = a} {n = n} {first = first} {size = size} (omega arith) (omega arith)
inside_part first size (later i) h k = later (inside_part first size i h k)

-- what lies inside registers lies where they lie
pub inside_trans : (qs rs : List Meaning) {first n : ℕ} → AllLie qs rs → Inside rs first n → Inside qs first n
inside_trans qs (wires a m ∷ rs) {first} {n} l (here x y) = inside_part first n l.0 x y
inside_trans qs (r ∷ rs) l (later i) = inside_trans qs rs l.1 i
inside_trans qs [] {first = first} {n = n} l i = elim i [ ]

lies_trans : (qs rs : List Meaning) (m : Meaning) → AllLie qs rs → Lies rs m → Lies qs m
lies_trans qs rs (a_wire w) l h = tt
lies_trans qs rs (a_bit b) l h = tt
lies_trans qs rs (wires a n) l h = inside_trans qs rs l h
lies_trans qs rs (bits a n) l h = tt
lies_trans qs rs (the_family n) l h = tt

pub lie_parts : (rs ms ns : List Meaning) → AllLie rs (ms ++ ns) → AllLie rs ms × AllLie rs ns
lie_parts rs [] ns i = (tt, i)
lie_parts rs (m ∷ ms) ns i = let j = lie_parts rs ms ns i.1 in ((i.0, j.0), j.1)

lies_later : (r : Meaning) (rs : List Meaning) (m : Meaning) → Lies rs m → Lies (r ∷ rs) m
lies_later r rs (a_wire w) i = tt
lies_later r rs (a_bit b) i = tt
lies_later r rs (wires a n) i = later i
lies_later r rs (bits a n) i = tt
lies_later r rs (the_family n) i = tt

lies_first : (m : Meaning) (rs : List Meaning) → Lies (m ∷ rs) m
lies_first (a_wire w) rs = tt
lies_first (a_bit b) rs = tt
lies_first (wires a n) rs = here {a = a} {n = n} {first = a.number} {size = n} (omega arith) (omega arith)
lies_first (bits a n) rs = tt
lies_first (the_family n) rs = tt

lie_later : (r : Meaning) (rs ms : List Meaning) → AllLie rs ms → AllLie (r ∷ rs) ms
lie_later r rs [] i = tt
lie_later r rs (m ∷ ms) i = (lies_later r rs m i.0, lie_later r rs ms i.1)

-- registers lie inside themselves
pub lie_all : (rs : List Meaning) → AllLie rs rs
lie_all [] = tt
lie_all (r ∷ rs) = (lies_first r rs, lie_later r rs rs (lie_all rs))

-- ---- the machine's operands

pub record Yields {A : Type 0} (P : A → Type 0) (run : Run A) : Type 0 where
  pub yields : (s : State) → Gives P (run s)

pub gives_after : {A B : Type 0} (P : A → Type 0) (Q : B → Type 0) (o : Outcome A) (next : A → Run B) → Gives P o → ((a : A) → P a → Yields Q (next a)) → Gives Q (M.after o next)
unfolding M.after
gives_after P Q (going a s) next h k = (k a h).yields s
gives_after P Q (ended n p s) next h k = tt
gives_after P Q stuck next h k = tt

pub yields_bind : {A B : Type 0} {P : A → Type 0} {Q : B → Type 0} {run : Run A} {next : A → Run B} → Yields P run → ((a : A) → P a → Yields Q (next a)) → Yields Q (M.◌>>=◌ run next)
unfolding M.◌>>=◌
yields_bind {P = P} {Q = Q} {run = run} {next = next} h k = record { yields = λ s. gives_after P Q (run s) next (h.yields s) k }

pub yields_give : {A : Type 0} {P : A → Type 0} {a : A} → P a → Yields P (M.give a)
yields_give h = record { yields = λ s. h }

pub yields_nothing : {A : Type 0} {P : A → Type 0} → Yields P M.no_meaning
yields_nothing = record { yields = λ s. tt }

pub yields_any : {A : Type 0} (run : Run A) → Yields (λ a. Unit {0}) run
yields_any {A} run = record { yields = λ s. go (run s) }
  where
    go : (o : Outcome A) → Gives (λ a. Unit {0}) o
    go (going a s) = tt
    go (ended n p s) = tt
    go stuck = tt

natural_yields : (z : ℤ) → Yields (λ n. z ≡ pos n) (M.natural_of z)
unfolding M.natural_of
natural_yields (pos n) = yields_give refl
natural_yields (negsuc n) = yields_nothing

found_lies : (ms : List Meaning) (n : ℕ) → Yields (Lies ms) (M.found (get_elem? ms n))
unfolding M.found
found_lies ms n = go (get_elem? ms n) (λ m e. at ms n m e)
  where
    at : (ms : List Meaning) (n : ℕ) (m : Meaning) → get_elem? ms n ≡ some m → Lies ms m
    at [] n m e = absurd (let z : ◌≡◌ {A = ℕ} 0 1 = cc in omega arith)
    at (x ∷ ms) zero m e = let q : x ≡ m = cc in rw (← q) (lies_first x ms)
    at (x ∷ ms) (suc n) m e = lies_later x ms m (at ms n m e)

    go : (o : Option Meaning) → ((m : Meaning) → o ≡ some m → Lies ms m) → Yields (Lies ms) (M.found o)
    go none h = yields_nothing
    go (some m) h = yields_give (h m refl)

-- one wire or one bit
element_lies : (rs : List Meaning) (m : Meaning) (z : ℤ) → Yields (Lies rs) (M.element_at m z)
unfolding M.element_at
element_lies rs (a_wire w) z = yields_nothing
element_lies rs (a_bit b) z = yields_nothing
element_lies rs (wires a n) (pos i) = go (ltb i n)
  where
    go : (b : Bool) → Yields (Lies rs) (cond b (M.give (a_wire (record { number = a.number + i }))) M.no_meaning)
    go true = yields_give tt
    go false = yields_nothing
element_lies rs (wires a n) (negsuc i) = yields_nothing
element_lies rs (bits a n) (pos i) = go (ltb i n)
  where
    go : (b : Bool) → Yields (Lies rs) (cond b (M.give (a_bit (record { number = a.number + i }))) M.no_meaning)
    go true = yields_give tt
    go false = yields_nothing
element_lies rs (bits a n) (negsuc i) = yields_nothing
element_lies rs (the_family n) z = yields_nothing

slice_lies : (rs : List Meaning) (m : Meaning) (x y : ℤ) → Lies rs m → Yields (Lies rs) (M.slice_at m x y)
unfolding M.slice_at
slice_lies rs (a_wire w) x y l = yields_nothing
slice_lies rs (a_bit b) x y l = yields_nothing
slice_lies rs (wires a n) x y l =
    yields_bind (natural_yields x) λ b e. yields_bind (natural_yields (pos n -ℤ pos 1 -ℤ y)) λ c g. yields_bind (natural_yields (y -ℤ x +ℤ pos 1)) λ k h.
    yields_give (inside_part (a.number + b) k l (omega arith) (omega (arith, slice_within n x y e g h)))
slice_lies rs (bits a n) x y l = yields_nothing
slice_lies rs (the_family n) x y l = yields_nothing

-- what an operand stands for lies inside what its number stands for
operand_lies : (p : Place) (f : Frame) (o : Operand) → Yields (Lies f.operands) (M.meaning_of p f o)
unfolding M.meaning_of M.run_bounds
operand_lies p f (whole q n e) = found_lies f.operands n
operand_lies p f (element q n i e) = yields_bind (found_lies f.operands n) λ m h. yields_bind (yields_any (M.evaluate p f.variables i)) λ z u. element_lies f.operands m z
operand_lies p f (slice q n i j e) =
    yields_bind (found_lies f.operands n) λ m h. yields_bind (yields_any (M.evaluate p f.variables i)) λ x u. yields_bind (yields_any (M.evaluate p f.variables j)) λ y v. slice_lies f.operands m x y h
operand_lies p f (passed q n e) = yields_give tt
operand_lies p f (bad_operand n q) = yields_nothing

-- so a body is entered with runs of wires inside the registers that the caller's lie in, through any number of calls
call_lies : (rs : List Meaning) (p : Place) (f : Frame) (args : List Argument) → AllLie rs f.operands → Yields (AllLie rs) (M.meanings_of p f args)
unfolding M.meanings_of
call_lies rs p f [] l = yields_give tt
call_lies rs p f (index q i ∷ args) l = call_lies rs p f args l
call_lies rs p f (operand q o ∷ args) l =
    yields_bind (operand_lies p f o) λ m h. yields_bind (call_lies rs p f args l) λ ms k. yields_give (lies_trans rs f.operands m l h, k)
call_lies rs p f (bad_argument n q ∷ args) l = yields_nothing

pub slice_law : SliceLaw
slice_law first size x y s = (slice_lies (wires first size ∷ []) (wires first size) x y (lies_first (wires first size) [])).yields s

pub operand_law : OperandLaw
operand_law p f o s = (operand_lies p f o).yields s

pub call_law : CallLaw
call_law registers p f args s l = (call_lies registers p f args l).yields s
