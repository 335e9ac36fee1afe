-- Runs of wires: a slice lies inside the register that it is cut from, and through every call inside one of those laid out. Here it is stated; proofs/Inside proves it.
use Rattle.std.specs.Prelude.{List, [], ◌∷◌, ◌++◌, ℕ, ◌+◌, ◌≤◌, ℤ}
use Rattle.language.specs.Tree.{Place, number, missing, Operand, Argument, Top, family, qreg, creg, measure, reset, if, statement, bad_top}
use Rattle.language.specs.Machine.{Wire, Meaning, a_wire, a_bit, wires, bits, the_family, Frame, State, Outcome, going, ended, stuck, slice_at, meaning_of, meanings_of}
use Rattle.language.specs.Sound.{qubits_of}

-- so many wires from `first` on lie inside one of these registers
pub data Inside : List Meaning → (first size : ℕ) → Type 0 where
  here : {a : Wire} {n first size : ℕ} {ms : List Meaning} → a.number ≤ first → first + size ≤ a.number + n → Inside (wires a n ∷ ms) first size
  later : {m : Meaning} {first size : ℕ} {ms : List Meaning} → Inside ms first size → Inside (m ∷ ms) first size

-- a meaning that is a run of wires lies inside one of these registers
abbrev pub Lies : (registers : List Meaning) → Meaning → Type 0
Lies registers (a_wire w) = Unit {0}
Lies registers (a_bit b) = Unit {0}
Lies registers (wires a n) = Inside registers a.number n
Lies registers (bits a n) = Unit {0}
Lies registers (the_family n) = Unit {0}

abbrev pub AllLie : (registers : List Meaning) → List Meaning → Type 0
AllLie registers [] = Unit {0}
AllLie registers (m ∷ ms) = Lies registers m × AllLie registers ms

-- the quantum register that a top field declares, after so many qubits
unfoldable pub registers_of : ℕ → Top → List Meaning
registers_of next (qreg p (number n) e) = wires (record { number = next }) n ∷ []
registers_of next (qreg p missing e) = []
registers_of next (creg p n e) = []
registers_of next (family p m n types body) = []
registers_of next (measure p w b e) = []
registers_of next (reset p w e) = []
registers_of next (if p v b ss) = []
registers_of next (statement x) = []
registers_of next (bad_top n p) = []

unfoldable pub registers_in : ℕ → List Top → List Meaning
registers_in next [] = []
registers_in next (x ∷ xs) = registers_of next x ++ registers_in (next + qubits_of x) xs

-- what an instance lays out
unfoldable pub meanings_laid : Outcome (List Meaning) → List Meaning
meanings_laid (going ms s) = ms
meanings_laid (ended n p s) = []
meanings_laid stuck = []

-- ---- the laws

-- a value that a part of a run gives is so
abbrev pub Gives : {A : Type 0} → (A → Type 0) → Outcome A → Type 0
Gives P (going a s) = P a
Gives P (ended n p s) = Unit {0}
Gives P stuck = Unit {0}

-- a slice lies inside the register, or the run of wires, that it is cut from
abbrev pub SliceLaw : Type 0
SliceLaw = (first : Wire) (size : ℕ) (x y : ℤ) (s : State) → Gives (Lies (wires first size ∷ [])) (slice_at (wires first size) x y s)

-- so an operand of whatever program, where it stands for a run of wires, lies inside one of those in scope
abbrev pub OperandLaw : Type 0
OperandLaw = (p : Place) (f : Frame) (o : Operand) (s : State) → Gives (Lies f.operands) (meaning_of p f o s)

-- and a body is entered with runs of wires inside the registers in which its caller's lie, through any number of calls
abbrev pub CallLaw : Type 0
CallLaw = (registers : List Meaning) (p : Place) (f : Frame) (args : List Argument) (s : State) → AllLie registers f.operands → Gives (AllLie registers) (meanings_of p f args s)
