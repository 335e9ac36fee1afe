-- What the code's operands stand for in the machine.
use Rattle.std.specs.Prelude.{ℕ, ◌+◌, ◌*◌, ◌-◌, min, ◌≡◌, List, [], ◌∷◌, map, cond, ltb, ℤ, pos, negsuc, take, drop, Option, Some, None, Result, Ok, Err}
use Rattle.std.proofs.Math.ListN.{get_elem?}
use Rattle.language.specs.Limits.{most_registers}
use Rattle.language.specs.Tree.{Place, bad_operand}
use Rattle.language.specs.Read.{field, read_operand, read_passed, due, fields}
use Rattle.language.specs.Machine.{Meaning, a_wire, a_bit, wires, bits, the_family, Run, give, no_meaning, found, element_at, slice_at, meaning_of, Frame, Direction, Condition, as_wire, as_bit, as_family, wire_of, bit_of, ◌>>=◌}
use Rattle.language.specs.Machine as machine
use Rattle.kinds.specs.declared.Kind.{Kind}
use Rattle.kinds.specs.declared.Kind.TheVariants.{Qubit, Quantum, Classical, Family as family_kind}
use Rattle.kinds.specs.Numbers.{kind_with}
use Rattle.operands.specs.declared.Wire.{Wire}
use Rattle.operands.specs.declared.Operand.{Operand}
use Rattle.operands.specs.declared.Operand.TheVariants.{Single, Register, Family}
use Rattle.operands.specs.declared.Parameter.{Parameter}
use Rattle.operands.specs.declared.Scope.{Scope}
use Rattle.operands.specs.declared.Bit.{Bit}
use Rattle.operands.specs.declared.Meaning as code
use Rattle.operands.specs.declared.Meaning.TheVariants.{Wire as m_wire, Bit as m_bit, Wires, Bits, Family as m_family}
use Rattle.indexes.specs.declared.Fault.{Fault}
use Rattle.indexes.specs.Values.{fault_told}

-- a table of registers has three numbers for each
abbrev pub register_numbers : ℕ
register_numbers = 3 * most_registers

-- past the last location that a register can have; the first location of an empty slice may lie there, and is a number of two bytes
abbrev pub locations : ℕ
locations = 65_535

abbrev pub the_wire : ℕ → machine.Wire
the_wire n = record { number = n }

abbrev pub the_bit : ℕ → machine.Bit
the_bit n = record { number = n }

-- a register's size, no larger than its first location leaves
abbrev pub clipped : ℕ → ℕ → ℕ
clipped first size = min size (locations - first)

unfoldable pub parameter_of : Operand → Meaning
parameter_of (Single w) = a_wire (the_wire w.0)
parameter_of (Register first size) = wires (the_wire first.0) (clipped first.0 size)
parameter_of (Family n) = the_family n

abbrev pub of_parameter : Parameter → Meaning
of_parameter q = parameter_of q.operand

-- the register of a kind, with its first location and its size; none that is declared is a single qubit or a family
unfoldable pub register_of : Kind → (first size : ℕ) → Meaning
register_of Qubit first size = wires (the_wire first) (clipped first size)
register_of Quantum first size = wires (the_wire first) (clipped first size)
register_of Classical first size = bits (the_bit first) (clipped first size)
register_of family_kind first size = wires (the_wire first) (clipped first size)

-- the registers of a table, which has three numbers for each
unfoldable pub registers_of : List ℕ → List Meaning
registers_of [] = []
registers_of (k ∷ []) = []
registers_of (k ∷ f ∷ []) = []
registers_of (k ∷ f ∷ s ∷ l) = register_of (kind_with k) f s ∷ registers_of l

-- the operands in scope: the first `count` registers of a table, or parameters
unfoldable pub operands_of : Scope → List ℕ → List Meaning
operands_of s regs = cond s.top (registers_of (take (3 * s.count) regs)) (map of_parameter (take s.count s.params))

-- what the code's operand stands for
unfoldable pub stood : code.Meaning → Meaning
stood (m_wire w) = a_wire (the_wire w.0)
stood (m_bit b) = a_bit (the_bit b.0)
stood (Wires f n) = wires (the_wire f.0) (clipped f.0 n)
stood (Bits f n) = bits (the_bit f.0) (clipped f.0 n)
stood (m_family n) = the_family n

-- what the code's answer stands for, at the statement p
unfoldable pub meaning_told : Place → Result code.Meaning Fault → Run Meaning
meaning_told p (Ok m) = give (stood m)
meaning_told p (Err f) = fault_told p f

unfoldable pub location_in : ℕ → ℕ → ℕ → Option ℕ
location_in first size i = cond (ltb i (clipped first size)) (Some (first + i)) None

-- the operand number n stands for this
abbrev pub OperandIs : List Meaning → ℕ → Result code.Meaning Fault → Type 0
OperandIs ms n r = (p : Place) → meaning_told p r ≡ found (get_elem? ms n)

unfoldable pub location_of : ℕ → ℕ → ℤ → Option ℕ
location_of first size (pos i) = location_in first size i
location_of first size (negsuc i) = None

-- the element z of what s stands for
abbrev pub ElementIs : code.Meaning → ℤ → Result code.Meaning Fault → Type 0
ElementIs s z r = (p : Place) → meaning_told p r ≡ element_at (stood s) z

-- the run of wires from x to y in a register
abbrev pub RunIs : Wire → ℕ → (x y : ℤ) → Result code.Meaning Fault → Type 0
RunIs first size x y r = (p : Place) → meaning_told p r ≡ slice_at (wires (the_wire first.0) (clipped first.0 size)) x y

-- the slice from x to y of what s stands for
abbrev pub SliceIs : code.Meaning → (x y : ℤ) → Result code.Meaning Fault → Type 0
SliceIs s x y r = (p : Place) → meaning_told p r ≡ slice_at (stood s) x y

abbrev pub frame_of : Direction → Condition → List ℤ → List Meaning → Frame
frame_of d c values ms = record { direction = d; condition = c; variables = values; operands = ms }

-- the passed family with this content stands for this, wherever it stands
abbrev pub PassedMeans : List ℕ → Result code.Meaning Fault → Type 0
PassedMeans content r = (p q : Place) (f : Frame) → meaning_told p r ≡ meaning_of p f (read_passed q content)

-- the operand field with this tag and content stands for this, wherever it stands
abbrev pub FieldMeans : ℕ → List ℕ → List ℤ → List Meaning → Result code.Meaning Fault → Type 0
FieldMeans tag content values ms r = (p q : Place) (d : Direction) (c : Condition) → meaning_told p r ≡ meaning_of p (frame_of d c values ms) (read_operand (field q tag content))

unfoldable pub wire_told : Place → Result Wire Fault → Run machine.Wire
wire_told p (Ok w) = give (the_wire w.0)
wire_told p (Err f) = fault_told p f

abbrev pub AsWire : code.Meaning → Result Wire Fault → Type 0
AsWire s r = (p : Place) → wire_told p r ≡ as_wire (stood s)

-- the wire of the operand field due at `at`, wherever it stands
abbrev pub WireAt : List ℕ → ℕ → List ℤ → List Meaning → Result Wire Fault → Type 0
WireAt l at values ms r = (p q t : Place) (d : Direction) (c : Condition) → wire_told p r ≡ wire_of p (frame_of d c values ms) (due read_operand (bad_operand 4 q) (fields t (drop at l)))

unfoldable pub bit_told : Place → Result Bit Fault → Run machine.Bit
bit_told p (Ok b) = give (the_bit b.0)
bit_told p (Err f) = fault_told p f

abbrev pub AsBit : code.Meaning → Result Bit Fault → Type 0
AsBit s r = (p : Place) → bit_told p r ≡ as_bit (stood s)

-- the bit of the operand field due at `at`, wherever it stands
abbrev pub BitAt : List ℕ → ℕ → List ℤ → List Meaning → Result Bit Fault → Type 0
BitAt l at values ms r =
    (p q t : Place) (d : Direction) (c : Condition) → bit_told p r ≡ bit_of p (frame_of d c values ms) (due read_operand (bad_operand 4 q) (fields t (drop at l)))

unfoldable pub family_told : Option ℕ → Run ℕ
family_told (Some n) = give n
family_told None = no_meaning

-- the family that the operand number n stands for
abbrev pub FamilyOf : List Meaning → ℕ → Option ℕ → Type 0
FamilyOf ms n r = family_told r ≡ (found (get_elem? ms n) >>= as_family)
