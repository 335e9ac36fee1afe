-- What an answer for an accepted program says by itself, down to its bytes. Theorem ties it to the machine.
use Rattle.std.specs.Prelude.{◌≡◌, ◌⊎◌, List, [], ◌∷◌, map, Bool, true, false, ℕ, suc, ◌+◌, ◌*◌, ◌≤◌, ◌<◌, ℤ, pos, length, drop, get_or}
use Rattle.std.proofs.Math.Option.{Option, none, some}
use Rattle.language.specs.Limits.{record_size, most_wires, most_bits, most_halvings}
use Rattle.language.specs.Tree.{number, missing, Top, family, qreg, creg, measure, reset, if, statement, bad_top}
use Rattle.language.specs.Read.{two_bytes, read}
use Rattle.language.specs.Machine.{Meaning, a_wire, a_bit, wires, bits, the_family, Condition, always, when_bit, Action, do_h, do_t, do_tdg, do_reset, do_cx, do_measure, do_phase, do_cphase, Record}
use Rattle.language.specs.Machine.{Outcome, going, ended, stuck, begin, has_family_type, layout}
use Rattle.language.specs.Lookup.{Declaration, family_in}
use Rattle.language.specs.Result.{Answer, Conclusion, finished, written_into, four_bytes, all_sizes_fit}

-- ---- the numbers laid out

unfoldable pub qubits_of : Top → ℕ
qubits_of (qreg p (number n) e) = n
qubits_of (qreg p missing e) = 0
qubits_of (creg p n e) = 0
qubits_of (family p m n types body) = 0
qubits_of (measure p w b e) = 0
qubits_of (reset p w e) = 0
qubits_of (if p v b ss) = 0
qubits_of (statement x) = 0
qubits_of (bad_top n p) = 0

unfoldable pub bits_of : Top → ℕ
bits_of (creg p (number n) e) = n
bits_of (creg p missing e) = 0
bits_of (qreg p n e) = 0
bits_of (family p m n types body) = 0
bits_of (measure p w b e) = 0
bits_of (reset p w e) = 0
bits_of (if p v b ss) = 0
bits_of (statement x) = 0
bits_of (bad_top n p) = 0

unfoldable pub qubits_in : List Top → ℕ
qubits_in [] = 0
qubits_in (x ∷ xs) = qubits_of x + qubits_in xs

unfoldable pub bits_in : List Top → ℕ
bits_in [] = 0
bits_in (x ∷ xs) = bits_of x + bits_in xs

-- all qubits, and all bits, that a program declares
abbrev pub qubits_declared : (program : List ℕ) → ℕ
qubits_declared program = qubits_in (read program)

abbrev pub bits_declared : (program : List ℕ) → ℕ
bits_declared program = bits_in (read program)

-- the wires of an instance's parameters
unfoldable pub wires_in : List Meaning → ℕ
wires_in [] = 0
wires_in (a_wire w ∷ ms) = 1 + wires_in ms
wires_in (wires first size ∷ ms) = size + wires_in ms
wires_in (a_bit b ∷ ms) = wires_in ms
wires_in (bits first size ∷ ms) = wires_in ms
wires_in (the_family n ∷ ms) = wires_in ms

unfoldable pub wires_laid : Outcome (List Meaning) → ℕ
wires_laid (going ms s) = wires_in ms
wires_laid (ended n p s) = 0
wires_laid stuck = 0

unfoldable pub wires_of : Option Declaration → List ℤ → ℕ
wires_of none values = 0
wires_of (some d) values = wires_laid (layout values 0 d.types begin)

-- the sum of the wires that an instance lays out, 0 where the layout ends
abbrev pub wires_laid_out : (program : List ℕ) (n : ℕ) (sizes : List ℕ) → ℕ
wires_laid_out program n sizes = wires_of (family_in (read program) n) (map pos (four_bytes sizes))

-- ---- what records name

-- a second wire, below those laid out, and not the first
abbrev pub OtherWire : (wire_count first second : ℕ) → Type 0
OtherWire wire_count first second = (second < wire_count) × (first ≡ second → ⊥)

-- wires and bits below those laid out, no wire twice, and a k that is not too large
abbrev pub Names : (wire_count bit_count : ℕ) → Action → Type 0
Names wire_count bit_count (do_h w) = w.number < wire_count
Names wire_count bit_count (do_t w) = w.number < wire_count
Names wire_count bit_count (do_tdg w) = w.number < wire_count
Names wire_count bit_count (do_reset w) = w.number < wire_count
Names wire_count bit_count (do_cx x y) = (x.number < wire_count) × OtherWire wire_count x.number y.number
Names wire_count bit_count (do_measure w b) = (w.number < wire_count) × (b.number < bit_count)
Names wire_count bit_count (do_phase d k w) = (k ≤ most_halvings) × (w.number < wire_count)
Names wire_count bit_count (do_cphase d k x y) = (k ≤ most_halvings) × (x.number < wire_count) × OtherWire wire_count x.number y.number

-- a bit below those laid out, and a value that it can have
abbrev pub NamesBit : (bit_count : ℕ) → Condition → Type 0
NamesBit bit_count always = Unit {0}
NamesBit bit_count (when_bit b value) = (b.number < bit_count) × (value ≤ 1)

abbrev pub AllName : (wire_count bit_count : ℕ) → List Record → Type 0
AllName wire_count bit_count [] = Unit {0}
AllName wire_count bit_count (r ∷ rs) = Names wire_count bit_count r.action × NamesBit bit_count r.condition × AllName wire_count bit_count rs

-- the same of the record whose bytes begin at an offset of the output
pub record NamedAt (wire_count bit_count : ℕ) (output : List ℕ) (offset : ℕ) : Type 0 where
  pub op : (1 ≤ get_or output offset 0) × (get_or output offset 0 ≤ 10)
  pub value : get_or output (offset + 1) 0 ≤ 2
  pub first : two_bytes (get_or output (offset + 2) 0) (get_or output (offset + 3) 0) < wire_count
  pub target : get_or output offset 0 ≡ 4 → OtherWire wire_count (two_bytes (get_or output (offset + 2) 0) (get_or output (offset + 3) 0)) (two_bytes (get_or output (offset + 4) 0) (get_or output (offset + 5) 0))
  pub measured : get_or output offset 0 ≡ 5 → two_bytes (get_or output (offset + 4) 0) (get_or output (offset + 5) 0) < bit_count
  pub controlled : 9 ≤ get_or output offset 0 → OtherWire wire_count (two_bytes (get_or output (offset + 2) 0) (get_or output (offset + 3) 0)) (two_bytes (get_or output (offset + 4) 0) (get_or output (offset + 5) 0))
  pub condition : 1 ≤ get_or output (offset + 1) 0 → two_bytes (get_or output (offset + 6) 0) (get_or output (offset + 7) 0) < bit_count
  -- k, which the ops up to 6 have not, and two zero bytes
  pub halvings : two_bytes (get_or output (offset + 8) 0) (get_or output (offset + 9) 0) ≤ most_halvings
  pub plain : get_or output offset 0 ≤ 6 → two_bytes (get_or output (offset + 8) 0) (get_or output (offset + 9) 0) ≡ 0
  pub zeros : (get_or output (offset + 10) 0 ≡ 0) × (get_or output (offset + 11) 0 ≡ 0)

-- ---- the answer

-- the numbers that a run may end with: from `least` to 27, and 32
abbrev pub EndsWith : (least n : ℕ) → Type 0
EndsWith least n = ((least ≤ n) × (n ≤ 27)) ⊎ (n ≡ 32)

-- the answer of a run that may end with the numbers from `least` on, under a step limit, into the output lent, with so many wires and bits laid out
pub record Sound (least limit wire_count bit_count : ℕ) (lent : List ℕ) (a : Answer) : Type 0 where
  -- done, or one of the ends
  pub number : (a.result.number ≡ 0) ⊎ EndsWith least a.result.number
  -- done has place 0
  pub place : a.result.number ≡ 0 → a.result.place ≡ 0
  pub steps : a.result.steps ≤ limit
  pub fits : record_size * a.result.records ≤ length lent
  -- 20 to 23 write nothing and take no step
  pub early : 1 ≤ a.result.number → a.result.number ≤ 23 → (a.result.records ≡ 0) × (a.result.steps ≡ 0) × (a.output ≡ lent)
  -- 26 comes with the limit used up, and 27 with no room for a record
  pub limited : a.result.number ≡ 26 → a.result.steps ≡ limit
  pub filled : a.result.number ≡ 27 → length lent < record_size * suc a.result.records
  -- the output has the length lent, and its bytes past the records are the lent ones
  pub size : length a.output ≡ length lent
  pub rest : drop (record_size * a.result.records) a.output ≡ drop (record_size * a.result.records) lent
  -- the records behind the output
  pub written : List Record
  pub count : length written ≡ a.result.records
  pub output : a.output ≡ written_into lent written
  pub named : AllName wire_count bit_count written
  -- so few are laid out that their numbers fit two bytes
  pub few : (wire_count ≤ most_wires) × (bit_count ≤ most_bits)
  -- what the records name, read from the output's bytes
  pub bytes : (i : ℕ) → i < a.result.records → NamedAt wire_count bit_count a.output (record_size * i)

-- what a call comes to is a sound answer, and not that the machine is stuck
pub record Finishes (least limit wire_count bit_count : ℕ) (lent : List ℕ) (c : Conclusion) : Type 0 where
  pub answer : Answer
  pub is : c ≡ finished answer
  pub sound : Sound least limit wire_count bit_count lent answer

unfoldable pub has_family_parameter : Option Declaration → Bool
has_family_parameter none = false
has_family_parameter (some d) = has_family_type d.types

-- the family with a number has a family parameter
abbrev pub takes_family : (program : List ℕ) (n : ℕ) → Bool
takes_family program n = has_family_parameter (family_in (read program) n)

-- the family is declared and has no family parameter, the sizes are four bytes for each of its variables, and none is too large
pub record Suits (program : List ℕ) (n : ℕ) (sizes : List ℕ) : Type 0 where
  pub called : Declaration
  pub declared : family_in (read program) n ≡ some called
  pub plain : has_family_type called.types ≡ false
  pub counted : length sizes ≡ 4 * called.variables
  pub small : all_sizes_fit (four_bytes sizes) ≡ true
