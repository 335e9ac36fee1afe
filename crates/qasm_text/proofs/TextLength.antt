-- The lengths of a text's parts, and how long it can be.
use mathlib.Core.Path.{◌≡◌}
use mathlib.Core.List.{List, [], ◌∷◌}
use Prim.Native.Nat.{ℕ, zero, suc, ◌+◌, ◌*◌, ◌^◌, ◌≤◌, ◌<◌}
use native.Mathlib.Omega.{arith}
use lib.ListN.{length, length-append}
use Rattle.language.specs.Limits.{most_wires, most_bits, most_halvings, record_size}
use Rattle.text_bytes.specs.Decimal.{ascii, decimal, width}
use Rattle.language.specs.Machine.{Direction, forward, backward, Wire, Bit, Condition, always, when_bit, Action, do_h, do_t, do_tdg, do_reset, do_cx, do_measure, do_phase, do_cphase, Record}
use Rattle.language.specs.Sound.{Names, NamesBit, AllName}
use Rattle.qasm_text.specs.Text.{wire_text, bit_text, angle_text, action_text, condition_text, line, lines, qreg_line, creg_line, creg_lines, header, text_of, enough_for}
use Rattle.text_bytes.proofs.DecimalLaws.{width_most, width_digit}
use Rattle.text_bytes.proofs.Powers.{power_width}

-- ---- the parts of a line

wire_length : (w : Wire) → length (wire_text w) ≡ 3 + width w.number
unfolding wire_text ascii width
wire_length w = omega (arith, length-append (decimal w.number) (ascii "]"))

bit_length : (b : Bit) → length (bit_text b) ≡ 1 + width b.number
unfolding bit_text ascii width
bit_length b = omega arith

unfoldable pub angle_length : Direction → (k : ℕ) → ℕ
angle_length forward k = 8 + width (2 ^ k)
angle_length backward k = 9 + width (2 ^ k)

angle_length_lem : (d : Direction) (k : ℕ) → length (angle_text d k) ≡ angle_length d k
unfolding angle_text angle_length ascii width
angle_length_lem forward k = omega (arith, length-append (decimal (2 ^ k)) (ascii ") "))
angle_length_lem backward k = omega (arith, length-append (decimal (2 ^ k)) (ascii ") "))

unfoldable pub action_length : Action → ℕ
action_length (do_h w) = 5 + width w.number
action_length (do_t w) = 5 + width w.number
action_length (do_tdg w) = 7 + width w.number
action_length (do_reset w) = 9 + width w.number
action_length (do_cx x y) = 10 + width x.number + width y.number
action_length (do_measure w b) = 19 + width w.number + width b.number
action_length (do_phase d k w) = 5 + angle_length d k + width w.number
action_length (do_cphase d k x y) = 10 + angle_length d k + width x.number + width y.number

pub action_length_lem : (a : Action) → length (action_text a) ≡ action_length a
unfolding action_text action_length ascii
action_length_lem (do_h w) = omega (arith, wire_length w)
action_length_lem (do_t w) = omega (arith, wire_length w)
action_length_lem (do_tdg w) = omega (arith, wire_length w)
action_length_lem (do_reset w) = omega (arith, wire_length w)
action_length_lem (do_cx x y) = simp length-append (omega (arith, wire_length x, wire_length y))
action_length_lem (do_measure w b) = simp length-append (omega (arith, wire_length w, bit_length b))
action_length_lem (do_phase d k w) = simp length-append (omega (arith, angle_length_lem d k, wire_length w))
action_length_lem (do_cphase d k x y) = simp length-append (omega (arith, angle_length_lem d k, wire_length x, wire_length y))

pub bit_condition : (b : Bit) (v : ℕ) → length (condition_text (when_bit b v)) ≡ 8 + width b.number + width v
unfolding condition_text ascii width
bit_condition b v = simp length-append (omega (arith, bit_length b))

-- ---- the lines

pub line_length : (r : Record) → length (line r) ≡ length (condition_text r.condition) + length (action_text r.action) + 2
unfolding line ascii
line_length r = simp length-append (omega arith)

pub wires_length : (q : ℕ) → 1 ≤ q → length (qreg_line q) ≡ 10 + width q
unfolding qreg_line ascii width
wires_length zero h = absurd (omega arith)
wires_length (suc n) h = omega (arith, length-append (decimal (suc n)) (ascii "];\n"))

creg_length : (k : ℕ) → length (creg_line k) ≡ 11 + width k
unfolding creg_line ascii width
creg_length k = omega (arith, length-append (decimal k) (ascii "[1];\n"))

pub cregs_more : (k : ℕ) → length (creg_lines (suc k)) ≡ length (creg_lines k) + (11 + width k)
unfolding creg_lines
cregs_more k = omega (arith, length-append (creg_lines k) (creg_line k), creg_length k)

pub text_length : (q b : ℕ) (rs : List Record) → length (text_of q b rs) ≡ 36 + length (qreg_line q) + length (creg_lines b) + length (lines rs)
unfolding text_of header ascii
text_length q b rs = omega (arith, length-append (header q b) (lines rs), length-append (qreg_line q) (creg_lines b))

-- ---- no number of 64 bits overflows

angle_most : (d : Direction) (k : ℕ) → k ≤ most_halvings → angle_length d k ≤ 28
unfolding angle_length
angle_most forward k h = omega (arith, power_width k h)
angle_most backward k h = omega (arith, power_width k h)

action_most : (q b : ℕ) (a : Action) → q ≤ most_wires → b ≤ most_bits → Names q b a → action_length a ≤ 48
unfolding action_length
action_most q b (do_h w) l m n = omega (arith, width_most w.number (omega arith))
action_most q b (do_t w) l m n = omega (arith, width_most w.number (omega arith))
action_most q b (do_tdg w) l m n = omega (arith, width_most w.number (omega arith))
action_most q b (do_reset w) l m n = omega (arith, width_most w.number (omega arith))
action_most q b (do_cx x y) l m n = omega (arith, width_most x.number (omega arith), width_most y.number (omega arith))
action_most q b (do_measure w x) l m n = omega (arith, width_most w.number (omega arith), width_most x.number (omega arith))
action_most q b (do_phase d k w) l m n = omega (arith, angle_most d k n.0, width_most w.number (omega arith))
action_most q b (do_cphase d k x y) l m n = omega (arith, angle_most d k n.0, width_most x.number (omega arith), width_most y.number (omega arith))

condition_most : (b : ℕ) (c : Condition) → b ≤ most_bits → NamesBit b c → length (condition_text c) ≤ 14
unfolding condition_text
condition_most b always m n = omega arith
condition_most b (when_bit x v) m n = omega (arith, bit_condition x v, width_most x.number (omega arith), width_digit v (omega arith))

line_most : (q b : ℕ) (r : Record) → q ≤ most_wires → b ≤ most_bits → Names q b r.action → NamesBit b r.condition → length (line r) ≤ 64
line_most q b r l m n c = omega (arith, line_length r, action_length_lem r.action, action_most q b r.action l m n, condition_most b r.condition m c)

lines_most : (q b : ℕ) (rs : List Record) → q ≤ most_wires → b ≤ most_bits → AllName q b rs → length (lines rs) ≤ 64 * length rs
unfolding lines
lines_most q b [] l m n = omega arith
lines_most q b (r ∷ rs) l m n = omega (arith, length-append (line r) (lines rs), line_most q b r l m n.0 n.1, lines_most q b rs l m n.2)

qreg_most : (q : ℕ) → q ≤ most_wires → length (qreg_line q) ≤ 15
unfolding qreg_line
qreg_most zero l = omega arith
qreg_most (suc n) l = omega (arith, wires_length (suc n) (omega arith), width_most (suc n) (omega arith))

cregs_most : (b : ℕ) → b ≤ most_bits → length (creg_lines b) ≤ 16 * b
unfolding creg_lines
cregs_most zero m = omega arith
cregs_most (suc k) m = omega (arith, cregs_more k, cregs_most k (omega arith), width_most k (omega arith))

pub text_most : (q b : ℕ) (rs : List Record) → q ≤ most_wires → b ≤ most_bits → AllName q b rs → length (text_of q b rs) ≤ enough_for b (length rs)
text_most q b rs l m n = omega (arith, text_length q b rs, qreg_most q l, cregs_most b m, lines_most q b rs l m n)

-- so the text of a list in an output below 2 ^ 60 bytes is shorter than 2 ^ 63
pub text_small : (q b : ℕ) (rs : List Record) (room : ℕ) → q ≤ most_wires → b ≤ most_bits → AllName q b rs → record_size * length rs ≤ room → room < 2 ^ 60 → length (text_of q b rs) < 2 ^ 63
text_small q b rs room l m n f h = omega (arith, text_most q b rs l m n)
