-- A list of records as OpenQASM 2.0 text: its lines, and bytes that are enough for it.
use Rattle.std.specs.Prelude.{List, [], ◌∷◌, ◌++◌, ℕ, zero, suc, ◌+◌, ◌*◌, ◌^◌}
use Rattle.text_bytes.specs.Decimal.{ascii, decimal}
use Rattle.language.specs.Machine.{Direction, forward, backward, Wire, Bit, Condition, always, when_bit, Action, do_h, do_t, do_tdg, do_reset, do_cx, do_measure, do_phase, do_cphase, Record}

-- ---- the line of a record

-- a wire is an element of the one quantum register, a bit a register of its own
unfoldable pub wire_text : Wire → List ℕ
wire_text w = ascii "q[" ++ decimal w.number ++ ascii "]"

unfoldable pub bit_text : Bit → List ℕ
bit_text b = ascii "c" ++ decimal b.number

-- one turn divided by 2 to the k, or its inverse
unfoldable pub angle_text : Direction → (k : ℕ) → List ℕ
angle_text forward k = ascii "(2*pi/" ++ decimal (2 ^ k) ++ ascii ") "
angle_text backward k = ascii "(-2*pi/" ++ decimal (2 ^ k) ++ ascii ") "

unfoldable pub action_text : Action → List ℕ
action_text (do_h w) = ascii "h " ++ wire_text w
action_text (do_t w) = ascii "t " ++ wire_text w
action_text (do_tdg w) = ascii "tdg " ++ wire_text w
action_text (do_reset w) = ascii "reset " ++ wire_text w
action_text (do_cx x y) = ascii "cx " ++ wire_text x ++ ascii "," ++ wire_text y
action_text (do_measure w b) = ascii "measure " ++ wire_text w ++ ascii " -> " ++ bit_text b ++ ascii "[0]"
action_text (do_phase d k w) = ascii "u1" ++ angle_text d k ++ wire_text w
action_text (do_cphase d k x y) = ascii "cu1" ++ angle_text d k ++ wire_text x ++ ascii "," ++ wire_text y

unfoldable pub condition_text : Condition → List ℕ
condition_text always = []
condition_text (when_bit b value) = ascii "if(" ++ bit_text b ++ ascii "==" ++ decimal value ++ ascii ") "

unfoldable pub line : Record → List ℕ
line r = condition_text r.condition ++ action_text r.action ++ ascii ";\n"

unfoldable pub lines : List Record → List ℕ
lines [] = []
lines (r ∷ rs) = line r ++ lines rs

-- ---- the lines before them

-- dropped where there is no wire
unfoldable pub qreg_line : (wire_count : ℕ) → List ℕ
qreg_line zero = []
qreg_line (suc n) = ascii "qreg q[" ++ decimal (suc n) ++ ascii "];\n"

unfoldable pub creg_line : (bit : ℕ) → List ℕ
creg_line k = ascii "creg c" ++ decimal k ++ ascii "[1];\n"

-- rising
unfoldable pub creg_lines : (bit_count : ℕ) → List ℕ
creg_lines zero = []
creg_lines (suc k) = creg_lines k ++ creg_line k

unfoldable pub header : (wire_count bit_count : ℕ) → List ℕ
header wire_count bit_count = ascii "OPENQASM 2.0;\n" ++ ascii "include \"qelib1.inc\";\n" ++ qreg_line wire_count ++ creg_lines bit_count

-- the text of a list of records over so many wires and bits
unfoldable pub text_of : (wire_count bit_count : ℕ) → List Record → List ℕ
text_of wire_count bit_count rs = header wire_count bit_count ++ lines rs

-- bytes that are always enough for so many bits and records, however many wires there are
abbrev pub enough_for : (bit_count records : ℕ) → ℕ
enough_for bit_count records = 51 + 16 * bit_count + 64 * records
