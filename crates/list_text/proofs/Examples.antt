-- Lines of records, a last line, and a whole listing, computed. Assumes nothing.
use mathlib.Core.Path.{◌≡◌, refl}
use mathlib.Core.List.{[], ◌∷◌}
use Rattle.text_bytes.specs.Decimal.{ascii, digits, decimal}
use Rattle.list_text.specs.Lines.{number_text, gate_text, condition_text, two_bytes_at, line_text, lines_text, end_text, listing_text}

-- `cx 0 258`
cx_line : line_text (4 ∷ 0 ∷ 0 ∷ 0 ∷ 2 ∷ 1 ∷ 0 ∷ 0 ∷ 0 ∷ 0 ∷ 0 ∷ 0 ∷ []) ≡ 99 ∷ 120 ∷ 32 ∷ 48 ∷ 32 ∷ 50 ∷ 53 ∷ 56 ∷ 10 ∷ []
unfolding ascii digits decimal number_text gate_text condition_text two_bytes_at line_text
cx_line = refl

-- `if 3 1 h 0`
if_line : line_text (1 ∷ 2 ∷ 0 ∷ 0 ∷ 0 ∷ 0 ∷ 3 ∷ 0 ∷ 0 ∷ 0 ∷ 0 ∷ 0 ∷ []) ≡ 105 ∷ 102 ∷ 32 ∷ 51 ∷ 32 ∷ 49 ∷ 32 ∷ 104 ∷ 32 ∷ 48 ∷ 10 ∷ []
unfolding ascii digits decimal number_text gate_text condition_text two_bytes_at line_text
if_line = refl

-- phases: k, and then the wires
phase_line : line_text (7 ∷ 0 ∷ 0 ∷ 0 ∷ 0 ∷ 0 ∷ 0 ∷ 0 ∷ 3 ∷ 0 ∷ 0 ∷ 0 ∷ []) ≡ ascii "phase 3 0\n"
unfolding ascii digits decimal number_text gate_text condition_text two_bytes_at line_text
phase_line = refl

phasedg_line : line_text (8 ∷ 0 ∷ 1 ∷ 0 ∷ 0 ∷ 0 ∷ 0 ∷ 0 ∷ 63 ∷ 0 ∷ 0 ∷ 0 ∷ []) ≡ ascii "phasedg 63 1\n"
unfolding ascii digits decimal number_text gate_text condition_text two_bytes_at line_text
phasedg_line = refl

cphase_line : line_text (9 ∷ 0 ∷ 1 ∷ 0 ∷ 0 ∷ 0 ∷ 0 ∷ 0 ∷ 2 ∷ 0 ∷ 0 ∷ 0 ∷ []) ≡ ascii "cphase 2 1 0\n"
unfolding ascii digits decimal number_text gate_text condition_text two_bytes_at line_text
cphase_line = refl

cphasedg_line : line_text (10 ∷ 1 ∷ 1 ∷ 0 ∷ 0 ∷ 0 ∷ 4 ∷ 0 ∷ 2 ∷ 0 ∷ 0 ∷ 0 ∷ []) ≡ ascii "if 4 0 cphasedg 2 1 0\n"
unfolding ascii digits decimal number_text gate_text condition_text two_bytes_at line_text
cphasedg_line = refl

-- an operation that no record has
op_line : line_text (11 ∷ 0 ∷ 1 ∷ 0 ∷ 0 ∷ 0 ∷ 0 ∷ 0 ∷ 2 ∷ 0 ∷ 0 ∷ 0 ∷ []) ≡ ascii "op 11\n"
unfolding ascii digits decimal number_text gate_text condition_text two_bytes_at line_text
op_line = refl

-- `end 0 0 2 2`
end_line : end_text 0 0 2 2 ≡ 101 ∷ 110 ∷ 100 ∷ 32 ∷ 48 ∷ 32 ∷ 48 ∷ 32 ∷ 50 ∷ 32 ∷ 50 ∷ 10 ∷ []
unfolding ascii digits decimal number_text end_text
end_line = refl

-- `h 3`, and `end 0 0 1 1`
whole_listing : listing_text (record { result = record { number = 0; place = 0; records = 1; steps = 1 }; output = 1 ∷ 0 ∷ 3 ∷ 0 ∷ 0 ∷ 0 ∷ 0 ∷ 0 ∷ 0 ∷ 0 ∷ 0 ∷ 0 ∷ [] })
    ≡ 104 ∷ 32 ∷ 51 ∷ 10 ∷ 101 ∷ 110 ∷ 100 ∷ 32 ∷ 48 ∷ 32 ∷ 48 ∷ 32 ∷ 49 ∷ 32 ∷ 49 ∷ 10 ∷ []
unfolding ascii digits decimal number_text gate_text condition_text two_bytes_at line_text lines_text end_text listing_text
whole_listing = refl
