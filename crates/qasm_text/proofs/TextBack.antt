-- Different lists print differently: each line is read back, so the text decides its list.
use mathlib.Core.Path.{◌≡◌, refl, sym, ap, ap₂, ◌∙◌}
use mathlib.Core.List.{List, [], ◌∷◌, ◌++◌, append_assoc}
use mathlib.Core.Bool.{false, cond}
use Prim.Native.Nat.{ℕ, ◌+◌, ◌*◌, ◌^◌, ◌≤◌}
use native.Mathlib.Omega.{arith}
use lib.Dec.{eqb}
use lib.ListN.{length, drop, get_or, length-append}
use lib.Seq.{drop-append_seam}
use Rattle.language.specs.Read.{choose}
use Rattle.text_bytes.specs.Decimal.{ascii, decimal}
use Rattle.language.specs.Machine.{Direction, forward, backward, Wire, Bit, Condition, always, when_bit, Action, do_h, do_t, do_tdg, do_reset, do_cx, do_measure, do_phase, do_cphase, Record}
use Rattle.qasm_text.specs.Text.{wire_text, bit_text, angle_text, action_text, condition_text, line, lines, header, text_of}
use Rattle.qasm_text.specs.TextSound.{TextInjective}
use Rattle.text_bytes.proofs.DecimalLaws.{is_digit, read_number, number_read}
use Rattle.text_bytes.proofs.Powers.{exponent, exponent_power}
use Rattle.qasm_text.proofs.TextLength.{line_length}

-- ---- reading a line

-- an action on one wire, whose number stands after so many bytes
read_one : (skip : ℕ) → (Wire → Action) → List ℕ → Action × List ℕ
read_one skip action bytes =
    let w = read_number 0 (drop skip bytes) in
    (action (record { number = w.0 }), drop 3 w.1)

-- an action on two numbers
read_two : (skip between after : ℕ) → (ℕ → ℕ → Action) → List ℕ → Action × List ℕ
read_two skip between after action bytes =
    let x = read_number 0 (drop skip bytes) in
    let y = read_number 0 (drop between x.1) in
    (action x.0 y.0, drop after y.1)

-- a phase, whose power of two stands after so many bytes
read_phase : (skip : ℕ) → Direction → List ℕ → Action × List ℕ
read_phase skip d bytes = read_two skip 4 3 (λ p w. do_phase d (exponent p) (record { number = w })) bytes

read_cphase : (skip : ℕ) → Direction → List ℕ → Action × List ℕ
read_cphase skip d bytes =
    let p = read_number 0 (drop skip bytes) in
    read_two 4 4 3 (λ x y. do_cphase d (exponent p.0) (record { number = x }) (record { number = y })) p.1

-- told apart by their first two bytes, and the phases by a minus
read_action : List ℕ → Action × List ℕ
read_action bytes = choose (get_or bytes 0 0 + 256 * get_or bytes 1 0)
    ((104 + 256 * 32, read_one 4 do_h bytes)
    ∷ (116 + 256 * 32, read_one 4 do_t bytes)
    ∷ (116 + 256 * 100, read_one 6 do_tdg bytes)
    ∷ (114 + 256 * 101, read_one 8 do_reset bytes)
    ∷ (117 + 256 * 49, cond (eqb (get_or bytes 3 0) 45) (read_phase 9 backward bytes) (read_phase 8 forward bytes))
    ∷ (99 + 256 * 117, cond (eqb (get_or bytes 4 0) 45) (read_cphase 10 backward bytes) (read_cphase 9 forward bytes))
    ∷ (99 + 256 * 120, read_two 5 4 3 (λ x y. do_cx (record { number = x }) (record { number = y })) bytes)
    ∷ [])
    (read_two 10 6 5 (λ w b. do_measure (record { number = w }) (record { number = b })) bytes)

one_read : (skip : ℕ) (action : Wire → Action) (bytes s : List ℕ) (w : Wire) → drop skip bytes ≡ decimal w.number ++ 93 ∷ 59 ∷ 10 ∷ s → read_one skip action bytes ≡ (action w, s)
unfolding read_one is_digit
one_read skip action bytes s w e = rw (e, number_read w.number 93 (59 ∷ 10 ∷ s) refl)

two_read : (skip between after : ℕ) (action : ℕ → ℕ → Action) (bytes : List ℕ) (x y c d : ℕ) (t u : List ℕ) → is_digit c ≡ false → is_digit d ≡ false
    → drop skip bytes ≡ decimal x ++ c ∷ t → drop between (c ∷ t) ≡ decimal y ++ d ∷ u → read_two skip between after action bytes ≡ (action x y, drop after (d ∷ u))
unfolding read_two
two_read skip between after action bytes x y c d t u i j e f = rw (e, number_read x c t i, f, number_read y d u j)

phase_read : (skip : ℕ) (d : Direction) (k : ℕ) (w : Wire) (bytes s : List ℕ) → drop skip bytes ≡ decimal (2 ^ k) ++ 41 ∷ 32 ∷ 113 ∷ 91 ∷ (decimal w.number ++ 93 ∷ 59 ∷ 10 ∷ s)
    → read_phase skip d bytes ≡ (do_phase d k w, s)
unfolding read_phase is_digit
phase_read skip d k w bytes s e =
    two_read skip 4 3 _ bytes (2 ^ k) w.number 41 93 (32 ∷ 113 ∷ 91 ∷ (decimal w.number ++ 93 ∷ 59 ∷ 10 ∷ s)) (59 ∷ 10 ∷ s) refl refl e refl ∙ rw (exponent_power k)

cphase_read : (skip : ℕ) (d : Direction) (k : ℕ) (x y : Wire) (bytes s : List ℕ)
    → drop skip bytes ≡ decimal (2 ^ k) ++ 41 ∷ 32 ∷ 113 ∷ 91 ∷ (decimal x.number ++ 93 ∷ 44 ∷ 113 ∷ 91 ∷ (decimal y.number ++ 93 ∷ 59 ∷ 10 ∷ s))
    → read_cphase skip d bytes ≡ (do_cphase d k x y, s)
unfolding read_cphase is_digit
cphase_read skip d k x y bytes s e =
    let u : List ℕ = 44 ∷ 113 ∷ 91 ∷ (decimal y.number ++ 93 ∷ 59 ∷ 10 ∷ s) in
    rw (e, number_read (2 ^ k) 41 (32 ∷ 113 ∷ 91 ∷ (decimal x.number ++ 93 ∷ u)) refl, exponent_power k)
    (two_read 4 4 3 _ (41 ∷ 32 ∷ 113 ∷ 91 ∷ (decimal x.number ++ 93 ∷ u)) x.number y.number 93 93 u (59 ∷ 10 ∷ s) refl refl refl refl)

to_right : (a b c d e : List ℕ) → a ++ b ++ c ++ d ++ e ≡ a ++ (b ++ (c ++ (d ++ e)))
to_right a b c d e = simp append_assoc

phase_right : (k : ℕ) (w : Wire) (s : List ℕ)
    → decimal (2 ^ k) ++ (41 ∷ 32 ∷ []) ++ wire_text w ++ (59 ∷ 10 ∷ s) ≡ decimal (2 ^ k) ++ 41 ∷ 32 ∷ 113 ∷ 91 ∷ (decimal w.number ++ 93 ∷ 59 ∷ 10 ∷ s)
unfolding wire_text ascii
phase_right k w s =
    append_assoc (decimal (2 ^ k) ++ (41 ∷ 32 ∷ [])) (wire_text w) (59 ∷ 10 ∷ s) ∙ append_assoc (decimal (2 ^ k)) (41 ∷ 32 ∷ []) (wire_text w ++ (59 ∷ 10 ∷ s))
    ∙ ap (λ (l : List ℕ). decimal (2 ^ k) ++ 41 ∷ 32 ∷ 113 ∷ 91 ∷ l) (append_assoc (decimal w.number) (93 ∷ []) (59 ∷ 10 ∷ s))

cphase_right : (k : ℕ) (x y : Wire) (s : List ℕ)
    → decimal (2 ^ k) ++ (41 ∷ 32 ∷ []) ++ wire_text x ++ (44 ∷ []) ++ wire_text y ++ (59 ∷ 10 ∷ s)
    ≡ decimal (2 ^ k) ++ 41 ∷ 32 ∷ 113 ∷ 91 ∷ (decimal x.number ++ 93 ∷ 44 ∷ 113 ∷ 91 ∷ (decimal y.number ++ 93 ∷ 59 ∷ 10 ∷ s))
unfolding wire_text ascii
cphase_right k x y s =
    append_assoc (decimal (2 ^ k) ++ (41 ∷ 32 ∷ []) ++ wire_text x ++ (44 ∷ [])) (wire_text y) (59 ∷ 10 ∷ s)
    ∙ to_right (decimal (2 ^ k)) (41 ∷ 32 ∷ []) (wire_text x) (44 ∷ []) (wire_text y ++ (59 ∷ 10 ∷ s))
    ∙ ap (λ (l : List ℕ). decimal (2 ^ k) ++ 41 ∷ 32 ∷ 113 ∷ 91 ∷ l)
    (append_assoc (decimal x.number) (93 ∷ []) (44 ∷ wire_text y ++ (59 ∷ 10 ∷ s)) ∙ ap (λ (l : List ℕ). decimal x.number ++ 93 ∷ 44 ∷ 113 ∷ 91 ∷ l) (append_assoc (decimal y.number) (93 ∷ []) (59 ∷ 10 ∷ s)))

action_read : (a : Action) (s : List ℕ) → read_action (action_text a ++ (ascii ";\n" ++ s)) ≡ (a, s)
unfolding read_action action_text angle_text ascii choose wire_text bit_text is_digit
action_read (do_h w) s = one_read 4 do_h _ s w (simp append_assoc)
action_read (do_t w) s = one_read 4 do_t _ s w (simp append_assoc)
action_read (do_tdg w) s = one_read 6 do_tdg _ s w (simp append_assoc)
action_read (do_reset w) s = one_read 8 do_reset _ s w (simp append_assoc)
action_read (do_cx x y) s =
    let n = decimal x.number in
    let m = decimal y.number in
    two_read 5 4 3 _ _ x.number y.number 93 93 (44 ∷ 113 ∷ 91 ∷ (m ++ 93 ∷ 59 ∷ 10 ∷ s)) (59 ∷ 10 ∷ s) refl refl
    (to_right n (93 ∷ []) (44 ∷ []) (wire_text y) (59 ∷ 10 ∷ s) ∙ ap (λ (l : List ℕ). n ++ 93 ∷ 44 ∷ 113 ∷ 91 ∷ l) (append_assoc m (93 ∷ []) (59 ∷ 10 ∷ s))) refl
action_read (do_measure w b) s =
    let n = decimal w.number in
    two_read 10 6 5 _ _ w.number b.number 93 91 (32 ∷ 45 ∷ 62 ∷ 32 ∷ 99 ∷ (decimal b.number ++ 91 ∷ 48 ∷ 93 ∷ 59 ∷ 10 ∷ s)) (48 ∷ 93 ∷ 59 ∷ 10 ∷ s) refl refl
    (append_assoc (n ++ (93 ∷ []) ++ ascii " -> " ++ bit_text b) (ascii "[0]") (59 ∷ 10 ∷ s) ∙ to_right n (93 ∷ []) (ascii " -> ") (bit_text b) (91 ∷ 48 ∷ 93 ∷ 59 ∷ 10 ∷ s)) refl
action_read (do_phase forward k w) s = phase_read 8 forward k w _ s (phase_right k w s)
action_read (do_phase backward k w) s = phase_read 9 backward k w _ s (phase_right k w s)
action_read (do_cphase forward k x y) s = cphase_read 9 forward k x y _ s (cphase_right k x y s)
action_read (do_cphase backward k x y) s = cphase_read 10 backward k x y _ s (cphase_right k x y s)

read_bit : List ℕ → Condition × List ℕ
read_bit bytes =
    let b = read_number 0 (drop 4 bytes) in
    let v = read_number 0 (drop 2 b.1) in
    (when_bit (record { number = b.0 }) v.0, drop 2 v.1)

-- the condition before an action, whose own bytes never begin with an i
read_condition : List ℕ → Condition × List ℕ
read_condition bytes = cond (eqb (get_or bytes 0 0) 105) (read_bit bytes) (always, bytes)

bit_read : (bytes : List ℕ) (b : Bit) (v : ℕ) (s : List ℕ) → drop 4 bytes ≡ decimal b.number ++ 61 ∷ 61 ∷ (decimal v ++ 41 ∷ 32 ∷ s) → read_bit bytes ≡ (when_bit b v, s)
unfolding read_bit is_digit
bit_read bytes b v s e = rw (e, number_read b.number 61 (61 ∷ (decimal v ++ 41 ∷ 32 ∷ s)) refl, number_read v 41 (32 ∷ s) refl)

condition_read : (c : Condition) (a : Action) (s : List ℕ) → read_condition (condition_text c ++ (action_text a ++ s)) ≡ (c, action_text a ++ s)
unfolding read_condition condition_text action_text angle_text ascii bit_text
condition_read always (do_h w) s = refl
condition_read always (do_t w) s = refl
condition_read always (do_tdg w) s = refl
condition_read always (do_reset w) s = refl
condition_read always (do_cx x y) s = refl
condition_read always (do_measure w b) s = refl
condition_read always (do_phase d k w) s = refl
condition_read always (do_cphase d k x y) s = refl
condition_read (when_bit b v) a s = bit_read _ b v (action_text a ++ s) (to_right (decimal b.number) (61 ∷ 61 ∷ []) (decimal v) (41 ∷ 32 ∷ []) (action_text a ++ s))

read_line : List ℕ → Record × List ℕ
read_line bytes =
    let c = read_condition bytes in
    let a = read_action c.1 in
    (record { action = a.0; condition = c.0 }, a.1)

line_read : (r : Record) (s : List ℕ) → read_line (line r ++ s) ≡ (r, s)
unfolding read_line line
line_read r s =
    rw (append_assoc (condition_text r.condition ++ action_text r.action) (ascii ";\n") s, append_assoc (condition_text r.condition) (action_text r.action) (ascii ";\n" ++ s), condition_read r.condition r.action (ascii ";\n" ++ s), action_read r.action s)

-- ---- lists

line_some : (r : Record) (s : List ℕ) → 1 ≤ length (line r ++ s)
line_some r s = omega (arith, length-append (line r) s, line_length r)

lines_injective : (rs ss : List Record) → lines rs ≡ lines ss → rs ≡ ss
unfolding lines
lines_injective [] [] e = refl
lines_injective [] (s ∷ ss) e = absurd (omega (arith, ap length e, line_some s (lines ss)))
lines_injective (r ∷ rs) [] e = absurd (omega (arith, ap length e, line_some r (lines rs)))
lines_injective (r ∷ rs) (s ∷ ss) e =
    let both = sym (line_read r (lines rs)) ∙ ap read_line e ∙ line_read s (lines ss) in
    ap₂ (λ (x : Record) (xs : List Record). x ∷ xs) (ap (λ (p : Record × List ℕ). p.0) both) (lines_injective rs ss (ap (λ (p : Record × List ℕ). p.1) both))

same_after : (h x y : List ℕ) → h ++ x ≡ h ++ y → x ≡ y
same_after h x y e = sym (drop-append_seam h x) ∙ ap (drop (length h)) e ∙ drop-append_seam h y

-- equal texts over the same wires and bits are texts of equal lists, whatever the records are
pub text_injective : TextInjective
unfolding text_of
text_injective q b rs ss e = lines_injective rs ss (same_after (header q b) (lines rs) (lines ss) e)
