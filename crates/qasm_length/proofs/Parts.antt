-- The lengths of a text's parts, by the tests that code makes and as its loops add them.
use mathlib.Core.Path.{◌≡◌, refl, sym, ap, ◌∙◌}
use mathlib.Core.List.{List, ◌++◌}
use mathlib.Core.Bool.{Bool, true, false}
use Prim.Native.Nat.{ℕ, zero, suc, ◌+◌, ◌*◌, ◌-◌, ◌≤◌}
use native.Mathlib.Omega.{arith}
use native.Mathlib.Numerals.{add-one}
use borrow.Author.Tests.{ltb-true, ltb-false}
use lib.Dec.{ltb}
use lib.ListN.{length, length-append, get_or}
use Rattle.language.specs.Limits.{record_size}
use Rattle.language.specs.Machine.{Record}
use Rattle.text_bytes.specs.Decimal.{width}
use Rattle.qasm_text.specs.Text.{action_text, condition_text, line, lines, qreg_line, creg_lines}
use Rattle.qasm_text.specs.RecordsIn.{number_at}
use Rattle.qasm_text.proofs.TextLength.{action_length, action_length_lem, bit_condition, line_length, wires_length, cregs_more}
use Rattle.qasm_length.specs.AnyBytes.{action_from, condition_from, record_from, records_from}
use Rattle.qasm_length.proofs.Records.{action_other, condition_some, record_read, lines_next}

-- an operation that is none of those with a name of their own
pub other_action : (op first second k : ℕ) → (op ≡ 1 → ⊥) → (op ≡ 2 → ⊥) → (op ≡ 3 → ⊥) → (op ≡ 4 → ⊥) → (op ≡ 5 → ⊥) → (op ≡ 7 → ⊥) → (op ≡ 8 → ⊥) → (op ≡ 9 → ⊥) → (op ≡ 10 → ⊥)
    → length (action_text (action_from op first second k)) ≡ 9 + width first
unfolding action_length
other_action op first second k a b c d e f g h i = rw (action_other op first second k a b c d e f g h i) (action_length_lem _)

-- a condition that there is
pub some_condition : (kind bit : ℕ) → (kind ≡ 0 → ⊥) → length (condition_text (condition_from kind bit)) ≡ 8 + width bit + width (kind - 1)
some_condition kind bit h = rw (condition_some kind bit h) (bit_condition _ (kind - 1))

-- wires that there are
pub some_wires : (wires : ℕ) → (wires ≡ 0 → ⊥) → length (qreg_line wires) ≡ 10 + width wires
some_wires wires h = wires_length wires (omega (arith, h))

-- the line of one bit more
pub bits_more : (k : ℕ) → length (creg_lines (k + 1)) ≡ length (creg_lines k) + (11 + width k)
bits_more k = rw (add-one k) (cregs_more k)

-- the length of a record's line, from what code reads of it
pub line_read : (output : List ℕ) (at first second bit k : ℕ)
    → first ≡ number_at output (at + 2) → second ≡ number_at output (at + 4) → bit ≡ number_at output (at + 6) → k ≡ number_at output (at + 8)
    → length (condition_text (condition_from (get_or output (at + 1) 0) bit)) + length (action_text (action_from (get_or output at 0) first second k)) + 2 ≡ length (line (record_from output at))
line_read output at first second bit k f s b h = sym (line_length _) ∙ ap (λ (r : Record). length (line r)) (record_read output at first second bit k f s b h)

-- the line of one record more
pub lines_more : (output : List ℕ) (i : ℕ) → length (lines (records_from (i + 1) output)) ≡ length (lines (records_from i output)) + length (line (record_from output (record_size * i)))
lines_more output i = rw (add-one i) (ap length (lines_next i output) ∙ length-append (lines (records_from i output)) (line (record_from output (record_size * i))))

-- fewer lines take no more bytes
pub fewer : (all one : ℕ → List ℕ) → ((k : ℕ) → all (suc k) ≡ all k ++ one k) → (k n : ℕ) → k ≤ n → length (all k) ≤ length (all n)
fewer all one next k zero h = let e : k ≡ 0 = omega arith in rw e (omega arith)
fewer all one next k (suc n) h = go (ltb n k) refl (fewer all one next k n)
  where
    go : (b : Bool) → ltb n k ≡ b → (k ≤ n → length (all k) ≤ length (all n)) → length (all k) ≤ length (all (suc n))
    go true e f = let g : k ≡ suc n = omega (arith, ltb-true n k e) in rw g (omega arith)
    go false e f = omega (arith, ap length (next n), length-append (all n) (one n), f (ltb-false n k e))

pub lines_rise : (output : List ℕ) (i records : ℕ) → i ≤ records → length (lines (records_from i output)) ≤ length (lines (records_from records output))
lines_rise output = fewer (λ k. lines (records_from k output)) (λ k. line (record_from output (record_size * k))) (λ k. lines_next k output)
