-- Lines as code puts them: the one that declares wires, and lines one after the other.
use mathlib.Core.Path.{◌≡◌, refl}
use mathlib.Core.List.{List, ◌++◌}
use Prim.Native.Nat.{ℕ, zero, suc, ◌+◌, ◌<◌}
use native.Mathlib.Numerals.{add-one}
use Rattle.text_bytes.specs.Decimal.{ascii, decimal}
use Rattle.qasm_text.specs.Text.{qreg_line, creg_line, creg_lines}
use Rattle.text_bytes.specs.Buffers.{Room, Puts}
use Rattle.text_bytes.proofs.Pieces.{room_next, room_within, puts_both}
use Rattle.qasm_length.proofs.Parts.{fewer}

-- wires that there are
pub qreg_some : (wires : ℕ) → (wires ≡ 0 → ⊥) → qreg_line wires ≡ ascii "qreg q[" ++ decimal wires ++ ascii "];\n"
unfolding qreg_line
qreg_some zero h = absurd (h refl)
qreg_some (suc n) h = refl

-- ---- lines that are put one after the other, as a loop does it

module _ (all : ℕ → List ℕ) (one : ℕ → List ℕ) (next : (k : ℕ) → all (suc k) ≡ all k ++ one k) where
  -- room for the next of them
  pub line_room : {before after : List ℕ} {from to : ℕ} (n k : ℕ) → k < n → Room before from (all n) → Puts before from (all k) after to → Room after to (one k)
  line_room n k h r p = room_next {a = all k} {b = one k} (rw (next k) at (room_within (all (suc k)) r (fewer all one next (suc k) n h))) p

  -- and that line put after them
  pub line_put : {before middle after : List ℕ} {from at to : ℕ} (k : ℕ) → Puts before from (all k) middle at → Puts middle at (one k) after to → Puts before from (all (k + 1)) after to
  line_put k p q = rw (add-one k, next k) (puts_both p q)

pub cregs_next : (k : ℕ) → creg_lines (suc k) ≡ creg_lines k ++ creg_line k
unfolding creg_lines
cregs_next k = refl
