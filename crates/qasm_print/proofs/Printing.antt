-- A whole text printed, or left out because it does not fit.
use mathlib.Core.Path.{◌≡◌, refl, subst, ◌∙◌}
use mathlib.Core.List.{List, ◌++◌}
use Prim.Native.Nat.{ℕ, ◌≤◌}
use native.Mathlib.Omega.{arith}
use native.Mathlib.Nat.{zero-add}
use lib.ListN.{length}
use lib.Seq.{sets, sets-eq}
use Rattle.language.specs.Machine.{Record}
use Rattle.qasm_text.specs.Text.{lines, header, text_of}
use Rattle.qasm_text.specs.TextResult.{text_into}
use Rattle.qasm_length.specs.Lengths.{Measures}
use Rattle.std.specs.Prelude.{Option, Some, None}
use Rattle.text_bytes.specs.Buffers.{Room, Puts}
use Rattle.qasm_print.specs.Prints.{Prints}

-- all bytes put at the front
pub pieces_text : (buffer text : List ℕ) → length text ≤ length buffer → sets buffer 0 text ≡ text_into buffer text
unfolding text_into
pieces_text buffer text h = sets-eq text buffer 0 (omega arith) ∙ rw zero-add

module _ (before : List ℕ) (wires bits : ℕ) (rs : List Record) (r : Option ℕ) (m : Measures (length before) (length (text_of wires bits rs)) r) where
  -- a text that is too long leaves the buffer
  pub prints_nothing : r ≡ None → Prints before (text_of wires bits rs) before r
  prints_nothing e = rw e (subst (Measures (length before) (length (text_of wires bits rs))) e m, refl)

  module _ (n : ℕ) (e : r ≡ Some n) where
    measured : (n ≡ length (text_of wires bits rs)) × (length (text_of wires bits rs) ≤ length before)
    measured = subst (Measures (length before) (length (text_of wires bits rs))) e m

    -- another has room
    pub room_whole : Room before 0 (header wires bits ++ lines rs)
    unfolding text_of
    room_whole = record { fits = omega (arith, measured.1) }

    -- and is printed whole
    pub prints_whole : (after : List ℕ) (to : ℕ) → Puts before 0 (header wires bits ++ lines rs) after to → Prints before (text_of wires bits rs) after r
    unfolding text_of
    prints_whole after to p = rw e (measured.0, measured.1, p.stored ∙ pieces_text before (header wires bits ++ lines rs) measured.1)
