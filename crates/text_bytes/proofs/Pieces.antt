-- Bytes put into a buffer, one piece after another.
use mathlib.Core.Path.{◌≡◌, refl, sym, ap, ◌∙◌}
use mathlib.Core.List.{List, [], ◌∷◌, ◌++◌}
use Prim.Native.Nat.{ℕ, suc, ◌+◌, ◌≤◌, ◌<◌}
use native.Mathlib.Omega.{arith}
use native.Mathlib.Nat.{add-zero}
use lib.ListN.{length, set, length-append}
use borrow.Rule.Slice.PartMut.{put_mid}
use Rattle.std.proofs.lemmas.List.{drop-drop}
use Rattle.std.proofs.lemmas.List.Edits.{sets-eq}
use mathlib.Core.List.{append_assoc}
use Prim.Native.Nat.{◌-◌}
use lib.Seq.{sets, length-sets, set_comm}
use Rattle.text_bytes.specs.Buffers.{Room, Puts}

-- two stores, the second right after the first
pub stores : (buffer a b : List ℕ) (i : ℕ) → sets (sets buffer i a) (i + length a) b ≡ sets buffer i (a ++ b)
stores buffer [] b i = rw add-zero
stores buffer (x ∷ a) b i = let e : i + suc (length a) ≡ suc i + length a = omega arith in rw e (stores (set buffer i x) a b (suc i))

-- a byte stored before bytes that are there
set_before : (buffer b : List ℕ) (i j x : ℕ) → i < j → set (sets buffer j b) i x ≡ sets (set buffer i x) j b
set_before buffer [] i j x h = refl
set_before buffer (y ∷ b) i j x h = set_before (set buffer j y) b i (suc j) x (omega arith) ∙ ap (λ (l : List ℕ). sets l (suc j) b) (set_comm buffer j i y x (λ e. omega arith))

either_first : (buffer a b : List ℕ) (i j : ℕ) → i + length a ≤ j → sets (sets buffer j b) i a ≡ sets (sets buffer i a) j b
either_first buffer [] b i j h = refl
either_first buffer (x ∷ a) b i j h =
    ap (λ (l : List ℕ). sets l (suc i) a) (set_before buffer b i j x (omega arith)) ∙ either_first (set buffer i x) a b (suc i) j (omega arith)

-- two stores, the second right before the first
pub stores_back : (buffer a b : List ℕ) (i : ℕ) → sets (sets buffer (i + length a) b) i a ≡ sets buffer i (a ++ b)
stores_back buffer a b i = either_first buffer a b i (i + length a) (omega arith) ∙ stores buffer a b i

-- room for two pieces is room for the first
pub room_first : {buffer : List ℕ} {from : ℕ} {a : List ℕ} (b : List ℕ) → Room buffer from (a ++ b) → Room buffer from a
room_first {a = a} b r = record { fits = omega (arith, r.fits, length-append a b) }

-- and, once the first is there, for the second
pub room_next : {before after : List ℕ} {from to : ℕ} {a b : List ℕ} → Room before from (a ++ b) → Puts before from a after to → Room after to b
room_next {before} {from = from} {a = a} {b = b} r p = record { fits = omega (arith, r.fits, length-append a b, p.past, ap length p.stored, length-sets before from a) }

-- nothing is put
pub puts_none : (buffer : List ℕ) (from : ℕ) → Puts buffer from [] buffer from
puts_none buffer from = record { stored = refl; past = sym (add-zero from) }

-- a piece, and then another
pub puts_both : {before middle after : List ℕ} {from at to : ℕ} {a b : List ℕ} → Puts before from a middle at → Puts middle at b after to → Puts before from (a ++ b) after to
puts_both {before} {from = from} {a = a} {b = b} p q = record {
  stored = q.stored ∙ rw (p.stored, p.past) (stores before a b from);
  past = omega (arith, p.past, q.past, length-append a b);
}

-- bytes copied into a part of a buffer
pub put_part : (buffer word after : List ℕ) (from : ℕ) → from + length word ≤ length buffer → after ≡ word → put_mid from (from + length word - from) buffer after ≡ sets buffer from word
put_part buffer word after from h e =
    let n : from + length word - from ≡ length word = omega arith in
    rw (n, e, drop-drop, sets-eq word buffer from h, append_assoc) refl

-- the buffer keeps its length
pub puts_size : {before after : List ℕ} {from to : ℕ} {bytes : List ℕ} → Puts before from bytes after to → length after ≡ length before
puts_size {before} {from = from} {bytes = bytes} p = ap length p.stored ∙ length-sets before from bytes

-- room for bytes that these begin
pub room_within : {buffer : List ℕ} {from : ℕ} {whole : List ℕ} (part : List ℕ) → Room buffer from whole → length part ≤ length whole → Room buffer from part
room_within part r h = record { fits = omega (arith, r.fits) }
