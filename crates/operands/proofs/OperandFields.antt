-- What an operand's field stands for. Assumes nothing.
use Prim.Native.Nat.{ℕ, ◌+◌, ◌<◌, ◌≤◌}
use mathlib.Core.Path.{◌≡◌, refl, sym, ap, ◌∙◌}
use mathlib.Core.List.{List, [], ◌∷◌}
use mathlib.Core.Bool.{Bool, true, false, cond}
use mathlib.Core.Option.{Option, none, some}
use native.Mathlib.Omega.{arith}
use borrow.Author.Tests.{ne_eqb, eqb-true, eqb-false}
use lib.ListN.{length, get_or, get_elem?, drop}
use lib.Seq.{slice}
use lib.Dec.{eqb}
use lib.IntN.{ℤ}
use Rattle.language.specs.Limits.{deepest}
use Rattle.language.specs.Tree.{Place, bad_index, bad_operand, Operand}
use Rattle.language.specs.Read.{field, fields, two_bytes, due, choose, read_operand, read_whole, read_element, element_of, read_slice, slice_of, read_passed, outer_index, read_index, Reader}
use Rattle.language.specs.Machine.{Meaning, the_family, Run, ended, going, stuck, begin, give, end_at, no_meaning, found, after, ◌>>=◌, element_at, slice_at, run_bounds, meaning_of, evaluate, Direction, Condition, wire_of, as_wire, bit_of, as_bit, as_family}
use Rattle.std.specs.Prelude.{Result, Ok, Err}
use Rattle.std.specs.Prelude as prelude
use Rattle.std.specs.Result.{result_ok}
use Rattle.fields.specs.declared.NoHeader.{NoHeader}
use Rattle.fields.specs.declared.NoHeader.TheVariants.{End, Cut}
use Rattle.indexes.specs.declared.Fault.{Fault}
use Rattle.indexes.specs.declared.Fault.TheVariants.{Over, Stuck}
use Rattle.indexes.specs.declared.Bounds.{Bounds}
use Rattle.indexes.specs.Values.{fault_told, value_told, IndexAt}
use Rattle.indexes.specs.Bounds.{bounding, Bounded}
use Rattle.indexes.proofs.Leaves.{fault_on}
use Rattle.indexes.proofs.TwoBounds.{bounds_run}
use Rattle.fields.proofs.Headers.{one_byte}
use Rattle.fields.proofs.Between.{look_in, in_whole, in_none, in_bad}
use Rattle.operands.specs.declared.Meaning as code
use Rattle.operands.specs.declared.Meaning.TheVariants as m
use Rattle.operands.specs.declared.Wire.{Wire}
use Rattle.operands.specs.declared.Bit.{Bit}
use Rattle.operands.specs.Meanings.{stood, meaning_told, OperandIs, ElementIs, SliceIs, PassedMeans, FieldMeans, frame_of, wire_told, AsWire, WireAt, bit_told, AsBit, BitAt, family_told, FamilyOf}

-- an answer of the code on an operand
abbrev Answer : Type 0
Answer = Result code.Meaning Fault

-- a value, what it is for, and what follows
elements : Run Meaning → Run ℤ → Run Meaning
elements a b = a >>= (λ m. b >>= (λ z. element_at m z))

-- an operand that stands for nothing is not one whose index is out of range
pub operand_stuck : (ms : List Meaning) (n : ℕ) (f : Fault) → OperandIs ms n (Err f) → f ≡ Stuck
unfolding meaning_told fault_told found
operand_stuck ms n Stuck w = refl
operand_stuck ms n Over w = go (get_elem? ms n) (w 0)
  where
    go : (o : Option Meaning) → end_at 24 0 ≡ found o → Over ≡ Stuck
    go none e =
        let k : ended 24 0 begin ≡ stuck = ap (λ (run : Run Meaning). run begin) e in
        absurd (let z : ◌≡◌ {A = ℕ} 0 1 = cc in omega arith)
    go (some m) e =
        let k : ended 24 0 begin ≡ going m begin = ap (λ (run : Run Meaning). run begin) e in
        absurd (let z : ◌≡◌ {A = ℕ} 0 1 = cc in omega arith)

module _ (tag : ℕ) (l : List ℕ) (values : List ℤ) (ms : List Meaning) where
  pub empty_operand : length l ≡ 0 → FieldMeans tag l values ms (Err Stuck)
  unfolding read_operand choose read_whole read_element read_slice read_passed meaning_told fault_told meaning_of
  empty_operand h p q d c = go l h
    where
      or_else : Bool → (first second : Reader Operand) → Reader Operand
      or_else b first second = cond {A = Reader Operand} b first second

      pick : (a b c' e : Bool) → no_meaning ≡ meaning_of p (frame_of d c values ms) (or_else a read_whole (or_else b read_element (or_else c' read_slice (or_else e read_passed (λ q rest. bad_operand 3 q)))) q [])
      pick true b c' e = refl
      pick false true c' e = refl
      pick false false true e = refl
      pick false false false true = refl
      pick false false false false = refl

      go : (l : List ℕ) → length l ≡ 0 → meaning_told p (Err Stuck) ≡ meaning_of p (frame_of d c values ms) (read_operand (field q tag l))
      go [] h = pick (eqb tag 48) (eqb tag 49) (eqb tag 50) (eqb tag 51)
      go (x ∷ l) h = absurd (omega arith)

  pub whole_operand : (n : ℕ) (r : Answer) → (length l ≡ 0 → ⊥) → tag ≡ 48 → n ≡ get_or l 0 0 → OperandIs ms n r → FieldMeans tag l values ms r
  unfolding read_operand choose read_whole meaning_of
  whole_operand n r h t e w p q d c = w p ∙ rw t (go l h e)
    where
      go : (l : List ℕ) → (length l ≡ 0 → ⊥) → n ≡ get_or l 0 0 → found (get_elem? ms n) ≡ meaning_of p (frame_of d c values ms) (read_whole q l)
      go [] h e = absurd (h refl)
      go (x ∷ l) h e = ap (λ (i : ℕ). found (get_elem? ms i)) e

  pub other_operand : (tag ≡ 48 → ⊥) → (tag ≡ 49 → ⊥) → (tag ≡ 50 → ⊥) → (tag ≡ 51 → ⊥) → FieldMeans tag l values ms (Err Stuck)
  unfolding read_operand choose meaning_told fault_told meaning_of
  other_operand a b e f p q d c = rw (ne_eqb tag 48 a, ne_eqb tag 49 b, ne_eqb tag 50 e, ne_eqb tag 51 f)

  pub passed_operand : tag ≡ 51 → (r : Answer) → PassedMeans l r → FieldMeans tag l values ms r
  unfolding read_operand choose
  passed_operand t r h p q d c = rw t (h p q (frame_of d c values ms))

  -- the content's first byte is the operand's number
  module _ (h : length l ≡ 0 → ⊥) (n : ℕ) (e : n ≡ get_or l 0 0) where
    -- the slice whose two indexes are the first in this content
    cut_in : List ℕ → (p q : Place) → Meaning → Run Meaning
    cut_in content p q m = run_bounds p values (due outer_index (bad_index 4 q) (fields (q + 4) content)) (due outer_index (bad_index 4 q) (drop 1 (fields (q + 4) content))) (slice_at m)

    element_is : tag ≡ 49 → (p q : Place) (d : Direction) (c : Condition) → meaning_of p (frame_of d c values ms) (read_operand (field q tag l))
        ≡ elements (found (get_elem? ms n)) (evaluate p values (due (read_index deepest) (bad_index 4 q) (fields (q + 4) (drop 1 l))))
    unfolding read_operand choose read_element element_of meaning_of elements
    element_is t p q d c = rw t (go l h e)
      where
        go : (l : List ℕ) → (length l ≡ 0 → ⊥) → n ≡ get_or l 0 0 → meaning_of p (frame_of d c values ms) (read_element q l)
            ≡ elements (found (get_elem? ms n)) (evaluate p values (due (read_index deepest) (bad_index 4 q) (fields (q + 4) (drop 1 l))))
        go [] h e = absurd (h refl)
        go (y ∷ l) h e = ap (λ (i : ℕ). elements (found (get_elem? ms i)) (evaluate p values (due (read_index deepest) (bad_index 4 q) (fields (q + 4) l)))) (sym e)

    slice_is : tag ≡ 50 → (p q : Place) (d : Direction) (c : Condition) → meaning_of p (frame_of d c values ms) (read_operand (field q tag l))
        ≡ (found (get_elem? ms n) >>= cut_in (drop 1 l) p q)
    unfolding read_operand choose read_slice slice_of meaning_of cut_in
    slice_is t p q d c = rw t (go l h e)
      where
        go : (l : List ℕ) → (length l ≡ 0 → ⊥) → n ≡ get_or l 0 0 → meaning_of p (frame_of d c values ms) (read_slice q l) ≡ (found (get_elem? ms n) >>= cut_in (drop 1 l) p q)
        go [] h e = absurd (h refl)
        go (y ∷ l) h e = ap (λ (i : ℕ). found (get_elem? ms i) >>= cut_in l p q) (sym e)

    -- the number stands for nothing
    pub fault_operand : (tag ≡ 51 → ⊥) → (f : Fault) → OperandIs ms n (Err f) → FieldMeans tag l values ms (Err f)
    unfolding meaning_told elements
    fault_operand not f w = go (eqb tag 48) refl (eqb tag 49) refl (eqb tag 50) refl
      where
        over : (p : Place) (b : Run ℤ) → elements (found (get_elem? ms n)) b ≡ fault_told p f
        over p b = ap (λ (r : Run Meaning). elements r b) (sym (w p)) ∙ fault_on p f (λ m. b >>= (λ z. element_at m z))

        go : (a : Bool) → eqb tag 48 ≡ a → (b : Bool) → eqb tag 49 ≡ b → (c : Bool) → eqb tag 50 ≡ c → FieldMeans tag l values ms (Err f)
        go true i b j c k = whole_operand n (Err f) h (eqb-true tag 48 i) e w
        go false i true j c k = λ p q d u. sym (element_is (eqb-true tag 49 j) p q d u ∙ over p (evaluate p values (due (read_index deepest) (bad_index 4 q) (fields (q + 4) (drop 1 l)))))
        go false i false j true k = λ p q d u. sym (slice_is (eqb-true tag 50 k) p q d u ∙ ap (λ (r : Run Meaning). r >>= cut_in (drop 1 l) p q) (sym (w p)) ∙ fault_on p f (cut_in (drop 1 l) p q))
        go false i false j false k =
            let s = operand_stuck ms n f w in
            rw s (other_operand (eqb-false tag 48 i) (eqb-false tag 49 j) (eqb-false tag 50 k) not)

    -- the number stands for x
    module _ (x : code.Meaning) (w : OperandIs ms n (Ok x)) where
      module _ (t : tag ≡ 49) where
        indexed : (v : Result ℤ Fault) → IndexAt l 1 values v → (p q : Place) (d : Direction) (c : Condition) → meaning_of p (frame_of d c values ms) (read_operand (field q tag l))
            ≡ elements (meaning_told p (Ok x)) (value_told p v)
        indexed v u p q d c = element_is t p q d c ∙ (λ j. elements (sym (w p) j) (sym (u.same p q (q + 4)) j))

        pub element_fault : (f : Fault) → IndexAt l 1 values (Err f) → FieldMeans tag l values ms (Err f)
        unfolding meaning_told value_told elements ◌>>=◌ after
        element_fault f u p q d c = sym (indexed (Err f) u p q d c ∙ fault_on p f _)

        pub element_at_lem : (z : ℤ) → IndexAt l 1 values (Ok z) → (r : Answer) → ElementIs x z r → FieldMeans tag l values ms r
        unfolding meaning_told value_told elements ◌>>=◌ after
        element_at_lem z u r y p q d c = y p ∙ sym (indexed (Ok z) u p q d c)

      module _ (t : tag ≡ 50) (bytes : List ℕ) (at to : ℕ) (rest : slice at to bytes ≡ drop 1 l) where
        bounded : (b : Result Bounds Fault) → Bounded bytes at to values b → (p q : Place) (d : Direction) (c : Condition) → meaning_of p (frame_of d c values ms) (read_operand (field q tag l))
            ≡ bounding p b (slice_at (stood x))
        unfolding meaning_told ◌>>=◌ after cut_in
        bounded b k p q d c = slice_is t p q d c ∙ ap (λ (r : Run Meaning). r >>= cut_in (drop 1 l) p q) (sym (w p))
            ∙ ap (λ (content : List ℕ). cut_in content p q (stood x)) (sym rest) ∙ sym (bounds_run (slice_at (stood x)) k p q (q + 4))

        pub slice_fault : (f : Fault) → Bounded bytes at to values (Err f) → FieldMeans tag l values ms (Err f)
        unfolding meaning_told bounding
        slice_fault f k p q d c = sym (bounded (Err f) k p q d c)

        pub slice_within : (b : Bounds) → Bounded bytes at to values (Ok b) → (r : Answer) → SliceIs x b.low b.high r → FieldMeans tag l values ms r
        unfolding bounding
        slice_within b k r y p q d c = y p ∙ sym (bounded (Ok b) k p q d c)

-- ---- a passed family

pub passed_short : (l : List ℕ) → length l < 2 → PassedMeans l (Err Stuck)
unfolding read_passed meaning_told fault_told meaning_of
passed_short [] h p q f = refl
passed_short (x ∷ []) h p q f = refl
passed_short (x ∷ y ∷ l) h p q f = absurd (omega arith)

pub passed_number : (l : List ℕ) (from to n : ℕ) → from + 2 ≤ to → to ≤ length l → n ≡ two_bytes (get_or l from 0) (get_or l (from + 1) 0) → PassedMeans (slice from to l) (Ok (m.Family n))
unfolding read_passed meaning_told stood meaning_of
passed_number l from to n h k e p q f = rw (one_byte from to l (omega arith) k, one_byte (from + 1) to l (omega arith) k) (ap (λ (i : ℕ). give (the_family i)) e)

-- ---- the family that an operand stands for

module _ (ms : List Meaning) (n : ℕ) where
  pub family_named : (i : ℕ) → OperandIs ms n (Ok (m.Family i)) → FamilyOf ms n (prelude.Some i)
  unfolding meaning_told stood family_told as_family ◌>>=◌ after
  family_named i w = ap (λ (m : Run Meaning). m >>= as_family) (w 0)

  pub family_other : (s : code.Meaning) → OperandIs ms n (Ok s) → ((i : ℕ) → s ≡ m.Family i → ⊥) → FamilyOf ms n prelude.None
  unfolding meaning_told stood family_told as_family ◌>>=◌ after
  family_other (m.Wire x) w h = ap (λ (m : Run Meaning). m >>= as_family) (w 0)
  family_other (m.Bit x) w h = ap (λ (m : Run Meaning). m >>= as_family) (w 0)
  family_other (m.Wires x i) w h = ap (λ (m : Run Meaning). m >>= as_family) (w 0)
  family_other (m.Bits x i) w h = ap (λ (m : Run Meaning). m >>= as_family) (w 0)
  family_other (m.Family i) w h = absurd (h i refl)

  pub family_none : (r : Answer) → OperandIs ms n r → result_ok r ≡ prelude.None → FamilyOf ms n prelude.None
  unfolding meaning_told fault_told family_told ◌>>=◌ after
  family_none (Ok s) w e = absurd (let z : ◌≡◌ {A = ℕ} 0 1 = cc in omega arith)
  family_none (Err Over) w e = absurd (let s = operand_stuck ms n Over w in let z : ◌≡◌ {A = ℕ} 0 1 = cc in omega arith)
  family_none (Err Stuck) w e = ap (λ (m : Run Meaning). m >>= as_family) (w 0)

  pub family_meant : (r : Answer) (s : code.Meaning) → OperandIs ms n r → result_ok r ≡ prelude.Some s → OperandIs ms n (Ok s)
  family_meant (Ok t) s w e = let k : t ≡ s = cc in rw k at w
  family_meant (Err f) s w e = absurd (let z : ◌≡◌ {A = ℕ} 0 1 = cc in omega arith)

-- ---- the operand due at a position

module _ (l : List ℕ) (at to : ℕ) (values : List ℤ) (ms : List Meaning) where
  pub wire_none : {k : NoHeader} → look_in l at to ≡ Err k → WireAt (slice at to l) 0 values ms (Err Stuck)
  unfolding wire_told fault_told wire_of due meaning_of read_operand ◌>>=◌ after
  wire_none {k = End} e p q t d c = rw (in_none l at to e t)
  wire_none {k = Cut} e p q t d c = rw (in_bad l at to e t)

  module _ (tag next : ℕ) (e : look_in l at to ≡ Ok (record { tag = tag; next = next })) where
    pub wire_some : (x : code.Meaning) (r : Result Wire Fault) → FieldMeans tag (slice (at + 3) next l) values ms (Ok x) → AsWire x r → WireAt (slice at to l) 0 values ms r
    unfolding wire_of due meaning_told ◌>>=◌ after
    wire_some x r u v p q t d c = v p ∙ rw ((in_whole l at to tag next e).first t) (ap (λ (m : Run Meaning). m >>= as_wire) (u p t d c))

    pub wire_fault : (f : Fault) → FieldMeans tag (slice (at + 3) next l) values ms (Err f) → WireAt (slice at to l) 0 values ms (Err f)
    unfolding wire_of due meaning_told wire_told
    wire_fault f u p q t d c = sym (fault_on p f as_wire) ∙ rw ((in_whole l at to tag next e).first t) (ap (λ (m : Run Meaning). m >>= as_wire) (u p t d c))

-- ---- and as a bit

module _ (l : List ℕ) (at to : ℕ) (values : List ℤ) (ms : List Meaning) where
  pub bit_none : {k : NoHeader} → look_in l at to ≡ Err k → BitAt (slice at to l) 0 values ms (Err Stuck)
  unfolding bit_told fault_told bit_of due meaning_of read_operand ◌>>=◌ after
  bit_none {k = End} e p q t d c = rw (in_none l at to e t)
  bit_none {k = Cut} e p q t d c = rw (in_bad l at to e t)

  module _ (tag next : ℕ) (e : look_in l at to ≡ Ok (record { tag = tag; next = next })) where
    pub bit_some : (x : code.Meaning) (r : Result Bit Fault) → FieldMeans tag (slice (at + 3) next l) values ms (Ok x) → AsBit x r → BitAt (slice at to l) 0 values ms r
    unfolding bit_of due meaning_told ◌>>=◌ after
    bit_some x r u v p q t d c = v p ∙ rw ((in_whole l at to tag next e).first t) (ap (λ (m : Run Meaning). m >>= as_bit) (u p t d c))

    pub bit_fault : (f : Fault) → FieldMeans tag (slice (at + 3) next l) values ms (Err f) → BitAt (slice at to l) 0 values ms (Err f)
    unfolding bit_of due meaning_told bit_told
    bit_fault f u p q t d c = sym (fault_on p f as_bit) ∙ rw ((in_whole l at to tag next e).first t) (ap (λ (m : Run Meaning). m >>= as_bit) (u p t d c))
