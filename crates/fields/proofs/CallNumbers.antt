-- The number that a call names, carried to what is read of the call. Assumes nothing.
use mathlib.Core.Path.{◌≡◌, refl, sym, ap, ◌∙◌}
use mathlib.Core.List.{List, [], ◌∷◌}
use mathlib.Core.Bool.{Bool, true, false, cond, ◌||◌}
use Prim.Native.Nat.{ℕ, ◌+◌, ◌-◌, ◌≤◌, ◌<◌}
use native.Mathlib.Omega.{arith}
use lib.Dec.{eqb}
use borrow.Author.Tests.{eqb-true, eq-eqb, ne_eqb, lt-ltb, le-ltb}
use lib.ListN.{length, get_or, take, drop}
use lib.Seq.{slice, drop-drop, length-slice}
use Rattle.language.specs.Limits.{byte_families}
use Rattle.language.specs.Tree.{Place, Statement, bad_statement}
use Rattle.language.specs.Read.{Field, field, fields, two_bytes, choose, CallNumber, names, unnamed, one_byte_number, wide_number, two_byte_number, Calling, call_of, call_by, statement_by}
use Rattle.language.proofs.ReadLaws.{Begins, one_byte_begins, two_bytes_begin}
use Rattle.language.proofs.Integers.{clash}
use Rattle.fields.proofs.Headers.{slice_none, one_byte}
use Rattle.fields.specs.CallNumber.{is_call_tag, number_in, calling_by, call_reader, named_at, named_in}
use Rattle.fields.specs.declared.Named.{Named}
use Rattle.std.specs.Prelude.{Result, Ok, Err}

-- a statement whose tag is a call's is read so
pub call_read : (part : Field → Statement) (p tag : ℕ) (l : List ℕ) → is_call_tag tag ≡ true → statement_by part (field p tag l) ≡ call_reader tag p l
unfolding statement_by choose
call_read part p tag l h = go (eqb tag 36) refl (eqb tag 39) refl (eqb tag 42) refl h
  where
    go : (a : Bool) → eqb tag 36 ≡ a → (b : Bool) → eqb tag 39 ≡ b → (c : Bool) → eqb tag 42 ≡ c → (a || (b || c)) ≡ true → statement_by part (field p tag l) ≡ call_reader tag p l
    go true e b g c f h = let t : tag ≡ 36 = eqb-true tag 36 e in rw t
    go false e true g c f h = let t : tag ≡ 39 = eqb-true tag 39 g in rw t
    go false e false g true f h = let t : tag ≡ 42 = eqb-true tag 42 f in rw t
    go false e false g false f h = absurd (clash (sym h))

-- a call whose content begins with the number n, which ends at `after`
pub record Names (number : CallNumber) (from : ℕ) (l : List ℕ) (n after : ℕ) : Type 0 where
  pub low : from < after
  pub high : after ≤ from + length l
  pub reads : (calling : Calling) (p : Place) → call_by calling p number ≡ call_of calling p n (fields (p + 3 + (after - from)) (drop (after - from) l))

-- what each answer means
unfoldable Meant : (number : CallNumber) (from : ℕ) → List ℕ → Result Named ℕ → Type 0
Meant number from l (Ok n) = Names number from l n.number n.next
Meant number from l (Err k) = (calling : Calling) (p : Place) → call_by calling p number ≡ bad_statement k p

-- the answer on a number means what is read
by_number_lem : (from : ℕ) (l : List ℕ) (number : CallNumber) → Begins l number → Meant number from l (named_at from number)
unfolding named_at Meant Begins call_by
by_number_lem from l (names n width rest) w =
    let d : from + width - from ≡ width = omega arith in
    record { low = omega (arith, w.some); high = omega (arith, w.long); reads = λ calling p. rw d (ap (λ (bytes : List ℕ). call_of calling p n (fields (p + 3 + width) bytes)) w.after) }
by_number_lem from l (unnamed k) w = λ calling p. refl

meant : (tag from : ℕ) (l : List ℕ) → Meant (number_in tag l) from l (named_in tag from l)
meant tag from l = by_number_lem from l (number_in tag l) (go (eqb tag 39))
  where
    go : (b : Bool) → Begins l (cond b (two_byte_number l) (one_byte_number l))
    go true = two_bytes_begin l
    go false = one_byte_begins l

module _ (tag from : ℕ) (l : List ℕ) where
  pub named_bad : (k : ℕ) → named_in tag from l ≡ Err k → (p : Place) → call_reader tag p l ≡ bad_statement k p
  unfolding Meant
  named_bad k e = (rw e at (meant tag from l)) (calling_by tag)

  pub named_number : (n after : ℕ) → named_in tag from l ≡ Ok (record { number = n; next = after }) → Names (number_in tag l) from l n after
  unfolding Meant
  named_number n after e = rw e at (meant tag from l)

-- the same in the bytes that the content is a part of
pub record NamedIn (tag from to : ℕ) (bytes : List ℕ) (n after : ℕ) : Type 0 where
  pub low : from < after
  pub high : after ≤ to
  pub reads : (p start : Place) → start ≡ p + 3 + (after - from) → call_reader tag p (slice from to bytes) ≡ call_of (calling_by tag) p n (fields start (slice after to bytes))

pub named_in_lem : (tag from to : ℕ) (bytes : List ℕ) → from ≤ to → to ≤ length bytes → (n after : ℕ) → named_in tag from (slice from to bytes) ≡ Ok (record { number = n; next = after }) → NamedIn tag from to bytes n after
named_in_lem tag from to bytes h k n after e =
    let w = named_number tag from (slice from to bytes) n after e in
    let z : from + (after - from) ≡ after = omega (arith, w.low) in
    let d : drop (after - from) (slice from to bytes) ≡ slice after to bytes = drop-drop (after - from) from (take to bytes) ∙ rw z in
    record {
      low = w.low;
      high = omega (arith, w.high, length-slice from to bytes k);
      reads = λ p start s. rw (s, ← d) (w.reads (calling_by tag) p);
    }

-- ---- each answer of the code

module _ (tag from to : ℕ) (bytes : List ℕ) (h : from ≤ to) (k : to ≤ length bytes) where
  module _ (t : tag ≡ 39) where
    pub long_cut : to - from < 2 → named_in tag from (slice from to bytes) ≡ Err 4
    unfolding two_byte_number named_at
    long_cut s = rw (eq-eqb tag 39 t) (go (slice from to bytes) (omega (arith, length-slice from to bytes k)))
      where
        go : (l : List ℕ) → length l < 2 → named_at from (two_byte_number l) ≡ Err 4
        go [] z = refl
        go (x ∷ []) z = refl
        go (x ∷ y ∷ l) z = absurd (omega arith)

    module _ (s : from + 2 ≤ to) where
      abbrev number : ℕ
      number = two_bytes (get_or bytes from 0) (get_or bytes (from + 1) 0)

      long_is : named_in tag from (slice from to bytes) ≡ named_at from (wide_number number (slice (from + 1 + 1) to bytes))
      unfolding two_byte_number
      long_is = rw (eq-eqb tag 39 t) (ap (λ (l : List ℕ). named_at from (two_byte_number l)) (one_byte from to bytes (omega arith) k ∙ ap (λ (l : List ℕ). get_or bytes from 0 ∷ l) (one_byte (from + 1) to bytes (omega arith) k)))

      pub long_small : number < byte_families → named_in tag from (slice from to bytes) ≡ Err 31
      unfolding wide_number named_at
      long_small m = long_is ∙ rw (lt-ltb number byte_families m)

      pub long_names : byte_families ≤ number → named_in tag from (slice from to bytes) ≡ Ok (record { number = number; next = (from + 2) })
      unfolding wide_number named_at
      long_names m = long_is ∙ rw (le-ltb number byte_families m)

  module _ (t : tag ≡ 39 → ⊥) where
    pub short_cut : to - from ≡ 0 → named_in tag from (slice from to bytes) ≡ Err 4
    unfolding one_byte_number named_at
    short_cut s = rw (ne_eqb tag 39 t) (ap (λ (l : List ℕ). named_at from (one_byte_number l)) (slice_none from to bytes (omega arith)))

    pub short_names : from < to → named_in tag from (slice from to bytes) ≡ Ok (record { number = (get_or bytes from 0); next = (from + 1) })
    unfolding one_byte_number named_at
    short_names s = rw (ne_eqb tag 39 t) (ap (λ (l : List ℕ). named_at from (one_byte_number l)) (one_byte from to bytes s k))
