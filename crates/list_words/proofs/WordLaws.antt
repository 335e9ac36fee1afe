-- Laws on words: their numbers, the bytes of sizes, and the words of a text. Assumes nothing.
use Prim.Native.Nat.{ℕ, zero, suc, ◌+◌, ◌*◌, ◌-◌, ◌<◌, ◌≤◌}
use mathlib.Core.Path.{◌≡◌, refl, sym, ap, ◌∙◌}
use mathlib.Core.Logic.{◌⊎◌, inl, inr}
use mathlib.Core.Bool.{Bool, true, false, cond, ◌&&◌}
use mathlib.Core.List.{List, [], ◌∷◌, ◌++◌, append_assoc, append-nil}
use Rattle.std.specs.Prelude.{◌==◌, Option, Some, None}
use Rattle.std.specs.List.{position, position_or_len}
use Rattle.std.proofs.lemmas.List.Sums.{fails_before_first}
use Rattle.std.proofs.lemmas.List.Quantifiers.{position-Some}
use native.Mathlib.Numerals.{add-one}
use native.Mathlib.Nat.{add-zero}
use native.Mathlib.Omega.{arith}
use borrow.Author.Tests.{lt-ltb, le-ltb, lt-leb, le-leb, ne_eqb, eq-eqb, eqb-true, eqb-false, ltb-false}
use lib.Dec.{eqb, leb, ltb}
use lib.ListN.{length, take, drop, get_or, length-take, length-drop, drop_of_length-le}
use lib.Seq.{take-length, take-suc, drop-cons, get_or-drop}
use Rattle.list_words.specs.declared.Span.{Span}
use Rattle.list_words.specs.Words.{all_digits, value_from, number_in, size_bytes, and_sizes, sizes_in, before, words_in, listing, help, whole, help_word, same_word, family_at, request_of}
use Rattle.list_words.specs.Jobs.{WordAt}

-- a byte at a place, and what is after it
pub next_byte : (l : List ℕ) (i : ℕ) → i < length l → drop i l ≡ get_or l i 0 ∷ drop (i + 1) l
next_byte l i h = rw (add-one, drop-cons l i 0)

-- more digits make no smaller number
value_grows : (n : ℕ) (l : List ℕ) → n ≤ value_from n l
unfolding value_from
value_grows n [] = omega arith
value_grows n (byte ∷ rest) = omega (arith, value_grows (10 * n + (byte - 48)) rest)

-- a test that fails gives no number
fails : (a b c : Bool) (o : Option ℕ) → b ≡ false → None ≡ cond (a && b && c) o None
fails true b c o e = rw e
fails false b c o e = refl

fails_last : (a b c : Bool) (o : Option ℕ) → c ≡ false → None ≡ cond (a && b && c) o None
fails_last true true c o e = rw e
fails_last true false c o e = refl
fails_last false b c o e = refl

-- the first i bytes of a word are digits, and n is their number
pub record Reading (word : List ℕ) (i n : ℕ) : Type 0 where
  pub within : i ≤ length word
  pub small : n < 4294967296
  pub digits : all_digits word ≡ all_digits (drop i word)
  pub value : value_from 0 word ≡ value_from n (drop i word)

pub reading_start : (word : List ℕ) → Reading word 0 0
reading_start word = record { within = omega arith; small = omega arith; digits = refl; value = refl }

pub no_byte : (word : List ℕ) → length word ≡ 0 → None ≡ number_in word
unfolding number_in
no_byte word h = rw (le-ltb 0 (length word) (omega arith))

module _ (word : List ℕ) (i n : ℕ) (r : Reading word i n) (h : i < length word) where
  digits_from : all_digits word ≡ (leb 48 (get_or word i 0) && leb (get_or word i 0) 57 && all_digits (drop (i + 1) word))
  unfolding all_digits
  digits_from = r.digits ∙ ap all_digits (next_byte word i h)

  value_from_lem : value_from 0 word ≡ value_from (10 * n + (get_or word i 0 - 48)) (drop (i + 1) word)
  unfolding value_from
  value_from_lem = r.value ∙ ap (value_from n) (next_byte word i h)

  below_digits : get_or word i 0 < 48 → None ≡ number_in word
  unfolding number_in
  below_digits low = fails (ltb 0 (length word)) (all_digits word) (ltb (value_from 0 word) 4294967296) (Some (value_from 0 word)) (digits_from ∙ rw (lt-leb 48 (get_or word i 0) low))

  above_digits : 57 < get_or word i 0 → None ≡ number_in word
  unfolding number_in
  above_digits high = fails (ltb 0 (length word)) (all_digits word) (ltb (value_from 0 word) 4294967296) (Some (value_from 0 word))
      (digits_from ∙ rw (le-leb 48 (get_or word i 0) (omega arith), lt-leb (get_or word i 0) 57 high))

  pub no_digit : (get_or word i 0 < 48) ⊎ (57 < get_or word i 0) → None ≡ number_in word
  no_digit (inl low) = below_digits low
  no_digit (inr high) = above_digits high

  pub too_large_lem : 4294967296 ≤ 10 * n + (get_or word i 0 - 48) → None ≡ number_in word
  unfolding number_in
  too_large_lem large =
      fails_last (ltb 0 (length word)) (all_digits word) (ltb (value_from 0 word) 4294967296) (Some (value_from 0 word))
      (le-ltb (value_from 0 word) 4294967296 (omega (arith, value_from_lem, value_grows (10 * n + (get_or word i 0 - 48)) (drop (i + 1) word))))

  pub reading_next : 48 ≤ get_or word i 0 → get_or word i 0 ≤ 57 → 10 * n + (get_or word i 0 - 48) < 4294967296
      → Reading word (i + 1) (10 * n + (get_or word i 0 - 48))
  reading_next low high fits = record {
    within = omega arith;
    small = fits;
    digits = digits_from ∙ rw (le-leb 48 (get_or word i 0) low, le-leb (get_or word i 0) 57 high);
    value = value_from_lem;
  }

pub reading_done : (word : List ℕ) (i n : ℕ) → Reading word i n → (i < length word → ⊥) → (length word ≡ 0 → ⊥) → Some n ≡ number_in word
unfolding number_in all_digits value_from
reading_done word i n r h k =
    let nothing : drop i word ≡ [] = drop_of_length-le word {i = i} (omega arith) in
    let digits : all_digits word ≡ true = r.digits ∙ rw nothing in
    let value : value_from 0 word ≡ n = r.value ∙ rw nothing in
    rw (value, digits, lt-ltb 0 (length word) (omega arith), lt-ltb n 4294967296 r.small)

-- bytes before the first word
unfoldable pub before_all : List ℕ → List (List ℕ) → List (List ℕ)
before_all [] words = words
before_all (byte ∷ rest) words = before byte (before_all rest words)

before_more : (bytes : List ℕ) (byte : ℕ) (words : List (List ℕ)) → before_all (bytes ++ (byte ∷ [])) words ≡ before_all bytes (before byte words)
unfolding before_all
before_more [] byte words = refl
before_more (first ∷ rest) byte words = ap (before first) (before_more rest byte words)

before_word : (bytes word : List ℕ) (words : List (List ℕ)) → before_all bytes (word ∷ words) ≡ (bytes ++ word) ∷ words
unfolding before before_all
before_word [] word words = refl
before_word (first ∷ rest) word words = rw (before_word rest word words)

before_nothing : (bytes : List ℕ) → 0 < length bytes → before_all bytes [] ≡ bytes ∷ []
unfolding before before_all
before_nothing [] h = absurd (omega arith)
before_nothing (first ∷ []) h = refl
before_nothing (first ∷ second ∷ rest) h = rw (before_nothing (second ∷ rest) (omega arith))

-- the bytes of a text up to i belong to the word that begins at `from`
pub record Passing (text : List ℕ) (from i : ℕ) : Type 0 where
  pub low : from ≤ i
  pub high : i ≤ length text
  pub words : words_in (drop from text) ≡ before_all (take (i - from) (drop from text)) (words_in (drop i text))

pub passing_start : (text : List ℕ) (from : ℕ) → from ≤ length text → Passing text from from
unfolding before_all
passing_start text from h =
    let nothing : from - from ≡ 0 = omega arith in
    record { low = omega arith; high = h; words = rw nothing }

module _ (text : List ℕ) (from i : ℕ) (p : Passing text from i) (h : i < length text) where
  pub passing_next : (get_or text i 0 ≡ 0 → ⊥) → Passing text from (i + 1)
  unfolding words_in
  passing_next other =
      let low : from ≤ i = p.low in
      let e : i + 1 - from ≡ suc (i - from) = omega arith in
      let f : from + (i - from) ≡ i = omega arith in
      let room : i - from < length (drop from text) = simp length-drop (omega arith) in
      let one : take (i + 1 - from) (drop from text) ≡ take (i - from) (drop from text) ++ (get_or text i 0 ∷ []) =
      ap (λ (k : ℕ). take k (drop from text)) e ∙ take-suc (drop from text) (i - from) 0 room
      ∙ ap (λ (b : ℕ). take (i - from) (drop from text) ++ (b ∷ [])) (get_or-drop from text (i - from) 0 ∙ ap (λ (k : ℕ). get_or text k 0) f) in
      let rest : words_in (drop i text) ≡ before (get_or text i 0) (words_in (drop (i + 1) text)) =
      ap words_in (next_byte text i h) ∙ rw (ne_eqb (get_or text i 0) 0 other) in
      record {
        low = omega arith;
        high = omega arith;
        words = p.words ∙ ap (before_all (take (i - from) (drop from text))) rest
            ∙ sym (before_more (take (i - from) (drop from text)) (get_or text i 0) (words_in (drop (i + 1) text)))
            ∙ ap (λ (l : List ℕ). before_all l (words_in (drop (i + 1) text))) (sym one);
      }

  pub word_ends : get_or text i 0 ≡ 0 → WordAt text from (record { end = i; next = i + 1 })
  unfolding words_in
  word_ends zeroed =
      let low : from ≤ i = p.low in
      let rest : words_in (drop i text) ≡ [] ∷ words_in (drop (i + 1) text) =
      ap words_in (next_byte text i h) ∙ rw zeroed in
      record {
        low = low;
        more = omega arith;
        past = omega arith;
        high = omega arith;
        words = p.words ∙ ap (before_all (take (i - from) (drop from text))) rest
            ∙ before_word (take (i - from) (drop from text)) [] (words_in (drop (i + 1) text))
            ∙ ap (λ (l : List ℕ). l ∷ words_in (drop (i + 1) text)) (append-nil (take (i - from) (drop from text)));
      }

-- a word that the text ends
pub text_ends : (text : List ℕ) (from i : ℕ) → from < length text → Passing text from i → (i < length text → ⊥) → WordAt text from (record { end = i; next = i })
unfolding words_in
text_ends text from i h p done =
    let low : from ≤ i = p.low in
    let high : i ≤ length text = p.high in
    let nothing : drop i text ≡ [] = drop_of_length-le text {i = i} (omega arith) in
    let some_bytes : 0 < length (take (i - from) (drop from text)) = simp (length-take, length-drop) (omega arith) in
    record {
      low = low;
      more = omega arith;
      past = omega arith;
      high = high;
      words = p.words ∙ rw nothing (before_nothing (take (i - from) (drop from text)) some_bytes);
    }

-- ---- the first 0 of a text from a place on

passing_on : (text : List ℕ) (from n : ℕ) → from + n ≤ length text → ((k : ℕ) → k < n → (get_or text (from + k) 0 ≡ 0 → ⊥)) → Passing text from (from + n)
passing_on text from zero h f = rw add-zero (passing_start text from (omega arith))
passing_on text from (suc n) h f =
    let e : from + n + 1 ≡ from + suc n = omega arith in
    rw (← e) (passing_next text from (from + n) (passing_on text from n (omega arith) (λ k l. f k (omega arith))) (omega arith) (f n (omega arith)))

pub rest_is : (text : List ℕ) (from : ℕ) → take (length text - from) (drop from text) ≡ drop from text
rest_is text from = rw (length-drop from text) at (take-length (drop from text))

none_passes : (l : List ℕ) → position (λ (b : ℕ). b == 0) l ≡ None → length l ≤ position_or_len (λ (b : ℕ). b == 0) l
none_passes l e = by_test (ltb (position_or_len (λ (b : ℕ). b == 0) l) (length l)) refl e
  where
    by_test : (t : Bool) → ltb (position_or_len (λ (b : ℕ). b == 0) l) (length l) ≡ t → cond t (Some (position_or_len (λ (b : ℕ). b == 0) l)) None ≡ None → length l ≤ position_or_len (λ (b : ℕ). b == 0) l
    by_test true f g = absurd (let z : ◌≡◌ {A = ℕ} 0 1 = cc in omega arith)
    by_test false f g = ltb-false _ _ f

module _ (text : List ℕ) (from : ℕ) (h : from < length text) where
  not_before : (k : ℕ) → (get_or (drop from text) k 0 == 0) ≡ false → get_or text (from + k) 0 ≡ 0 → ⊥
  not_before k e z = eqb-false (get_or (drop from text) k 0) 0 e (get_or-drop from text k 0 ∙ z)

  pub word_found : (n : ℕ) → position (λ (b : ℕ). b == 0) (drop from text) ≡ Some n → WordAt text from (record { end = from + n; next = from + n + 1 })
  word_found n e =
      let p = position-Some (λ (b : ℕ). b == 0) (drop from text) n 0 e in
      let l : from + n < length text = omega (arith, p.0, length-drop from text) in
      word_ends text from (from + n) (passing_on text from n (omega arith) (λ k m. not_before k (p.2 k m))) l
      (sym (get_or-drop from text n 0) ∙ eqb-true (get_or (drop from text) n 0) 0 p.1)

  pub word_last : position (λ (b : ℕ). b == 0) (drop from text) ≡ None → WordAt text from (record { end = length text; next = length text })
  word_last e =
      let n : from + length (drop from text) ≡ length text = omega (arith, length-drop from text) in
      let p : Passing text from (from + length (drop from text)) =
      passing_on text from (length (drop from text)) (omega arith) (λ k m. not_before k (fails_before_first (λ (b : ℕ). b == 0) (drop from text) k 0 (omega (arith, none_passes (drop from text) e)))) in
      text_ends text from (length text) h (rw n at p) (omega arith)

-- bytes before those of sizes
unfoldable pub after : List ℕ → Option (List ℕ) → Option (List ℕ)
after bytes None = None
after bytes (Some rest) = Some (bytes ++ rest)

after_nothing : (o : Option (List ℕ)) → o ≡ after [] o
unfolding after
after_nothing None = refl
after_nothing (Some rest) = refl

after_size : (bytes : List ℕ) (n : ℕ) (o : Option (List ℕ)) → after bytes (and_sizes (Some n) o) ≡ after (bytes ++ size_bytes n) o
unfolding after and_sizes
after_size bytes n None = refl
after_size bytes n (Some rest) = ap Some (sym (append_assoc bytes (size_bytes n) rest))

no_words : (most : ℕ) → sizes_in most [] ≡ Some []
unfolding sizes_in
no_words zero = refl
no_words (suc most) = refl

-- a text with a byte has a word
no_room : (l : List ℕ) → 0 < length l → sizes_in 0 (words_in l) ≡ None
unfolding sizes_in words_in before
no_room [] h = absurd (omega arith)
no_room (byte ∷ rest) h = by_first (eqb byte 0) (words_in rest)
  where
    by_first : (b : Bool) (words : List (List ℕ)) → sizes_in 0 (cond b ([] ∷ words) (before byte words)) ≡ None
    by_first true words = refl
    by_first false [] = refl
    by_first false (word ∷ words) = refl

-- the words of a text from `from` up to `at` say so many sizes, which are in the first bytes
pub record Sizing (text : List ℕ) (from : ℕ) (sizes : List ℕ) (at many : ℕ) : Type 0 where
  pub within : at ≤ length text
  pub few : many ≤ 16
  pub room : 64 ≤ length sizes
  pub same : sizes_in 16 (words_in (drop from text)) ≡ after (take (4 * many) sizes) (sizes_in (16 - many) (words_in (drop at text)))

pub sizing_start : (text : List ℕ) (from : ℕ) (sizes : List ℕ) → from ≤ length text → 64 ≤ length sizes → Sizing text from sizes from 0
sizing_start text from sizes h k = record { within = h; few = omega arith; room = k; same = after_nothing (sizes_in 16 (words_in (drop from text))) }

module _ (text : List ℕ) (from : ℕ) (sizes : List ℕ) (at many : ℕ) (p : Sizing text from sizes at many) where
  pub too_many_lem : at < length text → many ≡ 16 → None ≡ sizes_in 16 (words_in (drop from text))
  unfolding after
  too_many_lem h all =
      let left : 16 - many ≡ 0 = omega arith in
      let there : 0 < length (drop at text) = simp length-drop (omega arith) in
      sym (p.same ∙ rw left (rw (no_room (drop at text) there)))

  pub sizing_done : (at < length text → ⊥) → Some (take (4 * many) sizes) ≡ sizes_in 16 (words_in (drop from text))
  unfolding after words_in
  sizing_done h =
      let nothing : drop at text ≡ [] = drop_of_length-le text {i = at} (omega arith) in
      sym (p.same ∙ rw nothing (rw (no_words (16 - many)) (ap Some (append-nil (take (4 * many) sizes)))))

  module _ (s : Span) (w : WordAt text at s) (h : many ≡ 16 → ⊥) where
    one_more_lem : sizes_in 16 (words_in (drop from text))
        ≡ after (take (4 * many) sizes) (and_sizes (number_in (take (s.end - at) (drop at text))) (sizes_in (16 - (many + 1)) (words_in (drop s.next text))))
    unfolding sizes_in
    one_more_lem =
        let few : many ≤ 16 = p.few in
        let left : 16 - many ≡ suc (16 - (many + 1)) = omega arith in
        p.same ∙ rw (left, w.words)

    pub no_number : None ≡ number_in (take (s.end - at) (drop at text)) → None ≡ sizes_in 16 (words_in (drop from text))
    unfolding after and_sizes
    no_number e = sym (one_more_lem ∙ rw (sym e))

    pub sizing_next : (n : ℕ) (now : List ℕ) → Some n ≡ number_in (take (s.end - at) (drop at text)) → length now ≡ length sizes
        → take (4 * many + 4) now ≡ take (4 * many) sizes ++ size_bytes n → Sizing text from now s.next (many + 1)
    sizing_next n now e kept put =
        let few : many ≤ 16 = p.few in
        let room : 64 ≤ length sizes = p.room in
        let four : 4 * (many + 1) ≡ 4 * many + 4 = omega arith in
        let rest = sizes_in (16 - (many + 1)) (words_in (drop s.next text)) in
        record {
          within = w.high;
          few = omega arith;
          room = omega arith;
          same = one_more_lem ∙ rw (sym e) (after_size (take (4 * many) sizes) n rest ∙ ap (λ (l : List ℕ). after l rest) (sym (ap (λ (k : ℕ). take k now) four ∙ put)));
        }

same_self : (word : List ℕ) → same_word word word ≡ true
unfolding same_word
same_self [] = refl
same_self (byte ∷ rest) = rw (eq-eqb byte byte refl) (same_self rest)

same_only : (word other : List ℕ) → same_word word other ≡ true → word ≡ other
unfolding same_word
same_only [] [] e = refl
same_only [] (b ∷ rest) e = let z : ◌≡◌ {A = ℕ} 0 1 = cc in absurd (omega arith)
same_only (a ∷ word) [] e = let z : ◌≡◌ {A = ℕ} 0 1 = cc in absurd (omega arith)
same_only (a ∷ word) (b ∷ rest) e = by_first (eqb a b) refl (same_only word rest) e
  where
    by_first : (t : Bool) → eqb a b ≡ t → (same_word word rest ≡ true → word ≡ rest) → (t && same_word word rest) ≡ true → a ∷ word ≡ b ∷ rest
    by_first true f g h = let first : a ≡ b = eqb-true a b f in let others : word ≡ rest = g h in cc
    by_first false f g h = let z : ◌≡◌ {A = ℕ} 0 1 = cc in absurd (omega arith)

other_word : (word other : List ℕ) → (word ≡ other → ⊥) → same_word word other ≡ false
other_word word other h = by_test (same_word word other) refl
  where
    by_test : (t : Bool) → same_word word other ≡ t → t ≡ false
    by_test true e = absurd (h (same_only word other e))
    by_test false e = refl

-- no byte is no word
pub nothing_asked : (text : List ℕ) → length text ≡ 0 → listing whole ≡ request_of (words_in text)
unfolding request_of words_in
nothing_asked [] h = refl
nothing_asked (byte ∷ rest) h = absurd (omega arith)

module _ (text : List ℕ) (s : Span) (w : WordAt text 0 s) where
  first_word : words_in text ≡ take s.end text ∷ words_in (drop s.next text)
  first_word =
      let all : s.end - 0 ≡ s.end = omega arith in
      w.words ∙ ap (λ (k : ℕ). take k text ∷ words_in (drop s.next text)) all

  pub help_asked : take s.end text ≡ help_word → help ≡ request_of (words_in text)
  unfolding request_of
  help_asked e = sym (ap request_of first_word ∙ rw e (rw (same_self help_word)))

  pub family_asked : (take s.end text ≡ help_word → ⊥) → (n : Option ℕ) (sizes : Option (List ℕ))
      → n ≡ number_in (take s.end text) → sizes ≡ sizes_in 16 (words_in (drop s.next text)) → family_at n sizes ≡ request_of (words_in text)
  unfolding request_of
  family_asked other n sizes e f = sym (ap request_of first_word ∙ rw (other_word (take s.end text) help_word other, sym e, sym f))

-- a test that answered false found two words that differ
pub not_same : {word other : List ℕ} {t : Bool} → (word ≡ other → t ≡ true) → t ≡ false → word ≡ other → ⊥
not_same h e f =
    let g = h f in
    let z : ◌≡◌ {A = ℕ} 0 1 = cc in omega arith
