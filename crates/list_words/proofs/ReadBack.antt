-- The bytes that words are put into as sizes are read back by the library as the numbers of the words. Assumes nothing.
use Prim.Native.Nat.{ℕ, zero, suc, ◌+◌, ◌*◌, ◌/◌, ◌%◌, ◌<◌}
use mathlib.Core.Path.{◌≡◌, refl, ap, ◌∙◌}
use mathlib.Core.Bool.{Bool, true, false, cond, ◌&&◌}
use mathlib.Core.List.{List, [], ◌∷◌, ◌++◌, map}
use Rattle.std.specs.Prelude.{Option, Some, None}
use native.Mathlib.Omega.{arith}
use borrow.Author.Tests.{ltb-true}
use lib.Dec.{ltb}
use lib.ListN.{length}
use Rattle.language.specs.Result.{four_bytes}
use Rattle.list_words.specs.Words.{all_digits, value_from, number_in, size_bytes, and_sizes, sizes_in}

-- a word's number fits 32 bits
number_fits : (word : List ℕ) (n : ℕ) → number_in word ≡ Some n → n < 4294967296
unfolding number_in
number_fits word n e = by_tests (ltb 0 (length word)) (all_digits word) (ltb (value_from 0 word) 4294967296) refl e
  where
    by_tests : (a b c : Bool) → ltb (value_from 0 word) 4294967296 ≡ c → cond (a && b && c) (Some (value_from 0 word)) None ≡ Some n → n < 4294967296
    by_tests true true true f g = let v : value_from 0 word ≡ n = cc in omega (arith, ltb-true (value_from 0 word) 4294967296 f)
    by_tests true true false f g = let z : ◌≡◌ {A = ℕ} 0 1 = cc in absurd (omega arith)
    by_tests true false c f g = let z : ◌≡◌ {A = ℕ} 0 1 = cc in absurd (omega arith)
    by_tests false b c f g = let z : ◌≡◌ {A = ℕ} 0 1 = cc in absurd (omega arith)

-- four bytes of a number give it back
four_back : (n : ℕ) (rest : List ℕ) → n < 4294967296 → four_bytes (size_bytes n ++ rest) ≡ n ∷ four_bytes rest
unfolding four_bytes size_bytes
four_back n rest h =
    let one : n ≡ n % 256 + 256 * (n / 256) = omega arith in
    let two : n / 256 ≡ n / 256 % 256 + 256 * (n / 65536) = omega arith in
    let three : n / 65536 ≡ n / 65536 % 256 + 256 * (n / 16777216) = omega arith in
    let four : n / 16777216 % 256 ≡ n / 16777216 = omega arith in
    let same : (n % 256 + 256 * (n / 256 % 256)) + 65536 * (n / 65536 % 256 + 256 * (n / 16777216 % 256)) ≡ n = omega arith in
    ap (λ (k : ℕ). k ∷ four_bytes rest) same

pub sizes_read_back : (most : ℕ) (words : List (List ℕ)) (bytes : List ℕ) → sizes_in most words ≡ Some bytes → map number_in words ≡ map Some (four_bytes bytes)
unfolding sizes_in and_sizes four_bytes
sizes_read_back zero [] bytes e = let b : bytes ≡ [] = cc in rw b
sizes_read_back (suc most) [] bytes e = let b : bytes ≡ [] = cc in rw b
sizes_read_back zero (word ∷ words) bytes e = let z : ◌≡◌ {A = ℕ} 0 1 = cc in absurd (omega arith)
sizes_read_back (suc most) (word ∷ words) bytes e = by_parts (number_in word) (sizes_in most words) refl refl (sizes_read_back most words) e
  where
    by_parts : (a : Option ℕ) (b : Option (List ℕ)) → number_in word ≡ a → sizes_in most words ≡ b
        → ((rest : List ℕ) → sizes_in most words ≡ Some rest → map number_in words ≡ map Some (four_bytes rest))
        → and_sizes a b ≡ Some bytes → number_in word ∷ map number_in words ≡ map Some (four_bytes bytes)
    by_parts None b f g back h = let z : ◌≡◌ {A = ℕ} 0 1 = cc in absurd (omega arith)
    by_parts (Some n) None f g back h = let z : ◌≡◌ {A = ℕ} 0 1 = cc in absurd (omega arith)
    by_parts (Some n) (Some rest) f g back h =
        let b : bytes ≡ size_bytes n ++ rest = cc in
        rw (b, four_back n rest (number_fits word n f)) (ap (λ (o : Option ℕ). o ∷ map number_in words) f ∙ ap (λ (l : List (Option ℕ)). Some n ∷ l) (back rest g))
