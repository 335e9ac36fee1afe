-- Numbers of words, and what words ask for, computed. Assumes nothing.
use mathlib.Core.Path.{◌≡◌, refl}
use mathlib.Core.List.{[], ◌∷◌}
use Rattle.std.specs.Prelude.{Some, None}
use Rattle.list_words.specs.Words.{all_digits, value_from, number_in, size_bytes, and_sizes, sizes_in, same_word, family_at, request_of, before, words_in}
use Rattle.list_words.specs.Words.{whole, family, listing, help, bad}

-- `042`
leading_zero : number_in (48 ∷ 52 ∷ 50 ∷ []) ≡ Some 42
unfolding all_digits value_from number_in
leading_zero = refl

-- `4294967295`
largest : number_in (52 ∷ 50 ∷ 57 ∷ 52 ∷ 57 ∷ 54 ∷ 55 ∷ 50 ∷ 57 ∷ 53 ∷ []) ≡ Some 4294967295
unfolding all_digits value_from number_in
largest = refl

-- `4294967296`
too_large_lem : number_in (52 ∷ 50 ∷ 57 ∷ 52 ∷ 57 ∷ 54 ∷ 55 ∷ 50 ∷ 57 ∷ 54 ∷ []) ≡ None
unfolding all_digits value_from number_in
too_large_lem = refl

-- `1x`
no_digit : number_in (49 ∷ 120 ∷ []) ≡ None
unfolding all_digits value_from number_in
no_digit = refl

empty : number_in [] ≡ None
unfolding all_digits value_from number_in
empty = refl

-- 16909060 is 1 · 256³ + 2 · 256² + 3 · 256 + 4
low_byte_first : size_bytes 16909060 ≡ 4 ∷ 3 ∷ 2 ∷ 1 ∷ []
unfolding size_bytes
low_byte_first = refl

-- no word
all_of_it : request_of (words_in []) ≡ listing whole
unfolding before words_in request_of
all_of_it = refl

-- `7 1 258`
two_sizes : request_of (words_in (55 ∷ 0 ∷ 49 ∷ 0 ∷ 50 ∷ 53 ∷ 56 ∷ 0 ∷ [])) ≡ listing (family 7 (1 ∷ 0 ∷ 0 ∷ 0 ∷ 2 ∷ 1 ∷ 0 ∷ 0 ∷ []))
unfolding all_digits value_from number_in size_bytes and_sizes sizes_in same_word family_at request_of before words_in
two_sizes = refl

-- `7` and an empty word
empty_size : request_of (words_in (55 ∷ 0 ∷ 0 ∷ [])) ≡ bad
unfolding all_digits value_from number_in size_bytes and_sizes sizes_in same_word family_at request_of before words_in
empty_size = refl

-- `--help`
help_word_lem : request_of (words_in (45 ∷ 45 ∷ 104 ∷ 101 ∷ 108 ∷ 112 ∷ 0 ∷ [])) ≡ help
unfolding all_digits value_from number_in size_bytes and_sizes sizes_in same_word family_at request_of before words_in
help_word_lem = refl
