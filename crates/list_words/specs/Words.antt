-- What the words behind the program's name ask for. A word is a list of ASCII codes. Assumes nothing.
use Rattle.std.specs.Prelude.{ℕ, zero, suc, ◌+◌, ◌*◌, ◌-◌, ◌/◌, ◌%◌, Bool, true, false, cond, ◌&&◌, List, [], ◌∷◌, ◌++◌, eqb, leb, ltb, length, Option, Some, None}
use Rattle.language.specs.Result.{Conclusion, run_outcome, instance_outcome}

-- whether these are digits, `0` to `9`
unfoldable pub all_digits : List ℕ → Bool
all_digits [] = true
all_digits (byte ∷ rest) = leb 48 byte && leb byte 57 && all_digits rest

-- the decimal number of digits that go on after those of n
unfoldable pub value_from : ℕ → List ℕ → ℕ
value_from n [] = n
value_from n (byte ∷ rest) = value_from (10 * n + (byte - 48)) rest

-- the number of a word: it has a byte, all its bytes are digits, and the number fits 32 bits
unfoldable pub number_in : List ℕ → Option ℕ
number_in word = cond (ltb 0 (length word) && all_digits word && ltb (value_from 0 word) 4294967296) (Some (value_from 0 word)) None

-- a number of 32 bits in four bytes, low byte first
unfoldable pub size_bytes : ℕ → List ℕ
size_bytes n = n % 256 ∷ n / 256 % 256 ∷ n / 65536 % 256 ∷ n / 16777216 % 256 ∷ []

-- the bytes of a size before those of others, where all are numbers
unfoldable pub and_sizes : Option ℕ → Option (List ℕ) → Option (List ℕ)
and_sizes None others = None
and_sizes (Some n) None = None
and_sizes (Some n) (Some bytes) = Some (size_bytes n ++ bytes)

-- the bytes of the sizes that words say: of at most so many words, and each a number
unfoldable pub sizes_in : (most : ℕ) → List (List ℕ) → Option (List ℕ)
sizes_in most [] = Some []
sizes_in zero (word ∷ words) = None
sizes_in (suc most) (word ∷ words) = and_sizes (number_in word) (sizes_in most words)

-- what is listed: the whole program, or a family at the sizes in these bytes
pub data Listed : Type 0 where
  whole : Listed
  family : (number : ℕ) (sizes : List ℕ) → Listed

-- what is asked for: a listing, help, or nothing that can be done
pub data Request : Type 0 where
  listing : Listed → Request
  help : Request
  bad : Request

-- `--help`
abbrev pub help_word : List ℕ
help_word = 45 ∷ 45 ∷ 104 ∷ 101 ∷ 108 ∷ 112 ∷ []

-- whether two words are the same
unfoldable pub same_word : List ℕ → List ℕ → Bool
same_word [] [] = true
same_word [] (b ∷ rest) = false
same_word (a ∷ word) [] = false
same_word (a ∷ word) (b ∷ rest) = eqb a b && same_word word rest

-- a family at sizes, where its word and theirs are good
unfoldable pub family_at : Option ℕ → Option (List ℕ) → Request
family_at None sizes = bad
family_at (Some n) None = bad
family_at (Some n) (Some sizes) = listing (family n sizes)

-- no word asks for the whole program; the first is `--help`, or a family's number with at most 16 sizes after it
unfoldable pub request_of : List (List ℕ) → Request
request_of [] = listing whole
request_of (first ∷ rest) = cond (same_word first help_word) help (family_at (number_in first) (sizes_in 16 rest))

-- a byte before the first word
unfoldable pub before : ℕ → List (List ℕ) → List (List ℕ)
before byte [] = (byte ∷ []) ∷ []
before byte (word ∷ words) = (byte ∷ word) ∷ words

-- the words of a text in which a 0 ends each
unfoldable pub words_in : List ℕ → List (List ℕ)
words_in [] = []
words_in (byte ∷ rest) = cond (eqb byte 0) ([] ∷ words_in rest) (before byte (words_in rest))

-- what the library answers for a job on a program, in 1,000,000 steps
unfoldable pub outcome_of : Listed → (program output : List ℕ) → Conclusion
outcome_of whole program output = run_outcome program 1000000 output
outcome_of (family n sizes) program output = instance_outcome program n sizes 1000000 output
