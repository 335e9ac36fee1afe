-- What printing a text comes to.
use Rattle.std.specs.Prelude.{◌≡◌, List, [], ◌∷◌, ◌++◌, ℕ, ◌^◌, ◌/◌, ◌%◌, ◌≤◌, ◌<◌, length, Option, Some, None}
use Rattle.text_bytes.specs.Decimal.{ascii, digit, decimal}
use Rattle.qasm_text.specs.TextResult.{text_into}

-- two digits, the first of them 0 where n is below 10
abbrev pub two_digits : ℕ → List ℕ
two_digits n = digit (n / 10) ∷ digit (n % 10) ∷ []

-- a word that opens an angle, the angle's 2 to the k, and its end
abbrev pub angled : (word : List ℕ) → (k : ℕ) → List ℕ
angled word k = word ++ decimal (2 ^ k) ++ ascii ") "

-- a text was printed whole at the buffer's front, or it does not fit and the buffer is as it was
abbrev pub Prints : (before text after : List ℕ) → Option ℕ → Type 0
Prints before text after (Some n) = (n ≡ length text) × (length text ≤ length before) × (after ≡ text_into before text)
Prints before text after None = (length before < length text) × (after ≡ before)
