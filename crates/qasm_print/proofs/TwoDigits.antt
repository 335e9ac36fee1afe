-- Decimal numbers by two digits at a time, from the front and from the end.
use mathlib.Core.Path.{◌≡◌, sym, ap, ◌∙◌}
use mathlib.Core.List.{List, [], ◌∷◌, ◌++◌, append_assoc}
use Prim.Native.Nat.{ℕ, ◌+◌, ◌/◌, ◌%◌, ◌≤◌, ◌<◌}
use native.Mathlib.Omega.{arith}
use lib.ListN.{length, length-append}
use lib.Seq.{sets}
use Rattle.text_bytes.specs.Decimal.{digit, decimal, width}
use Rattle.text_bytes.proofs.DecimalLaws.{decimal_digit, decimal_next}
use Rattle.text_bytes.proofs.Pieces.{stores_back}
use Rattle.qasm_print.specs.Prints.{two_digits}

-- a number of two digits
pub decimal_two : (n : ℕ) → 10 ≤ n → n < 100 → decimal n ≡ two_digits n
decimal_two n l h = decimal_next n l ∙ rw (decimal_digit (n / 10) (omega arith))

-- a longer one: the digits of its hundreds, and two more
pub decimal_hundreds : (n : ℕ) → 100 ≤ n → decimal n ≡ decimal (n / 100) ++ two_digits (n % 100)
decimal_hundreds n l =
    let a : n / 10 / 10 ≡ n / 100 = omega arith in
    let b : n / 10 % 10 ≡ n % 100 / 10 = omega arith in
    let c : n % 10 ≡ n % 100 % 10 = omega arith in
    decimal_next n (omega arith)
    ∙ rw (decimal_next (n / 10) (omega arith), append_assoc (decimal (n / 10 / 10)) (digit (n / 10 % 10) ∷ []) (digit (n % 10) ∷ []), a, b, c)

pub width_hundreds : (n : ℕ) → 100 ≤ n → width n ≡ width (n / 100) + 2
unfolding width
width_hundreds n l = ap length (decimal_hundreds n l) ∙ length-append (decimal (n / 100)) (two_digits (n % 100))

-- with its last two digits stored, those of its hundreds are left
pub stored_back : (text : List ℕ) (from n : ℕ) → 100 ≤ n → sets (sets text (from + width (n / 100)) (two_digits (n % 100))) from (decimal (n / 100)) ≡ sets text from (decimal n)
unfolding width
stored_back text from n l = stores_back text (decimal (n / 100)) (two_digits (n % 100)) from ∙ ap (sets text from) (sym (decimal_hundreds n l))
