-- Decimal numbers: their digits from the lowest, their width, and how they are read back.
use mathlib.Core.Path.{◌≡◌, refl, ap, ◌∙◌}
use mathlib.Core.List.{List, [], ◌∷◌, ◌++◌, append_assoc}
use mathlib.Core.Bool.{Bool, true, false, cond, ◌&&◌}
use Prim.Native.Nat.{ℕ, zero, suc, ◌+◌, ◌*◌, ◌^◌, ◌-◌, ◌/◌, ◌%◌, ◌≤◌, ◌<◌}
use native.Mathlib.Omega.{arith}
use lib.Dec.{leb, ltb}
use borrow.Author.Tests.{lt-ltb, le-ltb, le-leb, ltb-true, ltb-false}
use lib.ListN.{length, length-append}
use Rattle.text_bytes.specs.Decimal.{digit, digits, decimal, width}

-- ---- digit by digit

by_test : {A : Type 0} (b : Bool) (x y z : A) → (b ≡ false → y ≡ z) → cond b x y ≡ cond b x z
by_test true x y z h = refl
by_test false x y z h = h refl

-- how many digits are allowed does not matter where they are enough
settled : (m k n : ℕ) → n < m → n < k → digits m n ≡ digits k n
unfolding digits
settled zero k n h i = absurd (omega arith)
settled (suc m) zero n h i = absurd (omega arith)
settled (suc m) (suc k) n h i =
    by_test (ltb n 10) (digit n ∷ []) (digits m (n / 10) ++ (digit (n % 10) ∷ [])) (digits k (n / 10) ++ (digit (n % 10) ∷ []))
    (λ e. ap (λ (l : List ℕ). l ++ (digit (n % 10) ∷ [])) (settled m k (n / 10) (omega (arith, ltb-false n 10 e)) (omega (arith, ltb-false n 10 e))))

-- a number below 10 is one digit
pub decimal_digit : (n : ℕ) → n < 10 → decimal n ≡ digit n ∷ []
unfolding decimal digits
decimal_digit n h = rw (lt-ltb n 10 h)

one_more_lem : (n : ℕ) → 10 ≤ n → digits (suc n) n ≡ digits n (n / 10) ++ (digit (n % 10) ∷ [])
unfolding digits
one_more_lem n h = rw (le-ltb n 10 h)

-- another is its tenth's digits and one more
pub decimal_next : (n : ℕ) → 10 ≤ n → decimal n ≡ decimal (n / 10) ++ (digit (n % 10) ∷ [])
unfolding decimal
decimal_next n h = one_more_lem n h ∙ ap (λ (l : List ℕ). l ++ (digit (n % 10) ∷ [])) (settled n (suc (n / 10)) (n / 10) (omega arith) (omega arith))

-- ---- how many digits

pub width_digit : (n : ℕ) → n < 10 → width n ≡ 1
unfolding width
width_digit n h = ap length (decimal_digit n h)

pub width_next : (n : ℕ) → 10 ≤ n → width n ≡ width (n / 10) + 1
unfolding width
width_next n h = ap length (decimal_next n h) ∙ length-append (decimal (n / 10)) (digit (n % 10) ∷ [])

-- by the tests that code makes
pub width_two : (n : ℕ) → 10 ≤ n → n < 100 → width n ≡ 2
width_two n l u = omega (arith, width_next n l, width_digit (n / 10) (omega arith))

pub width_three : (n : ℕ) → 100 ≤ n → n < 1000 → width n ≡ 3
width_three n l u = omega (arith, width_next n (omega arith), width_two (n / 10) (omega arith) (omega arith))

pub width_four : (n : ℕ) → 1000 ≤ n → n < 10_000 → width n ≡ 4
width_four n l u = omega (arith, width_next n (omega arith), width_three (n / 10) (omega arith) (omega arith))

pub width_five : (n : ℕ) → 10_000 ≤ n → n < 100_000 → width n ≡ 5
width_five n l u = omega (arith, width_next n (omega arith), width_four (n / 10) (omega arith) (omega arith))

-- no more than the power of ten that it is below
pub width_below : (d n : ℕ) → n < 10 ^ suc d → width n ≤ suc d
width_below zero n h = omega (arith, width_digit n h)
width_below (suc d) n h = go (ltb n 10) refl (width_below d (n / 10) (omega arith))
  where
    go : (b : Bool) → ltb n 10 ≡ b → width (n / 10) ≤ suc d → width n ≤ suc (suc d)
    go true e k = omega (arith, width_digit n (ltb-true n 10 e))
    go false e k = omega (arith, width_next n (ltb-false n 10 e))

pub width_most : (n : ℕ) → n < 100_000 → width n ≤ 5
width_most n h = width_below 4 n h

-- ---- reading a number back

unfoldable pub is_digit : ℕ → Bool
is_digit x = leb 48 x && leb x 57

-- the number that begins the bytes, with the digits before them worth `sofar`, and the bytes after it
pub read_number : (sofar : ℕ) → List ℕ → ℕ × List ℕ
read_number sofar [] = (sofar, [])
read_number sofar (x ∷ bytes) = let more = read_number (10 * sofar + (x - 48)) bytes in cond (is_digit x) more (sofar, x ∷ bytes)

is_digit_lem : (n : ℕ) → n < 10 → is_digit (digit n) ≡ true
unfolding is_digit
is_digit_lem n h = rw (le-leb 48 (digit n) (omega arith), le-leb (digit n) 57 (omega arith))

read_digit : (sofar n : ℕ) (s : List ℕ) → n < 10 → read_number sofar (digit n ∷ s) ≡ read_number (10 * sofar + n) s
unfolding read_number
read_digit sofar n s h = rw (is_digit_lem n h) (ap (λ (k : ℕ). read_number k s) (omega arith))

-- a number that ends at a byte that is no digit
read_end : (n x : ℕ) (s : List ℕ) → is_digit x ≡ false → read_number n (x ∷ s) ≡ (n, x ∷ s)
unfolding read_number
read_end n x s e = rw e

digits_read : (m n : ℕ) (s : List ℕ) → n < m → read_number 0 (decimal n ++ s) ≡ read_number n s
digits_read zero n s h = absurd (omega arith)
digits_read (suc m) n s h = go (ltb n 10) refl (λ e. digits_read m (n / 10) (digit (n % 10) ∷ s) (omega (arith, ltb-false n 10 e)))
  where
    go : (b : Bool) → ltb n 10 ≡ b → (ltb n 10 ≡ false → read_number 0 (decimal (n / 10) ++ (digit (n % 10) ∷ s)) ≡ read_number (n / 10) (digit (n % 10) ∷ s)) → read_number 0 (decimal n ++ s) ≡ read_number n s
    go true e k = rw (decimal_digit n (ltb-true n 10 e)) (read_digit 0 n s (ltb-true n 10 e) ∙ ap (λ (j : ℕ). read_number j s) (omega arith))
    go false e k =
        rw (decimal_next n (ltb-false n 10 e), append_assoc (decimal (n / 10)) (digit (n % 10) ∷ []) s)
        (k e ∙ read_digit (n / 10) (n % 10) s (omega arith) ∙ ap (λ (j : ℕ). read_number j s) (omega arith))

pub number_read : (n x : ℕ) (s : List ℕ) → is_digit x ≡ false → read_number 0 (decimal n ++ x ∷ s) ≡ (n, x ∷ s)
number_read n x s e = digits_read (suc n) n (x ∷ s) (omega arith) ∙ read_end n x s e
