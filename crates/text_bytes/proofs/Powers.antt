-- Powers of two: as numbers of 64 bits, how many digits they have in decimal, and the exponent found again.
use mathlib.Core.Path.{◌≡◌, refl, ap, ◌∙◌}
use mathlib.Core.Bool.{Bool, true, false, cond}
use Prim.Native.Nat.{ℕ, zero, suc, ◌+◌, ◌*◌, ◌^◌, ◌/◌, ◌%◌, ◌≤◌, ◌<◌}
use native.Mathlib.Omega.{arith}
use native.Mathlib.Nat.{one-mul}
use lib.Dec.{leb, eqb}
use lib.Pow.{shl_exact}
use borrow.Author.Tests.{lt-leb, eqb-true, eqb-false}
use Rattle.text_bytes.specs.Decimal.{digits, decimal, width}

-- 1 shifted by k in 64 bits
pub one_shifted : (k : ℕ) → k ≤ 63 → 1 * 2 ^ k % 2 ^ 64 ≡ 2 ^ k
one_shifted k h = shl_exact {a = 1} 1 k 64 (omega arith) (omega arith) ∙ one-mul (2 ^ k)

-- ---- how many digits

-- a test at every number below one
all_below : (ℕ → Bool) → ℕ → Bool
all_below f zero = true
all_below f (suc n) = let more = all_below f n in cond (f n) more false

below : (f : ℕ → Bool) (n : ℕ) → all_below f n ≡ true → (k : ℕ) → k < n → f k ≡ true
unfolding all_below
below f zero a k h = absurd (omega arith)
below f (suc n) a k h = go (f n) refl a (eqb k n) refl (λ b l. below f n b k l)
  where
    go : (t : Bool) → f n ≡ t → cond t (all_below f n) false ≡ true → (s : Bool) → eqb k n ≡ s → (all_below f n ≡ true → k < n → f k ≡ true) → f k ≡ true
    go false e b s d more = cc
    go true e b true d more = rw (eqb-true k n d) e
    go true e b false d more = let o = eqb-false k n d in more b (omega arith)

measured : (k : ℕ) → Bool
measured k = eqb (width (2 ^ k)) (k * 30_103 / 100_000 + 1)

-- computed at each k that a phase may have
all_measured : all_below measured 64 ≡ true
unfolding all_below measured width decimal digits
all_measured = refl

-- by a product, as the decimal logarithm of 2 is nearly 0.30103
pub power_width : (k : ℕ) → k ≤ 63 → width (2 ^ k) ≡ k * 30_103 / 100_000 + 1
unfolding measured
power_width k h = eqb-true (width (2 ^ k)) (k * 30_103 / 100_000 + 1) (below measured 64 all_measured k (omega arith))

-- ---- the exponent found again

exponent_by : (most n : ℕ) → ℕ
exponent_by zero n = 0
exponent_by (suc most) n = let more = suc (exponent_by most (n / 2)) in cond (leb n 1) 0 more

-- of a power of two
pub exponent : ℕ → ℕ
exponent n = exponent_by n n

less : (k : ℕ) → k < 2 ^ k
less zero = omega arith
less (suc k) = omega (arith, less k)

exponent_by_lem : (most k : ℕ) → k ≤ most → exponent_by most (2 ^ k) ≡ k
unfolding exponent_by
exponent_by_lem zero zero h = refl
exponent_by_lem zero (suc k) h = absurd (omega arith)
exponent_by_lem (suc most) zero h = refl
exponent_by_lem (suc most) (suc k) h =
    let e : 2 ^ suc k / 2 ≡ 2 ^ k = omega arith in
    rw (lt-leb (2 ^ suc k) 1 (omega (arith, less k)), e) (ap suc (exponent_by_lem most k (omega arith)))

pub exponent_power : (k : ℕ) → exponent (2 ^ k) ≡ k
unfolding exponent
exponent_power k = exponent_by_lem (2 ^ k) k (omega (arith, less k))
