-- The values of two indexes in a row, as the bounds of a loop or of a slice.
use Rattle.std.specs.Prelude.{ℕ, ◌+◌, ◌-◌, ◌≤◌, ◌≡◌, List, true, ℤ, drop, Result, Ok, Err}
use Rattle.std.proofs.Math.Seq.{slice}
use Rattle.language.specs.Tree.{Place, bad_index}
use Rattle.language.specs.Read.{fields, due, outer_index}
use Rattle.language.specs.Form.{in_range}
use Rattle.language.specs.Machine.{Run, give, run_bounds}
use Rattle.indexes.specs.declared.Fault.{Fault}
use Rattle.indexes.specs.declared.Bounds.{Bounds}
use Rattle.indexes.specs.Values.{fault_told}

-- the bounds, and what is done with them
unfoldable pub bounding : {A : Type 0} → Place → Result Bounds Fault → (ℤ → ℤ → Run A) → Run A
bounding p (Ok b) k = k b.low b.high
bounding p (Err f) k = fault_told p f

-- the bounds are in range, and what is behind them, in the content from `from` to `to`, begins at `at`
pub record Behind (l : List ℕ) (from to : ℕ) (x y : ℤ) (at : ℕ) : Type 0 where
  pub low : in_range x ≡ true
  pub high : in_range y ≡ true
  pub within : at ≤ to
  pub past : from + 6 ≤ at
  pub rest : (q : Place) → drop 2 (fields q (slice from to l)) ≡ fields (q + (at - from)) (slice at to l)

unfoldable pub BehindBounds : List ℕ → (from to : ℕ) → Result Bounds Fault → Type 0
BehindBounds l from to (Ok b) = Behind l from to b.low b.high b.next
BehindBounds l from to (Err f) = Unit {0}

-- both values
abbrev pub both : ℤ → ℤ → Run (ℤ × ℤ)
both x y = give (x, y)

-- the first two indexes in the content have these values, wherever it stands
pub record Bounded (l : List ℕ) (from to : ℕ) (values : List ℤ) (r : Result Bounds Fault) : Type 0 where
  pub behind : BehindBounds l from to r
  pub same : (p q t : Place) → bounding p r both ≡
      run_bounds p values (due outer_index (bad_index 4 q) (fields t (slice from to l))) (due outer_index (bad_index 4 q) (drop 1 (fields t (slice from to l)))) both
