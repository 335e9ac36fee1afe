-- A loop's rounds and values. Assumes nothing.
use Prim.Native.Nat.{ℕ, suc, ◌+◌, ◌<◌, ◌≤◌}
use mathlib.Core.Path.{◌≡◌, refl, ap, ◌∙◌}
use mathlib.Core.List.{List}
use mathlib.Core.Bool.{Bool, true, false, not}
use native.Mathlib.Omega.{arith}
use native.Mathlib.Numerals.{add-one}
use borrow.Author.Tests.{ne_eqb}
use lib.Dec.{T}
use lib.IntN.{ℤ, pos, negsuc, nat_abs, suc_ℤ, pred_ℤ, ◌+ℤ◌, ◌-ℤ◌}
use lib.Signed.{lt_z, non_neg}
use mir.Syntax.{w32, w64}
use mir.Val.{Fits, SFits}
use Rattle.language.specs.Limits.{furthest}
use Rattle.language.specs.Form.{in_range}
use Rattle.language.specs.Machine.{rounds_of, start_of, step_of}
use Rattle.language.proofs.Integers.{integers, eq_by, minus, plus, next, last, up, dn}
use Rattle.gates.specs.declared.Mode.{Mode}
use Rattle.indexes.specs.Bounds.{Behind}
use Rattle.indexes.proofs.TwoBounds.{bounds_behind}
use Rattle.gates.specs.Gates.{direction_of, Rounds, turn_of, most_rounds, deeper_of, inner_of}

-- ---- how many
pub tally_none : (x y : ℤ) → lt_z y x ≡ true → 0 ≡ rounds_of (y -ℤ x)
unfolding rounds_of
tally_none x y h = go (y -ℤ x) (omega (integers, minus y x))
  where
    go : (z : ℤ) → up z < dn z → 0 ≡ rounds_of z
    go (pos n) k = absurd (omega arith)
    go (negsuc n) k = refl

rounds_natural : (z : ℤ) → dn z ≤ up z → nat_abs z + 1 ≡ rounds_of z
unfolding rounds_of
rounds_natural (pos n) k = omega arith
rounds_natural (negsuc n) k = absurd (omega arith)

natural_cast : (z : ℤ) → dn z ≤ up z → up z ≤ furthest + furthest → T (non_neg z) × Fits w64 (nat_abs z)
natural_cast (pos n) k h = (tt, record { fits = omega arith })
natural_cast (negsuc n) k h = absurd (omega arith)

natural_size : (z : ℤ) → dn z ≤ up z → up z ≤ furthest + furthest → nat_abs z ≤ furthest + furthest
natural_size (pos n) k h = h
natural_size (negsuc n) k h = absurd (omega arith)

module _ (x y : ℤ) (a : in_range x ≡ true) (b : in_range y ≡ true) (h : lt_z y x ≡ false) where
  pub tally_some : nat_abs (y -ℤ x) + 1 ≡ rounds_of (y -ℤ x)
  tally_some = rounds_natural (y -ℤ x) (omega (integers, minus y x))

  pub tally_cast : T (non_neg (y -ℤ x)) × Fits w64 (nat_abs (y -ℤ x))
  tally_cast = natural_cast (y -ℤ x) (omega (integers, minus y x)) (omega (integers, minus y x))

  pub tally_size : nat_abs (y -ℤ x) ≤ furthest + furthest
  tally_size = natural_size (y -ℤ x) (omega (integers, minus y x)) (omega (integers, minus y x))

-- a round's number is not past the distance of the bounds
below : (z : ℤ) (i : ℕ) → i < rounds_of z → dn z + i ≤ up z
unfolding rounds_of
below (pos n) i h = omega arith
below (negsuc n) i h = absurd (omega arith)

few : (z : ℤ) → up z ≤ furthest + furthest + dn z → rounds_of z ≤ most_rounds
unfolding rounds_of
few (pos n) h = omega arith
few (negsuc n) h = omega arith

-- ---- the values

pub turn_start : (b : Bool) (start : ℤ) → turn_of b start 0 ≡ start
unfolding turn_of
turn_start true start = eq_by (start -ℤ pos 0) start (omega (arith, minus start (pos 0)))
turn_start false start = eq_by (start +ℤ pos 0) start (omega (arith, plus start (pos 0)))

pub turn_step : (b : Bool) (start : ℤ) (i : ℕ) → step_of (direction_of b) (turn_of b start i) ≡ turn_of b start (i + 1)
unfolding turn_of direction_of step_of
turn_step true z i = eq_by (pred_ℤ (z -ℤ pos i)) (z -ℤ pos (i + 1)) (omega (arith, last (z -ℤ pos i), minus z (pos i), minus z (pos (i + 1))))
turn_step false z i = eq_by (suc_ℤ (z +ℤ pos i)) (z +ℤ pos (i + 1)) (omega (arith, next (z +ℤ pos i), plus z (pos i), plus z (pos (i + 1))))

pub turn_next : (b : Bool) (start : ℤ) (i : ℕ) → step_of (direction_of b) (turn_of b start i) ≡ turn_of b start (suc i)
turn_next b start i = turn_step b start i ∙ ap (turn_of b start) (add-one i)

ranged : (z : ℤ) → up z ≤ furthest + dn z → dn z ≤ furthest + up z → in_range z ≡ true
ranged (pos n) a b = omega integers
ranged (negsuc n) a b = omega integers

-- both bounds are in range, and so is each value between them
turn_between : (b : Bool) (x y : ℤ) (i : ℕ) → in_range x ≡ true → in_range y ≡ true → i < rounds_of (y -ℤ x) → in_range (turn_of b (start_of (direction_of b) x y) i) ≡ true
unfolding turn_of direction_of start_of
turn_between true x y i a b h =
    let k = below (y -ℤ x) i h in
    ranged (y -ℤ pos i) (omega (integers, minus y (pos i))) (omega (integers, minus y (pos i), minus y x))
turn_between false x y i a b h =
    let k = below (y -ℤ x) i h in
    ranged (x +ℤ pos i) (omega (integers, plus x (pos i), minus y x)) (omega (integers, plus x (pos i)))

pub start_between : (b : Bool) (x y : ℤ) → in_range x ≡ true → in_range y ≡ true → in_range (start_of (direction_of b) x y) ≡ true
unfolding direction_of start_of
start_between true x y a b = b
start_between false x y a b = a

-- what a for's rounds are like
module _ {l : List ℕ} {from to : ℕ} {values : List ℤ} {reversed : Bool} {start : ℤ} {total at : ℕ} (r : Rounds l from to values reversed start total at) where
  pub rounds_behind : Behind l from to r.x r.y at
  rounds_behind = bounds_behind r.bounded

  pub rounds_few : total ≤ most_rounds
  rounds_few =
      let a = rounds_behind.low in
      let b = rounds_behind.high in
      let h = few (r.y -ℤ r.x) (omega (integers, minus r.y r.x)) in
      omega (arith, r.often)

  pub rounds_start : in_range start ≡ true
  rounds_start = ap in_range r.first ∙ start_between reversed r.x r.y rounds_behind.low rounds_behind.high

  pub rounds_turn : (i : ℕ) → i < total → in_range (turn_of reversed start i) ≡ true
  rounds_turn i h = ap (λ (z : ℤ). in_range (turn_of reversed z i)) r.first ∙ turn_between reversed r.x r.y i rounds_behind.low rounds_behind.high (omega (arith, r.often))

-- ---- the code's numbers

-- a number of four bytes
pub narrow : (z : ℤ) → in_range z ≡ true → SFits w32 z
narrow (pos n) a = record { sfits = omega integers }
narrow (negsuc n) a = record { sfits = omega integers }

pub turn_small : (b : Bool) (start : ℤ) (i : ℕ) → in_range start ≡ true → in_range (turn_of b start i) ≡ true → i ≤ furthest + furthest
unfolding turn_of
turn_small true start i a h = omega (integers, minus start (pos i))
turn_small false start i a h = omega (integers, plus start (pos i))

pub turn_down : (b : Bool) (start : ℤ) (i : ℕ) → b ≡ true → turn_of b start i ≡ start -ℤ pos i
unfolding turn_of
turn_down b start i e = rw e

pub turn_up : (b : Bool) (start : ℤ) (i : ℕ) → b ≡ false → turn_of b start i ≡ start +ℤ pos i
unfolding turn_of
turn_up b start i e = rw e

-- ---- what stays in a body

pub inner_reverse : (mode : Mode) → inner_of mode 37 ≡ deeper_of mode mode.variables (not mode.reversed)
inner_reverse mode = refl

pub inner_for : (mode : Mode) (tag : ℕ) → (tag ≡ 37 → ⊥) → inner_of mode tag ≡ deeper_of mode (mode.variables + 1) mode.reversed
inner_for mode tag h = rw (ne_eqb tag 37 h)
