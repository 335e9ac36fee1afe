-- `operands::run_of` meets its contract. Assumes nothing.
use native.Mathlib.Omega.{arith}
use Prim.Native.Nat.{◌+◌, ◌-◌, ◌≤◌}
use mathlib.Core.Path.{◌≡◌, refl, ap, ◌∙◌}
use mathlib.Core.Bool.{true, false}
use lib.IntN.{pos, nat_abs, ◌+ℤ◌}
use lib.Signed.{lt_z}
use mir.Syntax.{w64}
use mir.ValLaws.{to_z-of_z}
use Rattle.language.specs.Form.{in_range}
use Rattle.language.specs.Machine.{wires, give}
use Rattle.language.proofs.Integers.{range_back, sum_fits}
use Rattle.indexes.specs.Values.{fault_told}
use Rattle.operands.specs.Meanings.{stood, meaning_told, clipped, the_wire}
use Rattle.operands.proofs.Meanings.{natural_fits, natural_is, past_is, past_fits, ordered, run_low, run_short, run_high, run_at}
use Rattle.operands.proofs.run_of.Goals as goal

pub returns-then-x-lt0 : goal.returns-then-x-lt0
unfolding meaning_told fault_told stood
returns-then-x-lt0 c =
    let a = c.args in
    let x = a.x in
    let y = a.y in
    let h : lt_z x (pos 0) ≡ true = rw (range_back {z = x} c.requires.0) at c.if-x-lt0.true in
    λ p. run_low a.first.0 (clipped a.first.0 a.size) x y h

pub overflow_add-past : goal.overflow_add-past
unfolding in_range
overflow_add-past c =
    let a = c.args in
    let x = a.x in
    let y = a.y in
    rw (range_back {z = y} c.requires.1) (sum_fits y (pos 1) c.requires.1 refl)

pub returns-then-past-x : goal.returns-then-past-x
unfolding meaning_told fault_told stood in_range
returns-then-past-x c =
    let a = c.args in
    let x = a.x in
    let y = a.y in
    let z = y +ℤ pos 1 in
    let f = sum_fits y (pos 1) c.requires.1 refl in
    let nonneg : lt_z x (pos 0) ≡ false = rw (range_back {z = x} c.requires.0) at c.if-x-lt0.false in
    let h : lt_z z x ≡ true = rw (range_back {z = x} c.requires.0, range_back {z = y} c.requires.1, to_z-of_z w64 z f) at c.if-past-x.true in
    λ p. run_short a.first.0 (clipped a.first.0 a.size) x y h

pub overflow_cast-from : goal.overflow_cast-from
overflow_cast-from c =
    let a = c.args in
    let x = a.x in
    let y = a.y in
    let nonneg : lt_z x (pos 0) ≡ false = rw (range_back {z = x} c.requires.0) at c.if-x-lt0.false in
    rw (range_back {z = x} c.requires.0) (natural_fits x c.requires.0 nonneg)

pub overflow_cast-to : goal.overflow_cast-to
unfolding in_range
overflow_cast-to c =
    let a = c.args in
    let x = a.x in
    let y = a.y in
    let z = y +ℤ pos 1 in
    let f = sum_fits y (pos 1) c.requires.1 refl in
    let nonneg : lt_z x (pos 0) ≡ false = rw (range_back {z = x} c.requires.0) at c.if-x-lt0.false in
    let after : lt_z z x ≡ false = rw (range_back {z = x} c.requires.0, range_back {z = y} c.requires.1, to_z-of_z w64 z f) at c.if-past-x.false in
    rw (range_back {z = y} c.requires.1, to_z-of_z w64 z f) (past_fits x y z refl c.requires.1 nonneg after)

pub returns-then-room_of-to : goal.returns-then-room_of-to
unfolding meaning_told fault_told stood in_range
returns-then-room_of-to c =
    let a = c.args in
    let x = a.x in
    let y = a.y in
    let z = y +ℤ pos 1 in
    let f = sum_fits y (pos 1) c.requires.1 refl in
    let nonneg : lt_z x (pos 0) ≡ false = rw (range_back {z = x} c.requires.0) at c.if-x-lt0.false in
    let after : lt_z z x ≡ false = rw (range_back {z = x} c.requires.0, range_back {z = y} c.requires.1, to_z-of_z w64 z f) at c.if-past-x.false in
    let room : c.room_of.result ≡ clipped a.first.0 a.size = c.room_of.ensures in
    λ p. run_high a.first.0 (clipped a.first.0 a.size) x y (nat_abs z) (past_is x z nonneg after) (omega (arith, room, rw (range_back {z = y} c.requires.1, to_z-of_z w64 z f) at c.if-room_of-to.true))

pub overflow_add-at : goal.overflow_add-at
unfolding in_range
overflow_add-at c =
    let a = c.args in
    let x = a.x in
    let y = a.y in
    let z = y +ℤ pos 1 in
    let f = sum_fits y (pos 1) c.requires.1 refl in
    let nonneg : lt_z x (pos 0) ≡ false = rw (range_back {z = x} c.requires.0) at c.if-x-lt0.false in
    let after : lt_z z x ≡ false = rw (range_back {z = x} c.requires.0, range_back {z = y} c.requires.1, to_z-of_z w64 z f) at c.if-past-x.false in
    let room : c.room_of.result ≡ clipped a.first.0 a.size = c.room_of.ensures in
    let high : nat_abs z ≤ c.room_of.result = rw (range_back {z = y} c.requires.1, to_z-of_z w64 z f) at c.if-room_of-to.false in
    let low : nat_abs x ≤ nat_abs z = ordered x z nonneg after in
    record { fits = omega (arith, ap nat_abs (range_back {z = x} c.requires.0), room, high, low) }

pub overflow_sub-many : goal.overflow_sub-many
unfolding in_range
overflow_sub-many c =
    let a = c.args in
    let x = a.x in
    let y = a.y in
    let z = y +ℤ pos 1 in
    let f = sum_fits y (pos 1) c.requires.1 refl in
    let nonneg : lt_z x (pos 0) ≡ false = rw (range_back {z = x} c.requires.0) at c.if-x-lt0.false in
    let after : lt_z z x ≡ false = rw (range_back {z = x} c.requires.0, range_back {z = y} c.requires.1, to_z-of_z w64 z f) at c.if-past-x.false in
    let room : c.room_of.result ≡ clipped a.first.0 a.size = c.room_of.ensures in
    let high : nat_abs z ≤ c.room_of.result = rw (range_back {z = y} c.requires.1, to_z-of_z w64 z f) at c.if-room_of-to.false in
    let low : nat_abs x ≤ nat_abs z = ordered x z nonneg after in
    rw (range_back {z = x} c.requires.0, range_back {z = y} c.requires.1, to_z-of_z w64 z f) low

pub overflow_cast-result : goal.overflow_cast-result
unfolding in_range
overflow_cast-result c =
    let a = c.args in
    let x = a.x in
    let y = a.y in
    let z = y +ℤ pos 1 in
    let f = sum_fits y (pos 1) c.requires.1 refl in
    let nonneg : lt_z x (pos 0) ≡ false = rw (range_back {z = x} c.requires.0) at c.if-x-lt0.false in
    let after : lt_z z x ≡ false = rw (range_back {z = x} c.requires.0, range_back {z = y} c.requires.1, to_z-of_z w64 z f) at c.if-past-x.false in
    let room : c.room_of.result ≡ clipped a.first.0 a.size = c.room_of.ensures in
    let high : nat_abs z ≤ c.room_of.result = rw (range_back {z = y} c.requires.1, to_z-of_z w64 z f) at c.if-room_of-to.false in
    let low : nat_abs x ≤ nat_abs z = ordered x z nonneg after in
    record { fits = omega (arith, ap nat_abs (range_back {z = x} c.requires.0), room, high, low) }

pub returns : goal.returns
unfolding meaning_told fault_told stood in_range
returns c =
    let a = c.args in
    let x = a.x in
    let y = a.y in
    let z = y +ℤ pos 1 in
    let f = sum_fits y (pos 1) c.requires.1 refl in
    let nonneg : lt_z x (pos 0) ≡ false = rw (range_back {z = x} c.requires.0) at c.if-x-lt0.false in
    let after : lt_z z x ≡ false = rw (range_back {z = x} c.requires.0, range_back {z = y} c.requires.1, to_z-of_z w64 z f) at c.if-past-x.false in
    let room : c.room_of.result ≡ clipped a.first.0 a.size = c.room_of.ensures in
    let high : nat_abs z ≤ c.room_of.result = rw (range_back {z = y} c.requires.1, to_z-of_z w64 z f) at c.if-room_of-to.false in
    let low : nat_abs x ≤ nat_abs z = ordered x z nonneg after in
    let begin : c.from.result + nat_abs x ≡ a.first.0 + nat_abs x = omega (arith, c.from.ensures) in
    let many : clipped (c.from.result + nat_abs x) (nat_abs z - nat_abs x) ≡ nat_abs z - nat_abs x = omega (arith, c.from.ensures, room, high, low) in
    λ p. rw (range_back {z = x} c.requires.0, range_back {z = y} c.requires.1, to_z-of_z w64 z f) ((λ i. give (wires (the_wire (begin i)) (many i))) ∙ run_at a.first.0 (clipped a.first.0 a.size) x y (nat_abs z) (past_is x z nonneg after) (nat_abs x) (natural_is x nonneg) low (omega (arith, room, high)))
