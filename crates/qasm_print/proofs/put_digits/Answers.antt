-- `qasm_print::put_digits` meets its contract. The loop's invariant: with the digits of `rest` at `from`, the text would be whole. Assumes nothing.
use Prim.Native.Nat.{◌+◌, ◌-◌, ◌/◌}
use mathlib.Core.Path.{◌≡◌, refl, ◌∙◌}
use native.Mathlib.Omega.{arith}
use Rattle.text_bytes.specs.Decimal.{width}
use Rattle.text_bytes.proofs.Pieces.{puts_size}
use Rattle.qasm_print.proofs.TwoDigits.{width_hundreds, stored_back}
use Rattle.qasm_print.proofs.put_digits.Goals as goal

pub overflow_add-end : goal.overflow_add-end
unfolding width
overflow_add-end c =
    omega (arith, c.requires.room.fits)

pub loop-rest-init : goal.loop-rest-init
unfolding width
loop-rest-init c =
    (omega arith, omega (arith, c.requires.room.fits), refl, refl)

pub overflow_sub-at : goal.overflow_sub-at
overflow_sub-at c =
    omega (arith, width_hundreds c.loop-rest.rest (omega arith))

pub put_pair-requires-clause-room : goal.put_pair-requires-clause-room
put_pair-requires-clause-room c =
    record { fits = omega (arith, width_hundreds c.loop-rest.rest (omega arith)) }

pub loop-rest-preserved : goal.loop-rest-preserved
loop-rest-preserved c =
    let w = width_hundreds c.loop-rest.rest (omega arith) in
    let e : c.loop-rest.at - 2 ≡ c.args.from + width (c.loop-rest.rest / 100) = omega arith in
    (e, omega arith, puts_size c.put_pair.ensures ∙ c.loop-rest.invariant.2, rw (c.put_pair.ensures.stored, e) (stored_back c.loop-rest.text c.args.from c.loop-rest.rest (omega arith) ∙ c.loop-rest.invariant.3))

pub put_number-requires : goal.put_number-requires
unfolding width
put_number-requires c =
    record { fits = omega arith }

pub shape_of-text : goal.shape_of-text
shape_of-text c =
    puts_size c.put_number.ensures ∙ c.loop-rest.invariant.2

pub returns : goal.returns
unfolding width
returns c =
    record { stored = c.put_number.ensures.stored ∙ c.loop-rest.invariant.3; past = omega arith }
