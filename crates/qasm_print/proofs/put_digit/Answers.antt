-- `qasm_print::put_digit` meets its contract. Assumes nothing.
use mathlib.Core.Path.{refl, ap}
use native.Mathlib.Omega.{arith}
use lib.ListN.{length}
use Rattle.text_bytes.proofs.DecimalLaws.{decimal_digit}
use Rattle.qasm_print.proofs.put_digit.Goals as goal

pub bounds-text-from : goal.bounds-text-from
bounds-text-from c =
    omega (arith, ap length (decimal_digit c.args.n c.requires.n_bound), c.requires.room.fits)

pub overflow_add-result : goal.overflow_add-result
overflow_add-result c =
    omega (arith, ap length (decimal_digit c.args.n c.requires.n_bound), c.requires.room.fits)

pub returns : goal.returns
returns c =
    rw (decimal_digit c.args.n c.requires.n_bound, c.digit_byte.ensures) (record { stored = refl; past = refl })
