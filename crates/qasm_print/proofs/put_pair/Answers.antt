-- `qasm_print::put_pair` meets its contract. Assumes nothing.
use mathlib.Core.Path.{refl}
use native.Mathlib.Omega.{arith}
use native.Mathlib.Numerals.{add-one}
use lib.ListN.{length-set}
use Rattle.qasm_print.proofs.put_pair.Goals as goal

pub bounds-text-next : goal.bounds-text-next
bounds-text-next c =
    simp length-set (omega (arith, c.requires.room.fits))

pub returns : goal.returns
returns c =
    rw (c.digit_byte.ensures, c.digit_byte-2.ensures, add-one c.args.from) (record { stored = refl; past = omega arith })
