-- `laid_out::wires_of` meets its contract. Assumes nothing.
use native.Mathlib.Omega.{arith}
use Rattle.language.specs.Sound.{wires_in}
use Rattle.operands.specs.Meanings.{parameter_of}
use Rattle.laid_out.proofs.wires_of.Goals as goal

pub returns-in-Single : goal.returns-in-Single
unfolding wires_in parameter_of
returns-in-Single c =
    (rw c.in-Single.is (omega arith), omega arith)

pub returns-in-Register : goal.returns-in-Register
unfolding wires_in parameter_of
returns-in-Register c =
    (rw c.in-Register.is (omega (arith, c.room_of.ensures)), omega (arith, c.room_of.ensures))

pub returns-in-Family : goal.returns-in-Family
unfolding wires_in parameter_of
returns-in-Family c =
    (rw c.in-Family.is, omega arith)
