-- `calls::gather` meets its contract. Assumes nothing.
use Rattle.kinds.specs.declared.Kind.TheVariants.{Qubit, Quantum, Family}
use native.Mathlib.Omega.{arith}
use mathlib.Core.Path.{ap}
use Rattle.operands.specs.Meanings.{stood}
use Rattle.calls.specs.Arguments.{gathered_operand}
use Rattle.calls.proofs.CallOperands.{gathers_long, gathers_taken, gathers_classical}
use Rattle.calls.proofs.gather.Goals as goal

pub returns-then-n-ge-MOST_PARAMETERS : goal.returns-then-n-ge-MOST_PARAMETERS
returns-then-n-ge-MOST_PARAMETERS c =
    let a = c.args in
    gathers_long a.given.now a.n a.s c.told-given c.if-n-ge-MOST_PARAMETERS.true

pub returns-in-Wire : goal.returns-in-Wire
unfolding stood gathered_operand
returns-in-Wire c =
    let a = c.args in
    gathers_taken a.given.now a.n a.s (omega arith) Qubit c.in-Wire.w.0 0 _ (ap stood c.in-Wire.is) c.put.ensures

pub returns-in-Wires : goal.returns-in-Wires
unfolding stood gathered_operand
returns-in-Wires c =
    let a = c.args in
    gathers_taken a.given.now a.n a.s (omega arith) Quantum c.in-Wires.first.0 c.in-Wires.size _ (ap stood c.in-Wires.is) c.put-in-Wires.ensures

pub returns-in-Family : goal.returns-in-Family
unfolding stood gathered_operand
returns-in-Family c =
    let a = c.args in
    gathers_taken a.given.now a.n a.s (omega arith) Family c.in-Family.number 0 _ (ap stood c.in-Family.is) c.put-in-Family.ensures

pub returns-in_default : goal.returns-in_default
returns-in_default c =
    let a = c.args in
    gathers_classical a.given.now a.n a.s (omega arith) c.in_default.not-Wire c.in_default.not-Wires c.in_default.not-Family
