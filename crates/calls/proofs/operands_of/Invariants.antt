-- `calls::operands_of` meets its contract. Assumes nothing.
use Prim.Native.Nat.{◌-◌}
use lib.ListN.{take}
use Rattle.operands.specs.Meanings.{operands_of}
use Rattle.calls.proofs.CallOperands.{OperandsSoFar}
use Rattle.calls.proofs.operands_of.Given as goal

abbrev pub invariant-loop-at : goal.invariant-loop-at
invariant-loop-at l =
    OperandsSoFar l.bytes l.from l.to (take l.many l.vars) (operands_of l.scope l.regs) l.given l.at l.n

abbrev pub decreases-loop-at : goal.decreases-loop-at
decreases-loop-at l =
    l.to - l.at
