-- `laid_out::declared` meets its contract. Assumes nothing.
use Prim.Native.Nat.{◌-◌}
use lib.ListN.{length}
use Rattle.laid_out.proofs.RegisterSums.{Summed}
use Rattle.laid_out.proofs.declared.Given as goal

abbrev pub invariant-loop-header : goal.invariant-loop-header
invariant-loop-header l =
    Summed l.program l.at l.qubits l.bits

abbrev pub decreases-loop-header : goal.decreases-loop-header
decreases-loop-header l =
    length l.program - l.at
