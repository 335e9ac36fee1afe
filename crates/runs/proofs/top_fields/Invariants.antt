-- `runs::top_fields` meets its contract. Assumes nothing.
use Prim.Native.Nat.{◌-◌}
use lib.ListN.{length}
use Rattle.runs.proofs.TopFields.{At}
use Rattle.runs.proofs.top_fields.Given as goal

abbrev pub invariant-loop-at : goal.invariant-loop-at
invariant-loop-at l =
    At l.limit l.program l.initial.out l.regs l.out l.at l.t l.s

abbrev pub decreases-loop-at : goal.decreases-loop-at
decreases-loop-at l =
    length l.program - l.at
