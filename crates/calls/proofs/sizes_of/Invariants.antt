-- `calls::sizes_of` meets its contract. Assumes nothing.
use Prim.Native.Nat.{◌-◌, ◌≤◌}
use mathlib.Core.List.{List}
use lib.ListN.{take}
use Rattle.language.specs.Machine.{Meaning}
use Rattle.calls.proofs.CallSizes.{SizesSoFar}
use Rattle.calls.proofs.sizes_of.Given as goal

abbrev pub invariant-loop-at : goal.invariant-loop-at
invariant-loop-at l =
    ((ms : List Meaning) → SizesSoFar l.bytes l.from l.to (take l.many l.vars) l.sizes ms l.at l.k) × (l.k ≤ l.at)

abbrev pub decreases-loop-at : goal.decreases-loop-at
decreases-loop-at l =
    l.to - l.at
