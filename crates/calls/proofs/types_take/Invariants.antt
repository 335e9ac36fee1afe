-- `calls::types_take` meets its contract. Assumes nothing.
use Prim.Native.Nat.{◌-◌, ◌≤◌}
use Rattle.calls.proofs.FamilyBodies.{Passing}
use Rattle.calls.proofs.Types.{TypesSoFar}
use Rattle.calls.proofs.types_take.Given as goal

abbrev pub invariant-loop-i : goal.invariant-loop-i
invariant-loop-i l =
    TypesSoFar l.bytes l.from l.to l.n l.given (l.n - l.i) l.at l.i × Passing l.n l.bytes l.from l.to l.at (l.n - l.i) × (l.from ≤ l.at) × (l.at ≤ l.to)
