-- `calls::past_fields` meets its contract. Assumes nothing.
use Prim.Native.Nat.{◌-◌, ◌≤◌}
use Rattle.calls.proofs.FamilyBodies.{Passing}
use Rattle.calls.proofs.past_fields.Given as goal

abbrev pub invariant-loop : goal.invariant-loop
invariant-loop l =
    Passing l.k l.bytes l.from l.to l.at (l.k - l.counter) × (l.from ≤ l.at) × (l.at ≤ l.to)
