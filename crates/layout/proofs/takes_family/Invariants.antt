-- `layout::takes_family` meets its contract. Assumes nothing.
use Prim.Native.Nat.{◌≤◌}
use Rattle.layout.proofs.FamilyTypes.{FamilyLeft}
use Rattle.layout.proofs.takes_family.Given as goal

abbrev pub invariant-loop : goal.invariant-loop
invariant-loop l =
    FamilyLeft l.bytes l.from l.to l.count l.at l.counter × (l.from ≤ l.at)
