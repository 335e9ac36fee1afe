-- `fields::families` meets its contract. Assumes nothing.
use Prim.Native.Nat.{◌-◌, ◌≤◌}
use mathlib.Core.Path.{◌≡◌}
use lib.ListN.{length}
use Rattle.fields.proofs.FamilyScan.{Scanned}
use Rattle.fields.proofs.families.Given as goal

abbrev pub invariant-loop-header : goal.invariant-loop-header
invariant-loop-header l =
    Scanned l.program l.table l.at l.n × (length l.table ≡ length l.initial.table) × (l.n ≤ l.at)

abbrev pub decreases-loop-header : goal.decreases-loop-header
decreases-loop-header l =
    length l.program - l.at
