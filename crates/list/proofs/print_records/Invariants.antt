-- `print_records` is safe and ends. The loop's invariant: the buffer has its 4,096 bytes. The measure is the number of records left. Assumes nothing.
use Prim.Native.Nat.{◌-◌, ◌≤◌}
use mathlib.Core.Path.{◌≡◌}
use lib.ListN.{length}
use Rattle.list.proofs.print_records.Given as goal

abbrev pub invariant-loop-next : goal.invariant-loop-next
invariant-loop-next l =
    (l.next ≤ l.records) × (4096 ≡ length l.buffer)

abbrev pub decreases-loop-next : goal.decreases-loop-next
decreases-loop-next l =
    l.records - l.next
