-- `input::read_program` meets its contract. The loop's invariant: what was read lies within the buffer, which keeps its length. Assumes nothing.
use Rattle.std.proofs.Common.{◌-◌, ◌≡◌, ◌≤◌, length}
use Rattle.list.proofs.input.read_program.Given as goal

abbrev pub invariant-loop-size : goal.invariant-loop-size
invariant-loop-size l =
    (l.size ≤ length l.bytes) × (length l.bytes ≡ length l.initial.bytes)

abbrev pub decreases-loop-size : goal.decreases-loop-size
decreases-loop-size l =
    length l.initial.bytes - l.size
