-- `lines` meets its contract. The loop's invariant: the text holds the lines of the records up to `next`, each of at most 128 bytes. Assumes nothing.
use Prim.Native.Nat.{◌*◌, ◌-◌, ◌≤◌}
use mathlib.Core.Path.{◌≡◌}
use lib.ListN.{length, take}
use Rattle.list_text.specs.Lines.{lines_text}
use Rattle.list_text.proofs.lines.Given as goal

abbrev pub invariant-loop-next : goal.invariant-loop-next
invariant-loop-next l =
    (l.first ≤ l.next) × (l.next ≤ l.total) × (take l.size l.text ≡ lines_text l.records l.first (l.next - l.first)) × (l.size ≤ length l.text) × (length l.text ≡ length l.initial.text) × (l.size ≤ 128 * (l.next - l.first))

abbrev pub decreases-loop-next : goal.decreases-loop-next
decreases-loop-next l =
    l.total - l.next
