-- `qasm_length::lines_length` meets its contract. The loop's invariant: the total is the length of the lines of the first `i` records, and it fits. Assumes nothing.
use Prim.Native.Nat.{◌≤◌}
use mathlib.Core.Path.{◌≡◌}
use lib.ListN.{length}
use Rattle.qasm_text.specs.Text.{lines}
use Rattle.qasm_length.specs.AnyBytes.{records_from}
use Rattle.qasm_length.proofs.lines_length.Given as goal

abbrev pub invariant-loop-i : goal.invariant-loop-i
invariant-loop-i l =
    (l.total ≡ length (lines (records_from l.i l.output))) × (l.total ≤ l.room)
