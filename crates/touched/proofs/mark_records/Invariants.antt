-- `touched::mark_records` meets its contract. The loop's invariant: the wires of the first `i` records are marked, and the bit of `last` is set. Assumes nothing.
use Rattle.written_records.specs.AnyBytes.{records_from}
use Rattle.wire_map.specs.WireMap.{wires_named}
use Rattle.wire_map.specs.Marking.{Marks, BitSet}
use Rattle.touched.proofs.mark_records.Given as goal

abbrev pub invariant-loop-i : goal.invariant-loop-i
invariant-loop-i l =
    Marks l.initial.map (wires_named (records_from l.i l.output)) l.map × BitSet l.last l.map
