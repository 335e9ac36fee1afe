-- `touched::mark_records` meets its contract. Assumes nothing.
use native.Mathlib.Omega.{arith}
use Rattle.written_records.specs.AnyBytes.{records_from}
use Rattle.wire_map.specs.WireMap.{wires_named}
use Rattle.wire_map.proofs.Marking.{marks_none}
use Rattle.touched.proofs.Named.{record_marked}
use Rattle.touched.proofs.mark_records.Goals as goal

pub loop-i-init : goal.loop-i-init
unfolding records_from wires_named
loop-i-init c =
    (marks_none c.args.map.now, λ h. absurd (omega arith))

pub loop-i-preserved : goal.loop-i-preserved
loop-i-preserved c =
    (record_marked c.args.output.now c.args.map.now c.loop-i.map _ c.loop-i.i c.loop-i.invariant.0 c.mark_record-last.ensures.marks, c.mark_record-last.ensures.bit_set_2)
