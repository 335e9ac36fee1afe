-- `touched::fill` meets its contract. Assumes nothing.
use mathlib.Core.Path.{ap, ◌∙◌}
use mathlib.Core.List.{List}
use Prim.Native.Nat.{ℕ}
use lib.ListN.{take}
use Rattle.written_records.specs.AnyBytes.{records_from}
use Rattle.wire_map.specs.WireMap.{map_size, ones_over}
use Rattle.wire_map.proofs.Marking.{marks_map, into_ones}
use Rattle.touched.proofs.fill.Goals as goal

pub returns : goal.returns
returns c =
    let rs = records_from c.args.records c.args.output.now in
    let e = marks_map c.args.map.now c.mark_records.new.map rs (rw c.clear.ensures at c.mark_records.ensures) in
    record {
      map_after = e;
      value = c.count_wires.ensures ∙ ap (λ (m : List ℕ). ones_over (take map_size m)) e ∙ into_ones c.args.map.now rs;
    }
