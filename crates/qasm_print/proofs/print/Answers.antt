-- `qasm_print::print` meets its contract. Assumes nothing.
use Rattle.qasm_text.specs.Text.{lines}
use Rattle.qasm_length.specs.AnyBytes.{records_from}
use Rattle.qasm_length.proofs.Records.{records_there}
use Rattle.text_bytes.proofs.Pieces.{room_first, room_next, puts_both}
use Rattle.qasm_print.proofs.Printing.{prints_nothing, room_whole, prints_whole}
use Rattle.qasm_print.proofs.print.Goals as goal

pub returns-in_err-length : goal.returns-in_err-length
returns-in_err-length c =
    let a = c.args in
    λ rs e. rw c.from_residual.ensures (rw (records_there a.records a.output.now rs e, c.in_err-length.was) at (prints_nothing a.text.now a.wires a.bits _ c.text_length.result c.text_length.ensures c.in_err-length.was))

pub put_header-first-requires : goal.put_header-first-requires
put_header-first-requires c =
    let a = c.args in
    let rs = records_from a.records a.output.now in
    room_first (lines rs) (room_whole a.text.now a.wires a.bits rs c.text_length.result c.text_length.ensures _ c.in_ok-length.was)

pub put_lines-requires-clause-room : goal.put_lines-requires-clause-room
put_lines-requires-clause-room c =
    let a = c.args in
    let rs = records_from a.records a.output.now in
    room_next (room_whole a.text.now a.wires a.bits rs c.text_length.result c.text_length.ensures _ c.in_ok-length.was) c.put_header-first.ensures

pub returns : goal.returns
returns c =
    let a = c.args in
    λ rs e. rw (records_there a.records a.output.now rs e, c.in_ok-length.was) at (prints_whole a.text.now a.wires a.bits _ c.text_length.result c.text_length.ensures _ c.in_ok-length.was _ _ (puts_both c.put_header-first.ensures c.put_lines.ensures))
