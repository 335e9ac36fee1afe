-- `qasm_print::put_phase` meets its contract. Assumes nothing.
use Rattle.qasm_text.specs.Text.{wire_text}
use Rattle.text_bytes.proofs.Pieces.{room_first, room_next, puts_both}
use Rattle.qasm_print.proofs.put_phase.Goals as goal

pub put_angle-angle-requires-clause-room : goal.put_angle-angle-requires-clause-room
put_angle-angle-requires-clause-room c =
    room_first (wire_text (record { number = c.args.wire })) c.requires.room

pub put_wire-requires : goal.put_wire-requires
put_wire-requires c =
    room_next c.requires.room c.put_angle-angle.ensures

pub returns : goal.returns
returns c =
    puts_both c.put_angle-angle.ensures c.put_wire.ensures
