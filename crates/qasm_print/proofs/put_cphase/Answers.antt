-- `qasm_print::put_cphase` meets its contract. Assumes nothing.
use Rattle.text_bytes.specs.Decimal.{ascii}
use Rattle.qasm_text.specs.Text.{wire_text}
use Rattle.text_bytes.proofs.Pieces.{room_first, room_next, puts_both}
use Rattle.qasm_print.proofs.put_cphase.Goals as goal

pub put_phase-wire-requires-clause-room : goal.put_phase-wire-requires-clause-room
unfolding ascii
put_phase-wire-requires-clause-room c =
    room_first (ascii ",") (room_first (wire_text (record { number = c.args.target })) c.requires.room)

pub put-comma-requires : goal.put-comma-requires
unfolding ascii
put-comma-requires c =
    room_next (room_first (wire_text (record { number = c.args.target })) c.requires.room) c.put_phase-wire.ensures

pub put_wire-requires : goal.put_wire-requires
unfolding ascii
put_wire-requires c =
    room_next c.requires.room (puts_both c.put_phase-wire.ensures c.put-comma.ensures)

pub returns : goal.returns
unfolding ascii
returns c =
    puts_both (puts_both c.put_phase-wire.ensures c.put-comma.ensures) c.put_wire.ensures
