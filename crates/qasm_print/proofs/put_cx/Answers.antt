-- `qasm_print::put_cx` meets its contract. Assumes nothing.
use Rattle.text_bytes.specs.Decimal.{ascii}
use Rattle.qasm_text.specs.Text.{wire_text, action_text}
use Rattle.text_bytes.proofs.Pieces.{room_first, room_next, puts_both}
use Rattle.qasm_print.proofs.put_cx.Goals as goal

pub put_on_wire-wire-requires : goal.put_on_wire-wire-requires
unfolding action_text ascii
put_on_wire-wire-requires c =
    room_first (ascii ",") (room_first (wire_text (record { number = c.args.target })) c.requires)

pub put-comma-requires : goal.put-comma-requires
unfolding action_text ascii
put-comma-requires c =
    room_next (room_first (wire_text (record { number = c.args.target })) c.requires) c.put_on_wire-wire.ensures

pub put_wire-requires : goal.put_wire-requires
unfolding action_text ascii
put_wire-requires c =
    room_next c.requires (puts_both c.put_on_wire-wire.ensures c.put-comma.ensures)

pub returns : goal.returns
unfolding action_text ascii
returns c =
    puts_both (puts_both c.put_on_wire-wire.ensures c.put-comma.ensures) c.put_wire.ensures
