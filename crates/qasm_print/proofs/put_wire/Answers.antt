-- `qasm_print::put_wire` meets its contract. Assumes nothing.
use Rattle.text_bytes.specs.Decimal.{ascii, decimal}
use Rattle.qasm_text.specs.Text.{wire_text}
use Rattle.text_bytes.proofs.Pieces.{room_first, room_next, puts_both}
use Rattle.qasm_print.proofs.put_wire.Goals as goal

pub put-name-requires : goal.put-name-requires
unfolding wire_text ascii
put-name-requires c =
    room_first (decimal c.args.n) (room_first (ascii "]") c.requires)

pub put_number-end-requires : goal.put_number-end-requires
unfolding wire_text ascii
put_number-end-requires c =
    room_next (room_first (ascii "]") c.requires) c.put-name.ensures

pub put-requires : goal.put-requires
unfolding wire_text ascii
put-requires c =
    room_next c.requires (puts_both c.put-name.ensures c.put_number-end.ensures)

pub returns : goal.returns
unfolding wire_text ascii
returns c =
    puts_both (puts_both c.put-name.ensures c.put_number-end.ensures) c.put.ensures
