-- `qasm_print::put_on_wire` meets its contract. Assumes nothing.
use Rattle.qasm_text.specs.Text.{wire_text}
use Rattle.text_bytes.proofs.Pieces.{room_first, room_next, puts_both}
use Rattle.qasm_print.proofs.put_on_wire.Goals as goal

pub put-name-requires : goal.put-name-requires
put-name-requires c =
    room_first (wire_text (record { number = c.args.n })) c.requires

pub put_wire-requires : goal.put_wire-requires
put_wire-requires c =
    room_next c.requires c.put-name.ensures

pub returns : goal.returns
returns c =
    puts_both c.put-name.ensures c.put_wire.ensures
