-- `qasm_print::put_creg` meets its contract. Assumes nothing.
use Rattle.text_bytes.specs.Decimal.{ascii, decimal}
use Rattle.qasm_text.specs.Text.{creg_line}
use Rattle.text_bytes.proofs.Pieces.{room_first, room_next, puts_both}
use Rattle.qasm_print.proofs.put_creg.Goals as goal

pub put-name-requires : goal.put-name-requires
unfolding creg_line ascii
put-name-requires c =
    room_first (decimal c.args.bit) (room_first (ascii "[1];\n") c.requires)

pub put_number-end-requires : goal.put_number-end-requires
unfolding creg_line ascii
put_number-end-requires c =
    room_next (room_first (ascii "[1];\n") c.requires) c.put-name.ensures

pub put-requires : goal.put-requires
unfolding creg_line ascii
put-requires c =
    room_next c.requires (puts_both c.put-name.ensures c.put_number-end.ensures)

pub returns : goal.returns
unfolding creg_line ascii
returns c =
    puts_both (puts_both c.put-name.ensures c.put_number-end.ensures) c.put.ensures
