-- `qasm_print::put_bit` meets its contract. Assumes nothing.
use Rattle.text_bytes.specs.Decimal.{ascii, decimal}
use Rattle.qasm_text.specs.Text.{bit_text}
use Rattle.text_bytes.proofs.Pieces.{room_first, room_next, puts_both}
use Rattle.qasm_print.proofs.put_bit.Goals as goal

pub put-name-requires : goal.put-name-requires
unfolding bit_text ascii
put-name-requires c =
    room_first (decimal c.args.n) c.requires

pub put_number-requires : goal.put_number-requires
unfolding bit_text ascii
put_number-requires c =
    room_next c.requires c.put-name.ensures

pub returns : goal.returns
unfolding bit_text ascii
returns c =
    puts_both c.put-name.ensures c.put_number.ensures
