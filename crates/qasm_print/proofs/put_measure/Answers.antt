-- `qasm_print::put_measure` meets its contract. Assumes nothing.
use Rattle.text_bytes.specs.Decimal.{ascii}
use Rattle.qasm_text.specs.Text.{bit_text, action_text}
use Rattle.text_bytes.proofs.Pieces.{room_first, room_next, puts_both}
use Rattle.qasm_print.proofs.put_measure.Goals as goal

pub put_on_wire-measured-requires : goal.put_on_wire-measured-requires
unfolding action_text ascii
put_on_wire-measured-requires c =
    room_first (ascii " -> ") (room_first (bit_text (record { number = c.args.bit })) (room_first (ascii "[0]") c.requires))

pub put-arrow-requires : goal.put-arrow-requires
unfolding action_text ascii
put-arrow-requires c =
    room_next (room_first (bit_text (record { number = c.args.bit })) (room_first (ascii "[0]") c.requires)) c.put_on_wire-measured.ensures

pub put_bit-register-requires : goal.put_bit-register-requires
unfolding action_text ascii
put_bit-register-requires c =
    room_next (room_first (ascii "[0]") c.requires) (puts_both c.put_on_wire-measured.ensures c.put-arrow.ensures)

pub put-requires : goal.put-requires
unfolding action_text ascii
put-requires c =
    room_next c.requires (puts_both (puts_both c.put_on_wire-measured.ensures c.put-arrow.ensures) c.put_bit-register.ensures)

pub returns : goal.returns
unfolding action_text ascii
returns c =
    puts_both (puts_both (puts_both c.put_on_wire-measured.ensures c.put-arrow.ensures) c.put_bit-register.ensures) c.put.ensures
