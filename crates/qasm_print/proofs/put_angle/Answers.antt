-- `qasm_print::put_angle` meets its contract. Assumes nothing.
use Prim.Native.Nat.{◌^◌}
use Rattle.text_bytes.specs.Decimal.{ascii, decimal}
use Rattle.text_bytes.proofs.Pieces.{room_first, room_next, puts_both}
use Rattle.qasm_print.proofs.put_angle.Goals as goal

pub put-name-requires : goal.put-name-requires
unfolding ascii
put-name-requires c =
    room_first (decimal (2 ^ c.args.k)) (room_first (ascii ") ") c.requires.room)

pub put-requires : goal.put-requires
unfolding ascii
put-requires c =
    room_next c.requires.room (puts_both c.put-name.ensures c.put_power-power.ensures)

pub returns : goal.returns
unfolding ascii
returns c =
    puts_both (puts_both c.put-name.ensures c.put_power-power.ensures) c.put.ensures
