-- `qasm_print::put_qreg` meets its contract. Assumes nothing.
use Rattle.text_bytes.specs.Decimal.{ascii, decimal}
use Rattle.qasm_text.specs.Text.{qreg_line}
use Rattle.text_bytes.proofs.Pieces.{room_first, room_next, puts_none, puts_both}
use Rattle.qasm_print.proofs.Rows.{qreg_some}
use Rattle.qasm_print.proofs.put_qreg.Goals as goal

pub returns-then-wires-eq0 : goal.returns-then-wires-eq0
unfolding qreg_line
returns-then-wires-eq0 c =
    rw c.if-wires-eq0.true (puts_none c.args.text.now c.args.from)

pub put-name-requires : goal.put-name-requires
unfolding ascii
put-name-requires c =
    let r = rw (qreg_some c.args.wires c.if-wires-eq0.false) at c.requires in
    room_first (decimal c.args.wires) (room_first (ascii "];\n") r)

pub put_number-end-requires : goal.put_number-end-requires
unfolding ascii
put_number-end-requires c =
    let r = rw (qreg_some c.args.wires c.if-wires-eq0.false) at c.requires in
    room_next (room_first (ascii "];\n") r) c.put-name.ensures

pub put-requires : goal.put-requires
unfolding ascii
put-requires c =
    let r = rw (qreg_some c.args.wires c.if-wires-eq0.false) at c.requires in
    room_next r (puts_both c.put-name.ensures c.put_number-end.ensures)

pub returns : goal.returns
unfolding ascii
returns c =
    rw (qreg_some c.args.wires c.if-wires-eq0.false) (puts_both (puts_both c.put-name.ensures c.put_number-end.ensures) c.put.ensures)
