-- `qasm_print::put_header` meets its contract. Assumes nothing.
use Rattle.text_bytes.specs.Decimal.{ascii}
use Rattle.qasm_text.specs.Text.{qreg_line, creg_lines, header}
use Rattle.text_bytes.proofs.Pieces.{room_first, room_next, puts_both}
use Rattle.qasm_print.proofs.put_header.Goals as goal

pub put-version-requires : goal.put-version-requires
unfolding header ascii
put-version-requires c =
    room_first (ascii "include \"qelib1.inc\";\n") (room_first (qreg_line c.args.wires) (room_first (creg_lines c.args.bits) c.requires))

pub put-include-requires : goal.put-include-requires
unfolding header ascii
put-include-requires c =
    room_next (room_first (qreg_line c.args.wires) (room_first (creg_lines c.args.bits) c.requires)) c.put-version.ensures

pub put_qreg-qreg-requires : goal.put_qreg-qreg-requires
unfolding header ascii
put_qreg-qreg-requires c =
    room_next (room_first (creg_lines c.args.bits) c.requires) (puts_both c.put-version.ensures c.put-include.ensures)

pub put_cregs-requires : goal.put_cregs-requires
unfolding header ascii
put_cregs-requires c =
    room_next c.requires (puts_both (puts_both c.put-version.ensures c.put-include.ensures) c.put_qreg-qreg.ensures)

pub returns : goal.returns
unfolding header ascii
returns c =
    puts_both (puts_both (puts_both c.put-version.ensures c.put-include.ensures) c.put_qreg-qreg.ensures) c.put_cregs.ensures
