-- `qasm_print::put_cregs` meets its contract. Assumes nothing.
use Rattle.qasm_text.specs.Text.{creg_line, creg_lines}
use Rattle.text_bytes.proofs.Pieces.{puts_none}
use Rattle.qasm_print.proofs.Rows.{line_room, line_put, cregs_next}
use Rattle.qasm_print.proofs.put_cregs.Goals as goal

pub loop-bit-init : goal.loop-bit-init
unfolding creg_lines
loop-bit-init c =
    puts_none c.args.text.now c.args.from

pub put_creg-at-requires : goal.put_creg-at-requires
put_creg-at-requires c =
    line_room creg_lines creg_line cregs_next c.args.bits c.loop-bit.bit c.loop-bit-test.true c.requires c.loop-bit.invariant

pub loop-bit-preserved : goal.loop-bit-preserved
loop-bit-preserved c =
    line_put creg_lines creg_line cregs_next c.loop-bit.bit c.loop-bit.invariant c.put_creg-at.ensures
