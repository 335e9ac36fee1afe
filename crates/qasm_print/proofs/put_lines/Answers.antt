-- `qasm_print::put_lines` meets its contract. Assumes nothing.
use Prim.Native.Nat.{◌*◌}
use Rattle.language.specs.Limits.{record_size}
use Rattle.qasm_text.specs.Text.{line, lines}
use Rattle.qasm_length.specs.AnyBytes.{record_from, records_from}
use Rattle.qasm_length.proofs.Records.{lines_next}
use Rattle.text_bytes.proofs.Pieces.{puts_none}
use Rattle.qasm_print.proofs.Rows.{line_room, line_put}
use Rattle.qasm_print.proofs.put_lines.Goals as goal

pub loop-i-init : goal.loop-i-init
unfolding lines records_from
loop-i-init c =
    puts_none c.args.text.now c.args.from

pub put_line-at-requires-clause-room : goal.put_line-at-requires-clause-room
put_line-at-requires-clause-room c =
    let out = c.args.output.now in
    line_room (λ k. lines (records_from k out)) (λ k. line (record_from out (record_size * k))) (λ k. lines_next k out) c.args.records c.loop-i.i c.loop-i-test.true c.requires.room c.loop-i.invariant

pub loop-i-preserved : goal.loop-i-preserved
loop-i-preserved c =
    let out = c.args.output.now in
    line_put (λ k. lines (records_from k out)) (λ k. line (record_from out (record_size * k))) (λ k. lines_next k out) c.loop-i.i c.loop-i.invariant c.put_line-at.ensures
