-- `qasm_print::put_lines` meets its contract. The loop's invariant: the lines of the first `i` records were put. Assumes nothing.
use Rattle.qasm_text.specs.Text.{lines}
use Rattle.qasm_length.specs.AnyBytes.{records_from}
use Rattle.text_bytes.specs.Buffers.{Puts}
use Rattle.qasm_print.proofs.put_lines.Given as goal

abbrev pub invariant-loop-i : goal.invariant-loop-i
invariant-loop-i l =
    Puts l.initial.text l.from (lines (records_from l.i l.output)) l.text l.at
