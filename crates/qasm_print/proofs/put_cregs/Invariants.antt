-- `qasm_print::put_cregs` meets its contract. The loop's invariant: the lines of the first `bit` bits were put. Assumes nothing.
use Rattle.qasm_text.specs.Text.{creg_lines}
use Rattle.text_bytes.specs.Buffers.{Puts}
use Rattle.qasm_print.proofs.put_cregs.Given as goal

abbrev pub invariant-loop-bit : goal.invariant-loop-bit
invariant-loop-bit l =
    Puts l.initial.text l.from (creg_lines l.bit) l.text l.at
