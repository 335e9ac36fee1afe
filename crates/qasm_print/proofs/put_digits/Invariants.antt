-- `qasm_print::put_digits` meets its contract. The loop's invariant: with the digits of `rest` at `from`, the text would be whole. Assumes nothing.
use Prim.Native.Nat.{◌+◌, ◌≤◌}
use mathlib.Core.Path.{◌≡◌}
use lib.ListN.{length}
use lib.Seq.{sets}
use Rattle.text_bytes.specs.Decimal.{decimal, width}
use Rattle.qasm_print.proofs.put_digits.Given as goal

abbrev pub invariant-loop-rest : goal.invariant-loop-rest
invariant-loop-rest l =
    (l.at ≡ l.from + width l.rest) × (l.from + width l.rest ≤ length l.initial.text) × (length l.text ≡ length l.initial.text) × (sets l.text l.from (decimal l.rest) ≡ sets l.initial.text l.from (decimal l.n))

abbrev pub decreases-loop-rest : goal.decreases-loop-rest
decreases-loop-rest l =
    l.rest
