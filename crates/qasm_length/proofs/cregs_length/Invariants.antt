-- `qasm_length::cregs_length` meets its contract. The loop's invariant: the total is the length of the lines of the first `k` bits. Assumes nothing.
use Prim.Native.Nat.{◌*◌, ◌≤◌}
use mathlib.Core.Path.{◌≡◌}
use lib.ListN.{length}
use Rattle.qasm_text.specs.Text.{creg_lines}
use Rattle.qasm_length.proofs.cregs_length.Given as goal

abbrev pub invariant-loop-k : goal.invariant-loop-k
invariant-loop-k l =
    (l.total ≡ length (creg_lines l.k)) × (l.total ≤ 16 * l.k)
