-- `qasm_length::cregs_length` meets its contract. Assumes nothing.
use mathlib.Core.Path.{refl}
use native.Mathlib.Omega.{arith}
use Rattle.qasm_text.specs.Text.{creg_lines}
use Rattle.qasm_length.proofs.Parts.{bits_more}
use Rattle.qasm_length.proofs.cregs_length.Goals as goal

pub loop-k-init : goal.loop-k-init
unfolding creg_lines
loop-k-init c =
    (refl, omega arith)

pub loop-k-preserved : goal.loop-k-preserved
loop-k-preserved c =
    (omega (arith, bits_more c.loop-k.k), omega arith)
