-- `qasm_length::lines_length` meets its contract. Assumes nothing.
use Prim.Native.Nat.{◌+◌}
use mathlib.Core.Path.{refl}
use native.Mathlib.Omega.{arith}
use Rattle.qasm_text.specs.Text.{lines}
use Rattle.qasm_length.specs.AnyBytes.{records_from}
use Rattle.qasm_length.proofs.Parts.{lines_more, lines_rise}
use Rattle.qasm_length.proofs.lines_length.Goals as goal

pub loop-i-init : goal.loop-i-init
unfolding records_from lines
loop-i-init c =
    (refl, omega arith)

pub returns-then-room-total : goal.returns-then-room-total
returns-then-room-total c =
    let a = c.args in
    let i = c.loop-i.i in
    omega (arith, lines_more a.output.now i, lines_rise a.output.now (i + 1) a.records (omega arith))

pub loop-i-preserved : goal.loop-i-preserved
loop-i-preserved c =
    (omega (arith, lines_more c.args.output.now c.loop-i.i), omega arith)
