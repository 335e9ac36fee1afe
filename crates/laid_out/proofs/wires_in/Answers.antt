-- `laid_out::wires_in` meets its contract. Assumes nothing.
use native.Mathlib.Omega.{arith}
use Rattle.laid_out.proofs.WireSums.{wires_start, wires_end, wires_next}
use Rattle.laid_out.proofs.wires_in.Goals as goal

pub loop-i-init : goal.loop-i-init
loop-i-init c =
    wires_start _ _

pub overflow_add-total : goal.overflow_add-total
overflow_add-total c =
    omega (arith, c.loop-i.invariant.few, c.wires_of-total.ensures.1)

pub loop-i-preserved : goal.loop-i-preserved
loop-i-preserved c =
    wires_next _ _ c.loop-i.i c.loop-i.total c.loop-i.invariant _ _ (omega arith) (omega arith) c.wires_of-total.ensures.0 c.wires_of-total.ensures.1

pub returns : goal.returns
returns c =
    wires_end _ _ c.loop-i.i c.loop-i.total c.loop-i.invariant (omega arith)
