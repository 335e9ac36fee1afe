-- `laid_out::wires` meets its contract. Assumes nothing.
use native.Mathlib.Omega.{arith}
use Rattle.laid_out.proofs.InstanceWires.{wires_none, head_there, wires_there}
use Rattle.laid_out.proofs.wires.Goals as goal

pub returns-then-n-family : goal.returns-then-n-family
returns-then-n-family c =
    let a = c.args in
    wires_none a.program.now c.requires _ c.families-n.result c.families-n.ensures.listed a.family a.sizes.now c.families-n.ensures.table_len_unchanged c.if-n-family.true

pub wires_at-requires : goal.wires_at-requires
wires_at-requires c =
    let a = c.args in
    rw c.from.ensures (head_there a.program.now c.requires _ c.families-n.result c.families-n.ensures.listed a.family a.sizes.now (omega arith))

pub returns : goal.returns
returns c =
    let a = c.args in
    wires_there a.program.now c.requires _ c.families-n.result c.families-n.ensures.listed a.family a.sizes.now (omega arith) _ (rw c.from.ensures at c.wires_at.ensures)
