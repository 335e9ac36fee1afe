-- `layout::wire_from` meets its contract. Assumes nothing.
use mathlib.Core.Path.{refl}
use native.Mathlib.Omega.{arith}
use Rattle.layout.proofs.Parameters.{wire_past, wire_fits}
use Rattle.layout.proofs.wire_from.Goals as goal

pub returns-then-end-gt-MOST_WIRES : goal.returns-then-end-gt-MOST_WIRES
returns-then-end-gt-MOST_WIRES c =
    wire_past c.args.next (omega arith)

pub returns : goal.returns
returns c =
    wire_fits c.args.next _ refl (omega arith)
