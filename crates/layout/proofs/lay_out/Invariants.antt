-- `layout::lay_out` meets its contract. Assumes nothing.
use lib.ListN.{take}
use Rattle.layout.proofs.Parameters.{Laying}
use Rattle.layout.proofs.lay_out.Given as goal

abbrev pub invariant-loop-i : goal.invariant-loop-i
invariant-loop-i l =
    Laying l.bytes l.from l.to l.count (take l.many l.values) l.params l.at l.next l.i
