-- `laid_out::wires_in` meets its contract. Assumes nothing.
use Rattle.laid_out.proofs.WireSums.{WiresSummed}
use Rattle.laid_out.proofs.wires_in.Given as goal

abbrev pub invariant-loop-i : goal.invariant-loop-i
invariant-loop-i l =
    WiresSummed l.params l.count l.i l.total
