-- `layout::read_sizes` meets its contract. Assumes nothing.
use Rattle.layout.proofs.SizeBytes.{Sizing}
use Rattle.layout.proofs.read_sizes.Given as goal

abbrev pub invariant-loop-i : goal.invariant-loop-i
invariant-loop-i l =
    Sizing l.bytes l.m l.i l.values
