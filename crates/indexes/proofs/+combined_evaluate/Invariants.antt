-- The cycle of calls meets its contracts. Assumes nothing.
use Prim.Native.Nat.{◌+◌, ◌*◌}
use Rattle.indexes.proofs.+combined_evaluate.Given as goal

abbrev pub decreases-combined : goal.decreases-combined
decreases-combined l =
    2 * l.levels

abbrev pub decreases-evaluate : goal.decreases-evaluate
decreases-evaluate l =
    2 * l.levels + 1
