-- The cycle of calls meets its contracts. Assumes nothing.
use Rattle.check_index.proofs.+index.Given as goal

abbrev pub decreases-index : goal.decreases-index
decreases-index l =
    l.levels
