-- `field_walk::passed` meets its contract. Assumes nothing.
use Rattle.field_walk.specs.Walks.{passed_of}
use Rattle.field_walk.proofs.passed.Goals as goal

pub returns-then-reversed : goal.returns-then-reversed
unfolding passed_of
returns-then-reversed c =
    rw c.if-reversed.true

pub returns : goal.returns
unfolding passed_of
returns c =
    rw c.if-reversed.false
