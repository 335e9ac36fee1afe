-- `calls::body_start` meets its contract. Assumes nothing.
use Rattle.calls.proofs.body_start.Goals as goal

pub returns : goal.returns
returns c =
    rw (c.past-to.ensures, c.from-many.ensures) at c.past_fields.ensures
