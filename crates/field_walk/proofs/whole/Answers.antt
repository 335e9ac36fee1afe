-- `field_walk::whole` meets its contract. Assumes nothing.
use mathlib.Core.Path.{refl}
use Rattle.field_walk.specs.Walks.{whole_of}
use Rattle.field_walk.proofs.whole.Goals as goal

pub returns : goal.returns
unfolding whole_of
returns c =
    refl
