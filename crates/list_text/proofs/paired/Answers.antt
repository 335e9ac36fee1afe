-- `paired` meets its contract: a name and a number, and then another number. Assumes nothing.
use mathlib.Core.Path.{refl}
use native.Mathlib.Omega.{arith}
use Rattle.list_text.proofs.Texts.{then}
use Rattle.list_text.proofs.paired.Goals as goal

pub returns : goal.returns
returns c =
    then _ _ c.named-at.ensures c.number.ensures refl (omega arith)
