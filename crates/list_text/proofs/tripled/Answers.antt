-- `tripled` meets its contract: a name and two numbers, and then another number. Assumes nothing.
use mathlib.Core.Path.{refl}
use native.Mathlib.Omega.{arith}
use Rattle.list_text.proofs.Texts.{then}
use Rattle.list_text.proofs.tripled.Goals as goal

pub returns : goal.returns
returns c =
    then _ _ c.paired-at.ensures c.number.ensures refl (omega arith)
