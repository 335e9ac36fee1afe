-- `named` meets its contract: a name, and then a number. Assumes nothing.
use mathlib.Core.Path.{refl}
use native.Mathlib.Omega.{arith}
use Rattle.list_text.proofs.Texts.{word_put, then}
use Rattle.list_text.proofs.named.Goals as goal

pub returns : goal.returns
returns c =
    then _ _ (word_put c.put-at.ensures (omega arith)) c.number.ensures refl (omega arith)
