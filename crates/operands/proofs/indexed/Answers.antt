-- `operands::indexed` meets its contract. Assumes nothing.
use mathlib.Core.Path.{◌≡◌, ◌∙◌, ap}
use mathlib.Core.Bool.{true, false}
use lib.Signed.{lt_z}
use lib.IntN.{pos, nat_abs}
use Rattle.language.proofs.Integers.{range_back}
use Rattle.operands.proofs.Meanings.{indexed_negative, indexed_natural, natural_fits}
use Rattle.operands.proofs.indexed.Goals as goal

pub returns-then-z-lt0 : goal.returns-then-z-lt0
returns-then-z-lt0 c =
    let a = c.args in
    let h : lt_z a.z (pos 0) ≡ true = rw (range_back {z = a.z} c.requires) at c.if-z-lt0.true in
    indexed_negative a.first a.size a.z h

pub overflow_cast-z : goal.overflow_cast-z
overflow_cast-z c =
    let a = c.args in
    let h : lt_z a.z (pos 0) ≡ false = rw (range_back {z = a.z} c.requires) at c.if-z-lt0.false in
    rw (range_back {z = a.z} c.requires) (natural_fits a.z c.requires h)

pub returns : goal.returns
returns c =
    let a = c.args in
    let h : lt_z a.z (pos 0) ≡ false = rw (range_back {z = a.z} c.requires) at c.if-z-lt0.false in
    c.locate.ensures ∙ indexed_natural a.first a.size a.z _ h (ap nat_abs (range_back {z = a.z} c.requires))
