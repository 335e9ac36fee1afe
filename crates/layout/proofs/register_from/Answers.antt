-- `layout::register_from` meets its contract: a value that is not below 0 is its own size. Assumes nothing.
use mathlib.Core.Path.{◌≡◌, refl}
use mathlib.Core.Bool.{true, false}
use native.Mathlib.Omega.{arith}
use lib.Signed.{lt_z}
use lib.IntN.{pos, nat_abs}
use Rattle.language.proofs.Integers.{range_back}
use Rattle.operands.proofs.Meanings.{natural_fits, natural_is}
use Rattle.layout.proofs.Parameters.{register_negative, register_past, register_fits, natural_small}
use Rattle.layout.proofs.register_from.Goals as goal

pub returns-then-z-lt0 : goal.returns-then-z-lt0
returns-then-z-lt0 c =
    let a = c.args in
    let h : lt_z a.z (pos 0) ≡ true = rw (range_back {z = a.z} c.requires.z_value) at c.if-z-lt0.true in
    register_negative a.next a.z h

pub overflow_cast-n : goal.overflow_cast-n
overflow_cast-n c =
    let a = c.args in
    let h : lt_z a.z (pos 0) ≡ false = rw (range_back {z = a.z} c.requires.z_value) at c.if-z-lt0.false in
    rw (range_back {z = a.z} c.requires.z_value) (natural_fits a.z c.requires.z_value h)

pub overflow_add-end : goal.overflow_add-end
overflow_add-end c =
    let a = c.args in
    let s = natural_small a.z c.requires.z_value in
    rw (range_back {z = a.z} c.requires.z_value) (omega arith)

pub returns-then-end-gt-MOST_WIRES : goal.returns-then-end-gt-MOST_WIRES
returns-then-end-gt-MOST_WIRES c =
    let a = c.args in
    let b = range_back {z = a.z} c.requires.z_value in
    let h : lt_z a.z (pos 0) ≡ false = rw b at c.if-z-lt0.false in
    register_past a.next a.z (nat_abs a.z) (natural_is a.z h) (rw b at c.if-end-gt-MOST_WIRES.true)

pub returns : goal.returns
returns c =
    let a = c.args in
    let b = range_back {z = a.z} c.requires.z_value in
    let h : lt_z a.z (pos 0) ≡ false = rw b at c.if-z-lt0.false in
    rw b (register_fits a.next a.z (nat_abs a.z) (natural_is a.z h) _ refl (rw b at c.if-end-gt-MOST_WIRES.false))
