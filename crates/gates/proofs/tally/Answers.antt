-- `gates::tally` meets its contract. Assumes nothing.
use mathlib.Core.Path.{◌≡◌}
use mathlib.Core.Bool.{true, false}
use native.Mathlib.Omega.{arith}
use lib.IntN.{◌-ℤ◌}
use lib.Signed.{lt_z}
use mir.Syntax.{w64}
use mir.ValLaws.{to_z-of_z}
use Rattle.language.proofs.Integers.{range_back, difference_fits}
use Rattle.gates.proofs.RoundValues.{tally_none, tally_some, tally_cast, tally_size}
use Rattle.gates.proofs.tally.Goals as goal

pub returns-then-y-x : goal.returns-then-y-x
returns-then-y-x c =
    let a = c.args in
    let h : lt_z a.y a.x ≡ true = rw (range_back {z = a.y} c.requires.1, range_back {z = a.x} c.requires.0) at c.if-y-x.true in
    (tally_none a.x a.y h, omega arith)

pub overflow_sub-d : goal.overflow_sub-d
overflow_sub-d c =
    let a = c.args in
    rw (range_back {z = a.y} c.requires.1, range_back {z = a.x} c.requires.0) (difference_fits a.y a.x c.requires.1 c.requires.0)

pub overflow_cast-result : goal.overflow_cast-result
overflow_cast-result c =
    let a = c.args in
    let h : lt_z a.y a.x ≡ false = rw (range_back {z = a.y} c.requires.1, range_back {z = a.x} c.requires.0) at c.if-y-x.false in
    let s = tally_size a.x a.y c.requires.0 c.requires.1 h in
    rw (range_back {z = a.y} c.requires.1, range_back {z = a.x} c.requires.0, to_z-of_z w64 (a.y -ℤ a.x) (difference_fits a.y a.x c.requires.1 c.requires.0)) (tally_cast a.x a.y c.requires.0 c.requires.1 h)

pub overflow_add-result : goal.overflow_add-result
overflow_add-result c =
    let a = c.args in
    let h : lt_z a.y a.x ≡ false = rw (range_back {z = a.y} c.requires.1, range_back {z = a.x} c.requires.0) at c.if-y-x.false in
    let s = tally_size a.x a.y c.requires.0 c.requires.1 h in
    rw (range_back {z = a.y} c.requires.1, range_back {z = a.x} c.requires.0, to_z-of_z w64 (a.y -ℤ a.x) (difference_fits a.y a.x c.requires.1 c.requires.0)) (record { fits = omega arith })

pub returns : goal.returns
returns c =
    let a = c.args in
    let h : lt_z a.y a.x ≡ false = rw (range_back {z = a.y} c.requires.1, range_back {z = a.x} c.requires.0) at c.if-y-x.false in
    let s = tally_size a.x a.y c.requires.0 c.requires.1 h in
    rw (range_back {z = a.y} c.requires.1, range_back {z = a.x} c.requires.0, to_z-of_z w64 (a.y -ℤ a.x) (difference_fits a.y a.x c.requires.1 c.requires.0)) (tally_some a.x a.y c.requires.0 c.requires.1 h, omega arith)
