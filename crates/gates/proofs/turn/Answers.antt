-- `gates::turn` meets its contract. Assumes nothing.
use mathlib.Core.Path.{◌≡◌, ◌∙◌, ap, sym}
use mathlib.Core.Bool.{true}
use native.Mathlib.Omega.{arith}
use lib.IntN.{pos, ◌+ℤ◌, ◌-ℤ◌}
use mir.Syntax.{w32, w64}
use mir.Val.{to_z}
use mir.ValLaws.{to_z-of_z, to_z_pos}
use Rattle.language.specs.Form.{in_range}
use Rattle.language.proofs.Integers.{range_back, range_fits}
use Rattle.gates.proofs.RoundValues.{turn_small, turn_up, turn_down, narrow}
use Rattle.gates.proofs.turn.Goals as goal

pub overflow_cast-k : goal.overflow_cast-k
overflow_cast-k c =
    let a = c.args in
    let s = turn_small a.reversed a.start a.i c.requires.0 c.requires.1 in
    record { sfits = omega arith }

pub overflow_sub-z : goal.overflow_sub-z
overflow_sub-z c =
    let a = c.args in
    let s = turn_small a.reversed a.start a.i c.requires.0 c.requires.1 in
    let e = turn_down a.reversed a.start a.i c.if-reversed.true in
    let k : to_z w64 a.i ≡ pos a.i = to_z_pos w64 a.i (omega arith) in
    let h : in_range (a.start -ℤ pos a.i) ≡ true = sym (ap in_range e) ∙ c.requires.1 in
    rw (range_back {z = a.start} c.requires.0, k) (range_fits (a.start -ℤ pos a.i) h)

pub overflow_cast-result : goal.overflow_cast-result
overflow_cast-result c =
    let a = c.args in
    let s = turn_small a.reversed a.start a.i c.requires.0 c.requires.1 in
    let e = turn_down a.reversed a.start a.i c.if-reversed.true in
    let k : to_z w64 a.i ≡ pos a.i = to_z_pos w64 a.i (omega arith) in
    let h : in_range (a.start -ℤ pos a.i) ≡ true = sym (ap in_range e) ∙ c.requires.1 in
    rw (range_back {z = a.start} c.requires.0, k, range_back {z = (a.start -ℤ pos a.i)} h) (narrow (a.start -ℤ pos a.i) h)

pub returns-then-reversed : goal.returns-then-reversed
returns-then-reversed c =
    let a = c.args in
    let s = turn_small a.reversed a.start a.i c.requires.0 c.requires.1 in
    let e = turn_down a.reversed a.start a.i c.if-reversed.true in
    let k : to_z w64 a.i ≡ pos a.i = to_z_pos w64 a.i (omega arith) in
    let h : in_range (a.start -ℤ pos a.i) ≡ true = sym (ap in_range e) ∙ c.requires.1 in
    rw (range_back {z = a.start} c.requires.0, k, range_back {z = (a.start -ℤ pos a.i)} h, to_z-of_z w32 (a.start -ℤ pos a.i) (narrow (a.start -ℤ pos a.i) h)) (sym e)

pub overflow_add-z : goal.overflow_add-z
overflow_add-z c =
    let a = c.args in
    let s = turn_small a.reversed a.start a.i c.requires.0 c.requires.1 in
    let e = turn_up a.reversed a.start a.i c.if-reversed.false in
    let k : to_z w64 a.i ≡ pos a.i = to_z_pos w64 a.i (omega arith) in
    let h : in_range (a.start +ℤ pos a.i) ≡ true = sym (ap in_range e) ∙ c.requires.1 in
    rw (range_back {z = a.start} c.requires.0, k) (range_fits (a.start +ℤ pos a.i) h)

pub overflow_cast-result-2 : goal.overflow_cast-result-2
overflow_cast-result-2 c =
    let a = c.args in
    let s = turn_small a.reversed a.start a.i c.requires.0 c.requires.1 in
    let e = turn_up a.reversed a.start a.i c.if-reversed.false in
    let k : to_z w64 a.i ≡ pos a.i = to_z_pos w64 a.i (omega arith) in
    let h : in_range (a.start +ℤ pos a.i) ≡ true = sym (ap in_range e) ∙ c.requires.1 in
    rw (range_back {z = a.start} c.requires.0, k, range_back {z = (a.start +ℤ pos a.i)} h) (narrow (a.start +ℤ pos a.i) h)

pub returns : goal.returns
returns c =
    let a = c.args in
    let s = turn_small a.reversed a.start a.i c.requires.0 c.requires.1 in
    let e = turn_up a.reversed a.start a.i c.if-reversed.false in
    let k : to_z w64 a.i ≡ pos a.i = to_z_pos w64 a.i (omega arith) in
    let h : in_range (a.start +ℤ pos a.i) ≡ true = sym (ap in_range e) ∙ c.requires.1 in
    rw (range_back {z = a.start} c.requires.0, k, range_back {z = (a.start +ℤ pos a.i)} h, to_z-of_z w32 (a.start +ℤ pos a.i) (narrow (a.start +ℤ pos a.i) h)) (sym e)
