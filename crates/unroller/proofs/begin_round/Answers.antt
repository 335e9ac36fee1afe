-- `unroller::begin_round` meets its contract. Assumes nothing.
use mathlib.Core.Path.{◌≡◌, ◌∙◌}
use native.Mathlib.Omega.{arith}
use mir.Syntax.{w32}
use mir.Val.{SFits}
use mir.ValLaws.{to_z-of_z}
use Rattle.refusals.proofs.Handed.{handed}
use Rattle.language.proofs.Integers.{range_back}
use Rattle.records.proofs.Sequences.{stepped_goes}
use Rattle.gates.specs.Gates.{turn_of}
use Rattle.gates.proofs.RoundValues.{narrow}
use Rattle.unroller.proofs.Rounds.{turned_once, turned_none, turns_are, turned_goes}
use Rattle.unroller.proofs.begin_round.Goals as goal

pub returns-then-not-looping : goal.returns-then-not-looping
returns-then-not-looping c =
    let a = c.args in
    turned_once a.looping a.mode a.place a.start a.i a.vars.now a.st c.if-not-looping.true

pub returns-in_err-t : goal.returns-in_err-t
returns-in_err-t c =
    let a = c.args in
    rw (handed c.from_residual.result c.from_residual.ensures.1) (turned_none a.looping a.mode a.place a.start a.i a.vars.now a.st c.if-not-looping.false c.take_step.result c.take_step.ensures c.in_err-t.was)

pub overflow_sub-last : goal.overflow_sub-last
overflow_sub-last c =
    let a = c.args in
    let w = turns_are a.looping a.mode a.place a.start a.i a.vars.now a.st c.if-not-looping.false c.requires.turns in
    omega (arith, w.0, c.from-last.ensures)

pub turn-requires : goal.turn-requires
turn-requires c =
    let a = c.args in
    let w = turns_are a.looping a.mode a.place a.start a.i a.vars.now a.st c.if-not-looping.false c.requires.turns in
    rw (range_back {z = a.start} w.1) (w.1, w.2)

pub returns : goal.returns
returns c =
    let a = c.args in
    let on = c.if-not-looping.false in
    let w = turns_are a.looping a.mode a.place a.start a.i a.vars.now a.st on c.requires.turns in
    let z = turn_of a.mode.reversed a.start a.i in
    let e : c.turn.result ≡ z = rw (range_back {z = a.start} w.1) at c.turn.ensures in
    let f : SFits w32 c.turn.result = rw e (narrow z w.2) in
    let q = stepped_goes a.mode.limit a.place a.st c.in_ok-t.t c.take_step.result c.take_step.ensures c.in_ok-t.was in
    turned_goes a.looping a.mode a.place a.start a.i a.vars.now a.st on c.requires.turns (omega (arith, c.requires.place_le_longest_program.1)) c.in_ok-t.t q _ (omega (arith, c.from-last.ensures)) _ (to_z-of_z w32 c.turn.result f ∙ e)
