-- `gates::repeats_of` meets its contract. Assumes nothing.
use mathlib.Core.Path.{◌≡◌, ◌∙◌, ap}
use mathlib.Core.Bool.{true}
use Rattle.std.specs.Prelude.{Ok}
use lib.ListN.{take}
use lib.IntN.{◌-ℤ◌}
use Rattle.language.specs.Form.{in_range}
use Rattle.language.specs.Machine.{start_of, rounds_of}
use Rattle.language.proofs.Integers.{range_back}
use Rattle.refusals.proofs.Handed.{handed}
use Rattle.indexes.specs.Bounds.{Bounded}
use Rattle.gates.specs.Gates.{direction_of, Looped}
use Rattle.indexes.proofs.TwoBounds.{bounds_behind}
use Rattle.gates.proofs.RoundValues.{start_between}
use Rattle.gates.proofs.repeats_of.Goals as goal

pub returns-in_err-bounds : goal.returns-in_err-bounds
unfolding Looped
returns-in_err-bounds c =
    rw (handed c.from_residual.result c.from_residual.ensures.1) (record { once = λ e. absurd (c.if-tag-eq-REVERSE.false e); looped = λ n. rw c.in_err-bounds.was at c.bounds_of.ensures })

pub tally-requires : goal.tally-requires
tally-requires c =
    let a = c.args in
    let b = c.in_ok-bounds.bounds in
    let w : Bounded a.bytes.now a.from a.to (take a.many a.vars.now) (Ok b) = rw c.in_ok-bounds.was at c.bounds_of.ensures in
    let d = bounds_behind w in
    rw (range_back {z = b.low} d.low, range_back {z = b.high} d.high) (d.low, d.high)

pub returns : goal.returns
unfolding Looped
returns c =
    let a = c.args in
    let b = c.in_ok-bounds.bounds in
    let w : Bounded a.bytes.now a.from a.to (take a.many a.vars.now) (Ok b) = rw c.in_ok-bounds.was at c.bounds_of.ensures in
    let d = bounds_behind w in
    let f : c.first_value.result ≡ start_of (direction_of a.reversed) b.low b.high = rw (range_back {z = b.low} d.low, range_back {z = b.high} d.high) at c.first_value.ensures in
    let t : c.tally.result ≡ rounds_of (b.high -ℤ b.low) = rw (range_back {z = b.low} d.low, range_back {z = b.high} d.high) at c.tally.ensures.0 in
    let s : in_range c.first_value.result ≡ true = ap in_range f ∙ start_between a.reversed b.low b.high d.low d.high in
    record { once = λ e. absurd (c.if-tag-eq-REVERSE.false e); looped = λ n. rw (range_back {z = c.first_value.result} s) (record { x = b.low; y = b.high; bounded = w; first = f; often = t }) }
