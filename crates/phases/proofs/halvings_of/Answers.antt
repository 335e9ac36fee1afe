-- `phases::halvings_of` meets its contract. Assumes nothing.
use mathlib.Core.Path.{◌≡◌, ◌∙◌, sym}
use mathlib.Core.Bool.{false}
use Rattle.std.specs.Prelude.{Ok}
use lib.ListN.{take}
use lib.Seq.{slice}
use lib.IntN.{pos, nat_abs}
use lib.Signed.{lt_z}
use Rattle.language.proofs.Integers.{range_back}
use Rattle.refusals.proofs.Handed.{handed}
use Rattle.indexes.specs.Values.{IndexAt}
use Rattle.indexes.proofs.Operations.{index_ranged}
use Rattle.operands.proofs.Meanings.{natural_is}
use Rattle.phases.proofs.PhaseRuns.{no_value, no_field, below_none, are}
use Rattle.phases.proofs.halvings_of.Goals as goal

pub returns-in_err-z : goal.returns-in_err-z
returns-in_err-z c =
    let a = c.args in
    rw (handed c.from_residual.result c.from_residual.ensures.1) (no_value a.bytes.now a.from a.to (take a.many a.vars.now) c.in_err-z.field-0.0 (rw c.in_err-z.was at c.index_at.ensures))

pub returns-then-z-lt0 : goal.returns-then-z-lt0
returns-then-z-lt0 c =
    let a = c.args in
    let l = a.bytes.now in
    let v = take a.many a.vars.now in
    let z = c.in_ok-z.z in
    let w : IndexAt (slice a.from a.to l) 0 v (Ok z) = rw c.in_ok-z.was at c.index_at.ensures in
    let b = range_back {z = z} (index_ranged (slice a.from a.to l) 0 v z w) in
    below_none l a.from a.to v z w (rw b at c.if-z-lt0.true)

pub returns-in_err-header : goal.returns-in_err-header
returns-in_err-header c =
    let a = c.args in
    rw (handed c.from_residual-in_err-header.result c.from_residual-in_err-header.ensures.1) (no_field a.bytes.now a.from a.to (take a.many a.vars.now) (sym c.header_at.ensures ∙ c.in_err-header.was))

pub returns : goal.returns
returns c =
    let a = c.args in
    let l = a.bytes.now in
    let v = take a.many a.vars.now in
    let z = c.in_ok-z.z in
    let w : IndexAt (slice a.from a.to l) 0 v (Ok z) = rw c.in_ok-z.was at c.index_at.ensures in
    let b = range_back {z = z} (index_ranged (slice a.from a.to l) 0 v z w) in
    let h : lt_z z (pos 0) ≡ false = rw b at c.if-z-lt0.false in
    rw b (are l a.from a.to v z w (nat_abs z) _ _ (natural_is z h) (sym c.header_at.ensures ∙ c.in_ok-header.was))
