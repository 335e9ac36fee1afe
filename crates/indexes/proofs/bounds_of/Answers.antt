-- `indexes::bounds_of` meets its contract. Assumes nothing.
use borrow.Author.Rules.{rules}
use mathlib.Core.Path.{◌∙◌, sym}
use native.Mathlib.Omega.{arith}
use lib.ListN.{take}
use lib.Seq.{slice}
use Rattle.std.proofs.lemmas.Result.{err_from_is_err_and}
use Rattle.std.specs.Prelude.{Ok}
use Rattle.language.proofs.Integers.{range_back}
use Rattle.fields.proofs.Between.{in_whole}
use Rattle.indexes.specs.Values.{IndexAt}
use Rattle.indexes.proofs.Operations.{index_some, index_ranged}
use Rattle.indexes.proofs.TwoBounds.{bounds_low, bounds_none, bounds_high, bounds_cut, bounds_are}
use Rattle.indexes.proofs.bounds_of.Goals as goal

pub returns-in_err-first : goal.returns-in_err-first
returns-in_err-first c =
    let a = c.args in
    let p = err_from_is_err_and c.from_residual.result c.from_residual.ensures.1 in
    rw (p.1, p.2) (bounds_none a.bytes.now a.from a.to (take a.many a.vars.now) (sym c.header_at.ensures ∙ c.in_err-first.was))

pub overflow_add-from : goal.overflow_add-from
overflow_add-from c =
    let a = c.args in
    let f = in_whole a.bytes.now a.from a.to _ _ (sym c.header_at.ensures ∙ c.in_ok-first.was) in
    omega (arith, f.low, f.high)

pub evaluate-requires : goal.evaluate-requires
evaluate-requires c =
    let a = c.args in
    let f = in_whole a.bytes.now a.from a.to _ _ (sym c.header_at.ensures ∙ c.in_ok-first.was) in
    search rules

pub returns-in_err-low : goal.returns-in_err-low
returns-in_err-low c =
    let a = c.args in
    let v = take a.many a.vars.now in
    let p = err_from_is_err_and c.from_residual-in_err-low.result c.from_residual-in_err-low.ensures.1 in
    rw (p.1, p.2) (bounds_low a.bytes.now a.from a.to v _ (index_some a.bytes.now a.from a.to v _ _ _ (sym c.header_at.ensures ∙ c.in_ok-first.was) (rw c.in_err-low.was at c.evaluate.ensures)))

pub returns-in_err-second : goal.returns-in_err-second
returns-in_err-second c =
    let a = c.args in
    let v = take a.many a.vars.now in
    let e = sym c.header_at.ensures ∙ c.in_ok-first.was in
    let p = err_from_is_err_and c.from_residual-in_err-second.result c.from_residual-in_err-second.ensures.1 in
    rw (p.1, p.2) (bounds_cut a.bytes.now a.from a.to v c.in_ok-low.low (index_some a.bytes.now a.from a.to v _ _ _ e (rw c.in_ok-low.was at c.evaluate.ensures)) _ _ e (sym c.header_at-2.ensures ∙ c.in_err-second.was))

pub overflow_add-first : goal.overflow_add-first
overflow_add-first c =
    let a = c.args in
    let f = in_whole a.bytes.now _ a.to _ _ (sym c.header_at-2.ensures ∙ c.in_ok-second.was) in
    omega (arith, f.low, f.high)

pub evaluate-requires-2 : goal.evaluate-requires-2
evaluate-requires-2 c =
    let a = c.args in
    let f = in_whole a.bytes.now _ a.to _ _ (sym c.header_at-2.ensures ∙ c.in_ok-second.was) in
    search rules

pub returns-in_err-high : goal.returns-in_err-high
returns-in_err-high c =
    let a = c.args in
    let v = take a.many a.vars.now in
    let e = sym c.header_at.ensures ∙ c.in_ok-first.was in
    let p = err_from_is_err_and c.from_residual-in_err-high.result c.from_residual-in_err-high.ensures.1 in
    rw (p.1, p.2) (bounds_high a.bytes.now a.from a.to v c.in_ok-low.low (index_some a.bytes.now a.from a.to v _ _ _ e (rw c.in_ok-low.was at c.evaluate.ensures)) _ _ e
    _ (index_some a.bytes.now _ a.to v _ _ _ (sym c.header_at-2.ensures ∙ c.in_ok-second.was) (rw c.in_err-high.was at c.evaluate-2.ensures)))

pub returns : goal.returns
returns c =
    let a = c.args in
    let l = a.bytes.now in
    let v = take a.many a.vars.now in
    let x = c.in_ok-low.low in
    let y = c.in_ok-high.high in
    let e = sym c.header_at.ensures ∙ c.in_ok-first.was in
    let g = sym c.header_at-2.ensures ∙ c.in_ok-second.was in
    let wx : IndexAt (slice a.from a.to l) 0 v (Ok x) = index_some l a.from a.to v _ _ _ e (rw c.in_ok-low.was at c.evaluate.ensures) in
    let wy : IndexAt (slice c.in_ok-first.first.next a.to l) 0 v (Ok y) = index_some l _ a.to v _ _ _ g (rw c.in_ok-high.was at c.evaluate-2.ensures) in
    rw (range_back {z = x} (index_ranged (slice a.from a.to l) 0 v x wx), range_back {z = y} (index_ranged (slice c.in_ok-first.first.next a.to l) 0 v y wy))
    (bounds_are l a.from a.to v x wx _ _ e y _ _ wy g)
