-- `calls::sizes_of` meets its contract. Assumes nothing.
use mathlib.Core.Path.{◌∙◌, ap, sym}
use native.Mathlib.Omega.{arith}
use lib.ListN.{set, take}
use Rattle.std.proofs.lemmas.Result.{err_from_is_err_and}
use Rattle.language.proofs.Integers.{range_back}
use Rattle.indexes.specs.Values.{Ranged}
use Rattle.fields.proofs.Between.{in_whole}
use Rattle.calls.proofs.ArgumentLists.{ends_at, cut_at}
use Rattle.calls.proofs.CallSizes.{sizes_start, sizes_end, sizes_cut, sizes_skip, sizes_fail, sizes_more}
use Rattle.calls.proofs.sizes_of.Goals as goal

pub loop-at-init : goal.loop-at-init
loop-at-init c =
    let a = c.args in
    (λ ms. sizes_start a.bytes.now a.from a.to (take a.many a.vars.now) ms _, omega arith)

pub returns-in_err-header : goal.returns-in_err-header
returns-in_err-header c =
    let a = c.args in
    let i = c.loop-at in
    let p = err_from_is_err_and c.from_residual.result c.from_residual.ensures.1 in
    let e = cut_at a.bytes.now i.at a.to c.requires.to_in_bounds c.loop-at-test.true _ (sym c.header_at.ensures ∙ c.in_err-header.was) in
    λ ms. rw (p.1, p.2) (sizes_cut a.bytes.now a.from a.to (take a.many a.vars.now) ms i.sizes i.at i.k (i.invariant.0 ms) e)

pub loop-at-smaller-then-is_operand : goal.loop-at-smaller-then-is_operand
loop-at-smaller-then-is_operand c =
    let w = in_whole c.args.bytes.now c.loop-at.at c.args.to _ _ (sym c.header_at.ensures ∙ c.in_ok-header.was) in
    omega (arith, w.low, w.high)

pub loop-at-preserved-then-is_operand : goal.loop-at-preserved-then-is_operand
loop-at-preserved-then-is_operand c =
    let a = c.args in
    let i = c.loop-at in
    let e = sym c.header_at.ensures ∙ c.in_ok-header.was in
    let w = in_whole a.bytes.now i.at a.to _ _ e in
    (λ ms. sizes_skip a.bytes.now a.from a.to (take a.many a.vars.now) ms i.sizes i.at i.k (i.invariant.0 ms) _ _ e (sym c.is_operand.ensures ∙ c.if-is_operand.true), omega (arith, w.low, i.invariant.1))

pub evaluate-requires-clause-from_le_to : goal.evaluate-requires-clause-from_le_to
evaluate-requires-clause-from_le_to c =
    let w = in_whole c.args.bytes.now c.loop-at.at c.args.to _ _ (sym c.header_at.ensures ∙ c.in_ok-header.was) in
    (w.low, omega (arith, w.high, c.requires.to_in_bounds))

pub returns-in_err-z : goal.returns-in_err-z
returns-in_err-z c =
    let a = c.args in
    let i = c.loop-at in
    let p = err_from_is_err_and c.from_residual-in_err-z.result c.from_residual-in_err-z.ensures.1 in
    let e = sym c.header_at.ensures ∙ c.in_ok-header.was in
    λ ms. rw (p.1, p.2) (sizes_fail a.bytes.now a.from a.to (take a.many a.vars.now) ms i.sizes i.at i.k (i.invariant.0 ms) _ _ e (sym c.is_operand.ensures ∙ c.if-is_operand.false) c.evaluate.result c.evaluate.ensures _ c.in_err-z.was)

pub store_size-requires : goal.store_size-requires
unfolding Ranged
store_size-requires c =
    let z = c.in_ok-z.z in
    let r = rw c.in_ok-z.was at c.evaluate.ensures.ranged in
    rw (range_back {z = z} r) r

pub overflow_add-k : goal.overflow_add-k
overflow_add-k c =
    let w = in_whole c.args.bytes.now c.loop-at.at c.args.to _ _ (sym c.header_at.ensures ∙ c.in_ok-header.was) in
    omega (arith, w.low, w.high, c.requires.to_in_bounds, c.loop-at.invariant.1)

pub loop-at-smaller : goal.loop-at-smaller
loop-at-smaller c =
    let w = in_whole c.args.bytes.now c.loop-at.at c.args.to _ _ (sym c.header_at.ensures ∙ c.in_ok-header.was) in
    omega (arith, w.low, w.high)

pub loop-at-preserved : goal.loop-at-preserved
unfolding Ranged
loop-at-preserved c =
    let a = c.args in
    let i = c.loop-at in
    let e = sym c.header_at.ensures ∙ c.in_ok-header.was in
    let w = in_whole a.bytes.now i.at a.to _ _ e in
    let z = c.in_ok-z.z in
    let b = range_back {z = z} (rw c.in_ok-z.was at c.evaluate.ensures.ranged) in
    (λ ms. sizes_more a.bytes.now a.from a.to (take a.many a.vars.now) ms i.sizes i.at i.k (i.invariant.0 ms) _ _ e (sym c.is_operand.ensures ∙ c.if-is_operand.false) c.evaluate.result c.evaluate.ensures z _ c.in_ok-z.was (λ h. c.store_size.ensures.0 h ∙ ap (set i.sizes i.k) b) c.store_size.ensures.1, omega (arith, w.low, i.invariant.1))

pub returns : goal.returns
returns c =
    let a = c.args in
    let i = c.loop-at in
    λ ms. sizes_end a.bytes.now a.from a.to (take a.many a.vars.now) ms i.sizes i.at i.k (i.invariant.0 ms) (ends_at a.bytes.now i.at a.to c.loop-at-test.false)
