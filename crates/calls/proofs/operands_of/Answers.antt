-- `calls::operands_of` meets its contract. Assumes nothing.
use mathlib.Core.Path.{◌∙◌, sym}
use native.Mathlib.Omega.{arith}
use lib.ListN.{take}
use Rattle.std.proofs.lemmas.Result.{err_from_is_err_and}
use Rattle.operands.specs.Meanings.{operands_of}
use Rattle.fields.proofs.Between.{in_whole}
use Rattle.calls.proofs.ArgumentLists.{ends_at, cut_at}
use Rattle.calls.proofs.CallOperands.{operands_start, gathered_end, gathered_cut, gathered_skip, gathered_fail, gathered_one}
use Rattle.calls.proofs.operands_of.Goals as goal

pub loop-at-init : goal.loop-at-init
loop-at-init c =
    let a = c.args in
    operands_start a.bytes.now a.from a.to (take a.many a.vars.now) (operands_of a.scope a.regs.now) _

pub returns-in_err-header : goal.returns-in_err-header
returns-in_err-header c =
    let a = c.args in
    let i = c.loop-at in
    let p = err_from_is_err_and c.from_residual.result c.from_residual.ensures.1 in
    let e = cut_at a.bytes.now i.at a.to c.requires.to_in_bounds c.loop-at-test.true _ (sym c.header_at.ensures ∙ c.in_err-header.was) in
    rw (p.1, p.2) (gathered_cut a.bytes.now a.from a.to (take a.many a.vars.now) (operands_of a.scope a.regs.now) i.given i.at i.n i.invariant e)

pub loop-at-smaller-then-is_index : goal.loop-at-smaller-then-is_index
loop-at-smaller-then-is_index c =
    let w = in_whole c.args.bytes.now c.loop-at.at c.args.to _ _ (sym c.header_at.ensures ∙ c.in_ok-header.was) in
    omega (arith, w.low, w.high)

pub loop-at-preserved-then-is_index : goal.loop-at-preserved-then-is_index
loop-at-preserved-then-is_index c =
    let a = c.args in
    let i = c.loop-at in
    let e = sym c.header_at.ensures ∙ c.in_ok-header.was in
    gathered_skip a.bytes.now a.from a.to (take a.many a.vars.now) (operands_of a.scope a.regs.now) i.given i.at i.n i.invariant _ _ e (sym c.is_index.ensures ∙ c.if-is_index.true)

pub meaning_of-requires-clause-from_le_to : goal.meaning_of-requires-clause-from_le_to
meaning_of-requires-clause-from_le_to c =
    let w = in_whole c.args.bytes.now c.loop-at.at c.args.to _ _ (sym c.header_at.ensures ∙ c.in_ok-header.was) in
    (w.low, omega (arith, w.high, c.requires.to_in_bounds))

pub returns-in_err-s : goal.returns-in_err-s
returns-in_err-s c =
    let a = c.args in
    let i = c.loop-at in
    let p = err_from_is_err_and c.from_residual-in_err-s.result c.from_residual-in_err-s.ensures.1 in
    let e = sym c.header_at.ensures ∙ c.in_ok-header.was in
    rw (p.1, p.2) (gathered_fail a.bytes.now a.from a.to (take a.many a.vars.now) (operands_of a.scope a.regs.now) i.given i.at i.n i.invariant _ _ e (sym c.is_index.ensures ∙ c.if-is_index.false) c.meaning_of.result c.meaning_of.ensures _ c.in_err-s.was)

pub loop-at-smaller : goal.loop-at-smaller
loop-at-smaller c =
    let w = in_whole c.args.bytes.now c.loop-at.at c.args.to _ _ (sym c.header_at.ensures ∙ c.in_ok-header.was) in
    omega (arith, w.low, w.high)

pub loop-at-preserved : goal.loop-at-preserved
loop-at-preserved c =
    let a = c.args in
    let i = c.loop-at in
    let e = sym c.header_at.ensures ∙ c.in_ok-header.was in
    gathered_one a.bytes.now a.from a.to (take a.many a.vars.now) (operands_of a.scope a.regs.now) i.given i.at i.n i.invariant _ _ e (sym c.is_index.ensures ∙ c.if-is_index.false) c.meaning_of.result c.meaning_of.ensures _ c.in_ok-s.was _ c.gather-n.result c.gather-n.ensures

pub returns : goal.returns
returns c =
    let a = c.args in
    let i = c.loop-at in
    gathered_end a.bytes.now a.from a.to (take a.many a.vars.now) (operands_of a.scope a.regs.now) i.given i.at i.n i.invariant (ends_at a.bytes.now i.at a.to c.loop-at-test.false)
