-- `operands::bit_at` meets its contract. Assumes nothing.
use borrow.Author.Rules.{rules}
use native.Mathlib.Omega.{arith}
use lib.ListN.{take}
use mathlib.Core.Path.{◌∙◌, sym}
use Rattle.std.proofs.lemmas.Result.{err_from_is_err_and}
use Rattle.fields.proofs.Between.{in_whole}
use Rattle.operands.specs.Meanings.{operands_of}
use Rattle.operands.proofs.OperandFields.{bit_none, bit_some, bit_fault}
use Rattle.operands.proofs.bit_at.Goals as goal

pub returns-in_err-header : goal.returns-in_err-header
returns-in_err-header c =
    let a = c.args in
    let r = err_from_is_err_and c.from_residual.result c.from_residual.ensures.1 in
    rw (r.1, r.2) (bit_none a.bytes.now a.at a.to (take a.many a.vars.now) (operands_of a.scope a.regs.now) (sym c.header_at.ensures ∙ c.in_err-header.was))

pub overflow_add-at : goal.overflow_add-at
overflow_add-at c =
    let a = c.args in
    let f = in_whole a.bytes.now a.at a.to _ _ (sym c.header_at.ensures ∙ c.in_ok-header.was) in
    omega (arith, f.low, f.high)

pub meaning_of-requires : goal.meaning_of-requires
meaning_of-requires c =
    let a = c.args in
    let f = in_whole a.bytes.now a.at a.to _ _ (sym c.header_at.ensures ∙ c.in_ok-header.was) in
    search rules

pub returns-in_err-meaning_of : goal.returns-in_err-meaning_of
returns-in_err-meaning_of c =
    let a = c.args in
    let r = err_from_is_err_and c.from_residual-in_err-meaning_of.result c.from_residual-in_err-meaning_of.ensures.1 in
    rw (r.1, r.2) (bit_fault a.bytes.now a.at a.to (take a.many a.vars.now) (operands_of a.scope a.regs.now) _ _ (sym c.header_at.ensures ∙ c.in_ok-header.was) _ (rw c.in_err-meaning_of.was at c.meaning_of.ensures))

pub returns : goal.returns
returns c =
    let a = c.args in
    bit_some a.bytes.now a.at a.to (take a.many a.vars.now) (operands_of a.scope a.regs.now) _ _ (sym c.header_at.ensures ∙ c.in_ok-header.was) _ c.as_bit.result (rw c.in_ok-meaning_of.was at c.meaning_of.ensures) c.as_bit.ensures
