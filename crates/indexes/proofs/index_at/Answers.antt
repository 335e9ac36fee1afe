-- `indexes::index_at` meets its contract. Assumes nothing.
use Prim.Native.Nat.{◌+◌}
use mathlib.Core.Path.{◌∙◌, sym}
use native.Mathlib.Omega.{arith}
use borrow.Author.Rules.{rules}
use lib.ListN.{take}
use lib.Seq.{slice}
use Rattle.std.proofs.lemmas.Result.{err_from_is_err_and}
use Rattle.fields.proofs.Between.{in_whole}
use Rattle.indexes.proofs.Operations.{index_none, index_some, at_literal, at_variable}
use Rattle.indexes.proofs.index_at.Goals as goal

pub returns-in_err-header : goal.returns-in_err-header
returns-in_err-header c =
    let a = c.args in
    let p = err_from_is_err_and c.from_residual.result c.from_residual.ensures.1 in
    rw (p.1, p.2) (index_none a.bytes.now a.at a.to (take a.many a.vars.now) (sym c.header_at.ensures ∙ c.in_err-header.was))

pub overflow_add-from : goal.overflow_add-from
overflow_add-from c =
    let a = c.args in
    let f = in_whole a.bytes.now a.at a.to _ _ (sym c.header_at.ensures ∙ c.in_ok-header.was) in
    omega (arith, f.low, f.high)

pub variable-requires : goal.variable-requires
variable-requires c =
    let a = c.args in
    let f = in_whole a.bytes.now a.at a.to _ _ (sym c.header_at.ensures ∙ c.in_ok-header.was) in
    search rules

pub returns-in-65 : goal.returns-in-65
returns-in-65 c =
    let a = c.args in
    let s = slice (a.at + 3) c.in_ok-header.header.next a.bytes.now in
    let v = take a.many a.vars.now in
    index_some a.bytes.now a.at a.to v _ _ c.variable.result (sym c.header_at.ensures ∙ c.in_ok-header.was) (at_variable _ s 16 v (λ z. omega arith) c.in-65.is c.variable.result c.variable.ensures)

pub literal-requires : goal.literal-requires
literal-requires c =
    let a = c.args in
    let f = in_whole a.bytes.now a.at a.to _ _ (sym c.header_at.ensures ∙ c.in_ok-header.was) in
    search rules

pub returns-in-64 : goal.returns-in-64
returns-in-64 c =
    let a = c.args in
    let s = slice (a.at + 3) c.in_ok-header.header.next a.bytes.now in
    let v = take a.many a.vars.now in
    index_some a.bytes.now a.at a.to v _ _ c.literal.result (sym c.header_at.ensures ∙ c.in_ok-header.was) (at_literal _ s 16 v (λ z. omega arith) c.in-64.is c.literal.result (c.literal.ensures v))

pub combined-requires : goal.combined-requires
combined-requires c =
    let a = c.args in
    let f = in_whole a.bytes.now a.at a.to _ _ (sym c.header_at.ensures ∙ c.in_ok-header.was) in
    search rules

pub returns-in_default : goal.returns-in_default
returns-in_default c =
    let a = c.args in
    index_some a.bytes.now a.at a.to (take a.many a.vars.now) _ _ c.combined.result (sym c.header_at.ensures ∙ c.in_ok-header.was) c.combined.ensures
