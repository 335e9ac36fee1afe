-- `operands::wire_at` meets its contract. Assumes nothing.
use borrow.Author.Rules.{rules}
use Prim.Native.Nat.{◌+◌, ◌<◌, ◌≤◌}
use native.Mathlib.Omega.{arith}
use lib.ListN.{length, get_or, take}
use lib.Seq.{slice}
use mathlib.Core.Path.{◌≡◌, ◌∙◌, sym}
use Rattle.std.proofs.lemmas.Result.{err_from_is_err_and}
use Rattle.fields.proofs.Between.{in_whole, not_empty, first_byte}
use Rattle.operands.specs.Meanings.{operands_of}
use Rattle.operands.proofs.OperandFields.{wire_none, wire_some, wire_fault, whole_operand}
use Rattle.operands.proofs.wire_at.Goals as goal

pub returns-in_err-header : goal.returns-in_err-header
returns-in_err-header c =
    let a = c.args in
    let r = err_from_is_err_and c.from_residual.result c.from_residual.ensures.1 in
    rw (r.1, r.2) (wire_none a.bytes.now a.at a.to (take a.many a.vars.now) (operands_of a.scope a.regs.now) (sym c.header_at.ensures ∙ c.in_err-header.was))

pub overflow_add-from : goal.overflow_add-from
overflow_add-from c =
    let a = c.args in
    let f = in_whole a.bytes.now a.at a.to _ _ (sym c.header_at.ensures ∙ c.in_ok-header.was) in
    omega (arith, f.low, f.high)

pub bounds-bytes-from : goal.bounds-bytes-from
bounds-bytes-from c =
    let a = c.args in
    let f = in_whole a.bytes.now a.at a.to _ _ (sym c.header_at.ensures ∙ c.in_ok-header.was) in
    omega (arith, f.low, f.high)

pub returns-in_err-operand_meaning : goal.returns-in_err-operand_meaning
returns-in_err-operand_meaning c =
    let a = c.args in
    let l = a.bytes.now in
    let v = take a.many a.vars.now in
    let ms = operands_of a.scope a.regs.now in
    let e = sym c.header_at.ensures ∙ c.in_ok-header.was in
    let f = in_whole l a.at a.to _ _ e in
    let end = c.in_ok-header.header.next in
    let low : a.at + 3 < end = omega (arith, f.low) in
    let high : end ≤ length l = omega (arith, f.high) in
    let n : c.from.result ≡ get_or (slice (a.at + 3) end l) 0 0 = c.from.ensures ∙ sym (first_byte l (a.at + 3) end low high) in
    let r = err_from_is_err_and c.from_residual-in_err-operand_meaning.result c.from_residual-in_err-operand_meaning.ensures.1 in
    rw (r.1, r.2) (wire_fault l a.at a.to v ms _ _ e _ (whole_operand _ (slice (a.at + 3) end l) v ms c.from.result _ (not_empty l (a.at + 3) end low high) c.if-header-eq-WHOLE.true n (rw c.in_err-operand_meaning.was at c.operand_meaning.ensures)))

pub returns-then-from-header : goal.returns-then-from-header
returns-then-from-header c =
    let a = c.args in
    let l = a.bytes.now in
    let v = take a.many a.vars.now in
    let ms = operands_of a.scope a.regs.now in
    let e = sym c.header_at.ensures ∙ c.in_ok-header.was in
    let f = in_whole l a.at a.to _ _ e in
    let end = c.in_ok-header.header.next in
    let low : a.at + 3 < end = omega (arith, f.low) in
    let high : end ≤ length l = omega (arith, f.high) in
    let n : c.from.result ≡ get_or (slice (a.at + 3) end l) 0 0 = c.from.ensures ∙ sym (first_byte l (a.at + 3) end low high) in
    wire_some l a.at a.to v ms _ _ e _ c.as_wire.result
    (whole_operand _ (slice (a.at + 3) end l) v ms c.from.result _ (not_empty l (a.at + 3) end low high) c.if-header-eq-WHOLE.true n (rw c.in_ok-operand_meaning.was at c.operand_meaning.ensures)) c.as_wire.ensures

pub meaning_of-requires : goal.meaning_of-requires
meaning_of-requires c =
    let a = c.args in
    let f = in_whole a.bytes.now a.at a.to _ _ (sym c.header_at.ensures ∙ c.in_ok-header.was) in
    search rules

pub returns-in_err-meaning_of : goal.returns-in_err-meaning_of
returns-in_err-meaning_of c =
    let a = c.args in
    let r = err_from_is_err_and c.from_residual-in_err-meaning_of.result c.from_residual-in_err-meaning_of.ensures.1 in
    rw (r.1, r.2) (wire_fault a.bytes.now a.at a.to (take a.many a.vars.now) (operands_of a.scope a.regs.now) _ _ (sym c.header_at.ensures ∙ c.in_ok-header.was) _ (rw c.in_err-meaning_of.was at c.meaning_of.ensures))

pub returns : goal.returns
returns c =
    let a = c.args in
    wire_some a.bytes.now a.at a.to (take a.many a.vars.now) (operands_of a.scope a.regs.now) _ _ (sym c.header_at.ensures ∙ c.in_ok-header.was) _ c.as_wire-2.result (rw c.in_ok-meaning_of.was at c.meaning_of.ensures) c.as_wire-2.ensures
