-- `operands::meaning_of` meets its contract. Assumes nothing.
use Prim.Native.Nat.{◌+◌, ◌<◌, ◌≤◌}
use native.Mathlib.Omega.{arith}
use lib.ListN.{length, get_or, take}
use lib.Seq.{slice, drop-drop}
use mathlib.Core.List.{[]}
use mathlib.Core.Path.{◌≡◌, refl, ◌∙◌, sym}
use Rattle.std.proofs.lemmas.Result.{err_from_is_err_and}
use Rattle.language.proofs.Integers.{range_back}
use Rattle.indexes.proofs.Operations.{index_ranged, index_later}
use Rattle.indexes.proofs.TwoBounds.{bounds_behind}
use Rattle.fields.proofs.Headers.{slice_none}
use Rattle.fields.proofs.Between.{not_empty, first_byte}
use Rattle.operands.specs.Meanings.{operands_of, ElementIs, SliceIs}
use Rattle.operands.proofs.OperandFields.{empty_operand, whole_operand, other_operand, passed_operand, fault_operand, element_fault, element_at_lem, slice_fault, slice_within}
use Rattle.operands.proofs.meaning_of.Goals as goal

pub returns-then-from-to : goal.returns-then-from-to
returns-then-from-to c =
    let a = c.args in
    let l = a.bytes.now in
    let s = slice a.from a.to l in
    let v = take a.many a.vars.now in
    let ms = operands_of a.scope a.regs.now in
    let e : s ≡ [] = slice_none a.from a.to l (omega arith) in
    empty_operand a.tag s v ms (rw e refl)

pub returns-then-tag-eq-PASSED : goal.returns-then-tag-eq-PASSED
returns-then-tag-eq-PASSED c =
    let a = c.args in
    let l = a.bytes.now in
    let s = slice a.from a.to l in
    let v = take a.many a.vars.now in
    let ms = operands_of a.scope a.regs.now in
    passed_operand a.tag s v ms c.if-tag-eq-PASSED.true c.passed.result c.passed.ensures

pub returns-in_err-s : goal.returns-in_err-s
returns-in_err-s c =
    let a = c.args in
    let l = a.bytes.now in
    let s = slice a.from a.to l in
    let v = take a.many a.vars.now in
    let ms = operands_of a.scope a.regs.now in
    let low : a.from < a.to = omega (arith, c.if-from-to.false, c.requires.from_le_to.0) in
    let high : a.to ≤ length l = c.requires.from_le_to.1 in
    let h = not_empty l a.from a.to low high in
    let n : c.from.result ≡ get_or s 0 0 = c.from.ensures ∙ sym (first_byte l a.from a.to low high) in
    let r = err_from_is_err_and c.from_residual.result c.from_residual.ensures.1 in
    rw (r.1, r.2) (fault_operand a.tag s v ms h c.from.result n c.if-tag-eq-PASSED.false _ (rw c.in_err-s.was at c.operand_meaning.ensures))

pub returns-in-48 : goal.returns-in-48
returns-in-48 c =
    let a = c.args in
    let l = a.bytes.now in
    let s = slice a.from a.to l in
    let v = take a.many a.vars.now in
    let ms = operands_of a.scope a.regs.now in
    let low : a.from < a.to = omega (arith, c.if-from-to.false, c.requires.from_le_to.0) in
    let high : a.to ≤ length l = c.requires.from_le_to.1 in
    let h = not_empty l a.from a.to low high in
    let n : c.from.result ≡ get_or s 0 0 = c.from.ensures ∙ sym (first_byte l a.from a.to low high) in
    whole_operand a.tag s v ms c.from.result _ h c.in-48.is n (rw c.in_ok-s.was at c.operand_meaning.ensures)

pub returns-in_err-z-in-49 : goal.returns-in_err-z-in-49
returns-in_err-z-in-49 c =
    let a = c.args in
    let l = a.bytes.now in
    let s = slice a.from a.to l in
    let v = take a.many a.vars.now in
    let ms = operands_of a.scope a.regs.now in
    let low : a.from < a.to = omega (arith, c.if-from-to.false, c.requires.from_le_to.0) in
    let high : a.to ≤ length l = c.requires.from_le_to.1 in
    let h = not_empty l a.from a.to low high in
    let n : c.from.result ≡ get_or s 0 0 = c.from.ensures ∙ sym (first_byte l a.from a.to low high) in
    let u = index_later l a.from 1 a.to v c.index_at.result c.index_at.ensures in
    let r = err_from_is_err_and c.from_residual-in_err-z-in-49.result c.from_residual-in_err-z-in-49.ensures.1 in
    rw (r.1, r.2) (element_fault a.tag s v ms h c.from.result n _ (rw c.in_ok-s.was at c.operand_meaning.ensures) c.in-49.is _ (rw c.in_err-z-in-49.was at u))

pub element-requires : goal.element-requires
element-requires c =
    let a = c.args in
    let z = c.in_ok-z-in-49.z in
    let r = index_ranged (slice (a.from + 1) a.to a.bytes.now) 0 (take a.many a.vars.now) z (rw c.in_ok-z-in-49.was at c.index_at.ensures) in
    rw (range_back {z = z} r) r

pub returns-in_ok-z-in-49 : goal.returns-in_ok-z-in-49
returns-in_ok-z-in-49 c =
    let a = c.args in
    let l = a.bytes.now in
    let s = slice a.from a.to l in
    let v = take a.many a.vars.now in
    let ms = operands_of a.scope a.regs.now in
    let low : a.from < a.to = omega (arith, c.if-from-to.false, c.requires.from_le_to.0) in
    let high : a.to ≤ length l = c.requires.from_le_to.1 in
    let h = not_empty l a.from a.to low high in
    let n : c.from.result ≡ get_or s 0 0 = c.from.ensures ∙ sym (first_byte l a.from a.to low high) in
    let z = c.in_ok-z-in-49.z in
    let u = rw c.in_ok-z-in-49.was at (index_later l a.from 1 a.to v c.index_at.result c.index_at.ensures) in
    let y : ElementIs c.in_ok-s.s z c.element.result = rw (range_back {z = z} (index_ranged s 1 v z u)) at c.element.ensures in
    element_at_lem a.tag s v ms h c.from.result n _ (rw c.in_ok-s.was at c.operand_meaning.ensures) c.in-49.is z u c.element.result y

pub returns-in_err-bounds-in-50 : goal.returns-in_err-bounds-in-50
returns-in_err-bounds-in-50 c =
    let a = c.args in
    let l = a.bytes.now in
    let s = slice a.from a.to l in
    let v = take a.many a.vars.now in
    let ms = operands_of a.scope a.regs.now in
    let low : a.from < a.to = omega (arith, c.if-from-to.false, c.requires.from_le_to.0) in
    let high : a.to ≤ length l = c.requires.from_le_to.1 in
    let h = not_empty l a.from a.to low high in
    let n : c.from.result ≡ get_or s 0 0 = c.from.ensures ∙ sym (first_byte l a.from a.to low high) in
    let r = err_from_is_err_and c.from_residual-in_err-bounds-in-50.result c.from_residual-in_err-bounds-in-50.ensures.1 in
    rw (r.1, r.2) (slice_fault a.tag s v ms h c.from.result n _ (rw c.in_ok-s.was at c.operand_meaning.ensures) c.in-50.is l (a.from + 1) a.to (sym (drop-drop 1 a.from (take a.to l))) _ (rw c.in_err-bounds-in-50.was at c.bounds_of.ensures))

pub sliced-requires : goal.sliced-requires
sliced-requires c =
    let b = c.in_ok-bounds-in-50.bounds in
    let r = bounds_behind {b = b} (rw c.in_ok-bounds-in-50.was at c.bounds_of.ensures) in
    rw (range_back {z = b.low} r.low, range_back {z = b.high} r.high) (r.low, r.high)

pub returns-in_ok-bounds-in-50 : goal.returns-in_ok-bounds-in-50
returns-in_ok-bounds-in-50 c =
    let a = c.args in
    let l = a.bytes.now in
    let s = slice a.from a.to l in
    let v = take a.many a.vars.now in
    let ms = operands_of a.scope a.regs.now in
    let low : a.from < a.to = omega (arith, c.if-from-to.false, c.requires.from_le_to.0) in
    let high : a.to ≤ length l = c.requires.from_le_to.1 in
    let h = not_empty l a.from a.to low high in
    let n : c.from.result ≡ get_or s 0 0 = c.from.ensures ∙ sym (first_byte l a.from a.to low high) in
    let b = c.in_ok-bounds-in-50.bounds in
    let w = rw c.in_ok-bounds-in-50.was at c.bounds_of.ensures in
    let r = bounds_behind {b = b} w in
    let y : SliceIs c.in_ok-s.s b.low b.high c.sliced.result = rw (range_back {z = b.low} r.low, range_back {z = b.high} r.high) at c.sliced.ensures in
    slice_within a.tag s v ms h c.from.result n _ (rw c.in_ok-s.was at c.operand_meaning.ensures) c.in-50.is l (a.from + 1) a.to (sym (drop-drop 1 a.from (take a.to l))) b w c.sliced.result y

pub returns-in_default : goal.returns-in_default
returns-in_default c =
    let a = c.args in
    let l = a.bytes.now in
    let s = slice a.from a.to l in
    let v = take a.many a.vars.now in
    let ms = operands_of a.scope a.regs.now in
    other_operand a.tag s v ms (λ z. omega arith) (λ z. omega arith) (λ z. omega arith) c.if-tag-eq-PASSED.false
