-- `layout::lay_out` meets its contract. Assumes nothing.
use mathlib.Core.Path.{refl, ◌∙◌, sym}
use native.Mathlib.Omega.{arith}
use lib.ListN.{take}
use Rattle.std.proofs.lemmas.Result.{err_from_is_err_and}
use Rattle.fields.proofs.Between.{in_whole}
use Rattle.layout.proofs.Parameters.{laying_start, laying_none, laying_next, laying_past, laying_over, laying_stuck, laying_done}
use Rattle.layout.proofs.lay_out.Goals as goal

pub loop-i-init : goal.loop-i-init
loop-i-init c =
    let a = c.args in
    laying_start a.bytes.now a.from a.to a.count (take a.many a.values.now) _ refl

pub returns-in_err-header : goal.returns-in_err-header
returns-in_err-header c =
    let a = c.args in
    let l = a.bytes.now in
    let v = take a.many a.values.now in
    let i = c.loop-i in
    let r = err_from_is_err_and c.from_residual.result c.from_residual.ensures.1 in
    rw (r.1, r.2) (laying_none l a.from a.to a.count v i.params i.at i.next i.i i.invariant c.loop-i-test.true _ (sym c.header_at.ensures ∙ c.in_err-header.was))

pub overflow_add-at : goal.overflow_add-at
overflow_add-at c =
    let a = c.args in
    let w = in_whole a.bytes.now c.loop-i.at a.to _ _ (sym c.header_at.ensures ∙ c.in_ok-header.was) in
    omega (arith, w.low, w.high, c.requires.from_le_to.1)

pub type_from-requires : goal.type_from-requires
type_from-requires c =
    let a = c.args in
    let w = in_whole a.bytes.now c.loop-i.at a.to _ _ (sym c.header_at.ensures ∙ c.in_ok-header.was) in
    record {
      to_in_bounds = omega (arith, w.high, c.requires.from_le_to.1);
      many_le_most_values = (c.requires.count_le_most_parameters.1, c.loop-i.invariant.few);
    }

pub loop-i-preserved : goal.loop-i-preserved
loop-i-preserved c =
    let a = c.args in
    let l = a.bytes.now in
    let v = take a.many a.values.now in
    let i = c.loop-i in
    laying_next l a.from a.to a.count v i.params i.at i.next i.i i.invariant
    c.loop-i-test.true _ _ (sym c.header_at.ensures ∙ c.in_ok-header.was) c.type_from.result c.type_from.ensures
    _ _ c.in-Ok.is c.requires.count_le_most_parameters.0

pub returns-in-Err-Past : goal.returns-in-Err-Past
returns-in-Err-Past c =
    let a = c.args in
    let l = a.bytes.now in
    let v = take a.many a.values.now in
    let i = c.loop-i in
    laying_past l a.from a.to a.count v i.params i.at i.next i.i i.invariant
    c.loop-i-test.true _ _ (sym c.header_at.ensures ∙ c.in_ok-header.was) c.type_from.result c.type_from.ensures
    (cc)

pub returns-in-Err-Over : goal.returns-in-Err-Over
returns-in-Err-Over c =
    let a = c.args in
    let l = a.bytes.now in
    let v = take a.many a.values.now in
    let i = c.loop-i in
    laying_over l a.from a.to a.count v i.params i.at i.next i.i i.invariant
    c.loop-i-test.true _ _ (sym c.header_at.ensures ∙ c.in_ok-header.was) c.type_from.result c.type_from.ensures
    (cc)

pub returns-in-Err-Stuck : goal.returns-in-Err-Stuck
returns-in-Err-Stuck c =
    let a = c.args in
    let l = a.bytes.now in
    let v = take a.many a.values.now in
    let i = c.loop-i in
    laying_stuck l a.from a.to a.count v i.params i.at i.next i.i i.invariant
    c.loop-i-test.true _ _ (sym c.header_at.ensures ∙ c.in_ok-header.was) c.type_from.result c.type_from.ensures
    (cc)

pub returns : goal.returns
returns c =
    let a = c.args in
    let l = a.bytes.now in
    let v = take a.many a.values.now in
    let i = c.loop-i in
    laying_done l a.from a.to a.count v i.params i.at i.next i.i i.invariant c.loop-i-test.false
