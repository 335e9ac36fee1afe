-- `layout::takes_family` meets its contract. Assumes nothing.
use mathlib.Core.Path.{◌∙◌, sym}
use native.Mathlib.Omega.{arith}
use Rattle.fields.proofs.Between.{in_whole}
use Rattle.layout.proofs.FamilyTypes.{left_start, left_done, left_none, left_family, left_next}
use Rattle.layout.proofs.takes_family.Goals as goal

pub loop-init : goal.loop-init
loop-init c =
    let a = c.args in
    (left_start a.bytes.now a.from a.to a.count, omega arith)

pub returns-in_default : goal.returns-in_default
returns-in_default c =
    let a = c.args in
    let i = c.loop in
    left_none a.bytes.now a.from a.to a.count i.at i.counter i.invariant.0 i.invariant.1 c.loop-test.true _ (sym c.header_at.ensures ∙ c.in_default.is)

pub returns-then-header-eq-FAMILY_TYPE : goal.returns-then-header-eq-FAMILY_TYPE
returns-then-header-eq-FAMILY_TYPE c =
    let a = c.args in
    let i = c.loop in
    left_family a.bytes.now a.from a.to a.count i.at i.counter i.invariant.0 i.invariant.1 c.loop-test.true _ _ (sym c.header_at.ensures ∙ c.in-Ok.is) c.if-header-eq-FAMILY_TYPE.true

pub loop-preserved : goal.loop-preserved
loop-preserved c =
    let a = c.args in
    let i = c.loop in
    let e = sym c.header_at.ensures ∙ c.in-Ok.is in
    let w = in_whole a.bytes.now i.at a.to _ _ e in
    (left_next a.bytes.now a.from a.to a.count i.at i.counter i.invariant.0 i.invariant.1 c.loop-test.true _ _ e c.if-header-eq-FAMILY_TYPE.false, omega (arith, w.low, i.invariant.1))

pub returns : goal.returns
returns c =
    let a = c.args in
    let i = c.loop in
    left_done a.bytes.now a.from a.to a.count i.at i.counter i.invariant.0 c.loop-test.false
