-- `unroller::inmost` meets its contract. Assumes nothing.
use Prim.Native.Nat.{◌+◌}
use mathlib.Core.Path.{◌≡◌, sym, ◌∙◌}
use native.Mathlib.Omega.{arith}
use lib.Seq.{slice}
use Rattle.std.specs.Prelude.{Ok}
use Rattle.fields.specs.Header.{fields_at, header_of}
use Rattle.gates.specs.Gates.{inner_of, StepTaken}
use Rattle.unroller.proofs.Statements.{one_steps}
use Rattle.unroller.proofs.InnerReverses.{inside_self, content, inside_more}
use Rattle.unroller.proofs.inmost.Goals as goal

pub loop-r-init : goal.loop-r-init
loop-r-init c =
    let a = c.args in
    inside_self a.bytes.now a.base a.to a.e c.requires

pub header_at-requires : goal.header_at-requires
header_at-requires c =
    c.loop-r.invariant.able.ready.within

pub returns-in_default : goal.returns-in_default
returns-in_default c =
    c.loop-r.invariant

pub overflow_add-from : goal.overflow_add-from
overflow_add-from c =
    let a = c.args in
    let i = c.loop-r in
    let is : header_of i.r.from (fields_at a.bytes.now i.r.from a.to) ≡ Ok (record { tag = c.in-Ok.header.tag; next = c.in-Ok.header.next }) = sym c.header_at.ensures ∙ c.in-Ok.is in
    let w = content a.bytes.now a.base a.to a.e i.r i.invariant c.loop-r-test.true _ _ is in
    omega (arith, w.low, w.near, w.few, w.deep)

pub overflow_add-place : goal.overflow_add-place
overflow_add-place c =
    let a = c.args in
    let i = c.loop-r in
    let is : header_of i.r.from (fields_at a.bytes.now i.r.from a.to) ≡ Ok (record { tag = c.in-Ok.header.tag; next = c.in-Ok.header.next }) = sym c.header_at.ensures ∙ c.in-Ok.is in
    let w = content a.bytes.now a.base a.to a.e i.r i.invariant c.loop-r-test.true _ _ is in
    omega (arith, w.low, w.near, w.few, w.deep)

pub inner-mode-requires : goal.inner-mode-requires
inner-mode-requires c =
    let a = c.args in
    let i = c.loop-r in
    let is : header_of i.r.from (fields_at a.bytes.now i.r.from a.to) ≡ Ok (record { tag = c.in-Ok.header.tag; next = c.in-Ok.header.next }) = sym c.header_at.ensures ∙ c.in-Ok.is in
    let w = content a.bytes.now a.base a.to a.e i.r i.invariant c.loop-r-test.true _ _ is in
    omega (arith, w.low, w.near, w.few, w.deep)

pub enter-requires : goal.enter-requires
enter-requires c =
    let a = c.args in
    let i = c.loop-r in
    let is : header_of i.r.from (fields_at a.bytes.now i.r.from a.to) ≡ Ok (record { tag = c.in-Ok.header.tag; next = c.in-Ok.header.next }) = sym c.header_at.ensures ∙ c.in-Ok.is in
    let w = content a.bytes.now a.base a.to a.e i.r i.invariant c.loop-r-test.true _ _ is in
    record {
      from_le_to = (w.low, i.invariant.able.ready.within);
      place_le_longest_program = omega (arith, w.near);
    }

pub returns-in_default-enter : goal.returns-in_default-enter
returns-in_default-enter c =
    c.loop-r.invariant

pub loop-r-smaller : goal.loop-r-smaller
loop-r-smaller c =
    let a = c.args in
    let i = c.loop-r in
    let is : header_of i.r.from (fields_at a.bytes.now i.r.from a.to) ≡ Ok (record { tag = c.in-Ok.header.tag; next = c.in-Ok.header.next }) = sym c.header_at.ensures ∙ c.in-Ok.is in
    let w = content a.bytes.now a.base a.to a.e i.r i.invariant c.loop-r-test.true _ _ is in
    omega (arith, w.low)

pub loop-r-preserved : goal.loop-r-preserved
loop-r-preserved c =
    let a = c.args in
    let i = c.loop-r in
    let is : header_of i.r.from (fields_at a.bytes.now i.r.from a.to) ≡ Ok (record { tag = c.in-Ok.header.tag; next = c.in-Ok.header.next }) = sym c.header_at.ensures ∙ c.in-Ok.is in
    let s = c.in-Ok-enter.st in
    let n = inner_of i.r.mode 37 in
    let held = slice (i.r.from + 3) a.to a.bytes.now in
    let q : StepTaken n c.in-Ok.header.tag held i.r.st s = one_steps n c.in-Ok.header.tag held _ i.r.st s c.enter.result (rw c.inner-mode.ensures at c.enter.ensures) c.in-Ok-enter.is in
    rw c.inner-mode.ensures (inside_more a.bytes.now a.base a.to a.e i.r i.invariant c.loop-r-test.true _ _ is (omega arith) (record { low = omega arith; high = omega arith }) s q)

pub returns : goal.returns
returns c =
    c.loop-r.invariant
