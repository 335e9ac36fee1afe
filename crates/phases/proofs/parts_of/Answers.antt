-- `phases::parts_of` meets its contract. Assumes nothing.
use mathlib.Core.Bool.{true, false}
use lib.ListN.{take}
use Rattle.refusals.proofs.Handed.{handed}
use Rattle.records.specs.declared.Op.TheVariants.{Cx}
use Rattle.phases.proofs.PhaseRuns.{parts_by, parts_cx, parts_gate, parts_fault, parts_phase, parts_cphase}
use Rattle.phases.proofs.parts_of.Goals as goal

pub returns-then-tag-eq-CX : goal.returns-then-tag-eq-CX
returns-then-tag-eq-CX c =
    let a = c.args in
    let v = take a.many a.vars.now in
    parts_by a.tag a.bytes.now a.from a.to v a.reversed (record { single = false; op = Cx; k = 0; next = a.from }) (parts_cx a.tag a.bytes.now a.from a.to v a.reversed c.if-tag-eq-CX.true)

pub returns-then-tag-lt-CALL : goal.returns-then-tag-lt-CALL
returns-then-tag-lt-CALL c =
    let a = c.args in
    let v = take a.many a.vars.now in
    parts_by a.tag a.bytes.now a.from a.to v a.reversed (record { single = true; op = c.code.result; k = 0; next = a.from })
    (rw c.code.ensures (parts_gate a.tag a.bytes.now a.from a.to v a.reversed c.if-tag-eq-CX.false c.if-tag-lt-CALL.true))

pub returns-in_err-k : goal.returns-in_err-k
returns-in_err-k c =
    let a = c.args in
    rw (handed c.from_residual.result c.from_residual.ensures.1)
    (parts_fault a.tag a.bytes.now a.from a.to (take a.many a.vars.now) a.reversed c.if-tag-lt-CALL.false c.halvings_of.result c.halvings_of.ensures c.in_err-k.was)

pub returns-then-tag-eq-PHASE : goal.returns-then-tag-eq-PHASE
returns-then-tag-eq-PHASE c =
    let a = c.args in
    let v = take a.many a.vars.now in
    let h = c.in_ok-k.field-0 in
    parts_by a.tag a.bytes.now a.from a.to v a.reversed (record { single = true; op = c.phase_op.result; k = h.k; next = h.next })
    (rw c.phase_op.ensures (parts_phase a.tag a.bytes.now a.from a.to v a.reversed c.if-tag-lt-CALL.false c.halvings_of.result c.halvings_of.ensures h.k h.next c.in_ok-k.was c.if-tag-eq-PHASE.true))

pub returns : goal.returns
returns c =
    let a = c.args in
    let v = take a.many a.vars.now in
    let h = c.in_ok-k.field-0 in
    parts_by a.tag a.bytes.now a.from a.to v a.reversed (record { single = false; op = c.cphase_op.result; k = h.k; next = h.next })
    (rw c.cphase_op.ensures (parts_cphase a.tag a.bytes.now a.from a.to v a.reversed c.if-tag-lt-CALL.false c.halvings_of.result c.halvings_of.ensures h.k h.next c.in_ok-k.was c.if-tag-eq-PHASE.false))
