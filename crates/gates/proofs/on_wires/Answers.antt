-- `gates::on_wires` meets its contract. Assumes nothing.
use mathlib.Core.Path.{refl, ◌∙◌, sym}
use borrow.Author.Tests.{eqb-true, eqb-false}
use Rattle.std.proofs.Common.{rules}
use Rattle.std.specs.Prelude.{Err}
use lib.ListN.{length, take}
use lib.Seq.{slice}
use Rattle.language.specs.Read.{fields}
use Rattle.operands.specs.Meanings.{operands_of, the_wire, WireAt}
use Rattle.refusals.specs.declared.Reason.TheVariants.{OneWireTwice}
use Rattle.records.proofs.Sequences.{does_end, does_stuck}
use Rattle.gates.specs.Gates.{on_wire, on_two_wires, frame_in}
use Rattle.gates.proofs.GateRuns.{does_as, wire_ends, one_wire_lem, two_none, second_told, two_same, two_wires, on_single, on_pair, on_none}
use Rattle.gates.proofs.Stops.{stopped, unstopped, said}
use Rattle.gates.proofs.on_wires.Goals as goal

pub returns-in_err-x : goal.returns-in_err-x
returns-in_err-x c =
    let a = c.args in
    let k = stopped _ a.place a.st c.wire_at.result c.map_err.result _ (λ f z h. search rules) c.map_err.ensures.cases c.in_err-x.was in
    let u : WireAt (slice a.from a.to a.bytes.now) 0 (take a.mode.variables a.vars.now) (operands_of a.scope a.regs.now) (Err k.fault) = rw (c.from-many.ensures, k.was) at c.wire_at.ensures in
    rw (said k c.from_residual.result c.from_residual.ensures.1) (on_none a.single a.out.now a.st a.mode a.place a.bytes.now a.from a.to _ _ _ _ k.fault u a.op a.k)

pub returns-then-single : goal.returns-then-single
returns-then-single c =
    let a = c.args in
    let s = slice a.from a.to a.bytes.now in
    let f = frame_in a.mode (take a.mode.variables a.vars.now) a.scope a.regs.now in
    let x = c.in_ok-x.x in
    let e = unstopped _ c.wire_at.result c.map_err.result x c.map_err.ensures.cases c.in_ok-x.was in
    let u : WireAt s 0 (take a.mode.variables a.vars.now) (operands_of a.scope a.regs.now) c.wire_at.result = rw c.from-many.ensures at c.wire_at.ensures in
    on_single a.single a.out.now a.st _ _ a.mode a.place s f a.op a.k c.if-single.true (λ t act acts. does_as _ _ _ _ _ (on_wire a.mode (length a.out.now) a.place (fields t s) f a.k act)
    (one_wire_lem a.mode (length a.out.now) a.place a.bytes.now a.from a.to _ _ _ _ _ u t a.k act x e) (c.write_record.ensures a.mode.limit f (act (the_wire x.0)) refl (acts x.0)))

pub returns-in_default : goal.returns-in_default
returns-in_default c =
    let a = c.args in
    let l = a.bytes.now in
    let o = a.out.now in
    let s = slice a.from a.to l in
    let v = take a.mode.variables a.vars.now in
    let ms = operands_of a.scope a.regs.now in
    let f = frame_in a.mode v a.scope a.regs.now in
    let u : WireAt s 0 v ms c.wire_at.result = rw c.from-many.ensures at c.wire_at.ensures in
    on_pair a.single o a.st _ _ a.mode a.place s f a.op a.k c.if-single.false (λ t act acts. does_as _ _ _ _ _ (on_two_wires a.mode (length o) a.place (fields t s) f a.k act)
    (two_none a.mode (length o) a.place l a.from a.to _ _ v ms _ u t a.k act (sym c.header_at.ensures ∙ c.in_default.is)) (does_stuck o a.st _))

pub returns-in_err-y : goal.returns-in_err-y
returns-in_err-y c =
    let a = c.args in
    let l = a.bytes.now in
    let o = a.out.now in
    let s = slice a.from a.to l in
    let v = take a.mode.variables a.vars.now in
    let ms = operands_of a.scope a.regs.now in
    let f = frame_in a.mode v a.scope a.regs.now in
    let u : WireAt s 0 v ms c.wire_at.result = rw c.from-many.ensures at c.wire_at.ensures in
    let x = c.in_ok-x.x in
    let e = unstopped _ c.wire_at.result c.map_err.result x c.map_err.ensures.cases c.in_ok-x.was in
    let mid = c.in-Ok.header.next in
    let w : WireAt (slice mid a.to l) 0 v ms c.wire_at-2.result = rw c.from-many.ensures at c.wire_at-2.ensures in
    let h = sym c.header_at.ensures ∙ c.in-Ok.is in
    let k = stopped _ a.place a.st c.wire_at-2.result c.map_err-2.result _ (λ f z h. search rules) c.map_err-2.ensures.cases c.in_err-y.was in
    rw (said k c.from_residual-in_err-y.result c.from_residual-in_err-y.ensures.1)
    (on_pair a.single o a.st _ _ a.mode a.place s f a.op a.k c.if-single.false (λ t act acts. does_as _ _ _ _ _ (on_two_wires a.mode (length o) a.place (fields t s) f a.k act)
    (second_told a.mode (length o) a.place l a.from a.to _ _ v ms _ u t a.k act _ mid h x e (Err k.fault) (rw k.was at w)) (wire_ends o a.st k.fault a.place _)))

pub returns-then-eq : goal.returns-then-eq
returns-then-eq c =
    let a = c.args in
    let l = a.bytes.now in
    let o = a.out.now in
    let s = slice a.from a.to l in
    let v = take a.mode.variables a.vars.now in
    let ms = operands_of a.scope a.regs.now in
    let f = frame_in a.mode v a.scope a.regs.now in
    let u : WireAt s 0 v ms c.wire_at.result = rw c.from-many.ensures at c.wire_at.ensures in
    let x = c.in_ok-x.x in
    let e = unstopped _ c.wire_at.result c.map_err.result x c.map_err.ensures.cases c.in_ok-x.was in
    let mid = c.in-Ok.header.next in
    let w : WireAt (slice mid a.to l) 0 v ms c.wire_at-2.result = rw c.from-many.ensures at c.wire_at-2.ensures in
    let h = sym c.header_at.ensures ∙ c.in-Ok.is in
    let y = c.in_ok-y.y in
    let i = unstopped _ c.wire_at-2.result c.map_err-2.result y c.map_err-2.ensures.cases c.in_ok-y.was in
    on_pair a.single o a.st _ _ a.mode a.place s f a.op a.k c.if-single.false (λ t act acts. does_as _ _ _ _ _ (on_two_wires a.mode (length o) a.place (fields t s) f a.k act)
    (two_same a.mode (length o) a.place l a.from a.to _ _ v ms _ u t a.k act _ mid h x e _ w y i (eqb-true x.0 y.0 (sym c.eq.ensures ∙ c.if-eq.true))) (does_end o a.st OneWireTwice a.place))

pub returns : goal.returns
returns c =
    let a = c.args in
    let l = a.bytes.now in
    let o = a.out.now in
    let s = slice a.from a.to l in
    let v = take a.mode.variables a.vars.now in
    let ms = operands_of a.scope a.regs.now in
    let f = frame_in a.mode v a.scope a.regs.now in
    let u : WireAt s 0 v ms c.wire_at.result = rw c.from-many.ensures at c.wire_at.ensures in
    let x = c.in_ok-x.x in
    let e = unstopped _ c.wire_at.result c.map_err.result x c.map_err.ensures.cases c.in_ok-x.was in
    let mid = c.in-Ok.header.next in
    let w : WireAt (slice mid a.to l) 0 v ms c.wire_at-2.result = rw c.from-many.ensures at c.wire_at-2.ensures in
    let h = sym c.header_at.ensures ∙ c.in-Ok.is in
    let y = c.in_ok-y.y in
    let i = unstopped _ c.wire_at-2.result c.map_err-2.result y c.map_err-2.ensures.cases c.in_ok-y.was in
    on_pair a.single o a.st _ _ a.mode a.place s f a.op a.k c.if-single.false (λ t act acts. does_as _ _ _ _ _ (on_two_wires a.mode (length o) a.place (fields t s) f a.k act)
    (two_wires a.mode (length o) a.place l a.from a.to _ _ v ms _ u t a.k act _ mid h x e _ w y i (eqb-false x.0 y.0 (sym c.eq.ensures ∙ c.if-eq.false)))
    (c.write_record-2.ensures a.mode.limit f (act (the_wire x.0) (the_wire y.0)) refl (acts x.0 y.0)))
