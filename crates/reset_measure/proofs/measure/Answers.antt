-- `reset_measure::measure` meets its contract. Assumes nothing.
use mathlib.Core.Path.{refl, ◌∙◌, sym}
use Rattle.std.proofs.Common.{rules}
use lib.ListN.{length, take}
use lib.Seq.{slice}
use Rattle.operands.specs.Meanings.{operands_of, the_wire, the_bit, WireAt, BitAt}
use Rattle.records.specs.Outcomes.{ActionNumbers}
use Rattle.records.proofs.Sequences.{does_stuck}
use Rattle.language.specs.Machine.{do_measure}
use Rattle.language.specs.Result.{op, first_number, second_number, halvings_of}
use Rattle.gates.specs.Gates.{frame_in}
use Rattle.gates.proofs.GateRuns.{does_as, fault_ends}
use Rattle.gates.proofs.Stops.{stopped, unstopped, said}
use Rattle.reset_measure.specs.Tops.{measure_at}
use Rattle.reset_measure.proofs.Runs.{measure_none, measure_first_fault, measure_second_fault, measure_two}
use Rattle.reset_measure.proofs.measure.Goals as goal

pub returns-in_default : goal.returns-in_default
returns-in_default c =
    let a = c.args in
    let o = a.out.now in
    let v = take a.mode.variables a.vars.now in
    does_as _ _ _ _ _ (measure_at a.mode (length o) a.place (slice a.from a.to a.bytes.now) (frame_in a.mode v a.scope a.regs.now))
    (measure_none a.mode (length o) a.place a.bytes.now a.from a.to _ _ v (operands_of a.scope a.regs.now) (sym c.header_at.ensures ∙ c.in_default.is)) (does_stuck o a.st _)

pub returns-in_err-x : goal.returns-in_err-x
returns-in_err-x c =
    let a = c.args in
    let o = a.out.now in
    let s = slice a.from a.to a.bytes.now in
    let v = take a.mode.variables a.vars.now in
    let ms = operands_of a.scope a.regs.now in
    let u : WireAt s 0 v ms c.wire_at.result = rw c.from-many.ensures at c.wire_at.ensures in
    let k = stopped _ a.place a.st c.wire_at.result c.map_err.result _ (λ f z h. search rules) c.map_err.ensures.cases c.in_err-x.was in
    rw (said k c.from_residual.result c.from_residual.ensures.1)
    (does_as _ _ _ _ _ (measure_at a.mode (length o) a.place s (frame_in a.mode v a.scope a.regs.now))
    (measure_first_fault a.mode (length o) a.place a.bytes.now a.from a.to _ _ v ms _ _ (sym c.header_at.ensures ∙ c.in-Ok.is) _ u k.fault k.was) (fault_ends o a.st k.fault a.place))

pub returns-in_err-y : goal.returns-in_err-y
returns-in_err-y c =
    let a = c.args in
    let o = a.out.now in
    let s = slice a.from a.to a.bytes.now in
    let v = take a.mode.variables a.vars.now in
    let ms = operands_of a.scope a.regs.now in
    let u : WireAt s 0 v ms c.wire_at.result = rw c.from-many.ensures at c.wire_at.ensures in
    let x = c.in_ok-x.x in
    let e = unstopped _ c.wire_at.result c.map_err.result x c.map_err.ensures.cases c.in_ok-x.was in
    let w : BitAt (slice c.in-Ok.header.next a.to a.bytes.now) 0 v ms c.bit_at.result = rw c.from-many.ensures at c.bit_at.ensures in
    let k = stopped _ a.place a.st c.bit_at.result c.map_err-2.result _ (λ f z h. search rules) c.map_err-2.ensures.cases c.in_err-y.was in
    rw (said k c.from_residual-in_err-y.result c.from_residual-in_err-y.ensures.1)
    (does_as _ _ _ _ _ (measure_at a.mode (length o) a.place s (frame_in a.mode v a.scope a.regs.now))
    (measure_second_fault a.mode (length o) a.place a.bytes.now a.from a.to _ _ v ms _ _ (sym c.header_at.ensures ∙ c.in-Ok.is) _ u x e _ w k.fault k.was) (fault_ends o a.st k.fault a.place))

pub returns : goal.returns
unfolding op first_number second_number halvings_of
returns c =
    let a = c.args in
    let n = length a.out.now in
    let s = slice a.from a.to a.bytes.now in
    let v = take a.mode.variables a.vars.now in
    let ms = operands_of a.scope a.regs.now in
    let f = frame_in a.mode v a.scope a.regs.now in
    let u : WireAt s 0 v ms c.wire_at.result = rw c.from-many.ensures at c.wire_at.ensures in
    let x = c.in_ok-x.x in
    let e = unstopped _ c.wire_at.result c.map_err.result x c.map_err.ensures.cases c.in_ok-x.was in
    let w : BitAt (slice c.in-Ok.header.next a.to a.bytes.now) 0 v ms c.bit_at.result = rw c.from-many.ensures at c.bit_at.ensures in
    let y = c.in_ok-y.y in
    let i = unstopped _ c.bit_at.result c.map_err-2.result y c.map_err-2.ensures.cases c.in_ok-y.was in
    let act = do_measure (the_wire x.0) (the_bit y.0) in
    let acts : ActionNumbers act c.number.result x.0 y.0 0 = record { its_code = sym c.number.ensures; its_first = refl; its_second = refl; its_halvings = refl } in
    does_as _ _ _ _ _ (measure_at a.mode n a.place s f) (measure_two a.mode n a.place a.bytes.now a.from a.to _ _ v ms _ _ (sym c.header_at.ensures ∙ c.in-Ok.is) _ u x e _ w y i)
    (c.write_record.ensures a.mode.limit f act refl acts)
