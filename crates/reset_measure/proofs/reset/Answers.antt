-- `reset_measure::reset` meets its contract. Assumes nothing.
use mathlib.Core.Path.{refl, sym}
use Rattle.std.proofs.Common.{rules}
use Rattle.std.specs.Prelude.{Err}
use lib.ListN.{length, take}
use lib.Seq.{slice}
use Rattle.operands.specs.Meanings.{operands_of, the_wire, WireAt}
use Rattle.records.specs.Outcomes.{ActionNumbers}
use Rattle.language.specs.Machine.{do_reset}
use Rattle.language.specs.Result.{op, first_number, second_number, halvings_of}
use Rattle.gates.specs.Gates.{frame_in}
use Rattle.gates.proofs.GateRuns.{does_as, fault_ends}
use Rattle.gates.proofs.Stops.{stopped, unstopped, said}
use Rattle.reset_measure.specs.Tops.{reset_at}
use Rattle.reset_measure.proofs.Runs.{reset_wire, reset_fault}
use Rattle.reset_measure.proofs.reset.Goals as goal

pub returns-in_err-w : goal.returns-in_err-w
returns-in_err-w c =
    let a = c.args in
    let o = a.out.now in
    let s = slice a.from a.to a.bytes.now in
    let v = take a.mode.variables a.vars.now in
    let ms = operands_of a.scope a.regs.now in
    let k = stopped _ a.place a.st c.wire_at.result c.map_err.result _ (λ f z h. search rules) c.map_err.ensures.cases c.in_err-w.was in
    let u : WireAt s 0 v ms (Err k.fault) = rw (c.from-many.ensures, k.was) at c.wire_at.ensures in
    rw (said k c.from_residual.result c.from_residual.ensures.1)
    (does_as _ _ _ _ _ (reset_at a.mode (length o) a.place s (frame_in a.mode v a.scope a.regs.now)) (reset_fault a.mode (length o) a.place a.bytes.now a.from a.to _ _ v ms k.fault u) (fault_ends o a.st k.fault a.place))

pub returns : goal.returns
unfolding op first_number second_number halvings_of
returns c =
    let a = c.args in
    let n = length a.out.now in
    let s = slice a.from a.to a.bytes.now in
    let v = take a.mode.variables a.vars.now in
    let ms = operands_of a.scope a.regs.now in
    let f = frame_in a.mode v a.scope a.regs.now in
    let w = c.in_ok-w.w in
    let e = unstopped _ c.wire_at.result c.map_err.result w c.map_err.ensures.cases c.in_ok-w.was in
    let u : WireAt s 0 v ms c.wire_at.result = rw c.from-many.ensures at c.wire_at.ensures in
    let act = do_reset (the_wire w.0) in
    let acts : ActionNumbers act c.number.result w.0 0 0 = record { its_code = sym c.number.ensures; its_first = refl; its_second = refl; its_halvings = refl } in
    does_as _ _ _ _ _ (reset_at a.mode n a.place s f) (reset_wire a.mode n a.place a.bytes.now a.from a.to _ _ v ms _ w u e) (c.write_record.ensures a.mode.limit f act refl acts)
