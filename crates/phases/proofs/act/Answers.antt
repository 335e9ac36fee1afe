-- `phases::act` meets its contract. Assumes nothing.
use mathlib.Core.Path.{refl}
use Rattle.std.proofs.Common.{rules}
use Rattle.std.specs.Prelude.{Ok, Err}
use lib.ListN.{length, take}
use lib.Seq.{slice}
use Rattle.indexes.specs.Values.{fault_told}
use Rattle.gates.specs.Gates.{frame_in, stop_of}
use Rattle.gates.proofs.GateRuns.{does_as, fault_ends}
use Rattle.gates.proofs.Stops.{stopped, unstopped, said}
use Rattle.phases.specs.Phases.{action_at, Parted, PartsOf}
use Rattle.phases.proofs.PhaseRuns.{parts_do}
use Rattle.phases.proofs.act.Goals as goal

pub returns-in_err-parts : goal.returns-in_err-parts
unfolding Parted
returns-in_err-parts c =
    let a = c.args in
    let l = a.bytes.now in
    let o = a.out.now in
    let v = take a.mode.variables a.vars.now in
    let f = frame_in a.mode v a.scope a.regs.now in
    let k = stopped _ a.place a.st c.parts_of.result c.map_err.result _ (λ f z h. search rules) c.map_err.ensures.cases c.in_err-parts.was in
    let h : PartsOf a.tag l a.from a.to v a.mode.reversed (Err k.fault) = rw (c.from-many.ensures, k.was) at c.parts_of.ensures in
    rw (said k c.from_residual.result c.from_residual.ensures.1)
    (does_as o a.st o (Err (stop_of k.fault a.place a.st)) (fault_told a.place k.fault) (action_at a.mode (length o) a.tag a.place (slice a.from a.to l) f) (h a.mode (length o) a.place f refl refl) (fault_ends o a.st k.fault a.place))

pub returns : goal.returns
returns c =
    let a = c.args in
    let l = a.bytes.now in
    let o = a.out.now in
    let v = take a.mode.variables a.vars.now in
    let f = frame_in a.mode v a.scope a.regs.now in
    let q = c.in_ok-parts.parts in
    let e = unstopped _ c.parts_of.result c.map_err.result q c.map_err.ensures.cases c.in_ok-parts.was in
    let h : PartsOf a.tag l a.from a.to v a.mode.reversed (Ok q) = rw (c.from-many.ensures, e) at c.parts_of.ensures in
    parts_do o a.st _ _ a.mode a.tag a.place l a.from a.to f q (h a.mode (length o) a.place f refl refl) (rw c.number.ensures at c.on_wires.ensures)
