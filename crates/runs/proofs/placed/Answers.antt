-- `runs::placed` meets its contract. Assumes nothing.
use Prim.Native.Nat.{◌+◌}
use native.Mathlib.Omega.{arith}
use mathlib.Core.Path.{ap, ◌∙◌}
use lib.ListN.{length, take, get_or}
use lib.Seq.{slice}
use Rattle.std.specs.Prelude.{Err}
use Rattle.language.specs.Machine.{instance_run}
use Rattle.refusals.specs.Reasons.{number_of}
use Rattle.records.specs.Outcomes.{condition_of}
use Rattle.records.proofs.Sequences.{does_end, does_stuck}
use Rattle.fields.specs.Table.{past_of}
use Rattle.gates.proofs.GateRuns.{does_as}
use Rattle.gates.specs.Gates.{direction_of}
use Rattle.layout.specs.Layout.{LaysOut}
use Rattle.layout.proofs.Instances.{laid_done, laid_refused, laid_stuck}
use Rattle.runs.specs.Whole.{started, family_with}
use Rattle.runs.proofs.InstanceRuns.{instance_runs, instance_ends, instance_stuck, ends_near}
use Rattle.runs.proofs.placed.Goals as goal

pub overflow_cast-result : goal.overflow_cast-result
overflow_cast-result c =
    let a = c.args in
    let l = a.program.now in
    let room = length a.out.now in
    let values = take a.many a.values.now in
    let lays : LaysOut (slice (a.at + 5) (past_of l a.at) l) (a.at + 5) (get_or l (a.at + 4) 0) values c.lay_out.result = rw (c.past-to.ensures, c.from-count.ensures, c.from.ensures) at c.lay_out.ensures in
    let k = c.in-Err-Refused in
    omega (arith, ends_near a.limit room l a.k a.at c.requires.entry values (number_of k.reason) k.place (laid_refused _ _ _ _ _ lays a.at k.reason k.place (k.is ∙ ap Err k.field-0-is)), c.requires.tabled.short)

pub once-requires : goal.once-requires
once-requires c =
    record {
      from_le_to = (rw c.past-to.ensures c.body_start-body.ensures.high, rw c.past-to.ensures c.requires.entry.within);
      levels_bound = rw c.top_mode-mode.ensures (omega (arith, c.requires.many_le_most_variables));
      tabled = rw c.top_mode-mode.ensures c.requires.tabled;
    }

pub returns-in-Err-Refused : goal.returns-in-Err-Refused
returns-in-Err-Refused c =
    let a = c.args in
    let l = a.program.now in
    let room = length a.out.now in
    let values = take a.many a.values.now in
    let lays : LaysOut (slice (a.at + 5) (past_of l a.at) l) (a.at + 5) (get_or l (a.at + 4) 0) values c.lay_out.result = rw (c.past-to.ensures, c.from-count.ensures, c.from.ensures) at c.lay_out.ensures in
    let run = instance_run (family_with a.limit room l a.k a.at) values in
    let k = c.in-Err-Refused in
    does_as _ _ _ _ _ run (instance_ends a.limit room l a.k a.at c.requires.entry values (number_of k.reason) k.place (laid_refused _ _ _ _ _ lays a.at k.reason k.place (k.is ∙ ap Err k.field-0-is))) (does_end a.out.now started k.reason k.place)

pub returns-in-Err-Stuck : goal.returns-in-Err-Stuck
returns-in-Err-Stuck c =
    let a = c.args in
    let l = a.program.now in
    let room = length a.out.now in
    let values = take a.many a.values.now in
    let lays : LaysOut (slice (a.at + 5) (past_of l a.at) l) (a.at + 5) (get_or l (a.at + 4) 0) values c.lay_out.result = rw (c.past-to.ensures, c.from-count.ensures, c.from.ensures) at c.lay_out.ensures in
    let run = instance_run (family_with a.limit room l a.k a.at) values in
    does_as _ _ _ _ _ run (instance_stuck a.limit room l a.k a.at c.requires.entry values (laid_stuck _ _ _ _ _ lays a.at (c.in-Err-Stuck.is ∙ ap Err c.in-Err-Stuck.field-0-is))) (does_stuck a.out.now started _)

pub returns-in-Ok : goal.returns-in-Ok
unfolding direction_of condition_of
returns-in-Ok c =
    let a = c.args in
    let l = a.program.now in
    let room = length a.out.now in
    let values = take a.many a.values.now in
    let lays : LaysOut (slice (a.at + 5) (past_of l a.at) l) (a.at + 5) (get_or l (a.at + 4) 0) values c.lay_out.result = rw (c.past-to.ensures, c.from-count.ensures, c.from.ensures) at c.lay_out.ensures in
    let run = instance_run (family_with a.limit room l a.k a.at) values in
    does_as _ _ _ _ _ run (instance_runs a.limit room l a.k a.at c.requires.entry values _ c.body_start-body.result (laid_done _ _ _ _ _ lays a.at _ c.in-Ok.scope c.in-Ok.is) c.body_start-body.ensures) (rw (c.top_mode-mode.ensures, c.past-to.ensures) at c.once.ensures)
