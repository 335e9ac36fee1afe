-- `runs::conditional` meets its contract. Assumes nothing.
use Prim.Native.Nat.{◌+◌, ◌<◌}
use mathlib.Core.Path.{refl, sym, ap, ◌∙◌}
use mathlib.Core.List.{[]}
use native.Mathlib.Omega.{arith}
use lib.Seq.{slice, length-slice}
use lib.ListN.{length, take}
use Rattle.std.proofs.Common.{rules}
use Rattle.std.specs.Prelude.{Err}
use Rattle.language.specs.Read.{read}
use Rattle.language.specs.Machine.{all_declared}
use Rattle.refusals.proofs.Handed.{handed}
use Rattle.records.proofs.Sequences.{does_stuck}
use Rattle.gates.proofs.GateRuns.{does_as, fault_ends}
use Rattle.gates.proofs.Stops.{stopped, unstopped}
use Rattle.gates.specs.Gates.{frame_in}
use Rattle.fields.proofs.Between.{in_whole, first_byte}
use Rattle.runs.specs.TopFields.{top_mode, if_at}
use Rattle.runs.proofs.TopTags.{if_fails, if_bit, if_none}
use Rattle.runs.proofs.conditional.Goals as goal

pub returns-in_default : goal.returns-in_default
returns-in_default c =
    let a = c.args in
    let l = a.program.now in
    let room = length a.out.now in
    let fs = take a.seen (all_declared a.limit room (read l) []) in
    let run = if_at a.limit room a.at (slice (a.at + 3) a.to l) fs (frame_in (top_mode a.limit a.seen 0) [] a.scope a.regs.now) in
    does_as _ _ _ _ _ run (if_none a.limit room a.seen a.regs.now a.scope a.at l (a.at + 3) a.to fs (sym c.header_at.ensures ∙ c.in_default.is)) (does_stuck a.out.now a.st _)

pub bounds-program-from : goal.bounds-program-from
bounds-program-from c =
    omega (arith, c.requires.if_ready.long, length-slice (c.args.at + 3) c.args.to c.args.program.now c.requires.whole_field.high, c.requires.whole_field.high)

pub condition-requires : goal.condition-requires
condition-requires c =
    let a = c.args in
    let high = c.requires.whole_field.high in
    let low : a.at + 3 < a.to = omega (arith, c.requires.if_ready.long, length-slice (a.at + 3) a.to a.program.now high) in
    omega (arith, c.requires.if_ready.value, first_byte a.program.now (a.at + 3) a.to low high)

pub once-requires-clause-from_le_to : goal.once-requires-clause-from_le_to
once-requires-clause-from_le_to c =
    let w = in_whole c.args.program.now (c.args.at + 3 + 1) c.args.to _ c.in-Ok.header.next (sym c.header_at.ensures ∙ c.in-Ok.is) in
    (w.high, c.requires.whole_field.high)

pub returns-in_err-b : goal.returns-in_err-b
returns-in_err-b c =
    let a = c.args in
    let l = a.program.now in
    let room = length a.out.now in
    let fs = take a.seen (all_declared a.limit room (read l) []) in
    let run = if_at a.limit room a.at (slice (a.at + 3) a.to l) fs (frame_in (top_mode a.limit a.seen 0) [] a.scope a.regs.now) in
    let k = stopped _ a.at a.st c.bit_at.result c.map_err.result _ (λ f z h. search rules) c.map_err.ensures.cases c.in_err-b.was in
    rw (handed c.from_residual.result c.from_residual.ensures.1 ∙ ap Err k.stops) (does_as _ _ _ _ _ run (if_fails a.limit room a.seen a.regs.now a.scope a.at l (a.at + 3) a.to fs c.bit_at.result c.bit_at.ensures k.fault k.was) (fault_ends a.out.now a.st k.fault a.at))

pub returns : goal.returns
returns c =
    let a = c.args in
    let l = a.program.now in
    let room = length a.out.now in
    let fs = take a.seen (all_declared a.limit room (read l) []) in
    let run = if_at a.limit room a.at (slice (a.at + 3) a.to l) fs (frame_in (top_mode a.limit a.seen 0) [] a.scope a.regs.now) in
    let high = c.requires.whole_field.high in
    let low : a.at + 3 < a.to = omega (arith, c.requires.if_ready.long, length-slice (a.at + 3) a.to l high) in
    let b = c.in_ok-b.b in
    let known = unstopped _ c.bit_at.result c.map_err.result b c.map_err.ensures.cases c.in_ok-b.was in
    does_as _ _ _ _ _ run (if_bit a.limit room a.seen a.regs.now a.scope a.at l (a.at + 3) a.to fs c.bit_at.result c.bit_at.ensures b c.condition.result _ c.in-Ok.header.next refl low high known c.condition.ensures (sym c.header_at.ensures ∙ c.in-Ok.is))
    (rw c.under_mode-mode.ensures at c.once.ensures)
