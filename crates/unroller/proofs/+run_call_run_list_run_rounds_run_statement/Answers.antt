-- The cycle of calls meets its contracts. Assumes nothing.
use Prim.Native.Nat.{ℕ, ◌-◌, ◌<◌, ◌+◌}
use mathlib.Core.Path.{◌≡◌, refl, ap, ◌∙◌, sym, subst}
use mathlib.Core.List.{List}
use native.Mathlib.Omega.{arith}
use lib.ListN.{length, take}
use lib.Seq.{slice, length-slice}
use lib.IntN.{ℤ}
use mir.Syntax.{w64}
use mir.Val.{to_z, of_z}
use mir.ValLaws.{to_z-of_z}
use Rattle.std.proofs.Common.{rules}
use Rattle.std.specs.Prelude.{Err}
use Rattle.fields.specs.Table.{past_of}
use Rattle.refusals.proofs.Handed.{handed}
use Rattle.operands.specs.Meanings.{operands_of}
use Rattle.records.proofs.Sequences.{does_stuck, step_taken}
use Rattle.gates.specs.Gates.{frame_in, Repeated, inner_of, StepTaken}
use Rattle.gates.proofs.GateRuns.{does_as, fault_ends}
use Rattle.gates.proofs.Stops.{stopped, unstopped}
use Rattle.calls.specs.Families.{Entry}
use Rattle.calls.specs.Arguments.{Arguments}
use Rattle.calls.proofs.FamilyTable.{tabled_fewer}
use Rattle.field_walk.specs.Walks.{whole_of}
use Rattle.language.proofs.Integers.{range_back}
use Rattle.unroller.specs.Runs.{Often, one_run}
use Rattle.unroller.specs.CalledFamilies.{CallsFamily}
use Rattle.unroller.proofs.Bodies.{calls_family, calls_none, call_nothing, call_none, call_fails, call_begins, call_all}
use Rattle.unroller.proofs.Rounds.{round_turns, kept_still}
use Rattle.unroller.proofs.ListLoop as M
use Rattle.unroller.proofs.Loops.{inner_seen, inner_few, inner_stays, loop_fails, loop_opens}
use Rattle.unroller.proofs.InnerReverses.{inside_does, inside_stays}
use Rattle.unroller.proofs.Statements.{one_stops, one_steps, one_acts, has_body}
use Rattle.unroller.proofs.+run_call_run_list_run_rounds_run_statement.Goals as goal

pub run_call-returns-in_default : goal.run_call-returns-in_default
run_call-returns-in_default t c =
    let a = c.args in
    let l = a.bytes.now in
    let ready = c.requires.ready in
    let en = c.requires.enterable.0 in
    let g = a.program.now in
    let vs = take a.mode.variables a.vars.now in
    let room = length a.out.now in
    let none = calls_none a.tag a.from (slice a.from a.to l) (operands_of a.scope a.regs.now) c.called_family.result c.called_family.ensures c.in_default.is in
    λ s q. does_as _ _ _ _ _ (one_run a.mode room a.place a.tag (slice a.from a.to l) g (frame_in a.mode vs a.scope a.regs.now)) (call_nothing a.mode room a.base a.from a.to a.place a.tag l g vs a.scope a.regs.now ready en.deep c.requires.enterable.1 en.named none) (step_taken a.mode.limit room a.out.now s a.st a.place _ _ _ q.step.left q.step.same q.step.more (does_stuck a.out.now a.st _))

pub run_call-returns-then-mode-number : goal.run_call-returns-then-mode-number
run_call-returns-then-mode-number t c =
    let a = c.args in
    let l = a.bytes.now in
    let ready = c.requires.ready in
    let en = c.requires.enterable.0 in
    let g = a.program.now in
    let vs = take a.mode.variables a.vars.now in
    let room = length a.out.now in
    let h = c.in-Some.called in
    let named : CallsFamily a.tag a.from (slice a.from a.to l) (operands_of a.scope a.regs.now) h.number h.next = calls_family _ _ _ _ c.called_family.result c.called_family.ensures h c.in-Some.is in
    λ s q. does_as _ _ _ _ _ (one_run a.mode room a.place a.tag (slice a.from a.to l) g (frame_in a.mode vs a.scope a.regs.now)) (call_none a.mode room a.base a.from a.to a.place a.tag l g vs a.scope a.regs.now ready en.deep c.requires.enterable.1 h.number h.next named c.if-mode-number.true) (step_taken a.mode.limit room a.out.now s a.st a.place _ _ _ q.step.left q.step.same q.step.more (does_stuck a.out.now a.st _))

pub run_call-returns-in_err-taken : goal.run_call-returns-in_err-taken
run_call-returns-in_err-taken t c =
    let a = c.args in
    let l = a.bytes.now in
    let ready = c.requires.ready in
    let en = c.requires.enterable.0 in
    let g = a.program.now in
    let vs = take a.mode.variables a.vars.now in
    let room = length a.out.now in
    let h = c.in-Some.called in
    let named : CallsFamily a.tag a.from (slice a.from a.to l) (operands_of a.scope a.regs.now) h.number h.next = calls_family _ _ _ _ c.called_family.result c.called_family.ensures h c.in-Some.is in
    let below : h.number < a.mode.families_visible = c.if-mode-number.false in
    let at = c.listed-at.result in
    let e : Entry g h.number at = rw c.listed-at.ensures (c.requires.tabled.each h.number below) in
    let ar : Arguments (slice h.next a.to l) g at vs (operands_of a.scope a.regs.now) _ _ c.arguments.result = rw c.from-many.ensures at c.arguments.ensures in
    let k = stopped _ a.place a.st c.arguments.result c.map_err.result _ (λ f z h. search rules) c.map_err.ensures.cases c.in_err-taken.was in
    rw (handed c.from_residual.result c.from_residual.ensures.1 ∙ ap Err k.stops) (λ s q. does_as _ _ _ _ _ (one_run a.mode room a.place a.tag (slice a.from a.to l) g (frame_in a.mode vs a.scope a.regs.now)) (call_fails a.mode room a.base a.from a.to a.place a.tag l g vs a.scope a.regs.now ready en.deep c.requires.enterable.1 h.number h.next named at below e _ _ c.arguments.result ar k.fault k.was) (step_taken a.mode.limit room a.out.now s a.st a.place _ _ _ q.step.left q.step.same q.step.more (fault_ends a.out.now a.st k.fault a.place)))

pub run_call-body_of-body-requires-clause-body_from : goal.run_call-body_of-body-requires-clause-body_from
run_call-body_of-body-requires-clause-body_from t c =
    let a = c.args in
    let l = a.bytes.now in
    let ready = c.requires.ready in
    let en = c.requires.enterable.0 in
    let g = a.program.now in
    let vs = take a.mode.variables a.vars.now in
    let room = length a.out.now in
    let h = c.in-Some.called in
    let named : CallsFamily a.tag a.from (slice a.from a.to l) (operands_of a.scope a.regs.now) h.number h.next = calls_family _ _ _ _ c.called_family.result c.called_family.ensures h c.in-Some.is in
    let below : h.number < a.mode.families_visible = c.if-mode-number.false in
    let at = c.listed-at.result in
    let e : Entry g h.number at = rw c.listed-at.ensures (c.requires.tabled.each h.number below) in
    let ar : Arguments (slice h.next a.to l) g at vs (operands_of a.scope a.regs.now) _ _ c.arguments.result = rw c.from-many.ensures at c.arguments.ensures in
    let r = c.in_ok-taken.taken in
    let taken = unstopped _ c.arguments.result c.map_err.result r c.map_err.ensures.cases c.in_ok-taken.was in
    call_begins a.mode room a.base a.from a.to a.place a.tag l g vs a.scope a.regs.now ready en.deep c.requires.enterable.1 h.number h.next named at below e _ _ c.arguments.result ar r taken

pub run_call-run_list-requires : goal.run_call-run_list-requires
unfolding Often
run_call-run_list-requires t c =
    let a = c.args in
    let l = a.bytes.now in
    let ready = c.requires.ready in
    let en = c.requires.enterable.0 in
    let g = a.program.now in
    let vs = take a.mode.variables a.vars.now in
    let room = length a.out.now in
    let h = c.in-Some.called in
    let named : CallsFamily a.tag a.from (slice a.from a.to l) (operands_of a.scope a.regs.now) h.number h.next = calls_family _ _ _ _ c.called_family.result c.called_family.ensures h c.in-Some.is in
    let below : h.number < a.mode.families_visible = c.if-mode-number.false in
    let at = c.listed-at.result in
    let e : Entry g h.number at = rw c.listed-at.ensures (c.requires.tabled.each h.number below) in
    let ar : Arguments (slice h.next a.to l) g at vs (operands_of a.scope a.regs.now) _ _ c.arguments.result = rw c.from-many.ensures at c.arguments.ensures in
    let r = c.in_ok-taken.taken in
    let taken = unstopped _ c.arguments.result c.map_err.result r c.map_err.ensures.cases c.in_ok-taken.was in
    let bf = call_begins a.mode room a.base a.from a.to a.place a.tag l g vs a.scope a.regs.now ready en.deep c.requires.enterable.1 h.number h.next named at below e _ _ c.arguments.result ar r taken in
    let start = r.start in
    let part_is : c.body_of-body.result.now ≡ slice start (past_of g at) g = c.body_of-body.ensures in
    let long : length c.body_of-body.result.now ≡ past_of g at - start = ap (λ (x : List ℕ). length x) part_is ∙ length-slice start (past_of g at) g e.within in
    let tb = c.requires.tabled in
    rw c.entered-inner.ensures (omega (arith, c.decreases, below, long, tb.short, e.within), (record { few = omega (arith, e.variables); order = omega arith; within = omega arith; near = omega (arith, long, bf.high, e.within, tb.short); here = ready.here }, (tabled_fewer g a.table.now a.mode.families_visible h.number (omega (arith, below)) tb, refl)))

pub run_call-returns : goal.run_call-returns
run_call-returns t c =
    let a = c.args in
    let l = a.bytes.now in
    let ready = c.requires.ready in
    let en = c.requires.enterable.0 in
    let g = a.program.now in
    let vs = take a.mode.variables a.vars.now in
    let room = length a.out.now in
    let h = c.in-Some.called in
    let named : CallsFamily a.tag a.from (slice a.from a.to l) (operands_of a.scope a.regs.now) h.number h.next = calls_family _ _ _ _ c.called_family.result c.called_family.ensures h c.in-Some.is in
    let below : h.number < a.mode.families_visible = c.if-mode-number.false in
    let at = c.listed-at.result in
    let e : Entry g h.number at = rw c.listed-at.ensures (c.requires.tabled.each h.number below) in
    let ar : Arguments (slice h.next a.to l) g at vs (operands_of a.scope a.regs.now) _ _ c.arguments.result = rw c.from-many.ensures at c.arguments.ensures in
    let r = c.in_ok-taken.taken in
    let taken = unstopped _ c.arguments.result c.map_err.result r c.map_err.ensures.cases c.in_ok-taken.was in
    let start = r.start in
    let part_is : c.body_of-body.result.now ≡ slice start (past_of g at) g = c.body_of-body.ensures in
    let d = rw c.entered-inner.ensures at c.run_list.ensures in
    λ s q. does_as _ _ _ _ _ (one_run a.mode room a.place a.tag (slice a.from a.to l) g (frame_in a.mode vs a.scope a.regs.now)) (call_all a.mode room a.base a.from a.to a.place a.tag l g vs a.scope a.regs.now ready en.deep c.requires.enterable.1 h.number h.next named at below e _ _ c.arguments.result ar r taken c.scope_of.result c.scope_of.ensures c.body_of-body.result.now part_is) (step_taken a.mode.limit room a.out.now s a.st a.place _ _ _ q.step.left q.step.same q.step.more d.0)

pub run_list-loop-w-init : goal.run_list-loop-w-init
run_list-loop-w-init t c =
    let a = c.args in
    let l = a.bytes.now in
    let g = a.program.now in
    let X : ℤ = to_z w64 (of_z w64 a.start) in
    let often = subst (λ (z : ℤ). Often a.looping a.mode z a.total) (sym (to_z-of_z w64 a.start c.ranges.start)) c.requires.often in
    let ready = c.requires.ready in
    rw c.whole-w.ensures (M.starts a.looping a.mode a.base a.from a.to a.place X a.total l g a.vars.now a.scope a.regs.now a.out.now a.st often ready.order ready.within _)

pub run_list-returns-then-total-i : goal.run_list-returns-then-total-i
run_list-returns-then-total-i t c =
    let a = c.args in
    let l = a.bytes.now in
    let g = a.program.now in
    let X : ℤ = to_z w64 (of_z w64 a.start) in
    let same : X ≡ a.start = to_z-of_z w64 a.start c.ranges.start in
    let i = c.loop-w in
    (M.at_start a.looping a.mode a.base a.from a.to a.place X a.total l g a.vars.now a.scope a.regs.now a.out.now a.st a.start same _ _ (M.ends a.looping a.mode a.base a.from a.to a.place X a.total l g a.vars.now a.scope a.regs.now a.out.now a.st i.vars i.out i.cuts i.w i.i i.s i.invariant c.if-w.true c.if-total-i.true), i.invariant.kept)

pub run_list-begin_round-requires-clause-turns : goal.run_list-begin_round-requires-clause-turns
run_list-begin_round-requires-clause-turns t c =
    let a = c.args in
    let l = a.bytes.now in
    let g = a.program.now in
    let X : ℤ = to_z w64 (of_z w64 a.start) in
    let often = subst (λ (z : ℤ). Often a.looping a.mode z a.total) (sym (to_z-of_z w64 a.start c.ranges.start)) c.requires.often in
    round_turns a.looping a.mode X a.total c.loop-w.i often c.if-total-i.false

pub run_list-returns-in_err-s : goal.run_list-returns-in_err-s
run_list-returns-in_err-s t c =
    let a = c.args in
    let l = a.bytes.now in
    let g = a.program.now in
    let X : ℤ = to_z w64 (of_z w64 a.start) in
    let same : X ≡ a.start = to_z-of_z w64 a.start c.ranges.start in
    let i = c.loop-w in
    rw (handed c.from_residual.result c.from_residual.ensures.1) (M.at_start a.looping a.mode a.base a.from a.to a.place X a.total l g a.vars.now a.scope a.regs.now a.out.now a.st a.start same _ _ (M.refuses a.looping a.mode a.base a.from a.to a.place X a.total l g a.vars.now a.scope a.regs.now a.out.now a.st i.vars i.out i.cuts i.w i.i i.s i.invariant c.if-w.true c.if-total-i.false _ c.begin_round.result c.begin_round.ensures c.in_err-s.was), M.stays a.looping a.mode a.base a.from a.to a.place X a.total l g a.vars.now a.scope a.regs.now a.out.now a.st i.vars i.out i.cuts i.w i.i i.s i.invariant c.if-w.true c.if-total-i.false _ c.begin_round.result c.begin_round.ensures)

pub run_list-returns-in_default : goal.run_list-returns-in_default
run_list-returns-in_default t c =
    let a = c.args in
    let l = a.bytes.now in
    let g = a.program.now in
    let X : ℤ = to_z w64 (of_z w64 a.start) in
    let same : X ≡ a.start = to_z-of_z w64 a.start c.ranges.start in
    let often = subst (λ (z : ℤ). Often a.looping a.mode z a.total) (sym (to_z-of_z w64 a.start c.ranges.start)) c.requires.often in
    let i = c.loop-w in
    (M.at_start a.looping a.mode a.base a.from a.to a.place X a.total l g a.vars.now a.scope a.regs.now a.out.now a.st a.start same _ _ (M.breaks a.looping a.mode a.base a.from a.to a.place X a.total l g a.vars.now a.scope a.regs.now a.out.now a.st i.vars i.out i.cuts i.w i.i i.s i.invariant c.if-w.true c.if-total-i.false _ c.begin_round.result c.begin_round.ensures often c.in_ok-s.s c.in_ok-s.was _ c.begin.result c.begin.ensures c.in_default.is _), M.stays a.looping a.mode a.base a.from a.to a.place X a.total l g a.vars.now a.scope a.regs.now a.out.now a.st i.vars i.out i.cuts i.w i.i i.s i.invariant c.if-w.true c.if-total-i.false _ c.begin_round.result c.begin_round.ensures)

pub run_list-loop-w-smaller-then-w : goal.run_list-loop-w-smaller-then-w
unfolding whole_of
run_list-loop-w-smaller-then-w t c =
    let ready = c.requires.ready in
    rw c.whole-w-then-w.ensures (omega (arith, c.if-w.true, c.if-total-i.false, ready.near, ready.within))

pub run_list-loop-w-preserved-then-w : goal.run_list-loop-w-preserved-then-w
run_list-loop-w-preserved-then-w t c =
    let a = c.args in
    let l = a.bytes.now in
    let g = a.program.now in
    let X : ℤ = to_z w64 (of_z w64 a.start) in
    let often = subst (λ (z : ℤ). Often a.looping a.mode z a.total) (sym (to_z-of_z w64 a.start c.ranges.start)) c.requires.often in
    let i = c.loop-w in
    rw c.whole-w-then-w.ensures (M.begins a.looping a.mode a.base a.from a.to a.place X a.total l g a.vars.now a.scope a.regs.now a.out.now a.st i.vars i.out i.cuts i.w i.i i.s i.invariant c.if-w.true c.if-total-i.false _ c.begin_round.result c.begin_round.ensures often c.in_ok-s.s c.in_ok-s.was _ c.begin.result c.begin.ensures c.requires.ready.order _ c.in-Some.is)

pub run_list-returns-in_default-header_at : goal.run_list-returns-in_default-header_at
run_list-returns-in_default-header_at t c =
    let a = c.args in
    let l = a.bytes.now in
    let g = a.program.now in
    let X : ℤ = to_z w64 (of_z w64 a.start) in
    let same : X ≡ a.start = to_z-of_z w64 a.start c.ranges.start in
    let i = c.loop-w in
    (M.at_start a.looping a.mode a.base a.from a.to a.place X a.total l g a.vars.now a.scope a.regs.now a.out.now a.st a.start same _ _ (M.cut a.looping a.mode a.base a.from a.to a.place X a.total l g a.vars.now a.scope a.regs.now a.out.now a.st i.vars i.out i.cuts i.w i.i i.s i.invariant c.if-w.false c.seek-w.result _ c.seek-w.ensures (λ k e. c.in_default-header_at.not-Ok k (c.header_at.ensures ∙ e)) _), i.invariant.kept)

pub run_list-overflow_add-content : goal.run_list-overflow_add-content
run_list-overflow_add-content t c =
    let a = c.args in
    let l = a.bytes.now in
    let g = a.program.now in
    let X : ℤ = to_z w64 (of_z w64 a.start) in
    let i = c.loop-w in
    let k = c.in-Ok.header in
    let is = sym c.header_at.ensures ∙ c.in-Ok.is in
    let spot = M.spot a.looping a.mode a.base a.from a.to a.place X a.total l g a.vars.now a.scope a.regs.now a.out.now a.st i.vars i.out i.cuts i.w i.i i.s i.invariant c.if-w.false c.seek-w.result _ c.seek-w.ensures k.tag k.next is in
    omega (arith, spot.inside, spot.within, c.requires.ready.near)

pub run_list-overflow_add-at : goal.run_list-overflow_add-at
run_list-overflow_add-at t c =
    let a = c.args in
    let l = a.bytes.now in
    let g = a.program.now in
    let X : ℤ = to_z w64 (of_z w64 a.start) in
    let i = c.loop-w in
    let k = c.in-Ok.header in
    let is = sym c.header_at.ensures ∙ c.in-Ok.is in
    let spot = M.spot a.looping a.mode a.base a.from a.to a.place X a.total l g a.vars.now a.scope a.regs.now a.out.now a.st i.vars i.out i.cuts i.w i.i i.s i.invariant c.if-w.false c.seek-w.result _ c.seek-w.ensures k.tag k.next is in
    omega (arith, spot.inside, spot.within, c.requires.ready.near)

pub run_list-run_statement-requires : goal.run_list-run_statement-requires
run_list-run_statement-requires t c =
    let a = c.args in
    let l = a.bytes.now in
    let g = a.program.now in
    let X : ℤ = to_z w64 (of_z w64 a.start) in
    let i = c.loop-w in
    let k = c.in-Ok.header in
    let is = sym c.header_at.ensures ∙ c.in-Ok.is in
    let spot = M.spot a.looping a.mode a.base a.from a.to a.place X a.total l g a.vars.now a.scope a.regs.now a.out.now a.st i.vars i.out i.cuts i.w i.i i.s i.invariant c.if-w.false c.seek-w.result _ c.seek-w.ensures k.tag k.next is in
    let ready = c.requires.ready in
    (omega (arith, c.decreases, spot.inside, spot.past, spot.sooner), (record { few = ready.few; order = spot.inside; within = spot.within; near = ready.near; here = omega (arith, spot.inside, spot.within, ready.near) }, (omega arith, c.requires.tabled)))

pub run_list-returns-in_err-s-2 : goal.run_list-returns-in_err-s-2
run_list-returns-in_err-s-2 t c =
    let a = c.args in
    let l = a.bytes.now in
    let g = a.program.now in
    let X : ℤ = to_z w64 (of_z w64 a.start) in
    let same : X ≡ a.start = to_z-of_z w64 a.start c.ranges.start in
    let i = c.loop-w in
    let k = c.in-Ok.header in
    let is = sym c.header_at.ensures ∙ c.in-Ok.is in
    rw (handed c.from_residual-in_err-s-2.result c.from_residual-in_err-s-2.ensures.1) (M.at_start a.looping a.mode a.base a.from a.to a.place X a.total l g a.vars.now a.scope a.regs.now a.out.now a.st a.start same _ _ (M.other a.looping a.mode a.base a.from a.to a.place X a.total l g a.vars.now a.scope a.regs.now a.out.now a.st i.vars i.out i.cuts i.w i.i i.s i.invariant c.if-w.false c.seek-w.result _ c.seek-w.ensures k.tag k.next is _ c.run_statement.result c.run_statement.ensures.0 c.in_err-s-2.was), kept_still a.looping a.mode _ _ c.run_statement.ensures.1 ∙ i.invariant.kept)

pub run_list-loop-w-smaller : goal.run_list-loop-w-smaller
run_list-loop-w-smaller t c =
    let a = c.args in
    let l = a.bytes.now in
    let g = a.program.now in
    let X : ℤ = to_z w64 (of_z w64 a.start) in
    let i = c.loop-w in
    let k = c.in-Ok.header in
    let is = sym c.header_at.ensures ∙ c.in-Ok.is in
    let spot = M.spot a.looping a.mode a.base a.from a.to a.place X a.total l g a.vars.now a.scope a.regs.now a.out.now a.st i.vars i.out i.cuts i.w i.i i.s i.invariant c.if-w.false c.seek-w.result _ c.seek-w.ensures k.tag k.next is in
    rw c.passed-w.ensures (omega (arith, spot.less))

pub run_list-loop-w-preserved : goal.run_list-loop-w-preserved
run_list-loop-w-preserved t c =
    let a = c.args in
    let l = a.bytes.now in
    let g = a.program.now in
    let X : ℤ = to_z w64 (of_z w64 a.start) in
    let i = c.loop-w in
    let k = c.in-Ok.header in
    let is = sym c.header_at.ensures ∙ c.in-Ok.is in
    rw c.passed-w.ensures (M.passes a.looping a.mode a.base a.from a.to a.place X a.total l g a.vars.now a.scope a.regs.now a.out.now a.st i.vars i.out i.cuts i.w i.i i.s i.invariant c.if-w.false c.seek-w.result _ c.seek-w.ensures k.tag k.next is _ c.run_statement.result c.run_statement.ensures.0 c.in_ok-s-2.s c.in_ok-s-2.was (omega arith) _ c.run_statement.ensures.1)

pub run_rounds-returns-in_err-repeats : goal.run_rounds-returns-in_err-repeats
run_rounds-returns-in_err-repeats t c =
    let a = c.args in
    let l = a.bytes.now in
    let g = a.program.now in
    let vs = a.vars.now in
    let room = length a.out.now in
    let e = c.inmost-e.result in
    let ready = c.inmost-e.ensures.able.ready in
    let en = c.inmost-e.ensures.able.enterable in
    let past = c.inmost-e.ensures.able.bodied in
    let here = a.base + e.from - 3 in
    let at : a.base + e.from ≡ here + 3 = omega (arith, c.inmost-e.ensures.able.behind) in
    let rep : Repeated l e.from a.to e.tag (take e.mode.variables vs) e.mode.reversed c.repeats_of.result = rw c.from-many.ensures at c.repeats_of.ensures in
    let k = stopped _ here e.st c.repeats_of.result c.map_err.result _ (λ f z h. search rules) c.map_err.ensures.cases c.in_err-repeats.was in
    rw (handed c.from_residual.result c.from_residual.ensures.1 ∙ ap Err k.stops) (inside_does l a.base a.to _ e c.inmost-e.ensures a.place c.requires.from_value room g vs a.scope a.regs.now a.out.now _ _ (λ s q. does_as _ _ _ _ _ (one_run e.mode room here e.tag (slice e.from a.to l) g (frame_in e.mode (take e.mode.variables vs) a.scope a.regs.now)) (loop_fails e.mode room a.base e.from a.to here e.tag l g vs a.scope a.regs.now en.deep past at c.repeats_of.result rep k.fault k.was) (step_taken e.mode.limit room a.out.now s e.st here _ _ _ q.step.left q.step.same q.step.more (fault_ends a.out.now e.st k.fault here))), refl)

pub run_rounds-run_list-requires : goal.run_rounds-run_list-requires
run_rounds-run_list-requires t c =
    let a = c.args in
    let l = a.bytes.now in
    let g = a.program.now in
    let vs = a.vars.now in
    let room = length a.out.now in
    let e = c.inmost-e.result in
    let ready = c.inmost-e.ensures.able.ready in
    let en = c.inmost-e.ensures.able.enterable in
    let past = c.inmost-e.ensures.able.bodied in
    let here = a.base + e.from - 3 in
    let at : a.base + e.from ≡ here + 3 = omega (arith, c.inmost-e.ensures.able.behind) in
    let rep : Repeated l e.from a.to e.tag (take e.mode.variables vs) e.mode.reversed c.repeats_of.result = rw c.from-many.ensures at c.repeats_of.ensures in
    let k = c.in_ok-repeats.repeats in
    let o = loop_opens e.mode room a.base e.from a.to here e.tag l g vs a.scope a.regs.now en.deep past at c.repeats_of.result rep ready.order k (unstopped _ c.repeats_of.result c.map_err.result k c.map_err.ensures.cases c.in_ok-repeats.was) in
    rw (c.inner-n.ensures, range_back {z = k.start} o.ranged) (omega (arith, c.decreases, o.low, c.inmost-e.ensures.later, c.inmost-e.ensures.visible, inner_seen e.mode e.tag), (record { few = inner_few e.mode e.tag ready.few en.deep; order = o.high; within = ready.within; near = ready.near; here = ready.here }, (tabled_fewer g a.table.now a.mode.families_visible (inner_of e.mode e.tag).families_visible (omega (arith, c.inmost-e.ensures.visible, inner_seen e.mode e.tag)) c.requires.tabled, o.often)))

pub run_rounds-returns : goal.run_rounds-returns
run_rounds-returns t c =
    let a = c.args in
    let l = a.bytes.now in
    let g = a.program.now in
    let vs = a.vars.now in
    let room = length a.out.now in
    let e = c.inmost-e.result in
    let ready = c.inmost-e.ensures.able.ready in
    let en = c.inmost-e.ensures.able.enterable in
    let past = c.inmost-e.ensures.able.bodied in
    let here = a.base + e.from - 3 in
    let at : a.base + e.from ≡ here + 3 = omega (arith, c.inmost-e.ensures.able.behind) in
    let rep : Repeated l e.from a.to e.tag (take e.mode.variables vs) e.mode.reversed c.repeats_of.result = rw c.from-many.ensures at c.repeats_of.ensures in
    let k = c.in_ok-repeats.repeats in
    let o = loop_opens e.mode room a.base e.from a.to here e.tag l g vs a.scope a.regs.now en.deep past at c.repeats_of.result rep ready.order k (unstopped _ c.repeats_of.result c.map_err.result k c.map_err.ensures.cases c.in_ok-repeats.was) in
    let d = rw (c.inner-n.ensures, range_back {z = k.start} o.ranged) at c.run_list.ensures in
    (inside_does l a.base a.to _ e c.inmost-e.ensures a.place c.requires.from_value room g vs a.scope a.regs.now a.out.now _ _ (λ s q. does_as _ _ _ _ _ (one_run e.mode room here e.tag (slice e.from a.to l) g (frame_in e.mode (take e.mode.variables vs) a.scope a.regs.now)) o.is (step_taken e.mode.limit room a.out.now s e.st here _ _ _ q.step.left q.step.same q.step.more d.0)), inside_stays l a.base a.to _ e c.inmost-e.ensures _ _ (inner_stays e.mode e.tag past _ _ d.1))

pub run_statement-returns-in_err-s : goal.run_statement-returns-in_err-s
run_statement-returns-in_err-s t c =
    let a = c.args in
    let l = slice a.from a.to a.bytes.now in
    let g = a.program.now in
    let f = frame_in a.mode (take a.mode.variables a.vars.now) a.scope a.regs.now in
    let room = length a.out.now in
    rw (handed c.from_residual.result c.from_residual.ensures.1) (one_stops a.mode room a.place a.tag l g f a.out.now a.st c.enter.result c.enter.ensures c.in_err-s.was, refl)

pub run_statement-returns-then-is_action : goal.run_statement-returns-then-is_action
run_statement-returns-then-is_action t c =
    let a = c.args in
    let l = slice a.from a.to a.bytes.now in
    let g = a.program.now in
    let f = frame_in a.mode (take a.mode.variables a.vars.now) a.scope a.regs.now in
    let room = length a.out.now in
    let s = c.in_ok-s.s in
    let q : StepTaken a.mode a.tag l a.st s = one_steps a.mode a.tag l a.place a.st s c.enter.result c.enter.ensures c.in_ok-s.was in
    let w = q.enterable in (
      does_as _ _ _ _ _ (one_run a.mode room a.place a.tag l g f) (one_acts a.mode room a.place a.tag l g f w.deep w.low (sym c.is_action.ensures ∙ c.if-is_action.true))
          (step_taken a.mode.limit room a.out.now a.st s a.place _ _ _ q.step.left q.step.same q.step.more c.act.ensures),
      refl,
    )

pub run_statement-run_call-requires : goal.run_statement-run_call-requires
run_statement-run_call-requires t c =
    let a = c.args in
    let l = slice a.from a.to a.bytes.now in
    let s = c.in_ok-s.s in
    let q : StepTaken a.mode a.tag l a.st s = one_steps a.mode a.tag l a.place a.st s c.enter.result c.enter.ensures c.in_ok-s.was in
    (omega (arith, c.decreases), (c.requires.ready, (c.requires.from_value, (c.requires.tabled, (q.enterable, sym c.is_call.ensures ∙ c.if-is_call.true)))))

pub run_statement-returns-then-is_call : goal.run_statement-returns-then-is_call
run_statement-returns-then-is_call t c =
    let a = c.args in
    let l = slice a.from a.to a.bytes.now in
    let s = c.in_ok-s.s in
    let q : StepTaken a.mode a.tag l a.st s = one_steps a.mode a.tag l a.place a.st s c.enter.result c.enter.ensures c.in_ok-s.was in
    (c.run_call.ensures a.st q, refl)

pub run_statement-run_rounds-requires : goal.run_statement-run_rounds-requires
run_statement-run_rounds-requires t c =
    let a = c.args in
    let l = slice a.from a.to a.bytes.now in
    let s = c.in_ok-s.s in
    let q : StepTaken a.mode a.tag l a.st s = one_steps a.mode a.tag l a.place a.st s c.enter.result c.enter.ensures c.in_ok-s.was in
    let w = q.enterable in
    (omega (arith, c.decreases), (c.requires.ready, (c.requires.from_value, (c.requires.tabled, (w, has_body a.tag w.high (sym c.is_action.ensures ∙ c.if-is_action.false) (sym c.is_call.ensures ∙ c.if-is_call.false))))))

pub run_statement-returns : goal.run_statement-returns
run_statement-returns t c =
    let a = c.args in
    let l = slice a.from a.to a.bytes.now in
    let s = c.in_ok-s.s in
    let q : StepTaken a.mode a.tag l a.st s = one_steps a.mode a.tag l a.place a.st s c.enter.result c.enter.ensures c.in_ok-s.was in
    (c.run_rounds.ensures.0 a.st q, c.run_rounds.ensures.1)
