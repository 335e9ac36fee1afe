-- `runs::act_top` meets its contract. Assumes nothing.
use Prim.Native.Nat.{ℕ, ◌+◌, ◌*◌}
use mathlib.Core.Path.{◌≡◌, ap, ◌∙◌}
use mathlib.Core.Logic.{⊎_map}
use native.Mathlib.Omega.{arith}
use lib.ListN.{length, take}
use lib.Seq.{slice}
use Rattle.language.specs.Read.{read_top, field}
use Rattle.language.specs.Machine.{act_top}
use Rattle.refusals.proofs.Handed.{handed}
use Rattle.records.proofs.Sequences.{step_taken, stepped_stops, stepped_goes}
use Rattle.gates.proofs.GateRuns.{does_as}
use Rattle.runs.specs.TopFields.{globals_in}
use Rattle.runs.proofs.TopTags.{list_acts, timed, measure_acts, reset_acts, if_acts}
use Rattle.runs.proofs.act_top.Goals as goal

pub returns-then-tag-eq0 : goal.returns-then-tag-eq0
returns-then-tag-eq0 c =
    let a = c.args in
    let l = a.program.now in
    let room = length a.out.now in
    let content = slice (a.at + 3) a.next l in
    λ q b.
    let g = globals_in a.limit room l a.t.families (take (3 * a.t.registers) a.regs.now) q b in
    let run = act_top a.limit room (read_top (field a.at a.tag content)) g in
    does_as _ _ _ _ _ run (list_acts a.limit room a.t.families a.t.registers l a.regs.now q b c.top_scope-scope.result c.top_scope-scope.ensures a.at a.tag (slice a.at a.next l) content c.requires.program_value (⊎_map (λ h. omega (arith, h)) (λ h. h.1) c.then-tag-eq0.either)) (rw c.top_mode-mode.ensures at c.once.ensures)

pub returns-in_err-s : goal.returns-in_err-s
returns-in_err-s c =
    let a = c.args in
    let l = a.program.now in
    let room = length a.out.now in
    let content = slice (a.at + 3) a.next l in
    λ q b.
    let g = globals_in a.limit room l a.t.families (take (3 * a.t.registers) a.regs.now) q b in
    let run = act_top a.limit room (read_top (field a.at a.tag content)) g in
    let ap₀ = c.requires.act_ready.0.apart in
    let t = timed a.limit room a.t.families a.t.registers l a.regs.now q b c.top_scope-scope.result c.top_scope-scope.ensures a.at a.tag content (omega (arith, c.if-tag-eq0.false, ap₀.0, ap₀.1, ap₀.2)) (omega (arith, c.if-tag-gt-IF.false)) (λ e. (c.requires.act_ready.0.ready e).long) in
    rw (handed c.from_residual.result c.from_residual.ensures.1) (does_as _ _ _ _ _ run t.1 (stepped_stops a.limit room a.out.now a.st a.at t.0 c.take_step.result c.take_step.ensures c.in_err-s.was))

pub returns-in-4 : goal.returns-in-4
returns-in-4 c =
    let a = c.args in
    let l = a.program.now in
    let room = length a.out.now in
    let content = slice (a.at + 3) a.next l in
    let q₀ = stepped_goes a.limit a.at a.st c.in_ok-s.s c.take_step.result c.take_step.ensures c.in_ok-s.was in
    λ q b.
    let g = globals_in a.limit room l a.t.families (take (3 * a.t.registers) a.regs.now) q b in
    let run = act_top a.limit room (read_top (field a.at a.tag content)) g in
    does_as _ _ _ _ _ run (ap (λ (t : ℕ). act_top a.limit room (read_top (field a.at t content)) g) c.in-4.is ∙ measure_acts a.limit room a.t.families a.t.registers l a.regs.now q b c.top_scope-scope.result c.top_scope-scope.ensures a.at content) (step_taken a.limit room a.out.now a.st c.in_ok-s.s a.at _ _ _ q₀.left q₀.same q₀.more (rw c.top_mode-mode.ensures at c.measure.ensures))

pub returns-in-5 : goal.returns-in-5
returns-in-5 c =
    let a = c.args in
    let l = a.program.now in
    let room = length a.out.now in
    let content = slice (a.at + 3) a.next l in
    let q₀ = stepped_goes a.limit a.at a.st c.in_ok-s.s c.take_step.result c.take_step.ensures c.in_ok-s.was in
    λ q b.
    let g = globals_in a.limit room l a.t.families (take (3 * a.t.registers) a.regs.now) q b in
    let run = act_top a.limit room (read_top (field a.at a.tag content)) g in
    does_as _ _ _ _ _ run (ap (λ (t : ℕ). act_top a.limit room (read_top (field a.at t content)) g) c.in-5.is ∙ reset_acts a.limit room a.t.families a.t.registers l a.regs.now q b c.top_scope-scope.result c.top_scope-scope.ensures a.at content) (step_taken a.limit room a.out.now a.st c.in_ok-s.s a.at _ _ _ q₀.left q₀.same q₀.more (rw c.top_mode-mode.ensures at c.reset.ensures))

pub conditional-requires-clause-if_ready : goal.conditional-requires-clause-if_ready
conditional-requires-clause-if_ready c =
    let ap₀ = c.requires.act_ready.0.apart in
    c.requires.act_ready.0.ready (omega (arith, c.if-tag-eq0.false, c.if-tag-gt-IF.false, ap₀.0, ap₀.1, ap₀.2))

pub returns-in_default : goal.returns-in_default
returns-in_default c =
    let a = c.args in
    let l = a.program.now in
    let room = length a.out.now in
    let content = slice (a.at + 3) a.next l in
    let q₀ = stepped_goes a.limit a.at a.st c.in_ok-s.s c.take_step.result c.take_step.ensures c.in_ok-s.was in
    λ q b.
    let g = globals_in a.limit room l a.t.families (take (3 * a.t.registers) a.regs.now) q b in
    let run = act_top a.limit room (read_top (field a.at a.tag content)) g in
    let ap₀ = c.requires.act_ready.0.apart in
    let e : ◌≡◌ {A = ℕ} a.tag 6 = omega (arith, c.if-tag-eq0.false, c.if-tag-gt-IF.false, ap₀.0, ap₀.1, ap₀.2) in
    does_as _ _ _ _ _ run (ap (λ (t : ℕ). act_top a.limit room (read_top (field a.at t content)) g) e ∙ if_acts a.limit room a.t.families a.t.registers l a.regs.now q b c.top_scope-scope.result c.top_scope-scope.ensures a.at content (c.requires.act_ready.0.ready e).long) (step_taken a.limit room a.out.now a.st c.in_ok-s.s a.at _ _ _ q₀.left q₀.same q₀.more c.conditional.ensures)
