-- `check_program::top_fields` meets its contract. Assumes nothing.
use mathlib.Core.Path.{refl, sym, ap, ◌∙◌}
use Prim.Native.Nat.{◌≤◌}
use native.Mathlib.Omega.{arith}
use borrow.Author.Rules.{rules}
use lib.ListN.{length}
use Rattle.language.specs.Result.{verdict}
use Rattle.fields.proofs.Headers.{when_whole, when_end, when_cut}
use Rattle.check_program.specs.Declarations.{declared_in}
use Rattle.check_program.proofs.TopFields.{tops_end, tops_cut, tops_stop, tops_go, tops_all, step_holds}
use Rattle.std.specs.Prelude.{Err}
use Rattle.refusals.proofs.Handed.{handed}
use Rattle.check_program.specs.Answers.{result_told}
use Rattle.check_program.proofs.top_fields.Goals as goal

pub loop-header-init : goal.loop-header-init
loop-header-init c =
    let a = c.args in
    (c.requires, refl, refl, refl, tops_all a.program.now a.families.now a.kinds.now a.sizes.now)

pub returns-in-Err-End : goal.returns-in-Err-End
unfolding result_told
returns-in-Err-End c =
    let a = c.args in
    let program = a.program.now in
    let i = c.loop-header in
    let d = declared_in i.t i.families i.kinds i.sizes in
    let k : length program ≤ length program = omega arith in
    tops_end program i.at (length program) d (when_end program i.at (length program) k (sym c.header_at.ensures ∙ c.in-Err-End.is ∙ ap Err c.in-Err-End.field-0-is)) ∙ ap verdict (sym i.invariant.4)

pub returns-in-Err-Cut : goal.returns-in-Err-Cut
unfolding result_told
returns-in-Err-Cut c =
    let a = c.args in
    let program = a.program.now in
    let i = c.loop-header in
    let d = declared_in i.t i.families i.kinds i.sizes in
    let k : length program ≤ length program = omega arith in
    tops_cut program i.at (length program) d (when_cut program i.at (length program) k (sym c.header_at.ensures ∙ c.in-Err-Cut.is ∙ ap Err c.in-Err-Cut.field-0-is)) ∙ ap verdict (sym i.invariant.4)

pub top_field-requires-clause-at_bound : goal.top_field-requires-clause-at_bound
top_field-requires-clause-at_bound c =
    let program = c.args.program.now in
    let k : length program ≤ length program = omega arith in
    let w = when_whole program c.loop-header.at (length program) c.in-Ok.header.tag c.in-Ok.header.next k (sym c.header_at.ensures ∙ c.in-Ok.is) in
    (w.low, w.high)

pub loop-header-smaller : goal.loop-header-smaller
loop-header-smaller c =
    let program = c.args.program.now in
    let k : length program ≤ length program = omega arith in
    let w = when_whole program c.loop-header.at (length program) c.in-Ok.header.tag c.in-Ok.header.next k (sym c.header_at.ensures ∙ c.in-Ok.is) in
    omega (arith, w.low, w.high)

pub returns-in_err-t-in-Ok : goal.returns-in_err-t-in-Ok
returns-in_err-t-in-Ok c =
    let a = c.args in
    let program = a.program.now in
    let i = c.loop-header in
    let d = declared_in i.t i.families i.kinds i.sizes in
    let k : length program ≤ length program = omega arith in
    let tag = c.in-Ok.header.tag in
    let next = c.in-Ok.header.next in
    let w = when_whole program i.at (length program) tag next k (sym c.header_at.ensures ∙ c.in-Ok.is) in
    let families = c.top_field.new.families in
    let kinds = c.top_field.new.kinds in
    let sizes = c.top_field.new.sizes in
    rw (handed c.from_residual.result c.from_residual.ensures.1) (tops_stop program i.at (length program) d tag next w c.top_field.result families kinds sizes c.top_field.ensures.sizes_after _ c.in_err-t-in-Ok.was ∙ ap verdict (sym i.invariant.4))

pub loop-header-preserved : goal.loop-header-preserved
loop-header-preserved c =
    let a = c.args in
    let program = a.program.now in
    let i = c.loop-header in
    let d = declared_in i.t i.families i.kinds i.sizes in
    let k : length program ≤ length program = omega arith in
    let tag = c.in-Ok.header.tag in
    let next = c.in-Ok.header.next in
    let w = when_whole program i.at (length program) tag next k (sym c.header_at.ensures ∙ c.in-Ok.is) in
    let families = c.top_field.new.families in
    let kinds = c.top_field.new.kinds in
    let sizes = c.top_field.new.sizes in
    let t = c.in_ok-t-in-Ok.t in
    (step_holds (length program) next c.top_field.result t families kinds sizes c.in_ok-t-in-Ok.was c.top_field.ensures.step_right, search rules, search rules, search rules, i.invariant.4 ∙ tops_go program i.at (length program) d tag next w c.top_field.result families kinds sizes c.top_field.ensures.sizes_after t c.in_ok-t-in-Ok.was)
