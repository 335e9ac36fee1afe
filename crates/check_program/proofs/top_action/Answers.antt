-- `check_program::top_action` meets its contract. Assumes nothing.
use mathlib.Core.Path.{refl, sym, ◌∙◌}
use native.Mathlib.Omega.{arith}
use lib.IntN.{pos}
use lib.ListN.{length, replicate}
use Rattle.check_program.specs.Declarations.{declared_in}
use Rattle.check_program.proofs.Scopes.{eight_rows, scope_right, scope_declares, top_rows, top_scope_lem}
use Rattle.check_program.proofs.TopFields.{kept_refused, kept_going, declared_later}
use Rattle.refusals.proofs.Handed.{handed}
use Rattle.check_program.proofs.top_action.Goals as goal

pub full_scope-full-requires : goal.full_scope-full-requires
full_scope-full-requires c =
    let a = c.args in
    let h = c.requires.declared_right in
    let few = h.families_fit in
    let most = h.used.few_registers in
    let bytes = length a.program.now in
    let none = replicate 8 (replicate 13 (pos 0)) in
    record {
      no_loops = refl;
      tables_right = scope_right bytes a.t.rows a.t.registers a.at (top_rows a.t) a.kinds.now a.sizes.now none none h.table h.used (omega (arith, c.requires.at_bound.0, c.requires.at_bound.1)) eight_rows eight_rows (omega arith) (omega arith) (omega (arith, h.least_rows));
      families_right = scope_declares bytes a.t.rows a.at a.t.registers (top_rows a.t) a.families.now a.kinds.now a.sizes.now h.table h.used (omega (arith, c.requires.at_bound.0, c.requires.at_bound.1)) h.long h.families_fit h.rows_right h.taken;
    }

pub returns-in_err-action : goal.returns-in_err-action
returns-in_err-action c =
    let a = c.args in
    let d = declared_in a.t a.families.now a.kinds.now a.sizes.now in
    let e = top_scope_lem a.t a.families.now a.kinds.now a.sizes.now ∙ sym c.full_scope-full.ensures in
    rw (handed c.from_residual.result c.from_residual.ensures.1) (record {
      sizes_value = kept_refused c.action.result _ d a.families.now a.kinds.now a.sizes.now c.in_err-action.was ∙ c.action.ensures d e;
      step_right = tt;
    })

pub returns : goal.returns
returns c =
    let a = c.args in
    let d = declared_in a.t a.families.now a.kinds.now a.sizes.now in
    let e = top_scope_lem a.t a.families.now a.kinds.now a.sizes.now ∙ sym c.full_scope-full.ensures in
    record {
      sizes_value = kept_going c.action.result _ a.t a.families.now a.kinds.now a.sizes.now c.in_ok-action.was ∙ c.action.ensures d e;
      step_right = declared_later (length a.program.now) a.at a.next a.t a.families.now a.kinds.now a.sizes.now (omega (arith, c.requires.at_bound.0)) c.requires.declared_right;
    }
