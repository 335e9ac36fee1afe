-- `check_program::family` meets its contract. Assumes nothing.
use mathlib.Core.Path.{ap, ◌∙◌}
use native.Mathlib.Omega.{arith}
use Prim.Native.Nat.{◌+◌}
use lib.ListN.{length}
use lib.Seq.{slice}
use Rattle.language.specs.Check.{good}
use Rattle.check_call.specs.Calls.{formal_at}
use Rattle.check_declaration.proofs.FamilyTypes.{both_right}
use Rattle.check_program.specs.Declarations.{checked_step}
use Rattle.check_program.proofs.Families.{family_many, family_bad, family_stops, family_goes, with_family_lem, holds_family, before_upto, formals_upto}
use Rattle.refusals.proofs.Handed.{handed}
use Rattle.check_program.proofs.family.Goals as goal

pub returns-then-n-ge-MOST_FAMILIES : goal.returns-then-n-ge-MOST_FAMILIES
unfolding checked_step
returns-then-n-ge-MOST_FAMILIES c =
    let a = c.args in
    record {
      sizes_after = family_many a.t a.families.now a.kinds.now a.sizes.now a.at (slice (a.at + 3) a.next a.program.now) c.if-n-ge-MOST_FAMILIES.true;
      step_right = tt;
    }

pub returns-in_err-counts : goal.returns-in_err-counts
returns-in_err-counts c =
    let a = c.args in
    let program = a.program.now in
    let x = a.families.now in
    rw (handed c.from_residual.result c.from_residual.ensures.1) (record {
      sizes_after = family_bad a.t x a.kinds.now a.sizes.now program a.at a.next c.if-n-ge-MOST_FAMILIES.false c.two_counts.result c.two_counts.ensures.result_value _ x a.kinds.now a.sizes.now c.in_err-counts.was;
      step_right = tt;
    })

pub returns-in_err-family_body : goal.returns-in_err-family_body
returns-in_err-family_body c =
    let a = c.args in
    let counts = c.in_ok-counts.counts in
    let families = c.family_body.new.families in
    let kinds = c.family_body.new.kinds in
    let sizes = c.family_body.new.sizes in
    rw (handed c.from_residual-in_err-family_body.result c.from_residual-in_err-family_body.ensures.1) (record {
      sizes_after = family_stops a.t a.families.now a.kinds.now a.sizes.now a.program.now a.at a.next c.if-n-ge-MOST_FAMILIES.false c.two_counts.result c.two_counts.ensures.result_value counts.variables counts.parameters c.in_ok-counts.was (formal_at families kinds sizes) c.family_body.result kinds sizes c.family_body.ensures.sizes_after _ families kinds sizes c.in_err-family_body.was;
      step_right = tt;
    })

pub returns : goal.returns
unfolding checked_step
returns c =
    let a = c.args in
    let room = c.if-n-ge-MOST_FAMILIES.false in
    let counts = c.in_ok-counts.counts in
    let m = counts.variables in
    let p = counts.parameters in
    let w = both_right a.at a.next c.two_counts.result counts c.in_ok-counts.was c.two_counts.ensures.both_right in
    let families = c.family_body.new.families in
    let kinds = c.family_body.new.kinds in
    let sizes = c.family_body.new.sizes in
    let r = c.family_body.result in
    let u = c.in_ok-family_body.was in
    let stays = c.family_body.ensures.stays in
    record {
      sizes_after = ap good (with_family_lem (length a.program.now) a.at (a.at + 5) a.next a.t m p c.requires.declared_right (omega arith) stays room w.0)
          ∙ family_goes a.t a.families.now a.kinds.now a.sizes.now a.program.now a.at a.next room c.two_counts.result c.two_counts.ensures.result_value m p c.in_ok-counts.was (formal_at families kinds sizes) r kinds sizes c.family_body.ensures.sizes_after _ u;
      step_right = holds_family (length a.program.now) a.at (a.at + 5) a.next a.t m p c.requires.declared_right (omega arith) stays room w.0 (before_upto (a.t.rows + p) a.t.registers a.next _ r kinds u c.family_body.ensures.in_use_before) (formals_upto a.next _ r families kinds u c.family_body.ensures.formals_before) c.requires.at_bound.1;
    }
