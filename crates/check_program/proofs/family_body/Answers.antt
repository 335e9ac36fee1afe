-- `check_program::family_body` meets its contract. Assumes nothing.
use mathlib.Core.Path.{refl, ap, ◌∙◌}
use mathlib.Core.List.{[]}
use Prim.Native.Nat.{◌+◌}
use native.Mathlib.Omega.{arith}
use lib.IntN.{pos}
use lib.ListN.{length, replicate}
use Rattle.language.specs.Check.{check_statements, family_scope_by}
use Rattle.language.specs.Read.{statements_by, outer_statement}
use Rattle.fields.specs.Header.{fields_at}
use Rattle.check_index.proofs.Answers.{count_upto}
use Rattle.check_program.specs.Declarations.{declared_in}
use Rattle.check_program.proofs.Scopes.{eight_rows, scope_right, scope_declares}
use Rattle.check_program.proofs.Families.{family_rows, body_stops, body_goes, before_upto, before_kept, formals_upto, formals_kept}
use Rattle.refusals.proofs.Handed.{handed}
use Rattle.check_program.proofs.family_body.Goals as goal

pub returns-in_err-mid : goal.returns-in_err-mid
unfolding family_scope_by
returns-in_err-mid c =
    let a = c.args in
    let program = a.program.now in
    let few = c.requires.m_le_most_variables in
    let bytes = length program in
    let long = c.requires.at_bound.1 in
    let none = replicate 8 (replicate 13 (pos 0)) in
    let families = c.parameter_types.new.families in
    let kinds = c.parameter_types.new.kinds in
    let sizes = c.parameter_types.new.sizes in
    let d = declared_in a.t a.families.now a.kinds.now a.sizes.now in
    rw (handed c.from_residual.result c.from_residual.ensures.1) (record {
      sizes_after = body_stops bytes a.t a.at a.m a.parameters program (a.at + 5) a.next c.requires.declared_right (omega arith) c.parameter_types.ensures.stays c.parameter_types.result (c.parameter_types.ensures.sizes_after d.families []) c.in_err-mid.was;
      in_use_before = tt;
      formals_before = tt;
      stays = c.parameter_types.ensures.stays;
    })

pub full_scope-full-requires : goal.full_scope-full-requires
full_scope-full-requires c =
    let a = c.args in
    let program = a.program.now in
    let few = c.requires.m_le_most_variables in
    let bytes = length program in
    let long = c.requires.at_bound.1 in
    let none = replicate 8 (replicate 13 (pos 0)) in
    let families = c.parameter_types.new.families in
    let kinds = c.parameter_types.new.kinds in
    let sizes = c.parameter_types.new.sizes in
    let mid = c.in_ok-mid.mid in
    let used = before_upto (a.t.rows + a.parameters) a.t.registers a.next mid c.parameter_types.result kinds c.in_ok-mid.was c.parameter_types.ensures.in_use_before in
    let taken = formals_upto a.next mid c.parameter_types.result families kinds c.in_ok-mid.was c.parameter_types.ensures.formals_before in
    record {
      no_loops = refl;
      tables_right = scope_right bytes (a.t.rows + a.parameters) a.t.registers a.next (family_rows a.t a.m a.parameters) kinds sizes none none c.parameter_types.ensures.stays.table used long eight_rows eight_rows few (omega arith) (omega arith);
      families_right = scope_declares bytes (a.t.rows + a.parameters) a.next a.t.registers (family_rows a.t a.m a.parameters) families kinds sizes c.parameter_types.ensures.stays.table used long (omega (arith, c.requires.declared_right.long, c.parameter_types.ensures.stays.families_same, c.parameter_types.ensures.stays.sizes_same)) c.requires.declared_right.families_fit (λ k p. rw (c.parameter_types.ensures.stays.declared k p, c.parameter_types.ensures.stays.kinds_same) (c.requires.declared_right.rows_right k p)) taken;
    }

pub returns : goal.returns
unfolding family_scope_by
returns c =
    let a = c.args in
    let program = a.program.now in
    let few = c.requires.m_le_most_variables in
    let bytes = length program in
    let long = c.requires.at_bound.1 in
    let none = replicate 8 (replicate 13 (pos 0)) in
    let families = c.parameter_types.new.families in
    let kinds = c.parameter_types.new.kinds in
    let sizes = c.parameter_types.new.sizes in
    let d = declared_in a.t a.families.now a.kinds.now a.sizes.now in
    let mid = c.in_ok-mid.mid in
    let used = before_upto (a.t.rows + a.parameters) a.t.registers a.next mid c.parameter_types.result kinds c.in_ok-mid.was c.parameter_types.ensures.in_use_before in
    let taken = formals_upto a.next mid c.parameter_types.result families kinds c.in_ok-mid.was c.parameter_types.ensures.formals_before in
    let b = count_upto program (a.at + 5) a.next a.parameters c.parameter_types.result mid c.in_ok-mid.was c.parameter_types.ensures.passes_count in
    record {
      sizes_after = body_goes bytes a.t a.at a.m a.parameters program (a.at + 5) a.next c.requires.declared_right (omega arith) c.parameter_types.ensures.stays c.parameter_types.result (c.parameter_types.ensures.sizes_after d.families []) mid c.in_ok-mid.was b c.list.result (c.list.ensures ∙ ap (check_statements (statements_by outer_statement (fields_at program mid a.next))) c.full_scope-full.ensures);
      in_use_before = before_kept (a.t.rows + a.parameters) a.t.registers a.next c.list.result kinds used;
      formals_before = formals_kept a.next c.list.result families kinds taken;
      stays = c.parameter_types.ensures.stays;
    }
