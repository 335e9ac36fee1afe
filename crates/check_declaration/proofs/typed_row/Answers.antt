-- `check_declaration::typed_row` meets its contract. Assumes nothing.
use mathlib.Core.Path.{sym, ◌∙◌}
use mathlib.Core.List.{[]}
use Prim.Native.Nat.{◌/◌, ◌<◌}
use native.Mathlib.Omega.{arith}
use lib.ListN.{length}
use Rattle.fields.proofs.Headers.{when_tagged}
use Rattle.check_index.proofs.Answers.{ends_passes}
use Rattle.check_operand.specs.Tables.{scope_with}
use Rattle.check_call.specs.Calls.{formal_at}
use Rattle.check_declaration.proofs.FamilyTypes.{type_family, type_plain}
use Rattle.check_declaration.proofs.Formals.{stays_plain, plain_after, formals_after}
use Rattle.check_declaration.proofs.typed_row.Goals as goal

pub family_row-requires-clause-at_bound : goal.family_row-requires-clause-at_bound
family_row-requires-clause-at_bound c =
    let a = c.args in
    let w = when_tagged a.program.now a.at a.to 18 c.in-Some.next c.requires.at_le_to.1 (sym c.with_tag.ensures ∙ c.in-Some.is) in
    (w.low, omega (arith, w.high))

pub returns-in-Some : goal.returns-in-Some
returns-in-Some c =
    let a = c.args in
    let program = a.program.now in
    let next = c.in-Some.next in
    let w = when_tagged program a.at a.to 18 next c.requires.at_le_to.1 (sym c.with_tag.ensures ∙ c.in-Some.is) in
    record {
      sizes_after = λ fs ks. c.family_row.ensures.sizes_after fs ks a.m ∙ type_family (scope_with fs ks a.m []) program a.at a.to a.parent next w;
      passes = ends_passes program a.at a.to 18 next c.family_row.result w c.family_row.ensures.ends_at;
      in_use_after = c.family_row.ensures.in_use_after;
      formals_after = c.family_row.ensures.formals_after;
      stays = c.family_row.ensures.stays;
    }

pub returns : goal.returns
returns c =
    let a = c.args in
    let program = a.program.now in
    let kinds = a.kinds.now in
    let families = a.families.now in
    let u = c.requires.in_use in
    let t = c.requires.operand_table in
    let later = c.plain_row.new.kinds in
    let sizes = c.plain_row.new.sizes in
    let half : a.row < length kinds / 2 = omega (arith, u.few, t.kinds_long, c.requires.at_le_to.0, c.requires.at_le_to.1) in
    record {
      sizes_after = λ fs ks. c.plain_row.ensures.sizes_after fs ks (formal_at families later sizes) ∙ type_plain (scope_with fs ks a.m []) program a.at a.to a.parent c.requires.at_le_to.1 (sym c.with_tag.ensures ∙ c.in_default.is);
      passes = c.plain_row.ensures.passes;
      in_use_after = plain_after program a.at a.to a.row a.registers c.plain_row.result kinds later u c.plain_row.ensures.passes c.plain_row.ensures.in_use_after;
      formals_after = formals_after program (length program) a.row a.at a.to c.plain_row.result families c.requires.formals_in c.plain_row.ensures.apart half c.plain_row.ensures.passes;
      stays = stays_plain (length program) a.row a.at a.registers families c.requires.formals_in c.plain_row.ensures.apart half;
    }
