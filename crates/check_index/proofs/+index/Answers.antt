-- The cycle of calls meets its contracts. Assumes nothing.
use Prim.Native.Nat.{◌+◌, ◌-◌}
use mathlib.Core.Path.{sym, ap, ◌∙◌}
use Rattle.std.specs.Prelude.{Err}
use native.Mathlib.Omega.{arith}
use lib.Seq.{slice}
use Rattle.language.specs.Check.{form_of}
use Rattle.fields.proofs.Headers.{when_whole, when_end, when_cut}
use Rattle.refusals.specs.Reasons.{number_of}
use Rattle.refusals.proofs.Handed.{handed}
use Rattle.check_index.specs.Answers.{checked_form}
use Rattle.check_index.specs.declared.IndexTag.TheVariants.{Literal, Variable, Both, Other}
use Rattle.check_index.proofs.Forms.{index_end, index_cut, index_deep, index_acts, both_left, both_right, both_leftover, both_good_lem}
use Rattle.check_index.proofs.Answers.{form_passes_upto, form_ends_passes}
use Rattle.check_index.proofs.+index.Goals as goal

pub returns-then-levels-eq0 : goal.returns-then-levels-eq0
unfolding checked_form
returns-then-levels-eq0 t c =
    let a = c.args in
    let program = a.program.now in
    let tag = c.in-Ok.header.tag in
    let next = c.in-Ok.header.next in
    let w = when_whole program a.at a.to tag next c.requires.to_in_bounds (sym c.header_at.ensures ∙ c.in-Ok.is) in
    record {
      f_after = index_deep program a.at a.to a.parent a.levels a.variables tag next w (number_of c.too_deep.result) (c.too_deep.ensures a.at (slice (a.at + 3) next program)) c.if-levels-eq0.true;
      form_passes = tt;
    }

pub overflow_add-from : goal.overflow_add-from
overflow_add-from t c =
    let a = c.args in
    let program = a.program.now in
    let tag = c.in-Ok.header.tag in
    let next = c.in-Ok.header.next in
    let w = when_whole program a.at a.to tag next c.requires.to_in_bounds (sym c.header_at.ensures ∙ c.in-Ok.is) in
    let h = w.high in
    let k = w.low in
    let q = c.requires.to_in_bounds in
    omega arith

pub literal-requires : goal.literal-requires
literal-requires t c =
    let a = c.args in
    let program = a.program.now in
    let tag = c.in-Ok.header.tag in
    let next = c.in-Ok.header.next in
    let w = when_whole program a.at a.to tag next c.requires.to_in_bounds (sym c.header_at.ensures ∙ c.in-Ok.is) in
    let h = w.high in
    let q = c.requires.to_in_bounds in
    (w.low, omega arith)

pub variable-requires : goal.variable-requires
variable-requires t c =
    let a = c.args in
    let program = a.program.now in
    let tag = c.in-Ok.header.tag in
    let next = c.in-Ok.header.next in
    let w = when_whole program a.at a.to tag next c.requires.to_in_bounds (sym c.header_at.ensures ∙ c.in-Ok.is) in
    let h = w.high in
    let q = c.requires.to_in_bounds in
    record {
      at_bound = (w.low, omega arith);
      variables_le_all_variables = c.requires.variables_le_all_variables;
    }

pub index-requires : goal.index-requires
index-requires t c =
    let a = c.args in
    let program = a.program.now in
    let tag = c.in-Ok.header.tag in
    let next = c.in-Ok.header.next in
    let w = when_whole program a.at a.to tag next c.requires.to_in_bounds (sym c.header_at.ensures ∙ c.in-Ok.is) in
    let h = w.high in
    let q = c.requires.to_in_bounds in
    let z = c.if-levels-eq0.false in
    (omega (arith, c.requires.to_in_bounds), (omega arith, c.requires.variables_le_all_variables))

pub returns-in_err-mid-in-Both : goal.returns-in_err-mid-in-Both
returns-in_err-mid-in-Both t c =
    let a = c.args in
    let program = a.program.now in
    let tag = c.in-Ok.header.tag in
    let next = c.in-Ok.header.next in
    let w = when_whole program a.at a.to tag next c.requires.to_in_bounds (sym c.header_at.ensures ∙ c.in-Ok.is) in
    let op = c.in-Both.op in
    let acts = index_acts program a.at a.to a.parent a.levels a.variables tag next w (Both op) c.if-levels-eq0.false c.index_tag-kind.result c.index_tag-kind.ensures c.in-Both.is in
    let r = c.index.result in
    let l = c.index.new.f in
    rw (handed c.from_residual.result c.from_residual.ensures.1) (record {
      f_after = both_left program a.at next a.variables (a.levels - 1) op r l c.index.ensures.f_after c.in_err-mid-in-Both.was ∙ acts;
      form_passes = tt;
    })

pub index-requires-in-Both : goal.index-requires-in-Both
index-requires-in-Both t c =
    let a = c.args in
    let program = a.program.now in
    let tag = c.in-Ok.header.tag in
    let next = c.in-Ok.header.next in
    let w = when_whole program a.at a.to tag next c.requires.to_in_bounds (sym c.header_at.ensures ∙ c.in-Ok.is) in
    let h = w.high in
    let q = c.requires.to_in_bounds in
    let z = c.if-levels-eq0.false in
    (omega (arith, c.requires.to_in_bounds), (omega arith, c.requires.variables_le_all_variables))

pub returns-in_err-end-in-Both : goal.returns-in_err-end-in-Both
returns-in_err-end-in-Both t c =
    let a = c.args in
    let program = a.program.now in
    let tag = c.in-Ok.header.tag in
    let next = c.in-Ok.header.next in
    let w = when_whole program a.at a.to tag next c.requires.to_in_bounds (sym c.header_at.ensures ∙ c.in-Ok.is) in
    let op = c.in-Both.op in
    let acts = index_acts program a.at a.to a.parent a.levels a.variables tag next w (Both op) c.if-levels-eq0.false c.index_tag-kind.result c.index_tag-kind.ensures c.in-Both.is in
    let r = c.index.result in
    let l = c.index.new.f in
    let mid = c.in_ok-mid-in-Both.mid in
    let v = form_passes_upto program (a.at + 3) next r l mid c.in_ok-mid-in-Both.was c.index.ensures.form_passes in
    let s = c.index-in-Both.result in
    let k = c.index-in-Both.new.f in
    rw (handed c.from_residual-in_err-end-in-Both.result c.from_residual-in_err-end-in-Both.ensures.1) (record {
      f_after = both_right program a.at next a.variables (a.levels - 1) op r l c.index.ensures.f_after mid c.in_ok-mid-in-Both.was v.0 s k c.index-in-Both.ensures.f_after l c.in_err-end-in-Both.was ∙ acts;
      form_passes = tt;
    })

pub returns-then-end-next : goal.returns-then-end-next
unfolding checked_form
returns-then-end-next t c =
    let a = c.args in
    let program = a.program.now in
    let tag = c.in-Ok.header.tag in
    let next = c.in-Ok.header.next in
    let w = when_whole program a.at a.to tag next c.requires.to_in_bounds (sym c.header_at.ensures ∙ c.in-Ok.is) in
    let op = c.in-Both.op in
    let acts = index_acts program a.at a.to a.parent a.levels a.variables tag next w (Both op) c.if-levels-eq0.false c.index_tag-kind.result c.index_tag-kind.ensures c.in-Both.is in
    let r = c.index.result in
    let l = c.index.new.f in
    let mid = c.in_ok-mid-in-Both.mid in
    let v = form_passes_upto program (a.at + 3) next r l mid c.in_ok-mid-in-Both.was c.index.ensures.form_passes in
    let s = c.index-in-Both.result in
    let k = c.index-in-Both.new.f in
    let end = c.in_ok-end-in-Both.end in
    let u = form_passes_upto program mid next s k end c.in_ok-end-in-Both.was c.index-in-Both.ensures.form_passes in
    let h = w.high in
    let q = c.requires.to_in_bounds in
    record {
      f_after = both_leftover program a.at next a.variables (a.levels - 1) op r l c.index.ensures.f_after mid c.in_ok-mid-in-Both.was v.0 s k c.index-in-Both.ensures.f_after end c.in_ok-end-in-Both.was u.0 c.if-end-next.true (omega arith) ∙ acts;
      form_passes = tt;
    }

pub combine-requires : goal.combine-requires
combine-requires t c =
    let a = c.args in
    let program = a.program.now in
    let tag = c.in-Ok.header.tag in
    let next = c.in-Ok.header.next in
    let w = when_whole program a.at a.to tag next c.requires.to_in_bounds (sym c.header_at.ensures ∙ c.in-Ok.is) in
    let op = c.in-Both.op in
    let acts = index_acts program a.at a.to a.parent a.levels a.variables tag next w (Both op) c.if-levels-eq0.false c.index_tag-kind.result c.index_tag-kind.ensures c.in-Both.is in
    let r = c.index.result in
    let l = c.index.new.f in
    let mid = c.in_ok-mid-in-Both.mid in
    let v = form_passes_upto program (a.at + 3) next r l mid c.in_ok-mid-in-Both.was c.index.ensures.form_passes in
    let s = c.index-in-Both.result in
    let k = c.index-in-Both.new.f in
    let end = c.in_ok-end-in-Both.end in
    let u = form_passes_upto program mid next s k end c.in_ok-end-in-Both.was c.index-in-Both.ensures.form_passes in
    record {
      kept = v.1;
      kept_2 = u.1;
    }

pub returns-in-Err-End : goal.returns-in-Err-End
unfolding checked_form
returns-in-Err-End t c =
    let a = c.args in
    record {
      f_after = index_end a.program.now a.at a.to a.parent a.levels a.variables (when_end a.program.now a.at a.to c.requires.to_in_bounds (sym c.header_at.ensures ∙ c.in-Err-End.is ∙ ap Err c.in-Err-End.field-0-is));
      form_passes = tt;
    }

pub returns-in-Err-Cut : goal.returns-in-Err-Cut
unfolding checked_form
returns-in-Err-Cut t c =
    let a = c.args in
    record {
      f_after = index_cut a.program.now a.at a.to a.parent a.levels a.variables (when_cut a.program.now a.at a.to c.requires.to_in_bounds (sym c.header_at.ensures ∙ c.in-Err-Cut.is ∙ ap Err c.in-Err-Cut.field-0-is));
      form_passes = tt;
    }

pub returns-in-Other : goal.returns-in-Other
unfolding checked_form form_of
returns-in-Other t c =
    let a = c.args in
    let program = a.program.now in
    let tag = c.in-Ok.header.tag in
    let next = c.in-Ok.header.next in
    let w = when_whole program a.at a.to tag next c.requires.to_in_bounds (sym c.header_at.ensures ∙ c.in-Ok.is) in
    record {
      f_after = index_acts program a.at a.to a.parent a.levels a.variables tag next w Other c.if-levels-eq0.false c.index_tag-kind.result c.index_tag-kind.ensures c.in-Other.is;
      form_passes = tt;
    }

pub returns-in-Literal : goal.returns-in-Literal
returns-in-Literal t c =
    let a = c.args in
    let program = a.program.now in
    let tag = c.in-Ok.header.tag in
    let next = c.in-Ok.header.next in
    let w = when_whole program a.at a.to tag next c.requires.to_in_bounds (sym c.header_at.ensures ∙ c.in-Ok.is) in
    record {
      f_after = c.literal.ensures.by_index a.variables ∙ index_acts program a.at a.to a.parent a.levels a.variables tag next w Literal c.if-levels-eq0.false c.index_tag-kind.result c.index_tag-kind.ensures c.in-Literal.is;
      form_passes = form_ends_passes program a.at a.to tag next c.literal.result c.literal.new.f w c.literal.ensures.form_ends_at;
    }

pub returns-in-Variable : goal.returns-in-Variable
returns-in-Variable t c =
    let a = c.args in
    let program = a.program.now in
    let tag = c.in-Ok.header.tag in
    let next = c.in-Ok.header.next in
    let w = when_whole program a.at a.to tag next c.requires.to_in_bounds (sym c.header_at.ensures ∙ c.in-Ok.is) in
    record {
      f_after = c.variable.ensures.f_after ∙ index_acts program a.at a.to a.parent a.levels a.variables tag next w Variable c.if-levels-eq0.false c.index_tag-kind.result c.index_tag-kind.ensures c.in-Variable.is;
      form_passes = form_ends_passes program a.at a.to tag next c.variable.result c.variable.new.f w c.variable.ensures.form_ends_at;
    }

pub returns-else-end-next : goal.returns-else-end-next
returns-else-end-next t c =
    let a = c.args in
    let program = a.program.now in
    let tag = c.in-Ok.header.tag in
    let next = c.in-Ok.header.next in
    let w = when_whole program a.at a.to tag next c.requires.to_in_bounds (sym c.header_at.ensures ∙ c.in-Ok.is) in
    let op = c.in-Both.op in
    let acts = index_acts program a.at a.to a.parent a.levels a.variables tag next w (Both op) c.if-levels-eq0.false c.index_tag-kind.result c.index_tag-kind.ensures c.in-Both.is in
    let r = c.index.result in
    let l = c.index.new.f in
    let mid = c.in_ok-mid-in-Both.mid in
    let v = form_passes_upto program (a.at + 3) next r l mid c.in_ok-mid-in-Both.was c.index.ensures.form_passes in
    let s = c.index-in-Both.result in
    let k = c.index-in-Both.new.f in
    let end = c.in_ok-end-in-Both.end in
    let u = form_passes_upto program mid next s k end c.in_ok-end-in-Both.was c.index-in-Both.ensures.form_passes in
    record {
      f_after = c.combine.ensures.f_after ∙ both_good_lem program a.at next a.variables (a.levels - 1) op r l c.index.ensures.f_after mid c.in_ok-mid-in-Both.was v.0 s k c.index-in-Both.ensures.f_after end c.in_ok-end-in-Both.was u.0 c.if-end-next.false ∙ acts;
      form_passes = form_ends_passes program a.at a.to tag next c.combine.result c.combine.new.f w c.combine.ensures.form_ends_at;
    }
