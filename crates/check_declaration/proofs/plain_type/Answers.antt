-- `check_declaration::plain_type` meets its contract. Assumes nothing.
use mathlib.Core.Path.{sym, ap, ◌∙◌}
use mathlib.Core.List.{[]}
use native.Mathlib.Omega.{arith}
use Rattle.std.specs.Prelude.{Err}
use Rattle.fields.proofs.Headers.{when_whole, when_end, when_cut}
use Rattle.check_operand.specs.Tables.{scope_with}
use Rattle.check_declaration.specs.Types.{checked_type}
use Rattle.check_index.proofs.Answers.{passed}
use Rattle.check_declaration.proofs.Types.{type_none, type_cut, type_seven, type_single, type_more, type_many, type_other, ends_kept, size_many, size_refused}
use Rattle.refusals.proofs.Handed.{handed}
use Rattle.check_declaration.proofs.plain_type.Goals as goal

pub overflow_add-from : goal.overflow_add-from
overflow_add-from c =
    let a = c.args in
    let w = when_whole a.program.now a.at a.to c.in-Ok.header.tag c.in-Ok.header.next c.requires.to_in_bounds (sym c.header_at.ensures ∙ c.in-Ok.is) in
    let j = w.low in
    omega (arith, w.high)

pub sized_type-requires-clause-at_bound : goal.sized_type-requires-clause-at_bound
sized_type-requires-clause-at_bound c =
    let a = c.args in
    let w = when_whole a.program.now a.at a.to c.in-Ok.header.tag c.in-Ok.header.next c.requires.to_in_bounds (sym c.header_at.ensures ∙ c.in-Ok.is) in
    (w.low, omega (arith, w.high))

pub returns-then-from-next : goal.returns-then-from-next
unfolding checked_type
returns-then-from-next c =
    let a = c.args in
    let program = a.program.now in
    let tag = c.in-Ok.header.tag in
    let next = c.in-Ok.header.next in
    let w = when_whole program a.at a.to tag next c.requires.to_in_bounds (sym c.header_at.ensures ∙ c.in-Ok.is) in
    let h = w.high in
    let j = w.low in
    let k = c.requires.to_in_bounds in
    record {
      f_after = λ fs ks. type_more (scope_with fs ks a.m []) program a.at a.to a.parent tag next w c.in-16.is c.if-from-next.true (omega arith);
      type_passes = tt;
    }

pub returns-in-Err-End : goal.returns-in-Err-End
unfolding checked_type
returns-in-Err-End c =
    let a = c.args in
    let program = a.program.now in
    record {
      f_after = λ fs ks. type_none (scope_with fs ks a.m []) program a.at a.to a.parent (when_end program a.at a.to c.requires.to_in_bounds (sym c.header_at.ensures ∙ c.in-Err-End.is ∙ ap Err c.in-Err-End.field-0-is));
      type_passes = tt;
    }

pub returns-in-Err-Cut : goal.returns-in-Err-Cut
unfolding checked_type
returns-in-Err-Cut c =
    let a = c.args in
    let program = a.program.now in
    record {
      f_after = λ fs ks. type_cut (scope_with fs ks a.m []) program a.at a.to a.parent (when_cut program a.at a.to c.requires.to_in_bounds (sym c.header_at.ensures ∙ c.in-Err-Cut.is ∙ ap Err c.in-Err-Cut.field-0-is));
      type_passes = tt;
    }

pub returns-else-from-next : goal.returns-else-from-next
unfolding checked_type
returns-else-from-next c =
    let a = c.args in
    let program = a.program.now in
    let tag = c.in-Ok.header.tag in
    let next = c.in-Ok.header.next in
    let w = when_whole program a.at a.to tag next c.requires.to_in_bounds (sym c.header_at.ensures ∙ c.in-Ok.is) in
    let h = w.high in
    let j = w.low in
    let k = c.requires.to_in_bounds in
    record {
      f_after = λ fs ks. type_single (scope_with fs ks a.m []) program a.at a.to a.parent tag next w c.in-16.is c.if-from-next.false;
      type_passes = passed program a.at a.to tag next w;
    }

pub returns-in_ok-sized_type-in-17 : goal.returns-in_ok-sized_type-in-17
unfolding checked_type
returns-in_ok-sized_type-in-17 c =
    let a = c.args in
    let program = a.program.now in
    let tag = c.in-Ok.header.tag in
    let next = c.in-Ok.header.next in
    let w = when_whole program a.at a.to tag next c.requires.to_in_bounds (sym c.header_at.ensures ∙ c.in-Ok.is) in
    let h = w.high in
    let j = w.low in
    let k = c.requires.to_in_bounds in
    let l = c.sized_type.new.f in
    record {
      f_after = λ fs ks. size_many c.sized_type.result l _ c.in_ok-sized_type-in-17.was ∙ c.sized_type.ensures.f_after fs ks ∙ type_many (scope_with fs ks a.m []) program a.at a.to a.parent tag next w c.in-17.is;
      type_passes = (passed program a.at a.to tag next w, ends_kept next c.sized_type.result l _ c.in_ok-sized_type-in-17.was c.sized_type.ensures.form_ends_at, type_seven (scope_with [] [] a.m []) program a.at next _ (omega arith) (sym (size_many c.sized_type.result l _ c.in_ok-sized_type-in-17.was ∙ c.sized_type.ensures.f_after [] [])));
    }

pub returns-in_err-sized_type-in-17 : goal.returns-in_err-sized_type-in-17
unfolding checked_type
returns-in_err-sized_type-in-17 c =
    let a = c.args in
    let program = a.program.now in
    let tag = c.in-Ok.header.tag in
    let next = c.in-Ok.header.next in
    let w = when_whole program a.at a.to tag next c.requires.to_in_bounds (sym c.header_at.ensures ∙ c.in-Ok.is) in
    let h = w.high in
    let j = w.low in
    let k = c.requires.to_in_bounds in
    let l = c.sized_type.new.f in
    rw (handed c.from_residual.result c.from_residual.ensures.1) (record {
      f_after = λ fs ks. size_refused _ c.sized_type.result l c.in_err-sized_type-in-17.was ∙ c.sized_type.ensures.f_after fs ks ∙ type_many (scope_with fs ks a.m []) program a.at a.to a.parent tag next w c.in-17.is;
      type_passes = tt;
    })

pub returns-in_default : goal.returns-in_default
unfolding checked_type
returns-in_default c =
    let a = c.args in
    let program = a.program.now in
    let tag = c.in-Ok.header.tag in
    let next = c.in-Ok.header.next in
    let w = when_whole program a.at a.to tag next c.requires.to_in_bounds (sym c.header_at.ensures ∙ c.in-Ok.is) in
    let h = w.high in
    let j = w.low in
    let k = c.requires.to_in_bounds in
    record {
      f_after = λ fs ks. type_other (scope_with fs ks a.m []) program a.at a.to a.parent tag next w (omega arith) (omega arith);
      type_passes = tt;
    }
