-- `check_operand::operand` meets its contract. Assumes nothing.
use mathlib.Core.Path.{sym, ap, ◌∙◌}
use native.Mathlib.Omega.{arith}
use Rattle.std.specs.Prelude.{Err}
use Rattle.fields.proofs.Headers.{when_end, when_cut}
use Rattle.check_index.specs.Answers.{checked_part}
use Rattle.check_index.proofs.Answers.{ends_passes}
use Rattle.check_operand.specs.Scopes.{scope_at}
use Rattle.check_operand.specs.Operands.{wanted_of}
use Rattle.check_operand.proofs.Wires.{left_whole, left_element, left_slice, left_passed}
use Rattle.check_operand.proofs.Operands.{field_whole, field_inside, operand_end, operand_cut, operand_whole, operand_element, operand_slice, operand_passed, operand_other, answers_passed}
use Rattle.check_operand.proofs.operand.Goals as goal

pub whole-requires-clause-at_bound : goal.whole-requires-clause-at_bound
whole-requires-clause-at_bound c =
    let a = c.args in
    field_inside a.program.now a.at a.to c.requires.to_in_bounds c.header_at.ensures c.in-Ok.is

pub element-requires : goal.element-requires
element-requires c =
    let a = c.args in
    record { at_bound = field_inside a.program.now a.at a.to c.requires.to_in_bounds c.header_at.ensures c.in-Ok.is }

pub part-requires-clause-at_bound : goal.part-requires-clause-at_bound
part-requires-clause-at_bound c =
    let a = c.args in
    field_inside a.program.now a.at a.to c.requires.to_in_bounds c.header_at.ensures c.in-Ok.is

pub misplaced-requires-clause-at_bound : goal.misplaced-requires-clause-at_bound
misplaced-requires-clause-at_bound c =
    let a = c.args in
    field_inside a.program.now a.at a.to c.requires.to_in_bounds c.header_at.ensures c.in-Ok.is

pub misplaced-requires-clause-answerable : goal.misplaced-requires-clause-answerable
misplaced-requires-clause-answerable c =
    let a = c.args in
    let w = field_whole a.program.now a.at a.to c.requires.to_in_bounds c.header_at.ensures c.in-Ok.is in
    answers_passed a.wanted a.program.now a.at a.to a.parent c.in-Ok.header.tag c.in-Ok.header.next w c.in-51.is c.requires.answerable

pub returns-in-Err-End : goal.returns-in-Err-End
unfolding checked_part
returns-in-Err-End c =
    let a = c.args in
    let e = when_end a.program.now a.at a.to c.requires.to_in_bounds (sym c.header_at.ensures ∙ c.in-Err-End.is ∙ ap Err c.in-Err-End.field-0-is) in
    record {
      result_value = λ fs. operand_end (scope_at fs a.scope.now) (wanted_of fs a.wanted a.size.now) a.program.now a.at a.to a.parent e;
      passes = tt;
      leaves = λ fs. tt;
    }

pub returns-in-Err-Cut : goal.returns-in-Err-Cut
unfolding checked_part
returns-in-Err-Cut c =
    let a = c.args in
    let e = when_cut a.program.now a.at a.to c.requires.to_in_bounds (sym c.header_at.ensures ∙ c.in-Err-Cut.is ∙ ap Err c.in-Err-Cut.field-0-is) in
    record {
      result_value = λ fs. operand_cut (scope_at fs a.scope.now) (wanted_of fs a.wanted a.size.now) a.program.now a.at a.to a.parent e;
      passes = tt;
      leaves = λ fs. tt;
    }

pub returns-in-48 : goal.returns-in-48
returns-in-48 c =
    let a = c.args in
    let h = c.in-Ok.header in
    let w = field_whole a.program.now a.at a.to c.requires.to_in_bounds c.header_at.ensures c.in-Ok.is in
    record {
      result_value = λ fs. c.whole.ensures.result_value fs ∙ operand_whole (scope_at fs a.scope.now) (wanted_of fs a.wanted a.size.now) a.program.now a.at a.to a.parent h.tag h.next w c.in-48.is;
      passes = ends_passes a.program.now a.at a.to h.tag h.next c.whole.result w c.whole.ensures.ends_at;
      leaves = λ fs. left_whole (scope_at fs a.scope.now) a.program.now a.at a.to a.parent h.tag h.next w c.whole.result a.form.now c.in-48.is;
    }

pub returns-in-49 : goal.returns-in-49
returns-in-49 c =
    let a = c.args in
    let h = c.in-Ok.header in
    let w = field_whole a.program.now a.at a.to c.requires.to_in_bounds c.header_at.ensures c.in-Ok.is in
    record {
      result_value = λ fs. c.element.ensures.result_value fs a.size.now ∙ operand_element (scope_at fs a.scope.now) (wanted_of fs a.wanted a.size.now) a.program.now a.at a.to a.parent h.tag h.next w c.in-49.is;
      passes = ends_passes a.program.now a.at a.to h.tag h.next c.element.result w c.element.ensures.ends_at;
      leaves = λ fs. left_element (scope_at fs a.scope.now) a.program.now a.at a.to a.parent h.tag h.next w c.element.result c.element.new.form c.in-49.is (c.element.ensures.leaves fs);
    }

pub returns-in-50 : goal.returns-in-50
returns-in-50 c =
    let a = c.args in
    let h = c.in-Ok.header in
    let w = field_whole a.program.now a.at a.to c.requires.to_in_bounds c.header_at.ensures c.in-Ok.is in
    record {
      result_value = λ fs. c.part.ensures.result_value fs ∙ operand_slice (scope_at fs a.scope.now) (wanted_of fs a.wanted a.size.now) a.program.now a.at a.to a.parent h.tag h.next w c.in-50.is;
      passes = ends_passes a.program.now a.at a.to h.tag h.next c.part.result w c.part.ensures.ends_at;
      leaves = λ fs. left_slice (scope_at fs a.scope.now) a.program.now a.at a.to a.parent h.tag h.next w c.part.result a.form.now c.in-50.is;
    }

pub returns-in-51 : goal.returns-in-51
returns-in-51 c =
    let a = c.args in
    let h = c.in-Ok.header in
    let w = field_whole a.program.now a.at a.to c.requires.to_in_bounds c.header_at.ensures c.in-Ok.is in
    record {
      result_value = λ fs. c.misplaced.ensures.result_value fs a.size.now _ _ _ ∙ operand_passed (scope_at fs a.scope.now) (wanted_of fs a.wanted a.size.now) a.program.now a.at a.to a.parent h.tag h.next w c.in-51.is;
      passes = ends_passes a.program.now a.at a.to h.tag h.next c.misplaced.result w c.misplaced.ensures.ends_at;
      leaves = λ fs. left_passed (scope_at fs a.scope.now) a.program.now a.at a.to a.parent h.tag h.next w c.misplaced.result a.form.now c.in-51.is;
    }

pub returns-in_default : goal.returns-in_default
unfolding checked_part
returns-in_default c =
    let a = c.args in
    let h = c.in-Ok.header in
    let w = field_whole a.program.now a.at a.to c.requires.to_in_bounds c.header_at.ensures c.in-Ok.is in
    record {
      result_value = λ fs. operand_other (scope_at fs a.scope.now) (wanted_of fs a.wanted a.size.now) a.program.now a.at a.to a.parent h.tag h.next w (omega arith) (omega arith) (omega arith) (omega arith);
      passes = tt;
      leaves = λ fs. tt;
    }
