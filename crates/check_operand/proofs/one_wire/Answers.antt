-- `check_operand::one_wire` meets its contract. Assumes nothing.
use mathlib.Core.Path.{refl, sym, ◌∙◌}
use Rattle.refusals.proofs.Handed.{handed}
use Rattle.language.specs.Check.{check_one_wire}
use Rattle.check_index.specs.Answers.{checked_part}
use Rattle.check_index.proofs.Answers.{part_goes, part_stops, passes_upto, left_some, left_none}
use Rattle.check_operand.specs.Operands.{wanted_of}
use Rattle.check_operand.proofs.one_wire.Goals as goal

pub returns-in_err-end : goal.returns-in_err-end
unfolding wanted_of check_one_wire
returns-in_err-end c =
    let r = c.operand in
    rw (handed c.from_residual.result c.from_residual.ensures.1) (record {
      result_value = λ fs. part_stops r.result _ _ (r.ensures.result_value fs) c.in_err-end.was;
      ends_at = tt;
    })

pub returns-then-end-next : goal.returns-then-end-next
unfolding wanted_of check_one_wire checked_part
returns-then-end-next c =
    let a = c.args in
    let r = c.operand in
    let end = c.in_ok-end.end in
    let v = passes_upto a.program.now a.from a.next r.result end c.in_ok-end.was r.ensures.passes in
    record {
      result_value = λ fs. sym (part_goes r.result _ (r.ensures.result_value fs) end _ c.in_ok-end.was ∙ left_some a.program.now a.at a.from a.next end v c.if-end-next.true c.requires.next_in_bounds);
      ends_at = tt;
    }

pub returns : goal.returns
unfolding wanted_of check_one_wire checked_part
returns c =
    let a = c.args in
    let r = c.operand in
    let end = c.in_ok-end.end in
    let v = passes_upto a.program.now a.from a.next r.result end c.in_ok-end.was r.ensures.passes in
    record {
      result_value = λ fs. sym (part_goes r.result _ (r.ensures.result_value fs) end _ c.in_ok-end.was ∙ left_none a.program.now a.at a.from a.next end v c.if-end-next.false);
      ends_at = refl;
    }
