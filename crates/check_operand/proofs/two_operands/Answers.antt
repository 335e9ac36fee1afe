-- `check_operand::two_operands` meets its contract. Assumes nothing.
use mathlib.Core.Path.{refl, sym, ◌∙◌}
use lib.IntN.{pos}
use lib.ListN.{replicate}
use Rattle.refusals.proofs.Handed.{handed}
use Rattle.language.specs.Check.{require}
use Rattle.check_index.specs.Answers.{checked_part}
use Rattle.check_operand.specs.Scopes.{scope_at}
use Rattle.check_operand.specs.Operands.{wanted_of}
use Rattle.check_operand.proofs.Wires.{second_wire, second_other, nothing_known}
use Rattle.check_operand.proofs.Pairs.{first_stops, second_stops, pair_long, pair_test, pair_compare, pair_tested}
use Rattle.check_operand.proofs.two_operands.Goals as goal

pub returns-in_err-mid : goal.returns-in_err-mid
unfolding wanted_of
returns-in_err-mid c =
    let a = c.args in
    let r = c.operand in
    rw (handed c.from_residual.result c.from_residual.ensures.1) (record {
      result_value = λ fs. first_stops (scope_at fs a.scope.now) (wanted_of fs a.second _) a.program.now a.at a.from a.next r.result (r.ensures.result_value fs) c.in_err-mid.was;
      ends_at = tt;
    })

pub returns-in_err-end : goal.returns-in_err-end
unfolding wanted_of
returns-in_err-end c =
    let a = c.args in
    let r = c.operand in
    let t = c.operand-2 in
    rw (handed c.from_residual-in_err-end.result c.from_residual-in_err-end.ensures.1) (record {
      result_value = λ fs. second_stops (scope_at fs a.scope.now) (wanted_of fs a.second (replicate 13 (pos 0))) a.program.now a.at a.from a.next r.result (r.ensures.result_value fs) c.in_ok-mid.mid c.in_ok-mid.was r.ensures.passes
          t.result (t.ensures.result_value fs) c.in_err-end.was;
      ends_at = tt;
    })

pub returns-then-end-next : goal.returns-then-end-next
unfolding wanted_of checked_part
returns-then-end-next c =
    let a = c.args in
    let r = c.operand in
    let t = c.operand-2 in
    record {
      result_value = λ fs. pair_long (scope_at fs a.scope.now) (wanted_of fs a.second (replicate 13 (pos 0))) a.program.now a.at a.from a.next r.result (r.ensures.result_value fs) c.in_ok-mid.mid c.in_ok-mid.was r.ensures.passes
          t.result (t.ensures.result_value fs) c.in_ok-end.end c.in_ok-end.was t.ensures.passes c.if-end-next.true c.requires.next_in_bounds;
      ends_at = tt;
    }

pub returns-in_default : goal.returns-in_default
unfolding wanted_of checked_part
returns-in_default c =
    let a = c.args in
    let r = c.operand in
    let t = c.operand-2 in
    record {
      result_value = λ fs. sym (second_other a.at (scope_at fs a.scope.now) fs a.second (replicate 13 (pos 0)) _ _ c.in_default.not-Wire)
          ∙ pair_test (scope_at fs a.scope.now) (wanted_of fs a.second (replicate 13 (pos 0))) a.program.now a.at a.from a.next r.result (r.ensures.result_value fs) c.in_ok-mid.mid c.in_ok-mid.was r.ensures.passes
          t.result (t.ensures.result_value fs) c.in_ok-end.end c.in_ok-end.was t.ensures.passes c.if-end-next.false;
      ends_at = refl;
    }

pub same_wire-requires : goal.same_wire-requires
unfolding wanted_of
same_wire-requires c =
    let a = c.args in
    let r = c.operand in
    let t = c.operand-2 in
    let k = nothing_known in
    let both = pair_compare (scope_at k a.scope.now) (wanted_of k a.second (replicate 13 (pos 0))) a.program.now a.at a.from a.next r.result (r.ensures.result_value k) c.in_ok-mid.mid c.in_ok-mid.was r.ensures.passes
    t.result (t.ensures.result_value k) c.in_ok-end.end c.in_ok-end.was t.ensures.passes c.if-end-next.false c.requires.next_in_bounds _ _ (r.ensures.leaves k) (t.ensures.leaves k) (second_wire k a.second _ c.in-Wire.is) in
    record {
      comparable = both.0;
      comparable_2 = both.1;
    }

pub returns-then-same_wire : goal.returns-then-same_wire
unfolding wanted_of checked_part require
returns-then-same_wire c =
    let a = c.args in
    let r = c.operand in
    let t = c.operand-2 in
    record {
      result_value = λ fs. pair_tested (scope_at fs a.scope.now) (wanted_of fs a.second (replicate 13 (pos 0))) a.program.now a.at a.from a.next r.result (r.ensures.result_value fs) c.in_ok-mid.mid c.in_ok-mid.was r.ensures.passes
          t.result (t.ensures.result_value fs) c.in_ok-end.end c.in_ok-end.was t.ensures.passes c.if-end-next.false c.requires.next_in_bounds _ _ (r.ensures.leaves fs) (t.ensures.leaves fs) (second_wire fs a.second _ c.in-Wire.is) refl (sym c.if-same_wire.true ∙ c.same_wire.ensures);
      ends_at = tt;
    }

pub returns : goal.returns
unfolding wanted_of checked_part require
returns c =
    let a = c.args in
    let r = c.operand in
    let t = c.operand-2 in
    record {
      result_value = λ fs. pair_tested (scope_at fs a.scope.now) (wanted_of fs a.second (replicate 13 (pos 0))) a.program.now a.at a.from a.next r.result (r.ensures.result_value fs) c.in_ok-mid.mid c.in_ok-mid.was r.ensures.passes
          t.result (t.ensures.result_value fs) c.in_ok-end.end c.in_ok-end.was t.ensures.passes c.if-end-next.false c.requires.next_in_bounds _ _ (r.ensures.leaves fs) (t.ensures.leaves fs) (second_wire fs a.second _ c.in-Wire.is) refl (sym c.if-same_wire.false ∙ c.same_wire.ensures);
      ends_at = refl;
    }
