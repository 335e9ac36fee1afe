-- The cycle of calls meets its contracts. Assumes nothing.
use mathlib.Core.Path.{sym, ◌∙◌}
use native.Mathlib.Omega.{arith}
use lib.ListN.{take}
use lib.Seq.{slice}
use Rattle.std.proofs.lemmas.Result.{err_from_is_err_and}
use Rattle.indexes.specs.Values.{OperateIs}
use Rattle.fields.proofs.Between.{in_whole}
use Rattle.indexes.proofs.Operations.{at_other, combined_none, combined_left, combined_cut, combined_right, combined_both, is_ranged, at_deepest, at_literal, at_variable}
use Rattle.language.proofs.Integers.{range_back}
use Rattle.indexes.proofs.+combined_evaluate.Goals as goal

pub combined-returns-then-tag-lt-SUM : goal.combined-returns-then-tag-lt-SUM
combined-returns-then-tag-lt-SUM t c =
    let a = c.args in
    at_other a.tag (slice a.from a.to a.bytes.now) a.levels (take a.many a.vars.now) (λ z. omega (arith, c.requires.levels_nonzero.0))
    c.requires.levels_nonzero.1 c.requires.levels_nonzero.2 (λ z. omega arith) (λ z. omega arith) (λ z. omega arith)

pub combined-returns-in_err-left : goal.combined-returns-in_err-left
combined-returns-in_err-left t c =
    let a = c.args in
    let p = err_from_is_err_and c.from_residual.result c.from_residual.ensures.1 in
    rw (p.1, p.2) (combined_none a.tag a.bytes.now a.from a.to a.levels (take a.many a.vars.now) (λ z. omega (arith, c.requires.levels_nonzero.0)) (omega arith) (omega arith) (sym c.header_at.ensures ∙ c.in_err-left.was))

pub combined-evaluate-requires : goal.combined-evaluate-requires
combined-evaluate-requires t c =
    let a = c.args in
    let f = in_whole a.bytes.now a.from a.to _ _ (sym c.header_at.ensures ∙ c.in_ok-left.was) in
    (omega (arith, c.decreases, c.requires.levels_nonzero.0), ((f.low, omega (arith, f.high, c.requires.from_le_to.1)), c.requires.many_le_most_values))

pub combined-returns-in_err-x : goal.combined-returns-in_err-x
combined-returns-in_err-x t c =
    let a = c.args in
    let p = err_from_is_err_and c.from_residual-in_err-x.result c.from_residual-in_err-x.ensures.1 in
    rw (p.1, p.2) (combined_left a.tag a.bytes.now a.from a.to a.levels (take a.many a.vars.now) (λ z. omega (arith, c.requires.levels_nonzero.0)) (omega arith) (omega arith) _ (sym c.header_at.ensures ∙ c.in_ok-left.was)
    _ (rw c.in_err-x.was at c.evaluate.ensures))

pub combined-returns-in_err-right : goal.combined-returns-in_err-right
combined-returns-in_err-right t c =
    let a = c.args in
    let p = err_from_is_err_and c.from_residual-in_err-right.result c.from_residual-in_err-right.ensures.1 in
    rw (p.1, p.2) (combined_cut a.tag a.bytes.now a.from a.to a.levels (take a.many a.vars.now) (λ z. omega (arith, c.requires.levels_nonzero.0)) (omega arith) (omega arith) _ (sym c.header_at.ensures ∙ c.in_ok-left.was)
    _ (rw c.in_ok-x.was at c.evaluate.ensures) (sym c.header_at-2.ensures ∙ c.in_err-right.was))

pub combined-overflow_add-left : goal.combined-overflow_add-left
combined-overflow_add-left t c =
    let a = c.args in
    let f = in_whole a.bytes.now c.in_ok-left.left.next a.to _ _ (sym c.header_at-2.ensures ∙ c.in_ok-right.was) in
    omega (arith, f.low, f.high)

pub combined-evaluate-requires-2 : goal.combined-evaluate-requires-2
combined-evaluate-requires-2 t c =
    let a = c.args in
    let f = in_whole a.bytes.now c.in_ok-left.left.next a.to _ _ (sym c.header_at-2.ensures ∙ c.in_ok-right.was) in
    (omega (arith, c.decreases, c.requires.levels_nonzero.0), ((f.low, omega (arith, f.high, c.requires.from_le_to.1)), c.requires.many_le_most_values))

pub combined-returns-in_err-y : goal.combined-returns-in_err-y
combined-returns-in_err-y t c =
    let a = c.args in
    let p = err_from_is_err_and c.from_residual-in_err-y.result c.from_residual-in_err-y.ensures.1 in
    rw (p.1, p.2) (combined_right a.tag a.bytes.now a.from a.to a.levels (take a.many a.vars.now) (λ z. omega (arith, c.requires.levels_nonzero.0)) (omega arith) (omega arith) _ (sym c.header_at.ensures ∙ c.in_ok-left.was)
    _ (rw c.in_ok-x.was at c.evaluate.ensures) _ (sym c.header_at-2.ensures ∙ c.in_ok-right.was) _ (rw c.in_err-y.was at c.evaluate-2.ensures))

pub combined-operate-requires : goal.combined-operate-requires
combined-operate-requires t c =
    let rx = is_ranged _ _ _ _ c.in_ok-x.x (rw c.in_ok-x.was at c.evaluate.ensures) in
    let ry = is_ranged _ _ _ _ c.in_ok-y.y (rw c.in_ok-y.was at c.evaluate-2.ensures) in
    record {
      x_value = rw (range_back {z = c.in_ok-x.x} rx) rx;
      y_value = rw (range_back {z = c.in_ok-y.y} ry) ry;
    }

pub combined-returns : goal.combined-returns
combined-returns t c =
    let a = c.args in
    let x = c.in_ok-x.x in
    let y = c.in_ok-y.y in
    let wx = rw c.in_ok-x.was at c.evaluate.ensures in
    let wy = rw c.in_ok-y.was at c.evaluate-2.ensures in
    let o : OperateIs a.tag x y c.operate.result = rw (range_back {z = x} (is_ranged _ _ _ _ x wx), range_back {z = y} (is_ranged _ _ _ _ y wy)) at c.operate.ensures in
    combined_both a.tag a.bytes.now a.from a.to a.levels (take a.many a.vars.now) (λ z. omega (arith, c.requires.levels_nonzero.0)) (omega arith) (omega arith) _ (sym c.header_at.ensures ∙ c.in_ok-left.was)
    x wx _ (sym c.header_at-2.ensures ∙ c.in_ok-right.was) y wy c.operate.result o

pub evaluate-returns-then-levels-eq0 : goal.evaluate-returns-then-levels-eq0
evaluate-returns-then-levels-eq0 t c =
    let a = c.args in
    at_deepest a.tag (slice a.from a.to a.bytes.now) a.levels (take a.many a.vars.now) c.if-levels-eq0.true

pub evaluate-returns-in-64 : goal.evaluate-returns-in-64
evaluate-returns-in-64 t c =
    let a = c.args in
    let v = take a.many a.vars.now in
    at_literal a.tag (slice a.from a.to a.bytes.now) a.levels v c.if-levels-eq0.false c.in-64.is c.literal.result (c.literal.ensures v)

pub evaluate-returns-in-65 : goal.evaluate-returns-in-65
evaluate-returns-in-65 t c =
    let a = c.args in
    at_variable a.tag (slice a.from a.to a.bytes.now) a.levels (take a.many a.vars.now) c.if-levels-eq0.false c.in-65.is c.variable.result c.variable.ensures
