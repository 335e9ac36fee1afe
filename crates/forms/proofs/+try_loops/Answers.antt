-- `forms::try_loops` meets its contract. It calls itself for one loop less, and is measured by the loops. Assumes nothing.
use borrow.Author.Rules.{rules}
use native.Mathlib.Omega.{arith}
use mathlib.Core.Path.{sym, ◌∙◌}
use Prim.Native.Nat.{◌+◌, ◌<◌}
use Rattle.forms.proofs.Laws.{tried_none, tried_hit, tried_miss, tried_few}
use Rattle.forms.proofs.+try_loops.Goals as goal

pub returns-then-inner-eq0 : goal.returns-then-inner-eq0
returns-then-inner-eq0 t c =
    let e = tried_none _ _ _ _ _ _ c.if-inner-eq0.true in
    record {
      shown_value = e.0;
      made_value = e.1;
    }

pub returns-then-try_loop : goal.returns-then-try_loop
returns-then-try_loop t c =
    let e = tried_hit _ _ _ _ _ _ (omega (arith, c.if-inner-eq0.false)) (sym c.try_loop.ensures ∙ c.if-try_loop.true) in
    record {
      shown_value = e.0;
      made_value = e.1;
    }

pub overflow_add-made : goal.overflow_add-made
overflow_add-made t c =
    let few = tried_few _ _ _ _ _ _ c.try_loops-t.ensures.made_value in
    let most = c.args.ranges.now.few in
    let h : c.try_loops-t.result.made + 1 < 100 = omega arith in
    search rules

pub returns : goal.returns
returns t c =
    let e = tried_miss _ _ _ _ _ _ (omega (arith, c.if-inner-eq0.false)) (sym c.try_loop.ensures ∙ c.if-try_loop.false) c.try_loops-t.ensures.shown_value c.try_loops-t.ensures.made_value in
    record {
      shown_value = e.0;
      made_value = e.1;
    }
