-- `metaqasm::metaqasm_instance` meets its contract. Assumes nothing.
use mathlib.Core.Path.{sym, ap, ◌∙◌}
use native.Mathlib.Omega.{arith}
use Rattle.language.specs.Result.{Result}
use Rattle.metaqasm.specs.Answers.{answered}
use Rattle.metaqasm.proofs.AcceptedRuns.{acceptable, instance_told, instance_answers, refused_instance, refused_counts, refused_sound}
use Rattle.metaqasm.proofs.metaqasm_instance.Goals as goal

pub returns-then-first-ne0 : goal.returns-then-first-ne0
returns-then-first-ne0 c =
    let a = c.args in
    let l = a.program.now in
    let lent = a.output.now in
    let x = answered c.checked-first.result in
    let n = refused_counts l x c.checked-first.ensures c.if-first-ne0.true in
    record {
      outcome = refused_instance l x c.checked-first.ensures c.if-first-ne0.true a.family a.sizes.now a.limit lent;
      sound = (λ z. refused_sound l x c.checked-first.ensures c.if-first-ne0.true z);
      records_in_bounds = omega (arith, n.0);
      steps_le_limit = omega (arith, n.1);
    }

pub instance-requires : goal.instance-requires
instance-requires c =
    let a = c.args in
    let l = a.program.now in
    let lent = a.output.now in
    let e = sym (ap (λ (r : Result). r.number) c.checked-first.ensures) ∙ c.if-first-ne0.false in
    acceptable l e

pub result_of_answer-requires : goal.result_of_answer-requires
result_of_answer-requires c =
    let a = c.args in
    let l = a.program.now in
    let lent = a.output.now in
    let e = sym (ap (λ (r : Result). r.number) c.checked-first.ensures) ∙ c.if-first-ne0.false in
    instance_told l a.family a.sizes.now a.limit lent e c.instance.new.out c.instance.result (rw c.wide.ensures at c.instance.ensures)

pub returns : goal.returns
returns c =
    let a = c.args in
    let l = a.program.now in
    let lent = a.output.now in
    let e = sym (ap (λ (r : Result). r.number) c.checked-first.ensures) ∙ c.if-first-ne0.false in
    let out = c.instance.new.out in
    let t = instance_answers l a.family a.sizes.now a.limit lent e out c.instance.result (answered c.result_of_answer.result) (rw c.wide.ensures at c.instance.ensures) (c.result_of_answer.ensures out) in
    record {
      outcome = t.0;
      sound = t.1;
      records_in_bounds = t.2;
      steps_le_limit = t.3;
    }
