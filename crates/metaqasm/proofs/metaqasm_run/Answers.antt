-- `metaqasm::metaqasm_run` meets its contract. Assumes nothing.
use mathlib.Core.Path.{sym, ap, ◌∙◌}
use native.Mathlib.Omega.{arith}
use Rattle.language.specs.Result.{Result}
use Rattle.metaqasm.specs.Answers.{answered}
use Rattle.metaqasm.proofs.AcceptedRuns.{acceptable, run_told, run_answers, refused_run, refused_counts, refused_sound}
use Rattle.metaqasm.proofs.metaqasm_run.Goals as goal

pub returns-then-first-ne0 : goal.returns-then-first-ne0
returns-then-first-ne0 c =
    let a = c.args in
    let l = a.program.now in
    let lent = a.output.now in
    let x = answered c.checked-first.result in
    let n = refused_counts l x c.checked-first.ensures c.if-first-ne0.true in
    record {
      outcome = refused_run l x c.checked-first.ensures c.if-first-ne0.true a.limit lent;
      sound = (λ z. refused_sound l x c.checked-first.ensures c.if-first-ne0.true z);
      records_in_bounds = omega (arith, n.0);
      steps_le_limit = omega (arith, n.1);
    }

pub run-requires : goal.run-requires
run-requires c =
    let a = c.args in
    let l = a.program.now in
    let lent = a.output.now in
    let e = sym (ap (λ (r : Result). r.number) c.checked-first.ensures) ∙ c.if-first-ne0.false in
    acceptable l e

pub result_of_answer-requires : goal.result_of_answer-requires
result_of_answer-requires c =
    let a = c.args in
    let l = a.program.now in
    let lent = a.output.now in
    let e = sym (ap (λ (r : Result). r.number) c.checked-first.ensures) ∙ c.if-first-ne0.false in
    run_told l a.limit lent e c.run.new.out c.run.result c.run.ensures

pub returns : goal.returns
returns c =
    let a = c.args in
    let l = a.program.now in
    let lent = a.output.now in
    let e = sym (ap (λ (r : Result). r.number) c.checked-first.ensures) ∙ c.if-first-ne0.false in
    let out = c.run.new.out in
    let t = run_answers l a.limit lent e out c.run.result (answered c.result_of_answer.result) c.run.ensures (c.result_of_answer.ensures out) in
    record {
      outcome = t.0;
      sound = t.1;
      records_in_bounds = t.2;
      steps_le_limit = t.3;
    }
