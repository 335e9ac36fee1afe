-- `metaqasm::result_of_answer` meets its contract. Assumes nothing.
use mathlib.Core.Path.{◌≡◌, sym, ap, ◌∙◌, subst}
use Rattle.std.specs.Prelude.{Result as CodeResult, Err}
use Rattle.language.specs.Result.{Result, finished}
use Rattle.records.specs.declared.State.{State}
use Rattle.records.specs.declared.Stop.{Stop}
use Rattle.records.specs.declared.Stop.TheVariants.{Ended, Stuck}
use Rattle.runs.specs.Conclusions.{concluded}
use Rattle.metaqasm.specs.Answers.{NotStuck}
use Rattle.metaqasm.proofs.result_of_answer.Goals as goal

pub returns-in-Ok : goal.returns-in-Ok
unfolding concluded
returns-in-Ok c =
    λ output. ap (concluded output) c.in-Ok.is ∙ ap (λ (x : Result). finished (record { result = x; output = output })) (sym c.result.ensures)

pub returns-in-Err-Ended : goal.returns-in-Err-Ended
unfolding concluded
returns-in-Err-Ended c =
    let k = c.in-Err-Ended in
    let is : ◌≡◌ {A = CodeResult State Stop} c.args.a (Err k.field-0) = k.is in
    let why : ◌≡◌ {A = Stop} k.field-0 (Ended k.reason k.place k.s) = rw is at k.field-0-is in
    let e = rw (c.number.ensures, c.from.ensures) at c.result-in-Err-Ended.ensures in
    λ output. ap (concluded output) (is ∙ ap Err why) ∙ ap (λ (x : Result). finished (record { result = x; output = output })) (sym e)

pub returns-in-Err-Stuck : goal.returns-in-Err-Stuck
returns-in-Err-Stuck c =
    let k = c.in-Err-Stuck in
    let is : ◌≡◌ {A = CodeResult State Stop} c.args.a (Err k.field-0) = k.is in
    let why : ◌≡◌ {A = Stop} k.field-0 Stuck = rw is at k.field-0-is in
    absurd (subst NotStuck (is ∙ ap Err why) c.requires)
