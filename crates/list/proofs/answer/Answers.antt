-- `answer` meets its contract, for the whole program and for a family. Assumes nothing.
use mathlib.Core.Path.{ap, ◌∙◌}
use Rattle.list_words.specs.Words.{outcome_of}
use Rattle.list_words.specs.Jobs.{job_meant}
use Rattle.list.proofs.answer.Goals as goal

pub returns-in-Whole : goal.returns-in-Whole
unfolding outcome_of job_meant
returns-in-Whole c =
    record {
      outcome = ap (λ j. outcome_of (job_meant j c.args.sizes.now) c.args.program.now c.args.output.now) c.in-Whole.is ∙ c.metaqasm_run.ensures.outcome;
      records_in_bounds = c.metaqasm_run.ensures.records_in_bounds;
    }

pub returns-in-Family : goal.returns-in-Family
unfolding outcome_of job_meant
returns-in-Family c =
    record {
      outcome = ap (λ j. outcome_of (job_meant j c.args.sizes.now) c.args.program.now c.args.output.now) c.in-Family.is ∙ c.metaqasm_instance.ensures.outcome;
      records_in_bounds = c.metaqasm_instance.ensures.records_in_bounds;
    }
