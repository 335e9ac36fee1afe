-- `runs::run` meets its contract. Assumes nothing.
use lib.ListN.{length}
use Rattle.language.specs.Read.{read}
use Rattle.language.specs.Machine.{run_tops, run_program, nothing_yet}
use Rattle.runs.proofs.Conclusions.{does_all}
use Rattle.runs.proofs.run.Goals as goal

pub returns : goal.returns
unfolding run_program
returns c =
    let a = c.args in
    does_all a.out.now _ c.top_fields.result (run_tops a.limit (length a.out.now) (read a.program.now) nothing_yet) c.top_fields.ensures
