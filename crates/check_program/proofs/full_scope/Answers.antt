-- `check_program::full_scope` meets its contract. Assumes nothing.
use Rattle.forms.specs.Rows.{loops_of}
use Rattle.check_program.proofs.full_scope.Goals as goal

pub returns : goal.returns
unfolding loops_of
returns c = rw c.requires.no_loops
