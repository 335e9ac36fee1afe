-- `phases::cphase_op` meets its contract. Assumes nothing.
use Rattle.std.proofs.Common.{rules}
use Rattle.language.specs.Result.{op}
use Rattle.gates.specs.Gates.{direction_of}
use Rattle.phases.proofs.cphase_op.Goals as goal

pub returns-then-reversed : goal.returns-then-reversed
unfolding direction_of op
returns-then-reversed c = search rules

pub returns-else-reversed : goal.returns-else-reversed
unfolding direction_of op
returns-else-reversed c = search rules
