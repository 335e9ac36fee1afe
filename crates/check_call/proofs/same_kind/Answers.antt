-- `check_call::same_kind` meets its contract. Assumes nothing.
use Rattle.std.proofs.Common.{rules}
use Rattle.language.specs.Check.{same_kind}
use Rattle.check_operand.specs.Tables.{kind_in}
use Rattle.check_call.specs.Calls.{plain_in}
use Rattle.check_call.proofs.same_kind.Goals as goal

pub returns-in-Quantum : goal.returns-in-Quantum
unfolding same_kind plain_in kind_in
returns-in-Quantum c = search rules

pub returns-in_default : goal.returns-in_default
unfolding same_kind plain_in kind_in
returns-in_default c = search rules
