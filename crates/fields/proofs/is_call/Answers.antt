-- `fields::is_call` meets its contract. Assumes nothing.
use Rattle.std.proofs.Common.{rules}
use Rattle.std.proofs.lemmas.Bool.Decides.{nat_tests}
use Rattle.fields.proofs.is_call.Goals as goal

pub returns-in-36 : goal.returns-in-36
returns-in-36 c = search (rules, nat_tests)

pub returns-in_default : goal.returns-in_default
returns-in_default c = search (rules, nat_tests)
