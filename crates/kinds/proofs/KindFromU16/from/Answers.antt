-- `kinds::KindFromU16::from` meets its contract. Assumes nothing.
use Rattle.std.proofs.Common.{rules}
use Rattle.kinds.specs.Numbers.{kind_with}
use Rattle.kinds.proofs.KindFromU16.from.Goals as goal

pub returns-in-0 : goal.returns-in-0
unfolding kind_with
returns-in-0 c = search rules

pub returns-in-1 : goal.returns-in-1
unfolding kind_with
returns-in-1 c = search rules

pub returns-in-2 : goal.returns-in-2
unfolding kind_with
returns-in-2 c = search rules

pub returns-in_default : goal.returns-in_default
unfolding kind_with
returns-in_default c = search rules
