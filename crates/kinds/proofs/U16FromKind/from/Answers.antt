-- `kinds::U16FromKind::from` meets its contract. Assumes nothing.
use Rattle.std.proofs.Common.{rules}
use Rattle.kinds.specs.Numbers.{number_of}
use Rattle.kinds.proofs.U16FromKind.from.Goals as goal

pub returns : goal.returns
unfolding number_of
returns c = search rules
