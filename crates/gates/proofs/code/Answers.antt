-- `gates::code` meets its contract. Assumes nothing.
use Rattle.std.proofs.Common.{rules}
use Rattle.language.specs.Machine.{written}
use Rattle.language.specs.Result.{op}
use Rattle.gates.specs.Gates.{direction_of, gate_for}
use Rattle.gates.proofs.code.Goals as goal

pub returns-in-32 : goal.returns-in-32
unfolding direction_of gate_for written op
returns-in-32 c = search rules

pub returns-in-33 : goal.returns-in-33
unfolding direction_of gate_for written op
returns-in-33 c = search rules

pub returns-in-33-2 : goal.returns-in-33-2
unfolding direction_of gate_for written op
returns-in-33-2 c = search rules

pub returns-in_default : goal.returns-in_default
unfolding direction_of gate_for written op
returns-in_default c = search rules

pub returns-in_default-2 : goal.returns-in_default-2
unfolding direction_of gate_for written op
returns-in_default-2 c = search rules
