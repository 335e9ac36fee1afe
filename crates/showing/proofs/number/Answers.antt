-- `showing::number` meets its contract. Assumes nothing.
use Rattle.std.proofs.Common.{rules}
use Rattle.forms.specs.Flat.{shown_of}
use Rattle.showing.specs.Answers.{number_of}
use Rattle.showing.proofs.number.Goals as goal

pub returns-in-Ok : goal.returns-in-Ok
unfolding number_of shown_of
returns-in-Ok c = search rules

pub returns-in-Err-NotShown : goal.returns-in-Err-NotShown
unfolding number_of shown_of
returns-in-Err-NotShown c = search rules

pub returns-in-Err-OutOfRange : goal.returns-in-Err-OutOfRange
unfolding number_of shown_of
returns-in-Err-OutOfRange c = search rules
