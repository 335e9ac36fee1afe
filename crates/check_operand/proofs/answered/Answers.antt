-- `check_operand::answered` meets its contract. Assumes nothing.
use borrow.Author.Rules.{rules}
use Rattle.language.specs.Check.{by_showing}
use Rattle.forms.specs.Flat.{shown_of}
use Rattle.check_index.specs.Answers.{checked_part}
use Rattle.check_operand.proofs.answered.Goals as goal

pub returns-in-Ok-clause-result_value : goal.returns-in-Ok-clause-result_value
unfolding checked_part by_showing shown_of
returns-in-Ok-clause-result_value c = search rules

pub returns-in-Err-NotShown-clause-result_value : goal.returns-in-Err-NotShown-clause-result_value
unfolding checked_part by_showing shown_of
returns-in-Err-NotShown-clause-result_value c = search rules

pub returns-in-Err-OutOfRange-clause-result_value : goal.returns-in-Err-OutOfRange-clause-result_value
unfolding checked_part by_showing shown_of
returns-in-Err-OutOfRange-clause-result_value c = search rules
