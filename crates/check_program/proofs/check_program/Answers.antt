-- `check_program::check_program` meets its contract. Assumes nothing.
use mathlib.Core.Path.{◌∙◌}
use Rattle.check_program.specs.Answers.{result_told}
use Rattle.check_program.proofs.TopFields.{program_long, program_short}
use Rattle.check_program.proofs.check_program.Goals as goal

pub returns-then-program-gt-LONGEST_PROGRAM : goal.returns-then-program-gt-LONGEST_PROGRAM
unfolding result_told
returns-then-program-gt-LONGEST_PROGRAM c =
    program_long c.args.program.now c.if-program-gt-LONGEST_PROGRAM.true

pub returns-then-program-le-SHORT_PROGRAM : goal.returns-then-program-le-SHORT_PROGRAM
returns-then-program-le-SHORT_PROGRAM c =
    c.check_short.ensures ∙ program_short c.args.program.now c.if-program-gt-LONGEST_PROGRAM.false

pub returns : goal.returns
returns c =
    c.check_long.ensures ∙ program_short c.args.program.now c.if-program-gt-LONGEST_PROGRAM.false
