-- `check_statement::too_deep` meets its contract. Assumes nothing.
use Rattle.check_statement.proofs.Statements.{deep_below, deep_above, deep_statement_lem}
use Rattle.check_statement.proofs.too_deep.Goals as goal

pub returns-then-tag-lt-H : goal.returns-then-tag-lt-H
returns-then-tag-lt-H c = λ p content. deep_below p c.args.tag content c.if-tag-lt-H.true

pub returns-then-tag-gt-PARAMETER_CALL : goal.returns-then-tag-gt-PARAMETER_CALL
returns-then-tag-gt-PARAMETER_CALL c = λ p content. deep_above p c.args.tag content c.if-tag-gt-PARAMETER_CALL.true

pub returns : goal.returns
returns c = λ p content. deep_statement_lem p c.args.tag content c.if-tag-lt-H.false c.if-tag-gt-PARAMETER_CALL.false
