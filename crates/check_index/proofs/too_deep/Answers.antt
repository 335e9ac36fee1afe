-- `check_index::too_deep` meets its contract. Assumes nothing.
use Rattle.check_index.proofs.Forms.{deep_below, deep_above, deep_index_lem}
use Rattle.check_index.proofs.too_deep.Goals as goal

pub returns-then-tag-lt-LITERAL : goal.returns-then-tag-lt-LITERAL
returns-then-tag-lt-LITERAL c = λ p content. deep_below p c.args.tag content c.if-tag-lt-LITERAL.true

pub returns-then-tag-gt-PRODUCT : goal.returns-then-tag-gt-PRODUCT
returns-then-tag-gt-PRODUCT c = λ p content. deep_above p c.args.tag content c.if-tag-gt-PRODUCT.true

pub returns : goal.returns
returns c = λ p content. deep_index_lem p c.args.tag content c.if-tag-lt-LITERAL.false c.if-tag-gt-PRODUCT.false
