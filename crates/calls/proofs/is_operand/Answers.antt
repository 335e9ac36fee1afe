-- `calls::is_operand` meets its contract. Assumes nothing.
use borrow.Author.Tests.{le-leb, lt-leb}
use Rattle.calls.proofs.is_operand.Goals as goal

pub returns-then-tag-ge-WHOLE : goal.returns-then-tag-ge-WHOLE
returns-then-tag-ge-WHOLE c =
    rw (le-leb _ _ c.if-tag-ge-WHOLE.true)

pub returns-else-tag-ge-WHOLE : goal.returns-else-tag-ge-WHOLE
returns-else-tag-ge-WHOLE c =
    rw (lt-leb _ _ c.if-tag-ge-WHOLE.false)
