-- `calls::is_index` meets its contract. Assumes nothing.
use borrow.Author.Tests.{le-leb, lt-leb}
use Rattle.calls.proofs.is_index.Goals as goal

pub returns-then-tag-ge-LITERAL : goal.returns-then-tag-ge-LITERAL
returns-then-tag-ge-LITERAL c =
    rw (le-leb _ _ c.if-tag-ge-LITERAL.true)

pub returns-else-tag-ge-LITERAL : goal.returns-else-tag-ge-LITERAL
returns-else-tag-ge-LITERAL c =
    rw (lt-leb _ _ c.if-tag-ge-LITERAL.false)
