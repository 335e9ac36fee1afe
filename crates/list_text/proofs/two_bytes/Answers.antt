-- `two_bytes` meets its contract. Assumes nothing.
use borrow.Author.Rules.{rules}
use Rattle.list_text.specs.Lines.{two_bytes_at}
use Rattle.list_text.proofs.two_bytes.Goals as goal

pub returns : goal.returns
unfolding two_bytes_at
returns c = search rules
