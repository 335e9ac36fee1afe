-- `forms::verdict_of` meets its contract. Assumes nothing.
use mathlib.Core.Path.{sym, ap}
use Rattle.forms.specs.Flat.{shown_of, showing_by}
use Rattle.forms.proofs.verdict_of.Goals as goal

pub returns-then-natural : goal.returns-then-natural
unfolding shown_of
returns-then-natural c = sym (ap showing_by c.if-natural.true)

pub returns-else-natural : goal.returns-else-natural
unfolding shown_of
returns-else-natural c = sym (ap showing_by c.if-natural.false)
