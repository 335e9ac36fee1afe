-- `showing::rows_kept` meets its contract. The invariant: the rows passed are right. Assumes nothing.
use Rattle.forms.specs.Rows.{Rows}
use Rattle.showing.proofs.rows_kept.Given as goal

abbrev pub invariant-loop-row : goal.invariant-loop-row
invariant-loop-row l = Rows l.rows l.row-index
