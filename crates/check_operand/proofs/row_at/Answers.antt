-- `check_operand::row_at` meets its contract. Assumes nothing.
use native.Mathlib.Omega.{arith}
use Rattle.check_operand.proofs.Rows.{unnamed_empty, unnamed_beyond}
use Rattle.check_operand.proofs.row_at.Goals as goal

pub returns-then-next-from : goal.returns-then-next-from
returns-then-next-from c =
    let a = c.args in
    unnamed_empty a.scope.now a.program.now a.at a.next c.if-next-from.true

pub returns-then-scope-n : goal.returns-then-scope-n
returns-then-scope-n c =
    let a = c.args in
    unnamed_beyond a.scope.now a.program.now a.at a.next (omega arith) c.requires.at_bound.1 (omega arith)
