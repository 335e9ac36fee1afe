-- `calls::parameter` meets its contract. Assumes nothing.
use Prim.Native.Nat.{◌+◌}
use mathlib.Core.Path.{ap, sym, ◌∙◌}
use Rattle.kinds.specs.declared.Kind.{Kind}
use Rattle.calls.proofs.Types.{single_is}
use lib.ListN.{get_or}
use Rattle.operands.specs.Meanings.{parameter_of}
use Rattle.calls.specs.Arguments.{gathered_operand}
use Rattle.calls.proofs.parameter.Goals as goal

pub returns-in-Quantum : goal.returns-in-Quantum
unfolding parameter_of gathered_operand
returns-in-Quantum c =
    ap (λ (k : Kind). gathered_operand k (get_or c.args.given.now (c.args.i + 1) 0) (get_or c.args.given.now (c.args.i + 2) 0)) (sym c.in-Quantum.is ∙ c.from.ensures)

pub returns-in-Family : goal.returns-in-Family
unfolding parameter_of gathered_operand
returns-in-Family c =
    ap (λ (k : Kind). gathered_operand k (get_or c.args.given.now (c.args.i + 1) 0) (get_or c.args.given.now (c.args.i + 2) 0)) (sym c.in-Family.is ∙ c.from.ensures)

pub returns-in_default : goal.returns-in_default
unfolding parameter_of
returns-in_default c =
    let d = c.in_default in
    rw (← c.from.ensures) (sym (single_is c.from.result (get_or c.args.given.now (c.args.i + 1) 0) (get_or c.args.given.now (c.args.i + 2) 0) d.not-Quantum d.not-Family))
