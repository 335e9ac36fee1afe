-- `operands::operand_meaning` meets its contract. Assumes nothing.
use mathlib.Core.Path.{◌∙◌}
use Rattle.operands.specs.Meanings.{operands_of}
use Rattle.operands.proofs.operand_meaning.Goals as goal

pub returns-then-scope : goal.returns-then-scope
unfolding operands_of
returns-then-scope c =
    λ p. c.register.ensures p ∙ simp c.if-scope.true

pub returns : goal.returns
unfolding operands_of
returns c =
    λ p. c.parameter_meaning.ensures p ∙ simp c.if-scope.false
