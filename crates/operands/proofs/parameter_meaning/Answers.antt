-- `operands::parameter_meaning` meets its contract. Assumes nothing.
use native.Mathlib.Omega.{arith}
use mathlib.Core.Path.{◌∙◌, ap, sym}
use Rattle.language.specs.Machine.{found, give}
use Rattle.operands.specs.Meanings.{parameter_of, meaning_told}
use Rattle.operands.specs.declared.Operand.TheVariants.{Single, Register, Family}
use Rattle.operands.proofs.Meanings.{parameter_at, parameter_out, nothing, parameter_answer_lem}
use Rattle.operands.proofs.parameter_meaning.Goals as goal

pub returns-then-from-n : goal.returns-then-from-n
returns-then-from-n c =
    let a = c.args in
    λ p. nothing p (parameter_out a.n a.scope.count a.scope.params (λ h k. omega arith))

pub returns-in-Single : goal.returns-in-Single
unfolding meaning_told found
returns-in-Single c =
    let a = c.args in
    λ p. ap give (parameter_answer_lem (Single c.in-Single.w) ∙ ap parameter_of (sym c.in-Single.is)) ∙ sym (ap found (parameter_at a.n a.scope.count a.scope.params _ (omega arith) (omega arith)))

pub returns-in-Register : goal.returns-in-Register
unfolding meaning_told found
returns-in-Register c =
    let a = c.args in
    λ p. ap give (parameter_answer_lem (Register c.in-Register.first c.in-Register.size) ∙ ap parameter_of (sym c.in-Register.is)) ∙ sym (ap found (parameter_at a.n a.scope.count a.scope.params _ (omega arith) (omega arith)))

pub returns-in-Family : goal.returns-in-Family
unfolding meaning_told found
returns-in-Family c =
    let a = c.args in
    λ p. ap give (parameter_answer_lem (Family c.in-Family.number) ∙ ap parameter_of (sym c.in-Family.is)) ∙ sym (ap found (parameter_at a.n a.scope.count a.scope.params _ (omega arith) (omega arith)))
