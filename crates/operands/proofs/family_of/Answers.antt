-- `operands::family_of` meets its contract. Assumes nothing.
use mathlib.Core.Path.{sym, ◌∙◌}
use Rattle.operands.specs.Meanings.{operands_of}
use Rattle.operands.proofs.OperandFields.{family_named, family_other, family_none, family_meant}
use Rattle.operands.proofs.family_of.Goals as goal

pub returns-in_err-number : goal.returns-in_err-number
returns-in_err-number c =
    let a = c.args in
    rw c.from_residual.ensures (family_none (operands_of a.scope a.regs.now) a.n c.operand_meaning.result c.operand_meaning.ensures (sym c.ok.ensures.value ∙ c.in_err-number.was))

pub returns-in-Family : goal.returns-in-Family
returns-in-Family c =
    let a = c.args in
    let ms = operands_of a.scope a.regs.now in
    let w = family_meant ms a.n c.operand_meaning.result _ c.operand_meaning.ensures (sym c.ok.ensures.value ∙ c.in_ok-number.was) in
    family_named ms a.n c.in-Family.number (rw c.in-Family.is at w)

pub returns-in_default : goal.returns-in_default
returns-in_default c =
    let a = c.args in
    let ms = operands_of a.scope a.regs.now in
    family_other ms a.n _ (family_meant ms a.n c.operand_meaning.result _ c.operand_meaning.ensures (sym c.ok.ensures.value ∙ c.in_ok-number.was)) c.in_default.not-Family
