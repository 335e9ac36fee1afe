-- `unroller::called_family` meets its contract. Assumes nothing.
use mathlib.Core.Path.{sym, ap, ◌∙◌}
use lib.Seq.{slice}
use Rattle.fields.specs.CallNumber.{numbered}
use Rattle.operands.specs.Meanings.{operands_of}
use Rattle.unroller.proofs.CalledNumbers.{calls_nothing, calls_named, calls_parameter, calls_unfit}
use Rattle.unroller.proofs.called_family.Goals as goal

pub returns-in_default : goal.returns-in_default
unfolding numbered
returns-in_default c =
    let a = c.args in
    calls_nothing a.tag a.from (slice a.from a.to a.bytes.now) (operands_of a.scope a.regs.now) _ (sym c.called_number.ensures ∙ ap numbered c.in_default.is)

pub returns-then-tag-ne-PARAMETER_CALL : goal.returns-then-tag-ne-PARAMETER_CALL
unfolding numbered
returns-then-tag-ne-PARAMETER_CALL c =
    let a = c.args in
    calls_named a.tag a.from (slice a.from a.to a.bytes.now) (operands_of a.scope a.regs.now) _ _ (sym c.called_number.ensures ∙ ap numbered c.in-Ok.is) c.if-tag-ne-PARAMETER_CALL.true

pub returns-in_err-number : goal.returns-in_err-number
unfolding numbered
returns-in_err-number c =
    let a = c.args in
    let n = c.in-Ok.named in
    rw c.from_residual.ensures (calls_unfit a.tag a.from (slice a.from a.to a.bytes.now) (operands_of a.scope a.regs.now) n.number n.next (sym c.called_number.ensures ∙ ap numbered c.in-Ok.is) c.if-tag-ne-PARAMETER_CALL.false c.family_of.result (rw c.from.ensures at c.family_of.ensures) c.in_err-number.was)

pub returns : goal.returns
unfolding numbered
returns c =
    let a = c.args in
    let n = c.in-Ok.named in
    calls_parameter a.tag a.from (slice a.from a.to a.bytes.now) (operands_of a.scope a.regs.now) n.number _ (sym c.called_number.ensures ∙ ap numbered c.in-Ok.is) c.if-tag-ne-PARAMETER_CALL.false c.family_of.result (rw c.from.ensures at c.family_of.ensures) _ c.in_ok-number.was
