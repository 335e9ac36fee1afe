-- `check_operand::within` meets its contract. Assumes nothing.
use mathlib.Core.Path.{sym, ◌∙◌}
use Rattle.refusals.proofs.Handed.{handed}
use Rattle.forms.proofs.Verdicts.{is_shown_lem, not_shown_lem}
use Rattle.check_operand.proofs.Shown.{within_stops, within_goes}
use Rattle.check_operand.proofs.within.Goals as goal

pub returns-in_err-show : goal.returns-in_err-show
returns-in_err-show c =
    rw (handed c.from_residual.result c.from_residual.ensures.1 ∙ sym c.in_err-show.was) (λ p fs ks. within_stops p _ _ _ c.show.ensures (not_shown_lem c.show.result c.in_err-show.was))

pub returns : goal.returns
returns c =
    λ p fs ks. within_goes p _ _ _ c.show.ensures (is_shown_lem c.show.result c.in_ok-show.was) c.room_after.ensures
