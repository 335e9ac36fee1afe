-- `check_operand::slice_within` meets its contract. Assumes nothing.
use mathlib.Core.Path.{sym, ◌∙◌}
use Rattle.refusals.proofs.Handed.{handed}
use Rattle.forms.specs.Flat.{shown_of}
use Rattle.forms.proofs.Verdicts.{is_shown_lem, not_shown_lem, shown_not}
use Rattle.check_operand.specs.Operands.{shown_form}
use Rattle.check_operand.proofs.OperandKinds.{is_made, not_made}
use Rattle.check_operand.proofs.Slices.{first_stops, last_stops, size_outside, size_shown_lem}
use Rattle.check_operand.proofs.slice_within.Goals as goal

pub returns-in_err-show : goal.returns-in_err-show
unfolding shown_form
returns-in_err-show c =
    rw (handed c.from_residual.result c.from_residual.ensures.1 ∙ sym c.in_err-show.was) (record {
      last_after = λ p fs ks. first_stops p _ _ _ _ c.show.ensures c.args.last.now (not_shown_lem c.show.result c.in_err-show.was);
      kept_3 = λ e. c.requires.kept_2;
    })

pub returns-in_err-room_after : goal.returns-in_err-room_after
unfolding shown_form
returns-in_err-room_after c =
    rw (handed c.from_residual-in_err-room_after.result c.from_residual-in_err-room_after.ensures.1 ∙ sym c.in_err-room_after.was) (record {
      last_after = λ p fs ks. last_stops p _ _ _ _ c.show.ensures (is_shown_lem c.show.result c.in_ok-show.was) c.room_after.ensures c.args.last.now (not_shown_lem c.room_after.result c.in_err-room_after.was);
      kept_3 = λ e. c.requires.kept_2;
    })

pub returns-in_err-slice_size : goal.returns-in_err-slice_size
unfolding shown_form shown_of
returns-in_err-slice_size c =
    let l = c.slice_size.new.last in
    rw (handed c.from_residual-in_err-slice_size.result c.from_residual-in_err-slice_size.ensures.1) (record {
      last_after = λ p fs ks. size_outside p _ _ _ _ c.show.ensures (is_shown_lem c.show.result c.in_ok-show.was) c.room_after.ensures (is_shown_lem c.room_after.result c.in_ok-room_after.was) l (not_made l c.slice_size.ensures.last_after c.in_err-slice_size.was);
      kept_3 = λ e. absurd (shown_not e);
    })

pub returns : goal.returns
unfolding shown_form
returns c =
    let l = c.slice_size.new.last in
    record {
      last_after = λ p fs ks. size_shown_lem p _ _ _ _ c.show.ensures (is_shown_lem c.show.result c.in_ok-show.was) c.room_after.ensures (is_shown_lem c.room_after.result c.in_ok-room_after.was) l (is_made l c.slice_size.ensures.last_after c.in_ok-slice_size.was) c.show-2.ensures;
      kept_3 = λ e. rw c.in_ok-slice_size.was at c.slice_size.ensures.kept_3;
    }
