-- `check_operand::large_enough` meets its contract. Assumes nothing.
use mathlib.Core.Path.{sym, ap, ◌∙◌}
use Rattle.std.specs.Prelude.{Result}
use Rattle.refusals.proofs.Handed.{handed}
use Rattle.language.specs.Form.{Built, Showing, showing, difference_of, ◌then_build◌}
use Rattle.forms.specs.declared.OutOfRange.{OutOfRange}
use Rattle.forms.specs.Flat.{as_form, built_of, shown_of}
use Rattle.forms.specs.Ranges.{all_loops}
use Rattle.forms.proofs.Laws.{show_outside}
use Rattle.check_operand.proofs.OperandKinds.{is_made, not_made}
use Rattle.check_operand.proofs.large_enough.Goals as goal

pub returns-in_err-known : goal.returns-in_err-known
unfolding ◌then_build◌ built_of shown_of
returns-in_err-known c =
    let a = c.args in
    let shows : Built → Showing = showing a.ranges.now.variables (all_loops a.ranges.now) in
    rw (handed c.from_residual.result c.from_residual.ensures.1) (sym (show_outside _ _) ∙ ap shows (sym (ap (λ (t : Result (Unit {0}) OutOfRange). built_of t a.size.now then_build difference_of (as_form a.own.now)) c.in_err-known.was)))

pub returns-in_err-subtract : goal.returns-in_err-subtract
unfolding ◌then_build◌ built_of shown_of
returns-in_err-subtract c =
    let a = c.args in
    let shows : Built → Showing = showing a.ranges.now.variables (all_loops a.ranges.now) in
    rw (handed c.from_residual-in_err-subtract.result c.from_residual-in_err-subtract.ensures.1) (sym (show_outside _ _) ∙ ap shows (sym (ap (λ (t : Result (Unit {0}) OutOfRange). built_of t a.size.now then_build difference_of (as_form a.own.now)) c.in_ok-known.was ∙ not_made c.subtract.new.f c.subtract.ensures.f_after c.in_err-subtract.was)))

pub returns : goal.returns
unfolding ◌then_build◌ built_of
returns c =
    let a = c.args in
    let shows : Built → Showing = showing a.ranges.now.variables (all_loops a.ranges.now) in
    c.show.ensures ∙ ap shows (sym (ap (λ (t : Result (Unit {0}) OutOfRange). built_of t a.size.now then_build difference_of (as_form a.own.now)) c.in_ok-known.was ∙ is_made c.subtract.new.f c.subtract.ensures.f_after c.in_ok-subtract.was))
