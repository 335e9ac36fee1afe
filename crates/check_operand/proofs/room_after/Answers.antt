-- `check_operand::room_after` meets its contract. Assumes nothing.
use mathlib.Core.Path.{◌≡◌, refl, sym, ap, ◌∙◌}
use mathlib.Core.List.{List}
use lib.IntN.{ℤ, pos, negsuc}
use Rattle.std.specs.Prelude.{Result}
use Rattle.refusals.proofs.Handed.{handed}
use Rattle.language.specs.Form.{Form, Built, in_range, difference_of, sum_of, constant_form, Showing, showing}
use Rattle.language.specs.Check.{room_after}
use Rattle.forms.specs.declared.OutOfRange.{OutOfRange}
use Rattle.forms.specs.Flat.{Kept, as_form, built_of, widened, shown_of}
use Rattle.forms.specs.Ranges.{all_loops}
use Rattle.forms.proofs.Laws.{one_less, show_outside}
use Rattle.check_operand.proofs.OperandKinds.{is_made, not_made, then_made, then_not}
use Rattle.check_operand.proofs.room_after.Goals as goal

-- size − 1, as it was built
less : (t : Result (Unit {0}) OutOfRange) (f l w : List ℤ) → built_of t f ≡ sum_of (as_form l) (constant_form (negsuc 0)) → Kept l → l ≡ w → built_of t f ≡ difference_of (as_form w) (constant_form (pos 1))
less t f l w e k q = e ∙ one_less l k ∙ ap (λ (l : List ℤ). difference_of (as_form l) (constant_form (pos 1))) q

pub add_constant-requires-clause-z_value : goal.add_constant-requires-clause-z_value
unfolding in_range
add_constant-requires-clause-z_value c = refl

pub returns-in_err-add_constant : goal.returns-in_err-add_constant
unfolding shown_of room_after
returns-in_err-add_constant c =
    let a = c.args in
    let next : Form → Built = λ x. difference_of x (as_form a.f.now) in
    let shows : Built → Showing = showing a.ranges.now.variables (all_loops a.ranges.now) in
    let e = less c.add_constant.result c.add_constant.new.f c.load.new.f (widened a.size.now) c.add_constant.ensures.f_after c.load.ensures.kept c.load.ensures.f_after in
    rw (handed c.from_residual.result c.from_residual.ensures.1) (sym (show_outside _ _) ∙ ap shows (sym (then_not next (not_made c.add_constant.new.f e c.in_err-add_constant.was))))

pub returns-in_err-subtract : goal.returns-in_err-subtract
unfolding shown_of room_after
returns-in_err-subtract c =
    let a = c.args in
    let next : Form → Built = λ x. difference_of x (as_form a.f.now) in
    let shows : Built → Showing = showing a.ranges.now.variables (all_loops a.ranges.now) in
    let e = less c.add_constant.result c.add_constant.new.f c.load.new.f (widened a.size.now) c.add_constant.ensures.f_after c.load.ensures.kept c.load.ensures.f_after in
    let d = c.add_constant.new.f in
    rw (handed c.from_residual-in_err-subtract.result c.from_residual-in_err-subtract.ensures.1) (sym (show_outside _ _) ∙ ap shows (sym (then_made next (as_form d) (is_made d e c.in_ok-add_constant.was) ∙ not_made c.subtract.new.f c.subtract.ensures.f_after c.in_err-subtract.was)))

pub returns : goal.returns
unfolding room_after
returns c =
    let a = c.args in
    let next : Form → Built = λ x. difference_of x (as_form a.f.now) in
    let shows : Built → Showing = showing a.ranges.now.variables (all_loops a.ranges.now) in
    let e = less c.add_constant.result c.add_constant.new.f c.load.new.f (widened a.size.now) c.add_constant.ensures.f_after c.load.ensures.kept c.load.ensures.f_after in
    let d = c.add_constant.new.f in
    c.show.ensures ∙ ap shows (sym (then_made next (as_form d) (is_made d e c.in_ok-add_constant.was) ∙ is_made c.subtract.new.f c.subtract.ensures.f_after c.in_ok-subtract.was))
