-- `check_operand::slice_size` meets its contract. Assumes nothing.
use mathlib.Core.Path.{refl, sym, ◌∙◌}
use lib.IntN.{pos}
use Rattle.language.specs.Form.{in_range, constant_form, sum_of}
use Rattle.language.specs.Check.{slice_size}
use Rattle.forms.specs.Flat.{as_form}
use Rattle.forms.proofs.Lists.{not_built}
use Rattle.check_operand.proofs.OperandKinds.{is_made, not_made, then_made, then_not}
use Rattle.check_operand.proofs.slice_size.Goals as goal

pub add_constant-requires-clause-z_value : goal.add_constant-requires-clause-z_value
unfolding in_range
add_constant-requires-clause-z_value c = refl

pub returns-in_err-subtract-clause-last_after : goal.returns-in_err-subtract-clause-last_after
unfolding slice_size
returns-in_err-subtract-clause-last_after c =
    not_built _ _ c.from_residual.ensures.0 ∙ sym (then_not (λ x. sum_of x (constant_form (pos 1))) (not_made c.subtract.new.f c.subtract.ensures.f_after c.in_err-subtract.was))

pub returns : goal.returns
unfolding slice_size
returns c =
    let d = c.subtract.new.f in
    record {
      last_after = c.add_constant.ensures.f_after ∙ sym (then_made (λ x. sum_of x (constant_form (pos 1))) (as_form d) (is_made d c.subtract.ensures.f_after c.in_ok-subtract.was));
      kept_3 = c.add_constant.ensures.kept_2;
    }
