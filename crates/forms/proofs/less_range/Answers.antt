-- `forms::less_range` meets its contract. Assumes nothing.
use mathlib.Core.Path.{ap, ◌∙◌}
use Rattle.language.specs.Form.{Built, difference_of, ◌then_build◌, less_range}
use Rattle.forms.specs.Flat.{as_form}
use Rattle.forms.proofs.Lists.{when_built, when_out, not_built}
use Rattle.forms.proofs.less_range.Goals as goal

pub returns-in_err-subtract-clause-f_after : goal.returns-in_err-subtract-clause-f_after
unfolding less_range ◌then_build◌
returns-in_err-subtract-clause-f_after c =
    let range = when_out c.subtract.new.f c.in_err-subtract.was c.subtract.ensures.f_after in
    not_built _ _ c.from_residual.ensures.0 ∙ ap (λ (b : Built). b then_build difference_of (as_form c.args.f.now)) range

pub returns : goal.returns
unfolding less_range ◌then_build◌
returns c =
    let range = when_built c.subtract.new.f c.in_ok-subtract.was c.subtract.ensures.f_after in
    record {
      f_after = c.subtract-2.ensures.f_after ∙ ap (λ (b : Built). b then_build difference_of (as_form c.args.f.now)) range;
      kept_2 = c.subtract-2.ensures.kept_3;
    }
