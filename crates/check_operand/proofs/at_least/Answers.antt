-- `check_operand::at_least` meets its contract. Assumes nothing.
use mathlib.Core.Path.{ap, ◌∙◌}
use Rattle.language.specs.Form.{difference_of, ◌then_build◌}
use Rattle.language.specs.Check.{by_showing, must_show, size_scope}
use Rattle.forms.specs.Flat.{as_form, built_of}
use Rattle.forms.specs.Rows.{loops_of}
use Rattle.check_operand.proofs.at_least.Goals as goal

pub returns : goal.returns
unfolding must_show ◌then_build◌ built_of loops_of
returns c =
    let a = c.args in
    record {
      result_value = c.answered.ensures.result_value ∙ ap (by_showing a.at) c.large_enough.ensures ∙ (λ i. must_show a.at (size_scope a.m) (difference_of (as_form (c.load.ensures.f_after i)) (as_form (c.load-2.ensures.f_after i))));
      ends_at = c.answered.ensures.ends_at;
    }
