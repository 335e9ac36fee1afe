-- `forms::set_multiple` meets its contract. Assumes nothing.
use mathlib.Core.Path.{refl, ap, ◌∙◌}
use lib.IntN.{ℤ}
use Rattle.language.specs.Form.{in_range, multiple_of, sum_of, ◌then_build◌}
use Rattle.forms.specs.Flat.{as_form}
use Rattle.language.proofs.Integers.{range_back}
use Rattle.forms.proofs.Laws.{multiple_alone}
use Rattle.forms.proofs.set_multiple.Goals as goal

pub set_constant-requires : goal.set_constant-requires
unfolding in_range
set_constant-requires c =
    refl

pub returns : goal.returns
returns c =
    let a = c.args in
    record {
      f_after = c.add_scaled.ensures.f_after ∙ ap (λ (v : ℤ). multiple_of v (as_form a.g.now) then_build sum_of (as_form c.set_constant.new.f)) (range_back c.requires.k_value) ∙ multiple_alone a.k c.set_constant.new.f a.g.now c.requires.kept c.set_constant.ensures.f_after;
      kept_2 = c.add_scaled.ensures.kept_3;
    }
