-- `add` meets its contract: the one loop at k = 1.
-- Assumes nothing.
use mathlib.Core.Path.{refl, ◌∙◌}
use Rattle.language.specs.Form.{in_range}
use Rattle.forms.proofs.Laws.{sum_as}
use Rattle.forms.proofs.add.Goals as goal

pub add_scaled-requires-clause-k_value : goal.add_scaled-requires-clause-k_value
unfolding in_range
add_scaled-requires-clause-k_value c =
    refl

pub returns : goal.returns
returns c =
    record {
      f_after = c.add_scaled.ensures.f_after ∙ sum_as c.args.f.now c.args.g.now c.requires.kept c.requires.kept_2;
      kept_3 = c.add_scaled.ensures.kept_3;
    }
