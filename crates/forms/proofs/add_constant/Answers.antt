-- `forms::add_constant` meets its contract: one number, at k = 1. Assumes nothing.
use native.Mathlib.Omega.{arith}
use mathlib.Core.Path.{refl}
use Rattle.language.specs.Form.{in_range}
use Rattle.language.proofs.Integers.{range_back}
use Rattle.forms.proofs.Lists.{kept_at}
use Rattle.forms.proofs.Laws.{constant_added}
use Rattle.forms.proofs.add_constant.Goals as goal

pub add_number-requires-clause-pos_value : goal.add_number-requires-clause-pos_value
unfolding in_range
add_number-requires-clause-pos_value c =
    kept_at c.args.f.now 0 (omega arith) c.requires.kept

pub add_number-requires-clause-k_value : goal.add_number-requires-clause-k_value
unfolding in_range
add_number-requires-clause-k_value c =
    refl

pub returns : goal.returns
returns c =
    let both = constant_added c.args.f.now (range_back c.requires.z_value) c.requires.kept c.requires.z_value _ _ c.add_number.ensures.value c.add_number.ensures.f_after in
    record {
      f_after = both.0;
      kept_2 = both.1;
    }
