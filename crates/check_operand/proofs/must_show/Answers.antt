-- `check_operand::must_show` meets its contract. Assumes nothing.
use mathlib.Core.Path.{ap, ◌∙◌}
use Rattle.language.specs.Check.{by_showing, must_show}
use Rattle.check_operand.proofs.must_show.Goals as goal

pub returns : goal.returns
unfolding must_show
returns c =
    record {
      result_value = λ fs ks. c.answered.ensures.result_value ∙ ap (by_showing c.args.at) c.show.ensures;
      ends_at = c.answered.ensures.ends_at;
    }
