-- `forms::try_loop` meets its contract. Assumes nothing.
use mathlib.Core.Path.{sym, ◌∙◌}
use Rattle.forms.proofs.Lists.{built_when, out_when}
use Rattle.forms.proofs.Laws.{trial_made, trial_out}
use Rattle.forms.proofs.Verdicts.{shown_by_ok}
use Rattle.forms.proofs.try_loop.Goals as goal

pub returns-then-is_err : goal.returns-then-is_err
returns-then-is_err c =
    trial_out _ _ _ _ (out_when _ _ (sym c.is_err.ensures.value ∙ c.if-is_err.true) c.less_range.ensures.f_after)

pub returns : goal.returns
returns c =
    let g = built_when _ _ (sym c.is_err.ensures.value ∙ c.if-is_err.false) c.less_range.ensures.f_after in
    c.is_ok.ensures.value ∙ shown_by_ok c.show_plainly.result.verdict ∙ trial_made _ _ _ _ g c.show_plainly.ensures.verdict_value
