-- `forms::show` meets its contract: the plain rule, and the trials only where that does not show the form. Assumes nothing.
use mathlib.Core.Path.{refl, sym, ap, ◌∙◌}
use Rattle.language.specs.Form.{showing}
use Rattle.form_laws.specs.Trials.{trials_made}
use Rattle.forms.specs.Flat.{showing_by, shown_of}
use Rattle.forms.proofs.Verdicts.{is_other, is_that, is_tried, not_tried}
use Rattle.forms.proofs.show.Goals as goal

pub returns-then-ne : goal.returns-then-ne
unfolding showing trials_made
returns-then-ne c =
    let k = not_tried c.show_plainly-s.result.verdict (is_other _ _ refl _ c.ne.ensures c.if-ne.true) c.show_plainly-s.ensures.verdict_value _ _ in
    record {
      verdict_value = k.0;
      through_value = c.show_plainly-s.ensures.through_value;
      trials_value = k.1;
    }

pub returns : goal.returns
unfolding showing trials_made shown_of
returns c =
    let k = is_tried (sym c.show_plainly-s.ensures.verdict_value ∙ ap shown_of (is_that _ _ refl _ c.ne.ensures c.if-ne.false)) _ _ in
    record {
      verdict_value = c.verdict_of.ensures ∙ ap showing_by c.try_loops-t.ensures.shown_value ∙ k.0;
      through_value = c.show_plainly-s.ensures.through_value;
      trials_value = c.try_loops-t.ensures.made_value ∙ k.1;
    }
