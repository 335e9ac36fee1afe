-- `forms::same` meets its contract. Assumes nothing.
use mathlib.Core.Path.{◌∙◌}
use Rattle.std.proofs.lemmas.Bool.Decides.{same_from_decides}
use Rattle.std.specs.Cmp.Rules.{signed_items}
use Rattle.forms.proofs.Lists.{same_flat, numbers_decide}
use Rattle.forms.proofs.same.Goals as goal

pub returns : goal.returns
returns c =
    c.eq.ensures ∙ same_from_decides _ _ (signed_items c.args.f.now c.args.g.now) (numbers_decide c.args.f.now c.args.g.now) ∙ same_flat c.args.f.now c.args.g.now c.requires.kept c.requires.kept_2
