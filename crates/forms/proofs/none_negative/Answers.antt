-- `forms::none_negative` meets its contract. Assumes nothing.
use Rattle.std.proofs.Common.{rules}
use mathlib.Core.Path.{ap, ◌∙◌}
use Rattle.std.proofs.lemmas.Iterator.{YieldsList-from_slice}
use Rattle.std.proofs.lemmas.Iterator.Search.{all_from_yields_List}
use lib.IntN.{pos}
use lib.Signed.{le_z}
use Rattle.forms.specs.Flat.{showing_by}
use Rattle.forms.proofs.Lists.{signs, plain_flat, all_listed}
use Rattle.forms.proofs.none_negative.Goals as goal

pub returns : goal.returns
returns c =
    let e = all_from_yields_List (le_z (pos 0)) _ _ c.all.result c.all.ensures.ran (YieldsList-from_slice c.args.f.now cc) (λ x b q k. search rules) in
    ap showing_by (e ∙ all_listed signs c.args.f.now) ∙ plain_flat c.args.f.now c.requires
