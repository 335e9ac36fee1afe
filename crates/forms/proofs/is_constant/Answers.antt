-- `forms::is_constant` meets its contract. Assumes nothing.
use Rattle.std.proofs.Common.{drop, length-drop, arith, rules, tests}
use mathlib.Core.Path.{◌∙◌}
use lib.Seq.{take_all}
use Rattle.std.proofs.lemmas.Iterator.{YieldsList-from_slice}
use Rattle.std.proofs.lemmas.Iterator.Search.{all_from_yields_List}
use Rattle.language.specs.Form.{is_zero}
use Rattle.forms.proofs.Lists.{zeros, constant_flat, all_listed}
use Rattle.forms.proofs.is_constant.Goals as goal

pub returns : goal.returns
unfolding is_zero
returns c =
    let f = c.args.f.now in
    let y = YieldsList-from_slice {s = c.iter.result} (drop 1 f) (c.iter.ensures.rest ∙ take_all 12 (drop 1 f) (omega (arith, length-drop 1 f, c.requires.long))) in
    let e = all_from_yields_List is_zero _ _ c.all.result c.all.ensures.ran y (λ x b q k. search (rules, tests)) in
    e ∙ all_listed zeros (drop 1 f) ∙ constant_flat f c.requires
