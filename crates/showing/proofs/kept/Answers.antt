-- `showing::kept` meets its contract. Assumes nothing.
use Rattle.std.proofs.Common.{rules}
use mathlib.Core.Path.{sym, ◌∙◌}
use Rattle.std.proofs.lemmas.Iterator.{YieldsList-from_slice}
use Rattle.std.proofs.lemmas.Iterator.Search.{all_from_yields_List}
use Rattle.language.specs.Form.{in_range}
use Rattle.forms.proofs.Lists.{ranges, all_listed}
use Rattle.showing.proofs.kept.Goals as goal

pub returns : goal.returns
returns c =
    let e = all_from_yields_List in_range _ _ c.all.result c.all.ensures.ran (YieldsList-from_slice c.args.f.now cc) (λ x b q k. search rules) ∙ all_listed ranges c.args.f.now in
    record {
      value = e;
      kept = λ t. record { long = c.told-f; inside = sym e ∙ t };
    }
