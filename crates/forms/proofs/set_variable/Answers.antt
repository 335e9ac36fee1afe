-- `forms::set_variable` meets its contract. Assumes nothing.
use mathlib.Core.Path.{refl}
use lib.IntN.{pos}
use lib.ListN.{replicate}
use Prim.Native.Nat.{◌+◌}
use native.Mathlib.Numerals.{add-one}
use Rattle.language.specs.Form.{in_range}
use Rattle.forms.specs.Flat.{as_form}
use Rattle.forms.proofs.Lists.{set_kept}
use Rattle.forms.proofs.Laws.{zeros_kept}
use Rattle.forms.proofs.set_variable.Goals as goal

pub returns : goal.returns
unfolding as_form in_range
returns c =
    let a = c.args in
    record {
      f_after = rw add-one;
      kept = set_kept (replicate 13 (pos 0)) (a.v + 1) (pos 1) refl zeros_kept;
    }
