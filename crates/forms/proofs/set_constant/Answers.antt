-- `forms::set_constant` meets its contract. Assumes nothing.
use mathlib.Core.Path.{refl}
use lib.IntN.{pos}
use lib.ListN.{replicate}
use mir.Syntax.{w64}
use mir.ValLaws.{to_z-of_z}
use Rattle.forms.specs.Flat.{as_form}
use Rattle.forms.proofs.Lists.{set_kept}
use Rattle.forms.proofs.Laws.{zeros_kept}
use Rattle.forms.proofs.set_constant.Goals as goal

pub returns : goal.returns
unfolding as_form
returns c =
    let a = c.args in
    record {
      f_after = rw (to_z-of_z w64 a.z c.ranges.z) (refl);
      kept = rw (to_z-of_z w64 a.z c.ranges.z) (set_kept (replicate 13 (pos 0)) 0 a.z c.requires zeros_kept);
    }
