-- `forms::put_number` meets its contract: nothing is added where y is 0. Assumes nothing.
use mathlib.Core.Path.{ap, sym, ◌∙◌}
use lib.IntN.{ℤ}
use lib.ListN.{set}
use Rattle.language.proofs.Integers.{range_fits, range_back, bits_zero}
use Rattle.forms.proofs.Laws.{zero_added}
use Rattle.forms.proofs.put_number.Goals as goal

pub returns-then-y-eq0 : goal.returns-then-y-eq0
returns-then-y-eq0 c =
    let q = zero_added c.args.x c.args.k c.requires.x_value (bits_zero (range_fits _ c.requires.y_value) c.if-y-eq0.true) in
    record {
      value = q.0;
      g_after = ap (λ (z : ℤ). set c.args.g.now c.args.i z) (range_back c.requires.x_value ∙ sym q.1);
    }
