-- `forms::add_number` meets its contract: nothing is added where y is 0. Assumes nothing.
use Rattle.language.proofs.Integers.{range_fits, bits_zero}
use Rattle.forms.proofs.Laws.{nothing_added}
use Rattle.forms.proofs.add_number.Goals as goal

pub returns-then-y-eq0 : goal.returns-then-y-eq0
returns-then-y-eq0 c =
    let q = nothing_added c.args.f.now c.args.i c.args.k c.requires.pos_value (bits_zero (range_fits _ c.requires.y_value) c.if-y-eq0.true) in
    record {
      value = q.0;
      f_after = q.1;
    }
