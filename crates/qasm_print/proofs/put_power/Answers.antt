-- `qasm_print::put_power` meets its contract. Assumes nothing.
use mathlib.Core.Path.{sym, ap, ◌∙◌}
use native.Mathlib.Omega.{arith}
use Rattle.text_bytes.specs.Decimal.{width}
use Rattle.text_bytes.proofs.Powers.{one_shifted}
use Rattle.qasm_print.proofs.put_power.Goals as goal

pub put_digits-requires : goal.put_digits-requires
put_digits-requires c =
    let e = one_shifted c.args.k (omega arith) in
    record {
      many_value = c.power_digits.ensures.same ∙ sym (ap width e);
      room = rw e c.requires.room;
    }

pub returns : goal.returns
returns c =
    rw (one_shifted c.args.k (omega arith)) at c.put_digits.ensures
