-- `laid_out::wires_laid` meets its contract. Assumes nothing.
use mathlib.Core.Path.{◌∙◌}
use Rattle.laid_out.proofs.WireSums.{laid_done}
use Rattle.laid_out.proofs.wires_laid.Goals as goal

pub returns : goal.returns
returns c =
    rw c.from.ensures at c.wires_in.ensures ∙ laid_done c.args.scope
