-- `unroller::listed` meets its contract. Assumes nothing.
use Prim.Native.Nat.{ℕ}
use mathlib.Core.Path.{ap, ◌∙◌}
use lib.ListN.{get_or}
use Rattle.unroller.proofs.listed.Goals as goal

pub returns : goal.returns
returns c =
    c.from.ensures ∙ ap (λ (i : ℕ). get_or c.args.table.now i 0) c.from-i.ensures
