-- `operands::sliced` meets its contract. Assumes nothing.
use mathlib.Core.Path.{◌∙◌}
use Rattle.language.specs.Machine.{wires, slice_at}
use Rattle.language.proofs.Integers.{range_back}
use Rattle.indexes.specs.Values.{fault_told}
use Rattle.operands.specs.Meanings.{stood, meaning_told, clipped, the_wire}
use Rattle.operands.proofs.Meanings.{no_slice}
use Rattle.operands.proofs.sliced.Goals as goal

pub returns-in-Wires : goal.returns-in-Wires
unfolding stood
returns-in-Wires c =
    let a = c.args in
    let x = range_back {z = a.x} c.requires.0 in
    let y = range_back {z = a.y} c.requires.1 in
    let first = c.in-Wires.first in
    let size = c.in-Wires.size in
    λ p. rw c.in-Wires.is (c.run_of.ensures p ∙ (λ i. slice_at (wires (the_wire first.0) (clipped first.0 size)) (x i) (y i)))

pub returns-in_default : goal.returns-in_default
unfolding meaning_told fault_told
returns-in_default c =
    λ p. no_slice c.args.s c.in_default.not-Wires c.args.x c.args.y
