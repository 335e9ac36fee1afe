-- `indexes::inside` meets its contract. Assumes nothing.
use mir.ValLaws.{to_z-of_z}
use mathlib.Core.Path.{◌≡◌, sym, ◌∙◌}
use mathlib.Core.Bool.{true, false}
use Rattle.language.specs.Form.{in_range}
use mir.Syntax.{w64}
use Rattle.indexes.proofs.Leaves.{inside_yes, inside_no}
use Rattle.indexes.proofs.inside.Goals as goal

pub returns-then-in_range : goal.returns-then-in_range
returns-then-in_range c =
    let h : in_range c.args.z ≡ true = simp (to_z-of_z, c.ranges.z) at (sym c.in_range.ensures ∙ c.if-in_range.true) in
    rw (to_z-of_z w64 _ c.ranges.z) (inside_yes c.args.z h)

pub returns-else-in_range : goal.returns-else-in_range
returns-else-in_range c =
    let h : in_range c.args.z ≡ false = simp (to_z-of_z, c.ranges.z) at (sym c.in_range.ensures ∙ c.if-in_range.false) in
    inside_no c.args.z h
