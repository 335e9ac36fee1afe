-- `forms::in_range` meets its contract. The tests are of what the machine reads back from z's bits, which is z since z fits (`c.fits.z`).
-- Assumes nothing.
use Rattle.language.specs.Form.{in_range}
use mir.ValLaws.{to_z-of_z}
use Rattle.forms.proofs.in_range.Goals as goal

pub returns-then-z-ge-LOWEST : goal.returns-then-z-ge-LOWEST
unfolding in_range
returns-then-z-ge-LOWEST c = simp (to_z-of_z, c.ranges.z) (rw (simp (to_z-of_z, c.ranges.z) at c.if-z-ge-LOWEST.true))

pub returns-else-z-ge-LOWEST : goal.returns-else-z-ge-LOWEST
unfolding in_range
returns-else-z-ge-LOWEST c = simp (to_z-of_z, c.ranges.z) (rw (simp (to_z-of_z, c.ranges.z) at c.if-z-ge-LOWEST.false))
