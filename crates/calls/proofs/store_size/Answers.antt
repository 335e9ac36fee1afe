-- `calls::store_size` meets its contract. Assumes nothing.
use native.Mathlib.Omega.{arith}
use mathlib.Core.Path.{◌∙◌, ap}
use lib.IntN.{ℤ}
use lib.ListN.{set}
use mir.Syntax.{w32}
use mir.Val.{to_z, of_z}
use mir.ValLaws.{to_z-of_z}
use Rattle.language.proofs.Integers.{range_back, narrow_fits}
use Rattle.calls.proofs.store_size.Goals as goal

pub overflow_cast-sizes : goal.overflow_cast-sizes
overflow_cast-sizes c =
    let a = c.args in
    rw (range_back {z = a.z} c.requires) (narrow_fits a.z c.requires)

pub returns-then-k-lt-MOST_VARIABLES : goal.returns-then-k-lt-MOST_VARIABLES
returns-then-k-lt-MOST_VARIABLES c =
    let a = c.args in
    (λ h. ap (set a.sizes.now a.k) (ap (λ (x : ℤ). to_z w32 (of_z w32 x)) (range_back {z = a.z} c.requires) ∙ to_z-of_z w32 a.z (narrow_fits a.z c.requires)), c.told-sizes)

pub returns-else-k-lt-MOST_VARIABLES : goal.returns-else-k-lt-MOST_VARIABLES
returns-else-k-lt-MOST_VARIABLES c =
    (λ h. absurd (omega arith), c.told-sizes)
