-- `check_program::top_fields` meets its contract. Assumes nothing.
use mathlib.Core.Path.{◌≡◌}
use Prim.Native.Nat.{◌-◌}
use lib.ListN.{length}
use Rattle.language.specs.Read.{read}
use Rattle.language.specs.Check.{check}
use Rattle.check_program.specs.Declarations.{declared_in, DeclaredRight}
use Rattle.check_program.proofs.TopFields.{tops_at}
use Rattle.check_program.proofs.top_fields.Given as goal

abbrev pub invariant-loop-header : goal.invariant-loop-header
invariant-loop-header l =
    DeclaredRight (length l.program) l.at l.t l.families l.kinds l.sizes × (length l.families ≡ length l.initial.families) × (length l.kinds ≡ length l.initial.kinds) × (length l.sizes ≡ length l.initial.sizes) × (check (read l.program) ≡ tops_at l.program l.at (length l.program) (declared_in l.t l.families l.kinds l.sizes))

abbrev pub decreases-loop-header : goal.decreases-loop-header
decreases-loop-header l =
    length l.program - l.at
