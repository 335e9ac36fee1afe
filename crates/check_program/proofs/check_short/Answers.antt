-- `check_program::check_short` meets its contract. Assumes nothing.
use native.Mathlib.Omega.{arith}
use Prim.Native.Nat.{◌+◌, ◌*◌, ◌/◌}
use lib.ListN.{length}
use Rattle.language.specs.Limits.{most_registers}
use Rattle.check_program.specs.Declarations.{short_program}
use Rattle.check_declaration.specs.Types.{size_row}
use Rattle.check_program.proofs.TopFields.{zeros_hold}
use Rattle.check_program.proofs.check_short.Goals as goal

pub top_fields-requires : goal.top_fields-requires
top_fields-requires c =
    zeros_hold (length c.args.program.now) (2 * (most_registers + short_program / 3 + 1)) (size_row short_program most_registers + 1) (omega (arith, c.requires)) (omega (arith, c.requires)) (omega arith) (omega (arith, c.requires))
