-- `check_program::check_long` meets its contract. Assumes nothing.
use native.Mathlib.Omega.{arith}
use Prim.Native.Nat.{◌+◌, ◌*◌, ◌/◌}
use lib.ListN.{length}
use Rattle.language.specs.Limits.{longest_program, most_registers}
use Rattle.check_declaration.specs.Types.{size_row}
use Rattle.check_program.proofs.TopFields.{zeros_hold}
use Rattle.check_program.proofs.check_long.Goals as goal

pub top_fields-requires : goal.top_fields-requires
top_fields-requires c =
    zeros_hold (length c.args.program.now) (2 * (most_registers + longest_program / 3 + 1)) (size_row longest_program most_registers + 1) (omega (arith, c.requires)) (omega (arith, c.requires)) (omega arith) (omega (arith, c.requires))
