-- `runs::once` meets its contract. Assumes nothing.
use mathlib.Core.Path.{refl}
use native.Mathlib.Omega.{arith}
use native.Mathlib.Nat.{zero-add}
use Rattle.unroller.specs.Runs.{Often}
use Rattle.runs.proofs.once.Goals as goal

pub run_list-requires : goal.run_list-requires
unfolding Often
run_list-requires c =
    record {
      ready = record { few = c.requires.levels_bound; order = c.requires.from_le_to.0; within = c.requires.from_le_to.1; near = omega (arith, c.requires.tabled.short); here = omega (arith, c.requires.from_le_to.0, c.requires.from_le_to.1, c.requires.tabled.short) };
      tabled = c.requires.tabled;
      often = refl;
    }

pub returns : goal.returns
returns c =
    rw (zero-add c.args.from) at c.run_list.ensures.0
