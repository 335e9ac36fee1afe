-- `records::take_step` meets its contract. Assumes nothing.
use mathlib.Core.Path.{refl}
use native.Mathlib.Omega.{arith}
use Rattle.records.specs.Outcomes.{Stepped}
use Rattle.records.proofs.take_step.Goals as goal

pub returns-then-limit-st : goal.returns-then-limit-st
unfolding Stepped
returns-then-limit-st c =
    record { none = omega arith; reason = refl; here = refl; same = refl }

pub returns : goal.returns
unfolding Stepped
returns c =
    record { left = omega arith; same = refl; more = refl }
