-- `runs::declare` meets its contract. Assumes nothing.
use Prim.Native.Nat.{ℕ}
use mathlib.Core.Path.{◌≡◌}
use native.Mathlib.Omega.{arith}
use Rattle.runs.specs.Whole.{total_of}
use Rattle.runs.proofs.declare.Goals as goal

pub register-requires : goal.register-requires
unfolding total_of
register-requires c =
    c.requires.quantum c.in-2.is

pub register-requires-in_default : goal.register-requires-in_default
unfolding total_of
register-requires-in_default c =
    let e : ◌≡◌ {A = ℕ} c.args.tag 3 = omega (arith, c.requires.least, c.requires.most) in
    c.requires.classical e
