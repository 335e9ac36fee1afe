-- `runs::condition` meets its contract. Assumes nothing.
use Prim.Native.Nat.{ℕ}
use mathlib.Core.Path.{◌≡◌, sym, ap}
use native.Mathlib.Omega.{arith}
use Rattle.language.specs.Machine.{when_bit}
use Rattle.operands.specs.Meanings.{the_bit}
use Rattle.records.specs.Outcomes.{condition_of}
use Rattle.runs.proofs.condition.Goals as goal

pub returns-then-value-eq0 : goal.returns-then-value-eq0
unfolding condition_of
returns-then-value-eq0 c =
    ap (λ (n : ℕ). when_bit (the_bit c.args.b.0) n) (sym c.if-value-eq0.true)

pub returns : goal.returns
unfolding condition_of
returns c =
    let e : ◌≡◌ {A = ℕ} 1 c.args.value = omega (arith, c.if-value-eq0.false, c.requires) in
    ap (λ (n : ℕ). when_bit (the_bit c.args.b.0) n) e
