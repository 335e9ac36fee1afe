-- `qasm_length::condition_length` meets its contract: nothing where there is no condition. Assumes nothing.
use Prim.Native.Nat.{ℕ, ◌-◌}
use mathlib.Core.Path.{ap}
use native.Mathlib.Omega.{arith}
use Rattle.text_bytes.specs.Decimal.{width}
use Rattle.qasm_text.specs.Text.{condition_text}
use Rattle.qasm_length.specs.AnyBytes.{condition_from}
use Rattle.qasm_length.proofs.Parts.{some_condition}
use Rattle.qasm_length.proofs.condition_length.Goals as goal

pub returns-then-kind-eq0 : goal.returns-then-kind-eq0
unfolding condition_from condition_text
returns-then-kind-eq0 c =
    rw c.if-kind-eq0.true (record { same = omega arith; bound = omega arith })

pub returns : goal.returns
returns c =
    let a = c.args in
    let e = ap (λ (k : ℕ). width (k - 1)) c.from-value.ensures in
    record { same = omega (arith, some_condition a.kind a.bit c.if-kind-eq0.false); bound = omega arith }
