-- `calls::types_take` meets its contract. Assumes nothing.
use Prim.Native.Nat.{◌-◌, ◌+◌}
use mathlib.Core.Path.{◌≡◌, ◌∙◌, sym}
use native.Mathlib.Omega.{arith}
use Rattle.fields.proofs.Between.{in_whole}
use Rattle.calls.proofs.FamilyBodies.{passing_start, passing_next, passing_done}
use Rattle.calls.proofs.Types.{types_start, types_done, types_stop, types_next, types_not}
use Rattle.calls.proofs.types_take.Goals as goal

pub loop-i-init : goal.loop-i-init
loop-i-init c =
    let a = c.args in
    (types_start a.bytes.now a.from a.to a.n a.given.now, passing_start a.n a.bytes.now a.from a.to, omega arith, c.requires.from_le_to.0)

pub returns-in_default : goal.returns-in_default
returns-in_default c =
    let a = c.args in
    let i = c.loop-i in
    types_stop a.bytes.now a.from a.to a.n a.given.now i.at i.i i.invariant.2 (a.n - i.i) (omega arith) (λ h e. c.in_default.not-Ok h (c.header_at.ensures ∙ e)) i.invariant.0

pub returns-then-not-takes : goal.returns-then-not-takes
returns-then-not-takes c =
    let a = c.args in
    let i = c.loop-i in
    let e = sym c.header_at.ensures ∙ c.in-Ok.is in
    types_not a.bytes.now a.from a.to a.n a.given.now i.at i.i i.invariant.2 _ _ e (omega (arith, c.requires.n_le_most_parameters)) c.takes.result (rw c.from-kind.ensures at c.takes.ensures) (a.n - i.i) (omega arith) c.if-not-takes.true i.invariant.0

pub loop-i-preserved : goal.loop-i-preserved
loop-i-preserved c =
    let a = c.args in
    let i = c.loop-i in
    let e = sym c.header_at.ensures ∙ c.in-Ok.is in
    let w = in_whole a.bytes.now i.at a.to _ _ e in
    let s : a.n - i.i - 1 ≡ a.n - (i.i + 1) = omega arith in (
      rw s at (types_next a.bytes.now a.from a.to a.n a.given.now i.at i.i i.invariant.2 _ _ e (omega (arith, c.requires.n_le_most_parameters)) c.takes.result (rw c.from-kind.ensures at c.takes.ensures) (a.n - i.i) (omega arith) c.if-not-takes.false i.invariant.0),
      rw s at (passing_next a.n a.bytes.now a.from a.to i.at i.invariant.2 (a.n - i.i) _ _ (omega arith) e i.invariant.1),
      omega (arith, w.low, i.invariant.2),
      w.high,
    )

pub returns : goal.returns
returns c =
    let a = c.args in
    let i = c.loop-i in
    let p = passing_done a.n a.bytes.now a.from a.to i.at i.invariant.2 (a.n - i.i) (omega arith) i.invariant.3 i.invariant.1 in
    types_done a.bytes.now a.from a.to a.n a.given.now (a.n - i.i) i.at i.i (omega arith) i.invariant.0 p
