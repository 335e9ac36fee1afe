-- `calls::past_fields` meets its contract. Assumes nothing.
use Prim.Native.Nat.{◌-◌, ◌+◌}
use mathlib.Core.Path.{◌≡◌, ◌∙◌, sym}
use native.Mathlib.Omega.{arith}
use Rattle.fields.proofs.Between.{in_whole}
use Rattle.calls.proofs.FamilyBodies.{passing_start, passing_next, passing_done, passing_stops}
use Rattle.calls.proofs.past_fields.Goals as goal

pub loop-init : goal.loop-init
loop-init c =
    (passing_start c.args.k c.args.bytes.now c.args.from c.args.to, omega arith, c.requires.0)

pub returns-in_default : goal.returns-in_default
returns-in_default c =
    let a = c.args in
    let i = c.loop in
    passing_stops a.k a.bytes.now a.from a.to i.at i.invariant.1 (a.k - i.counter) (omega arith) c.requires.0 (λ h e. c.in_default.not-Ok h (c.header_at.ensures ∙ e)) i.invariant.0

pub loop-preserved : goal.loop-preserved
loop-preserved c =
    let a = c.args in
    let i = c.loop in
    let e = sym c.header_at.ensures ∙ c.in-Ok.is in
    let w = in_whole a.bytes.now i.at a.to _ _ e in
    let s : a.k - i.counter - 1 ≡ a.k - (i.counter + 1) = omega arith in
    (rw s at (passing_next a.k a.bytes.now a.from a.to i.at i.invariant.1 (a.k - i.counter) _ _ (omega arith) e i.invariant.0), omega (arith, w.low, i.invariant.1), w.high)

pub returns : goal.returns
returns c =
    let a = c.args in
    let i = c.loop in
    passing_done a.k a.bytes.now a.from a.to i.at i.invariant.1 (a.k - i.counter) (omega arith) i.invariant.2 i.invariant.0
