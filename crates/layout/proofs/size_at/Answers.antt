-- `layout::size_at` meets its contract: two numbers of two bytes each. Assumes nothing.
use Prim.Native.Nat.{◌+◌}
use mathlib.Core.Path.{◌≡◌}
use native.Mathlib.Omega.{arith}
use Rattle.layout.proofs.size_at.Goals as goal

pub returns : goal.returns
returns c =
    let at = c.args.at in
    let e : at + 2 + 1 ≡ at + 3 = omega arith in
    let high = rw e at c.two_bytes-2.ensures in
    (omega (arith, c.two_bytes.ensures.0, high.0), omega (arith, c.two_bytes.ensures.1, high.1))
