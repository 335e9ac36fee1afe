-- `calls::past` meets its contract. Assumes nothing.
use Prim.Native.Nat.{ℕ, ◌+◌}
use mathlib.Core.Path.{◌≡◌, ap, ◌∙◌}
use native.Mathlib.Omega.{arith}
use lib.ListN.{get_or}
use Rattle.language.specs.Read.{two_bytes}
use Rattle.calls.proofs.past.Goals as goal

pub returns : goal.returns
returns c =
    let a = c.args in
    let i : a.at + 1 + 1 ≡ a.at + 2 = omega arith in
    ap (λ (n : ℕ). a.at + 3 + n) (c.two_bytes.ensures.0 ∙ ap (λ (j : ℕ). two_bytes (get_or a.program.now (a.at + 1) 0) (get_or a.program.now j 0)) i)
