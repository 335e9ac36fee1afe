-- `touched::clear` meets its contract. Assumes nothing.
use mathlib.Core.Path.{◌≡◌, ap, ◌∙◌}
use mathlib.Core.List.{List, ◌++◌}
use Prim.Native.Nat.{ℕ}
use native.Mathlib.Omega.{arith}
use lib.ListN.{length, take, drop, replicate, length-take}
use Rattle.wire_map.specs.WireMap.{map_size}
use Rattle.wire_map.proofs.Marking.{clear_whole}
use Rattle.touched.proofs.clear.Goals as goal

pub returns : goal.returns
returns c =
    let m = c.args.map.now in
    let n : length (take map_size m) ≡ map_size = length-take map_size m ∙ omega arith in
    ap (λ (l : List ℕ). l ++ drop map_size m) (c.fill.ensures.after (λ y e. e) ∙ ap (λ (k : ℕ). replicate k 0) n) ∙ clear_whole m
