-- `records::put_halvings` meets its contract. Assumes nothing.
use mathlib.Core.List.{◌∷◌, []}
use mathlib.Core.Path.{◌∙◌}
use native.Mathlib.Omega.{arith}
use Rattle.records.specs.Outcomes.{halving_bytes}
use Rattle.records.proofs.RecordBytes.{put_part}
use Rattle.records.proofs.put_halvings.Goals as goal

pub returns : goal.returns
returns c =
    let a = c.args in
    put_part a.out.now (halving_bytes a.k) c.copy_from_slice.new.self a.at (omega arith) (c.copy_from_slice.ensures.after ∙ (λ j. c.low.ensures j ∷ c.high.ensures j ∷ 0 ∷ 0 ∷ []))
