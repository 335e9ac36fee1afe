-- `records::put_numbers` meets its contract. Assumes nothing.
use mathlib.Core.List.{◌∷◌, []}
use mathlib.Core.Path.{◌∙◌}
use native.Mathlib.Omega.{arith}
use Rattle.records.specs.Outcomes.{number_bytes}
use Rattle.records.proofs.RecordBytes.{put_part}
use Rattle.records.proofs.put_numbers.Goals as goal

pub returns : goal.returns
returns c =
    let a = c.args in
    put_part a.out.now (number_bytes a.op a.kind a.a a.b a.c []) c.copy_from_slice.new.self a.at (omega arith)
    (c.copy_from_slice.ensures.after
    ∙ (λ j. a.op ∷ a.kind ∷ c.low.ensures j ∷ c.high.ensures j ∷ c.low-2.ensures j ∷ c.high-2.ensures j ∷ c.low-3.ensures j ∷ c.high-3.ensures j ∷ []))
