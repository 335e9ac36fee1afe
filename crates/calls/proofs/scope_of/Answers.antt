-- `calls::scope_of` meets its contract. Assumes nothing.
use mathlib.Core.Path.{refl}
use mathlib.Core.List.{[], ◌∷◌}
use Rattle.calls.proofs.CallOutcomes.{scopes}
use Rattle.calls.proofs.scope_of.Goals as goal

pub returns : goal.returns
returns c =
    let a = c.args in
    scopes a.given.now a.count _ c.told-given refl refl
    (λ j. c.parameter-a.ensures j ∷ c.parameter-b.ensures j ∷ c.parameter-c.ensures j ∷ c.parameter-d.ensures j ∷ c.parameter-e.ensures j ∷ c.parameter-f.ensures j ∷ c.parameter-g.ensures j ∷ c.parameter-h.ensures j ∷ [])
