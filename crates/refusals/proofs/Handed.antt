-- What the exit of a `?` returns where the error stays what it is. Assumes nothing.
use Rattle.std.proofs.Common.{ap}
use Rattle.std.specs.Prelude.{◌≡◌, Result, Ok, Err, IsErrAnd}

pub handed : {A E : Type 0} (r : Result A E) {e : E} → IsErrAnd r (λ y. y ≡ e) → r ≡ Err e
handed (Ok x) h = absurd h
handed (Err y) h = ap Err h
