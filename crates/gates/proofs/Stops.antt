-- What a `?` answers whose error is how a fault stops the run. Assumes nothing.
use mathlib.Core.Path.{◌≡◌, refl, sym, ap, ◌∙◌}
use Rattle.std.specs.Prelude.{Result, Ok, Err, IsErrAnd}
use Rattle.std.specs.Result.{MatchResult}
use Rattle.language.specs.Tree.{Place}
use Rattle.indexes.specs.declared.Fault.{Fault}
use Rattle.refusals.proofs.Handed.{handed}
use Rattle.records.specs.declared.State.{State}
use Rattle.records.specs.declared.Stop.{Stop}
use Rattle.gates.specs.Gates.{stop_of}

clash : {A E : Type 0} {x : A} {e : E} → ◌≡◌ {A = Result A E} (Ok x) (Err e) → ⊥
clash h = cc

-- the stop is that of a fault, which was answered
pub record Stopped {A : Type 0} (r : Result A Fault) (p : Place) (st : State) (s : Stop) : Type 0 where
  pub fault : Fault
  pub was : r ≡ Err fault
  pub stops : s ≡ stop_of fault p st

pub stopped : {A : Type 0} (P : Fault → Stop → Type 0) (p : Place) (st : State) (r : Result A Fault) (q : Result A Stop) (s : Stop) → ((f : Fault) (z : Stop) → P f z → z ≡ stop_of f p st)
    → MatchResult r (λ x. q ≡ Ok x) (λ f. IsErrAnd q (P f)) → q ≡ Err s → Stopped r p st s
stopped P p st (Ok x) q s h m e = absurd (clash (sym m ∙ e))
stopped P p st (Err f) (Ok x) s h m e = absurd m
stopped P p st (Err f) (Err z) s h m e = record { fault = f; was = refl; stops = (let k = h f z m in cc) }

pub unstopped : {A : Type 0} (P : Fault → Stop → Type 0) (r : Result A Fault) (q : Result A Stop) (x : A) → MatchResult r (λ x. q ≡ Ok x) (λ f. IsErrAnd q (P f)) → q ≡ Ok x → r ≡ Ok x
unstopped P (Ok y) q x m e = cc
unstopped P (Err f) (Ok y) x m e = absurd m
unstopped P (Err f) (Err z) x m e = absurd (clash (sym e))

-- what the exit of the `?` returns
pub said : {A B : Type 0} {r : Result A Fault} {p : Place} {st : State} {s : Stop} (k : Stopped r p st s) (q : Result B Stop) → IsErrAnd q (λ z. z ≡ s) → q ≡ Err (stop_of k.fault p st)
said k q h = handed q h ∙ ap Err k.stops
