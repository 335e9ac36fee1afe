-- From what the code's answer tells of a run to what a call comes to. Assumes nothing.
use Prim.Native.Nat.{ℕ, ◌*◌, ◌/◌}
use native.Mathlib.Omega.{arith}
use mathlib.Core.Path.{◌≡◌, refl, sym}
use mathlib.Core.List.{List, []}
use lib.ListN.{length}
use Rattle.language.specs.Limits.{record_size}
use Rattle.language.specs.Machine as machine
use Rattle.language.specs.Machine.{Outcome, Run, begin}
use Rattle.language.specs.Result.{output_bytes, written_into, result_of, conclusion_of, untouched}
use Rattle.std.specs.Prelude.{Result, Ok, Err}
use Rattle.refusals.specs.declared.Reason.{Reason}
use Rattle.refusals.specs.Reasons.{number_of}
use Rattle.records.specs.declared.State.{State}
use Rattle.records.specs.declared.Stop.{Stop}
use Rattle.records.specs.declared.Stop.TheVariants.{Ended, Stuck}
use Rattle.records.specs.Outcomes.{answer_told, flat_outcome, Holds, Does}
use Rattle.runs.specs.Whole.{started}
use Rattle.runs.specs.Conclusions.{concluded}

-- a number of records, from its bytes
records_of_lem : (n at : ℕ) → record_size * n ≡ at → at / record_size ≡ n
records_of_lem n at e = omega arith

pub concluded_as : {A : Type 0} (lent l : List ℕ) (r : Result State Stop) (o : Outcome A) → answer_told l r ≡ flat_outcome lent o → concluded l r ≡ conclusion_of lent o
unfolding answer_told flat_outcome concluded conclusion_of result_of
concluded_as lent l (Ok s) (machine.going a t) e =
    let p : l ≡ written_into lent t.records = cc in
    let q : s.written ≡ record_size * length t.records = cc in
    let u : s.steps ≡ t.steps = cc in
    rw (p, u, records_of_lem (length t.records) s.written (sym q)) refl
concluded_as lent l (Ok s) (machine.ended n p t) e = absurd (let z : ◌≡◌ {A = ℕ} 0 1 = cc in omega arith)
concluded_as lent l (Ok s) machine.stuck e = absurd (let z : ◌≡◌ {A = ℕ} 0 1 = cc in omega arith)
concluded_as lent l (Err (Ended n p s)) (machine.going a t) e = absurd (let z : ◌≡◌ {A = ℕ} 0 1 = cc in omega arith)
concluded_as lent l (Err (Ended n p s)) (machine.ended n₁ p₁ t) e =
    let i : number_of n ≡ n₁ = cc in
    let j : p ≡ p₁ = cc in
    let k : l ≡ written_into lent t.records = cc in
    let q : s.written ≡ record_size * length t.records = cc in
    let u : s.steps ≡ t.steps = cc in
    rw (i, j, k, u, records_of_lem (length t.records) s.written (sym q)) refl
concluded_as lent l (Err (Ended n p s)) machine.stuck e = absurd (let z : ◌≡◌ {A = ℕ} 0 1 = cc in omega arith)
concluded_as lent l (Err Stuck) (machine.going a t) e = absurd (let z : ◌≡◌ {A = ℕ} 0 1 = cc in omega arith)
concluded_as lent l (Err Stuck) (machine.ended n p t) e = absurd (let z : ◌≡◌ {A = ℕ} 0 1 = cc in omega arith)
concluded_as lent l (Err Stuck) machine.stuck e = refl

-- an output with no records is the output lent
pub holds_none : (lent : List ℕ) → Holds lent [] lent started
unfolding written_into output_bytes
holds_none lent = record { output = refl; size = refl }

-- a run from the start
pub does_all : {A : Type 0} (lent l : List ℕ) (r : Result State Stop) (run : Run A) → Does lent started l r run → concluded l r ≡ conclusion_of lent (run begin)
does_all lent l r run d = concluded_as lent l r (run begin) (d lent [] (holds_none lent))

-- turned down before the machine starts
pub concluded_early : (lent : List ℕ) (e : Reason) → concluded lent (Err (Ended e 0 started)) ≡ untouched lent (number_of e) 0
unfolding concluded
concluded_early lent e = refl
