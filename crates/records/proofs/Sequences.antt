-- Parts of a run one after the other. Assumes nothing.
use Prim.Native.Nat.{ℕ, suc, ◌+◌, ◌*◌, ◌<◌, ◌≤◌}
use mathlib.Core.Path.{◌≡◌, refl, sym, ap, ◌∙◌, subst}
use mathlib.Core.List.{List}
use native.Mathlib.Omega.{arith}
use borrow.Author.Tests.{lt-ltb, le-ltb}
use lib.ListN.{length}
use Rattle.std.specs.Prelude.{Result, Ok, Err}
use Rattle.refusals.specs.declared.Reason.{Reason}
use Rattle.refusals.specs.declared.Reason.TheVariants.{OutOfSteps}
use Rattle.refusals.specs.Reasons.{number_of}
use Rattle.language.specs.Limits.{record_size}
use Rattle.language.specs.Tree.{Place}
use Rattle.language.specs.Machine.{Outcome, Run, after, ◌>>◌, step, done, no_meaning, end_at}
use Rattle.language.specs.Machine as machine
use Rattle.language.specs.Result.{written_into}
use Rattle.records.specs.declared.State.{State}
use Rattle.records.specs.declared.Stop.{Stop}
use Rattle.records.specs.declared.Stop.TheVariants.{Ended, Stuck}
use Rattle.records.specs.Outcomes.{answer_told, flat_outcome, Does, OneStep, Stepped, state_of}

-- the code stops
pub does_stuck : (l : List ℕ) (st : State) (l' : List ℕ) → Does {A = Unit {0}} l st l' (Err Stuck) no_meaning
unfolding answer_told flat_outcome
does_stuck l st l' lent rs w = refl

pub does_end : (l : List ℕ) (st : State) (e : Reason) (p : Place) → Does {A = Unit {0}} l st l (Err (Ended e p st)) (end_at (number_of e) p)
unfolding answer_told flat_outcome
does_end l st r p lent rs w = let e = w.output in let f = w.size in cc

pub does_done : (l : List ℕ) (st : State) → Does l st l (Ok st) done
unfolding answer_told flat_outcome
does_done l st lent rs w = let e = w.output in let f = w.size in cc

-- a part that goes on, and the next
pub does_then : (l : List ℕ) (st : State) (l' : List ℕ) (r : Result State Stop) (t : State) (x : List ℕ) (q : Result State Stop) (run next : Run (Unit {0}))
    → Does l st l' r run → r ≡ Ok t → Does l' t x q next → Does l st x q (run >> next)
unfolding answer_told flat_outcome ◌>>◌ after
does_then l st l' r t x q run next a e b lent rs w = go (run (state_of rs st)) (sym (ap (answer_told l') e) ∙ a lent rs w)
  where
    go : (o : Outcome (Unit {0})) → answer_told l' (Ok t) ≡ flat_outcome lent o → answer_told x q ≡ flat_outcome lent (after o (λ u. next))
    go (machine.going u s) k =
        let e : l' ≡ written_into lent s.records = cc in
        let f : record_size * length s.records ≡ t.written = cc in
        let g : s.steps ≡ t.steps = cc in
        b lent s.records (record { output = e; size = f }) ∙ ap (λ (n : ℕ). flat_outcome lent (next (record { records = s.records; steps = n }))) (sym g)
    go (machine.ended n p s) k = absurd (let z : ◌≡◌ {A = ℕ} 0 1 = cc in omega arith)
    go machine.stuck k = absurd (let z : ◌≡◌ {A = ℕ} 0 1 = cc in omega arith)

-- a part that stops
pub does_other : (l : List ℕ) (st : State) (l' : List ℕ) (r : Result State Stop) (run next : Run (Unit {0}))
    → Does l st l' r run → {e : Stop} → r ≡ Err e → Does l st l' (Err e) (run >> next)
unfolding answer_told flat_outcome ◌>>◌ after
does_other l st l' r run next a {e} h lent rs w = go (run (state_of rs st)) e (sym (ap (answer_told l') h) ∙ a lent rs w)
  where
    go : (o : Outcome (Unit {0})) (e : Stop) → answer_told l' (Err e) ≡ flat_outcome lent o → answer_told l' (Err e) ≡ flat_outcome lent (after o (λ u. next))
    go (machine.going u s) (Ended n p t) k = absurd (let z : ◌≡◌ {A = ℕ} 0 1 = cc in omega arith)
    go (machine.going u s) Stuck k = absurd (let z : ◌≡◌ {A = ℕ} 0 1 = cc in omega arith)
    go (machine.ended n p s) e k = k
    go machine.stuck e k = k

-- a step
pub step_full : (limit room : ℕ) (l : List ℕ) (st : State) (p : Place) (next : Run (Unit {0})) → limit ≤ st.steps → Does l st l (Err (Ended OutOfSteps p st)) (step limit room p >> next)
unfolding answer_told flat_outcome step ◌>>◌ after
step_full limit room l st p next h lent rs w = simp (le-ltb st.steps limit h) (let e = w.output in let f = w.size in cc)

pub step_taken : (limit room : ℕ) (l : List ℕ) (st t : State) (p : Place) (next : Run (Unit {0})) (x : List ℕ) (q : Result State Stop) → st.steps < limit
    → t.written ≡ st.written → t.steps ≡ st.steps + 1 → Does l t x q next → Does l st x q (step limit room p >> next)
unfolding step ◌>>◌ after
step_taken limit room l st t p next x q h e f d lent rs w = simp (lt-ltb st.steps limit h)
    (let z : st.steps + 1 ≡ suc st.steps = omega arith in
    d lent rs (record { output = w.output; size = w.size ∙ sym e }) ∙ ap (λ (n : ℕ). flat_outcome lent (next (record { records = rs; steps = n }))) (f ∙ z))

-- what taking a step answers, and what comes after it
pub stepped_stops : (limit room : ℕ) (l : List ℕ) (st : State) (p : Place) (next : Run (Unit {0})) (r : Result State Stop) → Stepped limit p st r → {e : Stop} → r ≡ Err e
    → Does l st l (Err e) (step limit room p >> next)
unfolding Stepped
stepped_stops limit room l st p next r h {e} k = go e (subst (Stepped limit p st) k h)
  where
    go : (e : Stop) → Stepped limit p st (Err e) → Does l st l (Err e) (step limit room p >> next)
    go (Ended n q t) h = rw (h.reason, h.here, h.same) (step_full limit room l st p next h.none)
    go Stuck h = absurd h

pub stepped_goes : (limit : ℕ) (p : Place) (st t : State) (r : Result State Stop) → Stepped limit p st r → r ≡ Ok t → OneStep limit st t
unfolding Stepped
stepped_goes limit p st t r h e = rw e at h
