-- The top fields of a whole run, one after the other. Assumes nothing.
use Prim.Native.Nat.{ℕ, zero, suc, ◌+◌, ◌≤◌, ◌<◌}
use native.Mathlib.Omega.{arith}
use mathlib.Core.Path.{◌≡◌, refl, sym, ap, ◌∙◌, subst}
use mathlib.Core.List.{List, [], ◌∷◌, map}
use mathlib.Core.Bool.{Bool, true, false}
use mathlib.Core.Option.{none, some}
use lib.Dec.{leb}
use borrow.Author.Tests.{leb-true, leb-false}
use lib.ListN.{length, take, get_or, get_elem?}
use lib.Seq.{slice}
use Rattle.language.specs.Limits.{most_families}
use Rattle.language.specs.Tree.{Place, Top, family, qreg, creg, measure, reset, if, statement, bad_top}
use Rattle.language.specs.Read.{Field, field, read, read_top, read_if, if_of, choose}
use Rattle.language.specs.Check.{Declared, check, good}
use Rattle.language.specs.Lookup.{mapped}
use Rattle.language.specs.Machine.{act_top, declare_top, Run, Globals, give, no_meaning, after, all_declared, run_top, run_tops, nothing_yet, ◌>>=◌, ◌>>◌}
use Rattle.language.proofs.Accepted.{TopGood, a_family, a_qreg, a_creg, a_measure, a_reset, an_if, a_statement}
use Rattle.language.proofs.Families.{family_at_lem}
use Rattle.fields.specs.Table.{Listed}
use Rattle.std.specs.Prelude.{Result, Ok, Err}
use Rattle.fields.specs.declared.NoHeader.TheVariants.{End, Cut}
use Rattle.fields.proofs.Parts.{look, rest_is}
use Rattle.fields.proofs.Headers.{when_end, when_cut}
use Rattle.operands.specs.Meanings.{registers_of}
use Rattle.records.specs.declared.State.{State}
use Rattle.records.specs.declared.Stop.{Stop}
use Rattle.records.specs.declared.Stop.TheVariants.{Stuck}
use Rattle.records.specs.Outcomes.{answer_told, flat_outcome, Does}
use Rattle.runs.specs.declared.Totals.{Totals}
use Rattle.runs.specs.Whole.{tops_at, globals_of}
use Rattle.runs.specs.TopFields.{ActReady}
use Rattle.runs.proofs.Reached.{zero_totals, Reached, top_of, tops_next, reached_next, families_seen}
use Rattle.runs.proofs.TopActions.{tag_acts, act_then, act_other}
use Rattle.runs.proofs.TopTags.{acting_is}
use Rattle.runs.proofs.InstanceRuns.{no_family_lem}

-- a good if has a value that a bit can have
abbrev IfGood : Top → Type 0
IfGood (if p v b ss) = v ≤ 1
IfGood (bad_top n p) = ⊥
IfGood (family p k n types body) = Unit {0}
IfGood (qreg p n e) = Unit {0}
IfGood (creg p n e) = Unit {0}
IfGood (measure p w b e) = Unit {0}
IfGood (reset p w e) = Unit {0}
IfGood (statement x) = Unit {0}

if_good : {d a : Declared} {x : Top} → TopGood d x a → IfGood x
if_good (a_family k n ks room few count e c) = tt
if_good (a_qreg n room h) = tt
if_good (a_creg n room h) = tt
if_good (a_measure h k) = tt
if_good (a_reset h) = tt
if_good (an_if l h k) = l
if_good (a_statement h) = tt

if_ready : (p : Place) (content : List ℕ) → IfGood (read_top (field p 6 content)) → (1 ≤ length content) × (get_or content 0 0 ≤ 1)
unfolding read_top choose read_if if_of
if_ready p [] h = absurd h
if_ready p (v ∷ rest) h = (omega arith, h)

get_some : {A : Type 0} (xs : List A) (n : ℕ) → n < length xs → (x : A) × (get_elem? xs n ≡ some x)
get_some [] n h = absurd (omega arith)
get_some (x ∷ xs) zero h = (x, refl)
get_some (x ∷ xs) (suc n) h = get_some xs n (omega arith)

take_none : {A : Type 0} (k : ℕ) (xs : List A) (n : ℕ) → get_elem? xs n ≡ none → get_elem? (take k xs) n ≡ none
take_none zero [] n e = refl
take_none zero (x ∷ xs) n e = refl
take_none (suc k) [] n e = refl
take_none (suc k) (x ∷ xs) zero e = e
take_none (suc k) (x ∷ xs) (suc n) e = take_none k xs n e

-- what is left to do leads to the whole
abbrev pub Onward : List ℕ → State → List ℕ → State → (rest whole : Run Globals) → Type 0
Onward l st l' st' rest whole = (x : List ℕ) (r : Result State Stop) → Does l' st' x r rest → Does l st x r whole

-- the same run by another name
pub does_same : (l : List ℕ) (st : State) (l' : List ℕ) (r : Result State Stop) (run run' : Run Globals) → run' ≡ run → Does l st l' r run → Does l st l' r run'
does_same l st l' r run run' e d = subst (λ (x : Run Globals). Does l st l' r x) (sym e) d

pub onward_same : (l : List ℕ) (st : State) (l' : List ℕ) (st' : State) (rest rest' whole : Run Globals) → rest ≡ rest' → Onward l st l' st' rest whole → Onward l st l' st' rest' whole
onward_same l st l' st' rest rest' whole e o x r d = o x r (does_same l' st' x r rest' rest e d)

module _ (limit room : ℕ) (l : List ℕ) where
  abbrev pub whole_run : Run Globals
  whole_run = run_tops limit room (read l) nothing_yet

  pub starts : (regs : List ℕ) → run_tops limit room (tops_at l 0) (globals_of limit room l zero_totals regs) ≡ whole_run
  unfolding read registers_of
  starts regs = ap (λ (xs : List Top). run_tops limit room xs nothing_yet) (ap (map read_top) (rest_is l 0))

  -- the end of the fields
  pub at_end : (at : ℕ) (g : Globals) (out : List ℕ) (st : State) → look l at ≡ Err End → Does out st out (Ok st) (run_tops limit room (tops_at l at) g)
  unfolding run_tops answer_told flat_outcome
  at_end at g out st e = does_same out st out (Ok st) (give g) _ (ap (λ (fs : List Field). run_tops limit room (map read_top fs) g) (when_end l at (length l) (omega arith) e))
      (λ lent rs w. let p = w.output in let q = w.size in cc)

  pub at_cut : (at : ℕ) (g : Globals) (out : List ℕ) (st : State) → look l at ≡ Err Cut → Does out st out (Err Stuck) (run_tops limit room (tops_at l at) g)
  unfolding run_tops read_top run_top act_top declare_top ◌>>=◌ ◌>>◌ after answer_told flat_outcome
  at_cut at g out st e = does_same out st out (Err Stuck) no_meaning _ (ap (λ (fs : List Field). run_tops limit room (map read_top fs) g) (when_cut l at (length l) (omega arith) e)) (λ lent rs w. refl)

  -- a field that declares nothing
  module _ (at tag next : ℕ) (e : look l at ≡ Ok (record { tag = tag; next = next })) (h : (tag ≡ 1 → ⊥) × (tag ≡ 2 → ⊥) × (tag ≡ 3 → ⊥)) (g : Globals)
      (out : List ℕ) (st : State) (out' : List ℕ) (r : Result State Stop) (d : Does out st out' r (act_top limit room (read_top (field at tag (slice (at + 3) next l))) g)) where
    acts_there : run_tops limit room (tops_at l at) g ≡ ((act_top limit room (top_of limit room l at tag next) g >> give g) >>= run_tops limit room (tops_at l next))
    unfolding run_tops
    acts_there = ap (λ (xs : List Top). run_tops limit room xs g) (tops_next limit room l at tag next e)
        ∙ ap (λ (x : Run Globals). x >>= run_tops limit room (tops_at l next)) (acting_is limit room (top_of limit room l at tag next) g (tag_acts at tag (slice (at + 3) next l) h))

    pub acts_then : (t : State) (x : List ℕ) (q : Result State Stop) → r ≡ Ok t → Does out' t x q (run_tops limit room (tops_at l next) g) → Does out st x q (run_tops limit room (tops_at l at) g)
    acts_then t x q k b = does_same out st x q _ _ acts_there (act_then out st out' r (act_top limit room (top_of limit room l at tag next) g) g (run_tops limit room (tops_at l next)) d t x q k b)

    pub acts_other : {x : Stop} → r ≡ Err x → Does out st out' (Err x) (run_tops limit room (tops_at l at) g)
    acts_other k = does_same out st out' (Err _) _ _ acts_there (act_other out st out' r (act_top limit room (top_of limit room l at tag next) g) g (run_tops limit room (tops_at l next)) d k)

  -- what the code asks of a field that declares nothing
  pub act_ready : (at tag next : ℕ) (t : Totals) (r : Reached limit room l at t) → look l at ≡ Ok (record { tag = tag; next = next })
      → (tag ≡ 1 → ⊥) × (tag ≡ 2 → ⊥) × (tag ≡ 3 → ⊥) → ActReady tag (slice (at + 3) next l)
  act_ready at tag next t r e h = record {
    apart = h;
    ready = λ six. let k = if_ready at (slice (at + 3) next l) (if_good (subst (λ (x : ℕ). TopGood r.now (read_top (field at x (slice (at + 3) next l))) (reached_next limit room l at tag next r e).next_now) six (reached_next limit room l at tag next r e).top_good)) in
        record { long = k.0; value = k.1 };
  }

  -- no more families are seen than the table has
  pub seen_few : (d : Declared) → check (read l) ≡ good d → (at : ℕ) (t : Totals) (r : Reached limit room l at t) (table : List ℕ) (n : ℕ) → Listed l table n → length table ≡ most_families → t.families ≤ n
  unfolding mapped
  seen_few d c at t r table n s long = go (leb t.families n) (leb-true t.families n) (leb-false t.families n)
    where
      some_there : {A : Type 0} (k : ℕ) (xs ys : List A) → take k xs ≡ ys → n < length ys → get_elem? xs n ≡ none → ⊥
      some_there k xs ys e h q = absurd (let x = get_some (take k xs) n (rw (← e) at h) in let y = take_none k xs n q in let z : ◌≡◌ {A = ℕ} 0 1 = cc in omega arith)

      go : (b : Bool) → (b ≡ true → t.families ≤ n) → (b ≡ false → n < t.families) → t.families ≤ n
      go true f g = f refl
      go false f g = absurd (some_there t.families (all_declared limit room (read l) []) (all_declared limit room r.before []) (families_seen limit room l r) (let q = g refl in omega (arith, r.count))
          (family_at_lem limit room (read l) n ∙ rw (no_family_lem limit room l d c table n n s long (omega arith)) refl))
