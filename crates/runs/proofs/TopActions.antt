-- Top fields that declare nothing, and parts of a run that give the globals on. Assumes nothing.
use Prim.Native.Nat.{ℕ, ◌+◌, ◌*◌}
use native.Mathlib.Omega.{arith}
use mathlib.Core.Path.{◌≡◌, refl, sym, ap, ◌∙◌}
use mathlib.Core.List.{List, [], ◌∷◌}
use borrow.Author.Tests.{ne_eqb}
use lib.ListN.{length}
use lib.Seq.{slice}
use Rattle.language.specs.Limits.{record_size}
use Rattle.language.specs.Tree.{Place, Top, family, qreg, creg, measure, reset, if, statement, bad_top}
use Rattle.language.specs.Read.{Reader, field, of_fields, choose, read_top, read_if, if_of, measure_of, reset_of}
use Rattle.language.specs.Check.{Declared}
use Rattle.language.specs.Machine as machine
use Rattle.language.specs.Machine.{Outcome, Run, Globals, Family, give, after, declared, all_declared, ◌>>=◌, ◌>>◌}
use Rattle.language.specs.Result.{written_into}
use Rattle.language.proofs.ReadLaws.{AllRows, choose_all}
use Rattle.language.proofs.Accepted.{TopGood, a_family, a_qreg, a_creg, a_measure, a_reset, an_if, a_statement}
use Rattle.records.specs.declared.State.{State}
use Rattle.std.specs.Prelude.{Result, Ok, Err}
use Rattle.records.specs.declared.Stop.{Stop}
use Rattle.records.specs.declared.Stop.TheVariants.{Ended, Stuck}
use Rattle.records.specs.Outcomes.{answer_told, flat_outcome, Does, state_of}
use Rattle.fields.proofs.Parts.{look}
use Rattle.runs.specs.declared.Totals.{Totals}
use Rattle.runs.proofs.Reached.{Reached, top_of, reached_next}

-- ---- what declares nothing

-- a top field that is no family and no register
abbrev pub DeclaresNothing : Top → Type 0
DeclaresNothing (family p m n types body) = ⊥
DeclaresNothing (qreg p n e) = ⊥
DeclaresNothing (creg p n e) = ⊥
DeclaresNothing (measure p w b e) = Unit {0}
DeclaresNothing (reset p w e) = Unit {0}
DeclaresNothing (if p v b ss) = Unit {0}
DeclaresNothing (statement x) = Unit {0}
DeclaresNothing (bad_top n p) = Unit {0}

ActsBy : Reader Top → Type 0
ActsBy read = (p : Place) (content : List ℕ) → DeclaresNothing (read p content)

if_acts : ActsBy read_if
unfolding ActsBy read_if if_of
if_acts p [] = tt
if_acts p (v ∷ rest) = tt

-- the tag tells
pub tag_acts : (at tag : ℕ) (content : List ℕ) → (tag ≡ 1 → ⊥) × (tag ≡ 2 → ⊥) × (tag ≡ 3 → ⊥) → DeclaresNothing (read_top (field at tag content))
unfolding read_top choose AllRows ActsBy measure_of reset_of
tag_acts at tag content h = rw (ne_eqb tag 1 h.0, ne_eqb tag 2 h.1, ne_eqb tag 3 h.2)
    (choose_all ActsBy tag ((4, of_fields measure_of) ∷ (5, of_fields reset_of) ∷ (6, read_if) ∷ []) _
    ((λ p fs. tt), ((λ p fs. tt), (if_acts, tt))) (λ p fs. tt) at content)

acts_declare : (limit room : ℕ) (x : Top) (fs : List Family) → DeclaresNothing x → declared limit room x fs ≡ fs
unfolding declared
acts_declare limit room (family p m n types body) fs h = absurd h
acts_declare limit room (qreg p n e) fs h = refl
acts_declare limit room (creg p n e) fs h = refl
acts_declare limit room (measure p w b e) fs h = refl
acts_declare limit room (reset p w e) fs h = refl
acts_declare limit room (if p v b ss) fs h = refl
acts_declare limit room (statement x) fs h = refl
acts_declare limit room (bad_top n p) fs h = refl

acts_keep : {d a : Declared} {x : Top} → TopGood d x a → DeclaresNothing x → a ≡ d
acts_keep (a_family m n ks room few count e c) h = absurd h
acts_keep (a_qreg n room k) h = absurd h
acts_keep (a_creg n room k) h = absurd h
acts_keep (a_measure k j) h = refl
acts_keep (a_reset k) h = refl
acts_keep (an_if l k j) h = refl
acts_keep (a_statement k) h = refl

pub acting_reached : (limit room : ℕ) (l : List ℕ) (at tag next : ℕ) (t : Totals) → Reached limit room l at t → look l at ≡ Ok (record { tag = tag; next = next })
    → (tag ≡ 1 → ⊥) × (tag ≡ 2 → ⊥) × (tag ≡ 3 → ⊥) → Reached limit room l next t
acting_reached limit room l at tag next t r e h =
    let n = reached_next limit room l at tag next r e in
    let a = tag_acts at tag (slice (at + 3) next l) h in
    n.go_on t (rw (acts_keep n.top_good a) r.counted) (ap length (acts_declare limit room (top_of limit room l at tag next) (all_declared limit room r.before []) a) ∙ r.count)

-- ---- a part of a run that gives the globals on

module _ (l : List ℕ) (st : State) (l' : List ℕ) (r : Result State Stop) (run : Run (Unit {0})) (g : Globals) (next : Globals → Run Globals) (d : Does l st l' r run) where
  pub act_then : (t : State) (x : List ℕ) (q : Result State Stop) → r ≡ Ok t → Does l' t x q (next g) → Does l st x q ((run >> give g) >>= next)
  unfolding answer_told flat_outcome ◌>>◌ ◌>>=◌ after
  act_then t x q e b lent rs w = go (run (state_of rs st)) (sym (ap (answer_told l') e) ∙ d lent rs w)
    where
      go : (o : Outcome (Unit {0})) → answer_told l' (Ok t) ≡ flat_outcome lent o → answer_told x q ≡ flat_outcome lent (after (after o (λ u. give g)) next)
      go (machine.going u s) k =
          let e : l' ≡ written_into lent s.records = cc in
          let f : record_size * length s.records ≡ t.written = cc in
          let g' : s.steps ≡ t.steps = cc in
          b lent s.records (record { output = e; size = f }) ∙ ap (λ (n : ℕ). flat_outcome lent (next g (record { records = s.records; steps = n }))) (sym g')
      go (machine.ended n p s) k = absurd (let z : ◌≡◌ {A = ℕ} 0 1 = cc in omega arith)
      go machine.stuck k = absurd (let z : ◌≡◌ {A = ℕ} 0 1 = cc in omega arith)

  pub act_other : {e : Stop} → r ≡ Err e → Does l st l' (Err e) ((run >> give g) >>= next)
  unfolding answer_told flat_outcome ◌>>◌ ◌>>=◌ after
  act_other {e} h lent rs w = go (run (state_of rs st)) e (sym (ap (answer_told l') h) ∙ d lent rs w)
    where
      go : (o : Outcome (Unit {0})) (e : Stop) → answer_told l' (Err e) ≡ flat_outcome lent o → answer_told l' (Err e) ≡ flat_outcome lent (after (after o (λ u. give g)) next)
      go (machine.going u s) (Ended n p t) k = absurd (let z : ◌≡◌ {A = ℕ} 0 1 = cc in omega arith)
      go (machine.going u s) Stuck k = absurd (let z : ◌≡◌ {A = ℕ} 0 1 = cc in omega arith)
      go (machine.ended n p s) e k = k
      go machine.stuck e k = k
