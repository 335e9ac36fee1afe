-- The trials of a showing: the laws of specs/Trials. Assumes nothing.
use mathlib.Core.Path.{◌≡◌, refl, sym, ap, ◌∙◌, subst}
use mathlib.Core.List.{List, [], ◌∷◌}
use mathlib.Core.Bool.{Bool, true, false, cond, ◌||◌}
use mathlib.Core.Option.{some}
use Prim.Native.Nat.{ℕ, zero, suc, ◌≤◌, ◌<◌}
use native.Mathlib.Omega.{arith}
use lib.ListN.{length, get_elem?}
use Rattle.language.specs.Form.{Built, Loop, Showing, shown, not_shown, beyond_range, plainly, trial, by_trial, or_tried, showing}
use Rattle.form_laws.specs.Trials.{trials_for, if_not_shown, trials_made, TrialAt, FirstLaw, NoneLaw, Widens, same, now_shown, WidensLaw, NoLoopsLaw}

-- ---- how many are made

-- the trials for these loops end at the first that shows e
record FirstOf (m : ℕ) (ls tried : List Loop) (e : Built) : Type 0 where
  at : ℕ
  made : trials_for m ls tried e ≡ suc at
  loop : Loop
  there : get_elem? tried at ≡ some loop
  shows : trial m ls loop e ≡ true
  before : (i : ℕ) (l : Loop) → i < at → get_elem? tried i ≡ some l → trial m ls l e ≡ true → ⊥

not_both : {b : Bool} → b ≡ true → b ≡ false → ⊥
not_both t f = absurd (let z : ◌≡◌ {A = ℕ} 0 1 = cc in omega arith)

some_is : {l k : Loop} → some l ≡ some k → l ≡ k
some_is e = cc

first_of : (m : ℕ) (ls tried : List Loop) (e : Built) → by_trial m ls tried e ≡ true → FirstOf m ls tried e
unfolding by_trial trials_for
first_of m ls [] e t = absurd (let z : ◌≡◌ {A = ℕ} 0 1 = cc in omega arith)
first_of m ls (l ∷ tried) e t = go (first_of m ls tried e) (trial m ls l e) refl t
  where
    onward : trial m ls l e ≡ false → FirstOf m ls tried e → FirstOf m ls (l ∷ tried) e
    onward h r = record {
      at = suc r.at;
      made = ap (λ (b : Bool). suc (cond b 0 (trials_for m ls tried e))) h ∙ ap suc r.made;
      loop = r.loop;
      there = r.there;
      shows = r.shows;
      before = earlier;
    }
      where
        earlier : (i : ℕ) (k : Loop) → i < suc r.at → get_elem? (l ∷ tried) i ≡ some k → trial m ls k e ≡ true → ⊥
        earlier zero k q g s = not_both (subst (λ (x : Loop). trial m ls x e ≡ true) (sym (some_is g)) s) h
        earlier (suc i) k q g s = r.before i k (omega arith) g s

    go : (by_trial m ls tried e ≡ true → FirstOf m ls tried e) → (b : Bool) → trial m ls l e ≡ b → (b || by_trial m ls tried e) ≡ true → FirstOf m ls (l ∷ tried) e
    go later true h t = record {
      at = 0;
      made = ap (λ (b : Bool). suc (cond b 0 (trials_for m ls tried e))) h;
      loop = l;
      there = refl;
      shows = h;
      before = λ i k q g s. absurd (omega arith);
    }
    go later false h t = onward h (later t)

-- no trial for these loops shows e
record NoneOf (m : ℕ) (ls tried : List Loop) (e : Built) : Type 0 where
  made : trials_for m ls tried e ≡ length tried
  none : (j : ℕ) (l : Loop) → get_elem? tried j ≡ some l → trial m ls l e ≡ true → ⊥

none_of : (m : ℕ) (ls tried : List Loop) (e : Built) → by_trial m ls tried e ≡ false → NoneOf m ls tried e
unfolding by_trial trials_for
none_of m ls [] e t = record { made = refl; none = λ j l g s. absurd (let z : ◌≡◌ {A = ℕ} 0 1 = cc in omega arith) }
none_of m ls (l ∷ tried) e t = go (none_of m ls tried e) (trial m ls l e) refl t
  where
    here : trial m ls l e ≡ false → NoneOf m ls tried e → (j : ℕ) (k : Loop) → get_elem? (l ∷ tried) j ≡ some k → trial m ls k e ≡ true → ⊥
    here h r zero k g s = not_both (subst (λ (x : Loop). trial m ls x e ≡ true) (sym (some_is g)) s) h
    here h r (suc j) k g s = r.none j k g s

    go : (by_trial m ls tried e ≡ false → NoneOf m ls tried e) → (b : Bool) → trial m ls l e ≡ b → (b || by_trial m ls tried e) ≡ false → NoneOf m ls (l ∷ tried) e
    go later true h t = absurd (let z : ◌≡◌ {A = ℕ} 0 1 = cc in omega arith)
    go later false h t = record {
      made = ap (λ (b : Bool). suc (cond b 0 (trials_for m ls tried e))) h ∙ ap suc (later t).made;
      none = here h (later t);
    }

-- no more than these loops
pub for_most : (m : ℕ) (ls tried : List Loop) (e : Built) → trials_for m ls tried e ≤ length tried
unfolding trials_for
for_most m ls [] e = omega arith
for_most m ls (l ∷ tried) e = go (for_most m ls tried e) (trial m ls l e)
  where
    go : {n : ℕ} → n ≤ length tried → (b : Bool) → suc (cond b 0 n) ≤ length (l ∷ tried)
    go h true = omega arith
    go h false = omega arith

-- no more trials are made than there are loops
pub trials_most : (m : ℕ) (ls : List Loop) (e : Built) → trials_made m ls e ≤ length ls
unfolding trials_made if_not_shown
trials_most m ls e = go (plainly m ls e)
  where
    go : (x : Showing) → if_not_shown x (trials_for m ls ls e) ≤ length ls
    go shown = omega arith
    go not_shown = for_most m ls ls e
    go beyond_range = omega arith

pub first_law : FirstLaw
unfolding showing or_tried trials_made if_not_shown
first_law m ls e n s = go (by_trial m ls ls e) refl (ap (λ (x : Showing). or_tried x (by_trial m ls ls e)) (sym n) ∙ s)
  where
    made : trials_made m ls e ≡ trials_for m ls ls e
    made = ap (λ (x : Showing). if_not_shown x (trials_for m ls ls e)) n

    go : (b : Bool) → by_trial m ls ls e ≡ b → cond b shown not_shown ≡ shown → (j : ℕ) × (trials_made m ls e ≡ suc j) × TrialAt m ls e j × ((i : ℕ) → i < j → TrialAt m ls e i → ⊥)
    go true h q =
        let r = first_of m ls ls e h in
        (r.at, made ∙ r.made, (r.loop, r.there, r.shows), λ i l t. r.before i t.0 l t.1 t.2)
    go false h q = absurd (let z : ◌≡◌ {A = ℕ} 0 1 = cc in omega arith)

pub none_law : NoneLaw
unfolding showing or_tried trials_made if_not_shown
none_law m ls e s = go (plainly m ls e) (by_trial m ls ls e) refl s
  where
    go : (x : Showing) (b : Bool) → by_trial m ls ls e ≡ b → or_tried x b ≡ not_shown → (if_not_shown x (trials_for m ls ls e) ≡ length ls) × ((j : ℕ) → TrialAt m ls e j → ⊥)
    go shown b h q = absurd (let z : ◌≡◌ {A = ℕ} 0 1 = cc in omega arith)
    go beyond_range b h q = absurd (let z : ◌≡◌ {A = ℕ} 0 1 = cc in omega arith)
    go not_shown true h q = absurd (let z : ◌≡◌ {A = ℕ} 0 1 = cc in omega arith)
    go not_shown false h q = let r = none_of m ls ls e h in (r.made, λ j t. r.none j t.0 t.1 t.2)

-- ---- what they change

pub widens : WidensLaw
unfolding showing or_tried
widens m ls e = go (plainly m ls e) (by_trial m ls ls e)
  where
    go : (x : Showing) (t : Bool) → Widens x (or_tried x t)
    go shown t = same
    go not_shown true = now_shown
    go not_shown false = same
    go beyond_range t = same

pub no_loops : NoLoopsLaw
unfolding showing or_tried by_trial
no_loops m e = go (plainly m [] e)
  where
    go : (x : Showing) → or_tried x false ≡ x
    go shown = refl
    go not_shown = refl
    go beyond_range = refl
