-- Each event ends a run exactly under its condition, and a list of events with the first that does.
use mathlib.Core.Path.{◌≡◌, refl, sym, ap, ◌∙◌, subst₂}
use mathlib.Core.List.{List, [], ◌∷◌, ◌++◌}
use mathlib.Core.Bool.{Bool, true, false, cond}
use Prim.Native.Nat.{ℕ, suc, ◌*◌}
use native.Mathlib.Omega.{arith}
use lib.IntN.{ℤ}
use lib.Dec.{leb, ltb, eqb}
use borrow.Author.Tests.{ltb-true, ltb-false, leb-true, leb-false, eqb-true, le-ltb, lt-leb, eq-eqb}
use lib.ListN.{length, length-append}
use Rattle.language.specs.Limits.{most_wires, record_size, most_halvings}
use Rattle.language.specs.Tree.{Place}
use Rattle.language.specs.Form.{in_range}
use Rattle.language.specs.Machine as M
use Rattle.language.specs.Machine.{Wire, Action, Frame, State, Outcome, going, ended, stuck, Run, after, done}
use Rattle.run_laws.specs.Ends.{Event, step_at, value_at, pair_at, halvings_at, record_at, layout_at, no_meaning, changed, meet, Ends, too_many_wires, out_of_range, one_wire, too_many_halvings, limit_used_up, output_full, EventLaw, meet_all, First, FirstLaw, Room, RoomIn, RoomLaw, HandedOn, GateLaw, CxLaw, PhaseLaw, CphaseLaw}
use Rattle.language.proofs.Runs.{then_then, done_then}

pub handed_on_lem : HandedOn
unfolding after
handed_on_lem A B n p s next = refl

-- an end's parts
record Parts (n m p q : ℕ) (s t : State) : Type 0 where
  number : n ≡ m
  place : p ≡ q
  state : s ≡ t

parts : {n m p q : ℕ} {s t : State} → ◌≡◌ {A = Outcome (Unit {0})} (ended n p s) (ended m q t) → Parts n m p q s t
parts e = record { number = cc; place = cc; state = cc }

not_ended : {n p : ℕ} {s t : State} → ◌≡◌ {A = Outcome (Unit {0})} (going tt s) (ended n p t) → ⊥
not_ended e = let z : ◌≡◌ {A = ℕ} 0 1 = cc in omega arith

same_going : {s t : State} → ◌≡◌ {A = Outcome (Unit {0})} (going tt s) (going tt t) → t ≡ s
same_going e = cc

going_either : (n p : ℕ) (s : State) {t u : State} (b : Bool) → ◌≡◌ {A = Outcome (Unit {0})} (cond b (going tt u) (ended n p s)) (going tt t) → t ≡ u
going_either n p s true e = same_going e
going_either n p s false e = absurd (not_ended (sym e))

cond_false : {A : Type 0} (b : Bool) (x y : A) → b ≡ false → cond b x y ≡ y
cond_false true x y e = absurd (let z : ◌≡◌ {A = ℕ} 0 1 = cc in omega arith)
cond_false false x y e = refl

module _ (limit room : ℕ) where
  same_ends : {s : State} {e : Event} {n m p q : ℕ} {t u : State} → Ends limit room s e n p → Parts n m p q t u → (u ≡ t) × Ends limit room s e m q
  same_ends {s} {e} h k = (sym k.state, subst₂ (λ (a b : ℕ). Ends limit room s e a b) k.number k.place h)

  -- ---- one event

  ends_so : (s : State) {e : Event} {n p : ℕ} → Ends limit room s e n p → meet limit room e s ≡ ended n p s
  unfolding meet M.step M.write M.inside M.apart M.few_halvings M.laid_out M.◌>>=◌ after
  ends_so s (too_many_wires {p = p} {n = n} h) = ap (λ (b : Bool). cond b done (M.end_at 23 p) s) (lt-leb n most_wires h)
  ends_so s (out_of_range {p = p} {z = z} h) = ap (λ (b : Bool). after (cond b (M.give z) (M.end_at 24 p) s) (λ x. done)) h
  ends_so s (one_wire {p = p} {x = x} {y = y} h) = ap (λ (b : Bool). cond b (M.end_at 25 p) done s) (eq-eqb x.number y.number h)
  ends_so s (too_many_halvings {p = p} {k = k} h) = ap (λ (b : Bool). cond b done (M.end_at 32 p) s) (lt-leb k most_halvings h)
  ends_so s (limit_used_up h) = cond_false (ltb s.steps limit) _ _ (le-ltb s.steps limit h)
  ends_so s (output_full h) = cond_false (leb (record_size * suc (length s.records)) room) _ _ (lt-leb (record_size * suc (length s.records)) room h)

  step_only : (p : Place) (s : State) (n q : ℕ) (t : State) → M.step limit room p s ≡ ended n q t → (t ≡ s) × Ends limit room s (step_at p) n q
  unfolding M.step
  step_only p s n q t h = go (ltb s.steps limit) _ refl h
    where
      go : (b : Bool) (u : State) → ltb s.steps limit ≡ b → ◌≡◌ {A = Outcome (Unit {0})} (cond b (going tt u) (ended 26 p s)) (ended n q t) → (t ≡ s) × Ends limit room s (step_at p) n q
      go true u e k = absurd (not_ended k)
      go false u e k = same_ends (limit_used_up (ltb-false s.steps limit e)) (parts k)

  value_only : (p : Place) (z : ℤ) (s : State) (n q : ℕ) (t : State) → meet limit room (value_at p z) s ≡ ended n q t → (t ≡ s) × Ends limit room s (value_at p z) n q
  unfolding meet M.inside M.◌>>=◌ after
  value_only p z s n q t h = go (in_range z) refl h
    where
      go : (b : Bool) → in_range z ≡ b → after (cond b (M.give z) (M.end_at 24 p) s) (λ x. done) ≡ ended n q t → (t ≡ s) × Ends limit room s (value_at p z) n q
      go true e k = absurd (not_ended k)
      go false e k = same_ends (out_of_range e) (parts k)

  pair_only : (p : Place) (x y : Wire) (s : State) (n q : ℕ) (t : State) → M.apart p x y s ≡ ended n q t → (t ≡ s) × Ends limit room s (pair_at p x y) n q
  unfolding M.apart
  pair_only p x y s n q t h = go (eqb x.number y.number) refl h
    where
      go : (b : Bool) → eqb x.number y.number ≡ b → cond b (M.end_at 25 p) done s ≡ ended n q t → (t ≡ s) × Ends limit room s (pair_at p x y) n q
      go true e k = same_ends (one_wire (eqb-true x.number y.number e)) (parts k)
      go false e k = absurd (not_ended k)

  halvings_only : (p : Place) (k : ℕ) (s : State) (n q : ℕ) (t : State) → M.few_halvings p k s ≡ ended n q t → (t ≡ s) × Ends limit room s (halvings_at p k) n q
  unfolding M.few_halvings
  halvings_only p k s n q t h = go (leb k most_halvings) refl h
    where
      go : (b : Bool) → leb k most_halvings ≡ b → cond b done (M.end_at 32 p) s ≡ ended n q t → (t ≡ s) × Ends limit room s (halvings_at p k) n q
      go true e j = absurd (not_ended j)
      go false e j = same_ends (too_many_halvings (leb-false k most_halvings e)) (parts j)

  record_only : (p : Place) (f : Frame) (a : Action) (s : State) (n q : ℕ) (t : State) → M.write limit room p f a s ≡ ended n q t → (t ≡ s) × Ends limit room s (record_at p f a) n q
  unfolding M.write
  record_only p f a s n q t h = go (leb (record_size * suc (length s.records)) room) _ refl h
    where
      go : (b : Bool) (u : State) → leb (record_size * suc (length s.records)) room ≡ b → ◌≡◌ {A = Outcome (Unit {0})} (cond b (going tt u) (ended 27 p s)) (ended n q t) → (t ≡ s) × Ends limit room s (record_at p f a) n q
      go true u e k = absurd (not_ended k)
      go false u e k = same_ends (output_full (leb-false (record_size * suc (length s.records)) room e)) (parts k)

  layout_only : (p : Place) (m : ℕ) (s : State) (n q : ℕ) (t : State) → M.laid_out p m s ≡ ended n q t → (t ≡ s) × Ends limit room s (layout_at p m) n q
  unfolding M.laid_out
  layout_only p m s n q t h = go (leb m most_wires) refl h
    where
      go : (b : Bool) → leb m most_wires ≡ b → cond b done (M.end_at 23 p) s ≡ ended n q t → (t ≡ s) × Ends limit room s (layout_at p m) n q
      go true e k = absurd (not_ended k)
      go false e k = same_ends (too_many_wires (leb-false m most_wires e)) (parts k)

  ends_only : (e : Event) (s : State) (n q : ℕ) (t : State) → meet limit room e s ≡ ended n q t → (t ≡ s) × Ends limit room s e n q
  unfolding meet
  ends_only (step_at p) s n q t h = step_only p s n q t h
  ends_only (value_at p z) s n q t h = value_only p z s n q t h
  ends_only (pair_at p x y) s n q t h = pair_only p x y s n q t h
  ends_only (halvings_at p k) s n q t h = halvings_only p k s n q t h
  ends_only (record_at p f a) s n q t h = record_only p f a s n q t h
  ends_only (layout_at p m) s n q t h = layout_only p m s n q t h
  ends_only no_meaning s n q t h = absurd (let z : ◌≡◌ {A = ℕ} 0 1 = cc in omega arith)

  goes_so : (e : Event) (s t : State) → meet limit room e s ≡ going tt t → t ≡ changed e s
  unfolding meet changed M.step M.write M.inside M.apart M.few_halvings M.laid_out M.◌>>=◌ after
  goes_so (step_at p) s t h = going_either 26 p s (ltb s.steps limit) h
  goes_so (value_at p z) s t h = go (in_range z) h
    where
      go : (b : Bool) → after (cond b (M.give z) (M.end_at 24 p) s) (λ x. done) ≡ going tt t → t ≡ s
      go true k = same_going k
      go false k = absurd (not_ended (sym k))
  goes_so (pair_at p x y) s t h = go (eqb x.number y.number) h
    where
      go : (b : Bool) → cond b (M.end_at 25 p) done s ≡ going tt t → t ≡ s
      go true k = absurd (not_ended (sym k))
      go false k = same_going k
  goes_so (halvings_at p k) s t h = go (leb k most_halvings) h
    where
      go : (b : Bool) → cond b done (M.end_at 32 p) s ≡ going tt t → t ≡ s
      go true j = same_going j
      go false j = absurd (not_ended (sym j))
  goes_so (record_at p f a) s t h = going_either 27 p s (leb (record_size * suc (length s.records)) room) h
  goes_so (layout_at p m) s t h = go (leb m most_wires) h
    where
      go : (b : Bool) → cond b done (M.end_at 23 p) s ≡ going tt t → t ≡ s
      go true k = same_going k
      go false k = absurd (not_ended (sym k))
  goes_so no_meaning s t h = absurd (let z : ◌≡◌ {A = ℕ} 0 1 = cc in omega arith)

  pub event_law : (e : Event) (s : State) → EventLaw limit room e s
  event_law e s = record { ends = λ n p h. ends_so s h; only = ends_only e s; goes = goes_so e s }

  -- ---- one event after the other

  pub meet_append : (es fs : List Event) → meet_all limit room (es ++ fs) ≡ M.◌>>◌ (meet_all limit room es) (meet_all limit room fs)
  unfolding meet_all
  meet_append [] fs = sym (done_then (meet_all limit room fs))
  meet_append (e ∷ es) fs = ap (M.◌>>◌ (meet limit room e)) (meet_append es fs) ∙ sym (then_then (meet limit room e) (meet_all limit room es) (meet_all limit room fs))

  -- events that went on, and one that ends the run
  first_ends : (earlier later : List Event) (e : Event) (s t : State) (n p : ℕ) → meet_all limit room earlier s ≡ going tt t → Ends limit room t e n p → meet_all limit room (earlier ++ (e ∷ later)) s ≡ ended n p t
  unfolding meet_all M.◌>>◌ after
  first_ends earlier later e s t n p w h = rw (meet_append earlier (e ∷ later), w, ends_so t h) refl

  -- the first event goes on, or ends the run
  first_event : (e : Event) (es : List Event) (s : State) (n p : ℕ) (t : State) (o : Outcome (Unit {0})) → meet limit room e s ≡ o → after o (λ u. meet_all limit room es) ≡ ended n p t
      → ((u : State) → meet_all limit room es u ≡ ended n p t → First limit room es u n p t) → First limit room (e ∷ es) s n p t
  unfolding meet_all M.◌>>◌ after
  first_event e es s n p t (going tt u) k j rest = let f = rest u j in
      record { earlier = e ∷ f.earlier; event = f.event; later = f.later; split = ap (λ (xs : List Event). e ∷ xs) f.split; went = rw k f.went; ends = f.ends }
  first_event e es s n p t (ended m q u) k j rest =
      let a = ends_only e s m q u k in
      let b = parts j in
      record { earlier = []; event = e; later = es; split = refl; went = ap (λ (x : State). going tt x) (sym a.0 ∙ b.state); ends = rw (← b.number, ← b.place, ← b.state, a.0) a.1 }
  first_event e es s n p t stuck k j rest = absurd (let z : ◌≡◌ {A = ℕ} 0 1 = cc in omega arith)

  first_only : (es : List Event) (s : State) (n p : ℕ) (t : State) → meet_all limit room es s ≡ ended n p t → First limit room es s n p t
  unfolding meet_all M.◌>>◌
  first_only [] s n p t h = absurd (not_ended h)
  first_only (e ∷ es) s n p t h = first_event e es s n p t (meet limit room e s) refl h (λ u k. first_only es u n p t k)

  pub first_law : (es : List Event) (s : State) → FirstLaw limit room es s
  first_law es s = record { ends = λ n p t f. rw f.split (first_ends f.earlier f.later f.event s t n p f.went f.ends); only = first_only es s }

  -- ---- steps and records stay within what the machine is given

  room_met : (e : Event) (s : State) → Room limit room s → RoomIn limit room (meet limit room e s)
  unfolding meet M.step M.write M.inside M.apart M.few_halvings M.laid_out M.◌>>=◌ after
  room_met (step_at p) s h = go (ltb s.steps limit) refl
    where
      go : (b : Bool) → ltb s.steps limit ≡ b → RoomIn limit room (cond b (going tt (record { records = s.records; steps = suc s.steps })) (ended 26 p s))
      go true e = record { few = ltb-true s.steps limit e; fit = h.fit }
      go false e = h
  room_met (value_at p z) s h = go (in_range z)
    where
      go : (b : Bool) → RoomIn limit room (after (cond b (M.give z) (M.end_at 24 p) s) (λ x. done))
      go true = h
      go false = h
  room_met (pair_at p x y) s h = go (eqb x.number y.number)
    where
      go : (b : Bool) → RoomIn limit room (cond b (M.end_at 25 p) done s)
      go true = h
      go false = h
  room_met (halvings_at p k) s h = go (leb k most_halvings)
    where
      go : (b : Bool) → RoomIn limit room (cond b done (M.end_at 32 p) s)
      go true = h
      go false = h
  room_met (record_at p f a) s h = go (leb (record_size * suc (length s.records)) room) refl
    where
      go : (b : Bool) → leb (record_size * suc (length s.records)) room ≡ b
          → RoomIn limit room (cond b (going tt (record { records = s.records ++ (record { action = a; condition = f.condition } ∷ []); steps = s.steps })) (ended 27 p s))
      go true e = record { few = h.few; fit = omega (arith, leb-true (record_size * suc (length s.records)) room e, length-append s.records (record { action = a; condition = f.condition } ∷ [])) }
      go false e = h
  room_met (layout_at p n) s h = go (leb n most_wires)
    where
      go : (b : Bool) → RoomIn limit room (cond b done (M.end_at 23 p) s)
      go true = h
      go false = h
  room_met no_meaning s h = tt

  room_after_lem : (o : Outcome (Unit {0})) (next : Run (Unit {0})) → RoomIn limit room o → ((t : State) → Room limit room t → RoomIn limit room (next t)) → RoomIn limit room (after o (λ u. next))
  unfolding after
  room_after_lem (going u t) next h k = k t h
  room_after_lem (ended n p t) next h k = h
  room_after_lem stuck next h k = tt

  pub room_law : (es : List Event) (s : State) → RoomLaw limit room es s
  unfolding meet_all M.◌>>◌
  room_law [] s h = h
  room_law (e ∷ es) s h = room_after_lem (meet limit room e s) (meet_all limit room es) (room_met e s h) (λ t k. room_law es t k)

-- ---- the order within a statement

pub gate_law : GateLaw
unfolding meet M.run_statement M.run_gate
gate_law limit room p g o e fs f = refl

pub cx_law : CxLaw
unfolding meet M.run_statement M.run_cx
cx_law limit room p c o e fs f = refl

pub phase_law : PhaseLaw
unfolding meet M.run_statement M.run_phase
phase_law limit room p i o e fs f = refl

pub cphase_law : CphaseLaw
unfolding meet M.run_statement M.run_cphase
cphase_law limit room p i c o e fs f = refl
