-- Where a run ends: at the first condition for an end that the machine meets, whatever the program, checked or not.
use Rattle.std.specs.Prelude.{◌≡◌, List, [], ◌∷◌, ◌++◌, false, ℕ, suc, ◌*◌, ◌≤◌, ◌<◌, ℤ, length}
use Rattle.std.proofs.Math.ListN.{get_elem?}
use Rattle.language.specs.Limits.{most_wires, record_size, most_halvings}
use Rattle.language.specs.Tree.{Place, Refusal, Ending, Gate, Index, Operand, gate, cx, phase, cphase, Top}
use Rattle.language.specs.Form.{in_range}
use Rattle.language.specs.Machine.{Wire, Action, do_cx, do_phase, do_cphase, Frame, Family, State, Outcome, going, ended, stuck, Run, after, ◌>>=◌, ◌>>◌, done, found, inside, halvings, few_halvings, wire_of, apart, written, laid_out, begin}
use Rattle.language.specs.Machine as M

-- what happens in a run, by the place of its statement or type field
pub data Event : Type 0 where
  -- a step
  step_at : Place → Event
  -- the value of an index node
  value_at : Place → ℤ → Event
  -- the wires of a cx or a cphase
  pair_at : Place → (control target : Wire) → Event
  -- k of a phase or a cphase
  halvings_at : Place → (k : ℕ) → Event
  -- a record
  record_at : Place → Frame → Action → Event
  -- so many wires laid out in all, up to this type field
  layout_at : Place → ℕ → Event
  -- a part that has no meaning
  no_meaning : Event

-- the state after an event that goes on: one step more, one record more, or the same
unfoldable pub changed : Event → State → State
changed (step_at p) s = record { records = s.records; steps = suc s.steps }
changed (value_at p z) s = s
changed (pair_at p x y) s = s
changed (halvings_at p k) s = s
changed (record_at p f a) s = record { records = s.records ++ (record { action = a; condition = f.condition } ∷ []); steps = s.steps }
changed (layout_at p n) s = s
changed no_meaning s = s

-- ---- one event

module _ (limit room : ℕ) where
  -- what the machine does at an event
  unfoldable pub meet : Event → Run (Unit {0})
  meet (step_at p) = M.step limit room p
  meet (value_at p z) = inside p z >>= λ x. done
  meet (pair_at p x y) = apart p x y
  meet (halvings_at p k) = few_halvings p k
  meet (record_at p f a) = M.write limit room p f a
  meet (layout_at p n) = laid_out p n
  meet no_meaning = M.no_meaning

  -- the conditions for an end, in the state s: a run has no other ends
  pub data Ends (s : State) : Event → Refusal → Place → Type 0 where
    too_many_wires : {p : Place} {n : ℕ} → most_wires < n → Ends s (layout_at p n) 23 p
    out_of_range : {p : Place} {z : ℤ} → in_range z ≡ false → Ends s (value_at p z) 24 p
    one_wire : {p : Place} {x y : Wire} → x.number ≡ y.number → Ends s (pair_at p x y) 25 p
    too_many_halvings : {p : Place} {k : ℕ} → most_halvings < k → Ends s (halvings_at p k) 32 p
    limit_used_up : {p : Place} → limit ≤ s.steps → Ends s (step_at p) 26 p
    output_full : {p : Place} {f : Frame} {a : Action} → room < record_size * suc (length s.records) → Ends s (record_at p f a) 27 p

  -- an event ends a run exactly under its condition, and changes nothing then; and it changes no more than it says
  pub record EventLaw (e : Event) (s : State) : Type 0 where
    pub ends : (n : Refusal) (p : Place) → Ends s e n p → meet e s ≡ ended n p s
    pub only : (n : Refusal) (p : Place) (t : State) → meet e s ≡ ended n p t → (t ≡ s) × Ends s e n p
    pub goes : (t : State) → meet e s ≡ going tt t → t ≡ changed e s

  -- ---- one event after the other

  unfoldable pub meet_all : List Event → Run (Unit {0})
  meet_all [] = done
  meet_all (e ∷ es) = meet e >> meet_all es

  -- the events went on up to the state t, and the next one ends the run there
  pub record First (es : List Event) (s : State) (n : Refusal) (p : Place) (t : State) : Type 0 where
    pub earlier : List Event
    pub event : Event
    pub later : List Event
    pub split : es ≡ earlier ++ (event ∷ later)
    pub went : meet_all earlier s ≡ going tt t
    pub ends : Ends t event n p

  -- a list of events ends with the first that does
  pub record FirstLaw (es : List Event) (s : State) : Type 0 where
    pub ends : (n : Refusal) (p : Place) (t : State) → First es s n p t → meet_all es s ≡ ended n p t
    pub only : (n : Refusal) (p : Place) (t : State) → meet_all es s ≡ ended n p t → First es s n p t

  -- no more steps than the limit, and no more records than there is room for
  pub record Room (s : State) : Type 0 where
    pub few : s.steps ≤ limit
    pub fit : record_size * length s.records ≤ room

  abbrev pub RoomIn : Outcome (Unit {0}) → Type 0
  RoomIn (going u s) = Room s
  RoomIn (ended n p s) = Room s
  RoomIn stuck = Unit {0}

  -- that stays so, wherever the events lead: so 26 ends with the steps equal to the limit
  abbrev pub RoomLaw : List Event → State → Type 0
  RoomLaw es s = Room s → RoomIn (meet_all es s)

-- an end is handed on unchanged
abbrev pub HandedOn : Type 1
HandedOn = (A B : Type 0) (n : Refusal) (p : Place) (s : State) (next : A → Run B) → after (ended n p s) next ≡ ended n p s

-- the order within a statement: its step, for a phase its k, its operands' values, its two wires if it has two, then for a phase whether its k is too large,
-- its record
abbrev pub GateLaw : Type 0
GateLaw =
    (limit room : ℕ) (p : Place) (g : Gate) (o : Operand) (e : Ending) (fs : List Family) (f : Frame)
    → M.run_statement limit room (gate p g o e) fs f ≡ (meet limit room (step_at p) >> (wire_of p f o >>= λ w. meet limit room (record_at p f (written f.direction g w))))

abbrev pub CxLaw : Type 0
CxLaw =
    (limit room : ℕ) (p : Place) (c o : Operand) (e : Ending) (fs : List Family) (f : Frame)
    → M.run_statement limit room (cx p c o e) fs f
    ≡ (meet limit room (step_at p) >> (wire_of p f c >>= λ x. (wire_of p f o >>= λ y. (meet limit room (pair_at p x y) >> meet limit room (record_at p f (do_cx x y))))))

abbrev pub PhaseLaw : Type 0
PhaseLaw =
    (limit room : ℕ) (p : Place) (i : Index) (o : Operand) (e : Ending) (fs : List Family) (f : Frame)
    → M.run_statement limit room (phase p i o e) fs f
    ≡ (meet limit room (step_at p) >> (halvings p f.variables i >>= λ k. (wire_of p f o >>= λ w.
    (meet limit room (halvings_at p k) >> meet limit room (record_at p f (do_phase f.direction k w))))))

abbrev pub CphaseLaw : Type 0
CphaseLaw =
    (limit room : ℕ) (p : Place) (i : Index) (c o : Operand) (e : Ending) (fs : List Family) (f : Frame)
    → M.run_statement limit room (cphase p i c o e) fs f
    ≡ (meet limit room (step_at p) >> (halvings p f.variables i >>= λ k. (wire_of p f c >>= λ x. (wire_of p f o >>= λ y.
    (meet limit room (pair_at p x y) >> (meet limit room (halvings_at p k) >> meet limit room (record_at p f (do_cphase f.direction k x y))))))))

-- ---- whole runs and instances

-- an outcome without its value
unfoldable pub plain : {A : Type 0} → Outcome A → Outcome (Unit {0})
plain (going a s) = going tt s
plain (ended n p s) = ended n p s
plain stuck = stuck

-- A run has one list of events, the same for every step limit and every length of the output. The machine goes through it in order, and ends exactly with
-- the first event that ends it.
pub record Meets {A : Type 0} (run : (limit room : ℕ) → Outcome A) : Type 0 where
  pub events : List Event
  pub comes : (limit room : ℕ) → plain (run limit room) ≡ meet_all limit room events begin
  pub ends : (limit room : ℕ) (n : Refusal) (p : Place) (s : State) → First limit room events begin n p s → run limit room ≡ ended n p s
  pub only : (limit room : ℕ) (n : Refusal) (p : Place) (s : State) → run limit room ≡ ended n p s → First limit room events begin n p s

-- every program, checked or not
abbrev pub RunEvents : Type 0
RunEvents = (xs : List Top) → Meets (λ limit room. M.run_program limit room xs)

-- and every instance of one
abbrev pub InstanceEvents : Type 0
InstanceEvents =
    (xs : List Top) (family : ℕ) (values : List ℤ)
    → Meets (λ limit room. (found (get_elem? (M.all_declared limit room xs []) family) >>= λ f. M.instance_run f values) begin)
