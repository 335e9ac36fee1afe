-- Phases, as runs of the machine. Assumes nothing.
use Prim.Native.Nat.{ℕ, ◌+◌, ◌-◌, ◌≤◌, ◌<◌}
use mathlib.Core.Path.{◌≡◌, refl, sym, ap, ◌∙◌, subst}
use mathlib.Core.List.{List}
use mathlib.Core.Bool.{Bool, true, false}
use native.Mathlib.Omega.{arith}
use borrow.Author.Tests.{eq-eqb, ne_eqb, eqb-true, eqb-false, lt-ltb, le-ltb}
use lib.Dec.{eqb}
use lib.IntN.{ℤ, pos, negsuc}
use lib.ListN.{length, drop}
use lib.Seq.{slice, drop-drop}
use lib.Signed.{lt_z}
use Rattle.std.specs.Prelude.{Result, Ok, Err}
use Rattle.language.specs.Tree.{Place, bad_index, bad_operand}
use Rattle.language.specs.Read.{Field, fields, due, operand_due, read_operand, outer_index}
use Rattle.language.specs.Machine.{Run, Frame, Direction, written, do_cx, no_meaning, after, ◌>>=◌, evaluate, natural_of, halvings, do_phase, do_cphase, run_phase, run_cphase}
use Rattle.language.specs.Result.{op, first_number, second_number, halvings_of}
use Rattle.language.proofs.Integers.{integers}
use Rattle.fields.specs.declared.NoHeader.{NoHeader}
use Rattle.fields.proofs.Between.{look_in, in_whole}
use Rattle.indexes.specs.declared.Fault.{Fault}
use Rattle.indexes.specs.declared.Fault.TheVariants.{Over, Stuck}
use Rattle.indexes.specs.Values.{fault_told, value_told, IndexAt}
use Rattle.indexes.proofs.Operations.{part_none}
use Rattle.operands.specs.Meanings.{the_wire}
use Rattle.records.specs.declared.State.{State}
use Rattle.records.specs.declared.Stop.{Stop}
use Rattle.records.specs.Outcomes.{op_number, Does, ActionNumbers}
use Rattle.gates.specs.declared.Mode.{Mode}
use Rattle.gates.specs.Gates.{direction_of, gate_for, code_of, on_wire, on_two_wires, OnWires, gate_by}
use Rattle.gates.proofs.GateRuns.{does_as, gate_acts, cx_acts, gate_one, gate_two}
use Rattle.phases.specs.declared.Halvings.{Halvings}
use Rattle.phases.specs.declared.Parts.{Parts}
use Rattle.phases.specs.Phases.{PartedOn, Parted, PartsOf, halving, Begins, Halved, phase_op, cphase_op, phase_at, action_at}

-- ---- k

module _ (l : List ℕ) (from to : ℕ) (values : List ℤ) where
  -- the k that is due first of these fields
  abbrev due_first : Place → Place → Place → Run ℤ
  due_first p q t = evaluate p values (due outer_index (bad_index 4 q) (fields t (slice from to l)))

  pub no_value : (e : Fault) → IndexAt (slice from to l) 0 values (Err e) → Halved l from to values (Err e)
  unfolding Begins halving halvings fault_told ◌>>=◌ after value_told
  no_value Over w = record { begins = tt; same = λ p q t next. ap (λ (a : Run ℤ). (a >>= natural_of) >>= next) (w.same p q t) }
  no_value Stuck w = record { begins = tt; same = λ p q t next. ap (λ (a : Run ℤ). (a >>= natural_of) >>= next) (w.same p q t) }

  pub no_field : {k : NoHeader} → look_in l from to ≡ Err k → Halved l from to values (Err Stuck)
  unfolding Begins halving halvings fault_told ◌>>=◌ after
  no_field h = record { begins = tt; same = λ p q t next. sym (ap (λ (a : Run ℤ). (a >>= natural_of) >>= next) (part_none 16 l from to values h p q t)) }

  module _ (z : ℤ) (w : IndexAt (slice from to l) 0 values (Ok z)) where
    pub below_none : lt_z z (pos 0) ≡ true → Halved l from to values (Err Stuck)
    unfolding Begins halving halvings natural_of fault_told ◌>>=◌ after value_told
    below_none h = record { begins = tt; same = λ p q t next. go z h p next ∙ ap (λ (a : Run ℤ). (a >>= natural_of) >>= next) (w.same p q t) }
      where
        go : (z : ℤ) → lt_z z (pos 0) ≡ true → (p : Place) (next : ℕ → Run (Unit {0})) → no_meaning ≡ ((value_told p (Ok z) >>= natural_of) >>= next)
        go (pos n) h p next = absurd (omega integers)
        go (negsuc n) h p next = refl

    pub are : (k u mid : ℕ) → z ≡ pos k → look_in l from to ≡ Ok (record { tag = u; next = mid }) → Halved l from to values (Ok (record { k = k; next = mid }))
    unfolding Begins halving halvings natural_of ◌>>=◌ after value_told
    are k u mid e f = record {
      begins = λ t. ap (drop 1) ((in_whole l from to u mid f).first t);
      same = λ p q t next. ap (λ (x : ℤ). (value_told p (Ok x) >>= natural_of) >>= next) (sym e) ∙ ap (λ (a : Run ℤ). (a >>= natural_of) >>= next) (w.same p q t);
    }

-- ---- a gate or a phase

pub action_gate : (mode : Mode) (room tag : ℕ) (p : Place) (l : List ℕ) (f : Frame) → tag < 36 → action_at mode room tag p l f ≡ gate_by mode room tag p l f
unfolding action_at
action_gate mode room tag p l f h = rw (lt-ltb tag 36 h)

pub action_phase : (mode : Mode) (room tag : ℕ) (p : Place) (l : List ℕ) (f : Frame) → 36 ≤ tag → action_at mode room tag p l f ≡ phase_at mode room tag p l f
unfolding action_at
action_phase mode room tag p l f h = rw (le-ltb tag 36 h)

-- ---- records

pub phase_acts : (reversed : Bool) (k n : ℕ) → ActionNumbers (do_phase (direction_of reversed) k (the_wire n)) (phase_op reversed) n 0 k
unfolding direction_of op first_number second_number halvings_of
phase_acts true k n = record { its_code = refl; its_first = refl; its_second = refl; its_halvings = refl }
phase_acts false k n = record { its_code = refl; its_first = refl; its_second = refl; its_halvings = refl }

pub cphase_acts : (reversed : Bool) (k m n : ℕ) → ActionNumbers (do_cphase (direction_of reversed) k (the_wire m) (the_wire n)) (cphase_op reversed) m n k
unfolding direction_of op first_number second_number halvings_of
cphase_acts true k m n = record { its_code = refl; its_first = refl; its_second = refl; its_halvings = refl }
cphase_acts false k m n = record { its_code = refl; its_first = refl; its_second = refl; its_halvings = refl }

module _ (mode : Mode) (room : ℕ) (p tag : ℕ) (l : List ℕ) (from to : ℕ) (f : Frame) where
  -- what is done with k, for a phase and for a cphase
  abbrev one : List Field → ℕ → Run (Unit {0})
  one fs k = on_wire mode room p fs f k (do_phase f.direction k)

  abbrev two : List Field → ℕ → Run (Unit {0})
  two fs k = on_two_wires mode room p fs f k (do_cphase f.direction k)

  module _ (r : Result Halvings Fault) (h : Halved l from to f.variables r) where
    pub phase_told : tag ≡ 40 → phase_at mode room tag p (slice from to l) f ≡ halving p r (one (drop 1 (fields (p + 3) (slice from to l))))
    unfolding phase_at run_phase
    phase_told e = rw (eq-eqb tag 40 e) (sym (h.same p p (p + 3) (one (drop 1 (fields (p + 3) (slice from to l))))))

    pub cphase_told : (tag ≡ 40 → ⊥) → phase_at mode room tag p (slice from to l) f ≡ halving p r (two (drop 1 (fields (p + 3) (slice from to l))))
    unfolding phase_at run_cphase
    cphase_told e = rw (ne_eqb tag 40 e) (ap (λ (gs : List Field). run_cphase mode.limit room p (due outer_index (bad_index 4 p) (fields (p + 3) (slice from to l))) (operand_due p 1 (fields (p + 3) (slice from to l)))
        (due read_operand (bad_operand 4 p) gs) f) (sym (drop-drop 1 1 (fields (p + 3) (slice from to l)))) ∙ sym (h.same p p (p + 3) (two (drop 1 (fields (p + 3) (slice from to l))))))

    -- k is known
    module _ (k mid : ℕ) (e : r ≡ Ok (record { k = k; next = mid })) where
      begins : drop 1 (fields (p + 3) (slice from to l)) ≡ fields (p + 3 + (mid - from)) (slice mid to l)
      unfolding Begins
      begins = subst (Begins l from to) e h.begins (p + 3)

      pub phase_are : tag ≡ 40 → phase_at mode room tag p (slice from to l) f ≡ one (fields (p + 3 + (mid - from)) (slice mid to l)) k
      unfolding halving
      phase_are t = phase_told t ∙ ap (λ (x : Result Halvings Fault). halving p x (one (drop 1 (fields (p + 3) (slice from to l))))) e ∙ ap (λ (fs : List Field). one fs k) begins

      pub cphase_are : (tag ≡ 40 → ⊥) → phase_at mode room tag p (slice from to l) f ≡ two (fields (p + 3 + (mid - from)) (slice mid to l)) k
      unfolding halving
      cphase_are t = cphase_told t ∙ ap (λ (x : Result Halvings Fault). halving p x (two (drop 1 (fields (p + 3) (slice from to l))))) e ∙ ap (λ (fs : List Field). two fs k) begins

    -- there is none
    by_tag : (run : Run (Unit {0})) → ((next : ℕ → Run (Unit {0})) → halving p r next ≡ run) → phase_at mode room tag p (slice from to l) f ≡ run
    by_tag run g = go (eqb tag 40) refl
      where
        go : (b : Bool) → eqb tag 40 ≡ b → phase_at mode room tag p (slice from to l) f ≡ run
        go true e = phase_told (eqb-true tag 40 e) ∙ g _
        go false e = cphase_told (eqb-false tag 40 e) ∙ g _

    pub phase_fault : {e : Fault} → r ≡ Err e → phase_at mode room tag p (slice from to l) f ≡ fault_told p e
    unfolding halving
    phase_fault {e} q = by_tag (fault_told p e) (λ next. ap (λ (x : Result Halvings Fault). halving p x next) q)

-- ---- the parts of a gate or a phase

module _ (tag : ℕ) (l : List ℕ) (from to : ℕ) (values : List ℤ) (reversed : Bool) where
  -- the parts, in place of an op its byte
  abbrev PartsBy : (single : Bool) → (code k at : ℕ) → Type 0
  PartsBy single code k at = (mode : Mode) (room : ℕ) (p : Place) (f : Frame) → f.variables ≡ values → f.direction ≡ direction_of reversed → PartedOn single mode room tag p l from to f code k at

  pub parts_by : (q : Parts) → PartsBy q.single (op_number q.op) q.k q.next → PartsOf tag l from to values reversed (Ok q)
  unfolding Parted
  parts_by q h = h

  pub parts_cx : tag ≡ 35 → PartsBy false 4 0 from
  unfolding PartedOn
  parts_cx h mode room p f e d = record { place = p + 3; action = do_cx; numbers = cx_acts; is = action_gate mode room tag p (slice from to l) f (omega arith) ∙ gate_two mode room p tag (slice from to l) f h }

  pub parts_gate : (tag ≡ 35 → ⊥) → tag < 36 → PartsBy true (code_of tag reversed) 0 from
  unfolding PartedOn
  parts_gate h k mode room p f e d = record {
    place = p + 3;
    action = written f.direction (gate_for tag);
    numbers = λ n. subst (λ (x : Direction). ActionNumbers (written x (gate_for tag) (the_wire n)) (code_of tag reversed) n 0 0) (sym d) (gate_acts tag reversed n);
    is = action_gate mode room tag p (slice from to l) f k ∙ gate_one mode room p tag (slice from to l) f h;
  }

  module _ (h : 36 ≤ tag) (r : Result Halvings Fault) (w : Halved l from to values r) where
    told : (f : Frame) → f.variables ≡ values → Halved l from to f.variables r
    told f e = subst (λ (zs : List ℤ). Halved l from to zs r) (sym e) w

    pub parts_fault : {e : Fault} → r ≡ Err e → PartsOf tag l from to values reversed (Err e)
    unfolding Parted
    parts_fault o mode room p f e d = action_phase mode room tag p (slice from to l) f h ∙ phase_fault mode room p tag l from to f r (told f e) o

    module _ (k mid : ℕ) (i : r ≡ Ok (record { k = k; next = mid })) where
      pub parts_phase : tag ≡ 40 → PartsBy true (phase_op reversed) k mid
      unfolding PartedOn
      parts_phase t mode room p f e d = record {
        place = p + 3 + (mid - from);
        action = do_phase f.direction k;
        numbers = λ n. subst (λ (x : Direction). ActionNumbers (do_phase x k (the_wire n)) (phase_op reversed) n 0 k) (sym d) (phase_acts reversed k n);
        is = action_phase mode room tag p (slice from to l) f h ∙ phase_are mode room p tag l from to f r (told f e) k mid i t;
      }

      pub parts_cphase : (tag ≡ 40 → ⊥) → PartsBy false (cphase_op reversed) k mid
      unfolding PartedOn
      parts_cphase t mode room p f e d = record {
        place = p + 3 + (mid - from);
        action = do_cphase f.direction k;
        numbers = λ m n. subst (λ (x : Direction). ActionNumbers (do_cphase x k (the_wire m) (the_wire n)) (cphase_op reversed) m n k) (sym d) (cphase_acts reversed k m n);
        is = action_phase mode room tag p (slice from to l) f h ∙ cphase_are mode room p tag l from to f r (told f e) k mid i t;
      }

-- what is written on the wires of its parts is what it does
pub parts_do : (o : List ℕ) (st : State) (o' : List ℕ) (r : Result State Stop) (mode : Mode) (tag : ℕ) (p : Place) (l : List ℕ) (from to : ℕ) (f : Frame) (q : Parts)
    → Parted mode (length o) tag p l from to f (Ok q) → OnWires q.single o st o' r mode p (slice q.next to l) f (op_number q.op) q.k → Does o st o' r (action_at mode (length o) tag p (slice from to l) f)
unfolding Parted PartedOn OnWires
parts_do o st o' r mode tag p l from to f q h w = go q.single h w
  where
    go : (single : Bool) → PartedOn single mode (length o) tag p l from to f (op_number q.op) q.k q.next → OnWires single o st o' r mode p (slice q.next to l) f (op_number q.op) q.k
        → Does o st o' r (action_at mode (length o) tag p (slice from to l) f)
    go true h w = does_as o st o' r _ (action_at mode (length o) tag p (slice from to l) f) h.is (w h.place h.action h.numbers)
    go false h w = does_as o st o' r _ (action_at mode (length o) tag p (slice from to l) f) h.is (w h.place h.action h.numbers)
