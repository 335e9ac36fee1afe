-- One statement, by its tag. Assumes nothing.
use Prim.Native.Nat.{ℕ, zero, suc, ◌+◌, ◌-◌, ◌<◌, ◌≤◌}
use mathlib.Core.Path.{◌≡◌, refl, sym, ap, ◌∙◌, fun_ext}
use mathlib.Core.List.{List}
use mathlib.Core.Bool.{Bool, true, false, cond, not, ◌&&◌, ◌||◌}
use native.Mathlib.Omega.{arith}
use borrow.Author.Tests.{ne_eqb, eqb-true, eqb-false, leb-true, leb-false, ltb-true, ltb-false}
use lib.ListN.{get_elem?, drop}
use lib.Dec.{eqb, leb, ltb}
use Rattle.language.specs.Tree.{Place, bad_index, Argument, Statement, call, call_parameter, bad_statement}
use Rattle.language.specs.Read.{Field, Calling, field, fields, due, choose, outer_index, read_statement, statement_by, deep_statement, statements_by, gate_of, cx_of, phase_of, cphase_of, call_of, for_of, is_statement_tag}
use Rattle.language.specs.Machine.{run_gate, run_cx, run_phase, run_cphase, run_call, run_parameter_call, run_reverse, run_for, Run, Frame, flipped, no_meaning, give, found, as_family, after, step, in_direction, run_statement, run_statements, ◌>>=◌, ◌>>◌}
use Rattle.language.proofs.Integers.{clash}
use Rattle.language.proofs.Runs.{after_after}
use Rattle.fields.specs.CallNumber.{calling_by, call_reader, is_call_tag}
use Rattle.fields.proofs.CallNumbers.{call_read, named_bad, named_number}
use Rattle.records.specs.Outcomes.{Does, Stepped}
use Rattle.records.specs.declared.State.{State}
use Rattle.std.specs.Prelude.{Result, Ok, Err}
use Rattle.records.specs.declared.Stop.{Stop}
use Rattle.records.specs.declared.Stop.TheVariants.{Ended, Stuck}
use Rattle.records.proofs.Sequences.{stepped_stops, does_stuck}
use Rattle.gates.specs.declared.Mode.{Mode}
use Rattle.gates.specs.Gates.{direction_of, gate_for, gate_at, cx_at, gate_by, nameless_of, Enterable, StepTaken, Entered}
use Rattle.phases.specs.Phases.{phase_at, is_action_tag, action_at}
use Rattle.gates.proofs.GateRuns.{does_as}
use Rattle.gates.proofs.CallNames.{Nameless, nameless_call, names_number}
use Rattle.calls.specs.Arguments.{arguments_in}
use Rattle.unroller.specs.Runs.{families_in, one_run, list_at, HasBody}
use Rattle.unroller.specs.CalledFamilies.{family_by}

-- one level
level : (levels : ℕ) (f : Field) → (levels ≡ 0 → ⊥) → read_statement levels f ≡ statement_by (read_statement (levels - 1)) f
unfolding read_statement
level zero f h = absurd (h refl)
level (suc n) f h = let e : suc n - 1 ≡ n = omega arith in rw e

-- a call by the number n: of the family that it stands for
abbrev pub calls_run : Mode → (room : ℕ) → Place → (tag n : ℕ) → List Argument → (program : List ℕ) → Frame → Run (Unit {0})
calls_run mode room place tag n arguments program f = family_by tag n f.operands >>= λ k. run_call mode.limit room place k arguments (families_in mode room program) f

module _ (mode : Mode) (room base tag : ℕ) (l program : List ℕ) (f : Frame) where
  pub one_deep : mode.levels ≡ 0 → one_run mode room base tag l program f ≡ no_meaning
  unfolding read_statement deep_statement run_statement
  one_deep h = rw h (go (is_statement_tag tag))
    where
      go : (b : Bool) → run_statement mode.limit room (cond b (bad_statement 5 base) (bad_statement 3 base)) (families_in mode room program) f ≡ no_meaning
      go true = refl
      go false = refl

  module _ (h : mode.levels ≡ 0 → ⊥) where
    runs : Statement → Run (Unit {0})
    runs x = run_statement mode.limit room x (families_in mode room program) f

    pub one_other : ((n : ℕ) → 32 ≤ n → n ≤ 42 → tag ≡ n → ⊥) → one_run mode room base tag l program f ≡ no_meaning
    unfolding statement_by choose run_statement runs
    one_other g = ap runs (level mode.levels (field base tag l) h) ∙ rw (ne_eqb tag 32 (g 32 (omega arith) (omega arith)), ne_eqb tag 33 (g 33 (omega arith) (omega arith)), ne_eqb tag 34 (g 34 (omega arith) (omega arith)), ne_eqb tag 35 (g 35 (omega arith) (omega arith)), ne_eqb tag 36 (g 36 (omega arith) (omega arith)), ne_eqb tag 37 (g 37 (omega arith) (omega arith)), ne_eqb tag 38 (g 38 (omega arith) (omega arith)), ne_eqb tag 39 (g 39 (omega arith) (omega arith)), ne_eqb tag 40 (g 40 (omega arith) (omega arith)), ne_eqb tag 41 (g 41 (omega arith) (omega arith)), ne_eqb tag 42 (g 42 (omega arith) (omega arith)))

    -- a call, by how it is read
    one_reads : is_call_tag tag ≡ true → one_run mode room base tag l program f ≡ runs (call_reader tag base l)
    unfolding runs
    one_reads c = ap runs (level mode.levels (field base tag l) h ∙ call_read (read_statement (mode.levels - 1)) base tag l c)

    pub one_nameless : Nameless tag l → one_run mode room base tag l program f ≡ no_meaning
    unfolding run_statement runs
    one_nameless w = one_reads w.calls ∙ ap runs (named_bad tag 0 l w.number w.bad base)

    pub one_call : is_call_tag tag ≡ true → (n t : ℕ) (rest : List ℕ) → call_reader tag base l ≡ call_of (calling_by tag) base n (fields t rest)
        → one_run mode room base tag l program f ≡ (step mode.limit room base >> calls_run mode room base tag n (arguments_in t rest) program f)
    unfolding runs call_of run_statement run_parameter_call ◌>>=◌ after
    one_call c n t rest e = one_reads c ∙ ap runs e ∙ go (eqb tag 42)
      where
        go : (b : Bool) → run_statement mode.limit room (cond {A = Calling} b call_parameter call base n (arguments_in t rest)) (families_in mode room program) f
            ≡ (step mode.limit room base >> (cond b (found (get_elem? f.operands n) >>= as_family) (give n) >>= λ k. run_call mode.limit room base k (arguments_in t rest) (families_in mode room program) f))
        go true = ap (λ (run : Run (Unit {0})). step mode.limit room base >> run) (fun_ext (λ s. sym (after_after (found (get_elem? f.operands n) s) as_family (λ k. run_call mode.limit room base k (arguments_in t rest) (families_in mode room program) f))))
        go false = refl

    pub one_gate : 32 ≤ tag → tag < 35 → one_run mode room base tag l program f ≡ (step mode.limit room base >> gate_at mode room tag base l f)
    unfolding statement_by choose run_statement runs gate_of run_gate gate_for
    one_gate a b = ap runs (level mode.levels (field base tag l) h) ∙ go (eqb tag 32) refl (eqb tag 33) refl
      where
        go : (u : Bool) → eqb tag 32 ≡ u → (v : Bool) → eqb tag 33 ≡ v → runs (statement_by (read_statement (mode.levels - 1)) (field base tag l)) ≡ (step mode.limit room base >> gate_at mode room tag base l f)
        go true e v g = let t : tag ≡ 32 = eqb-true tag 32 e in rw t
        go false e true g = let t : tag ≡ 33 = eqb-true tag 33 g in rw t
        go false e false g = let t : tag ≡ 34 = omega (arith, eqb-false tag 32 e, eqb-false tag 33 g) in rw t

    pub one_cx : tag ≡ 35 → one_run mode room base tag l program f ≡ (step mode.limit room base >> cx_at mode room base l f)
    unfolding statement_by choose run_statement runs cx_of run_cx
    one_cx e = ap runs (level mode.levels (field base tag l) h) ∙ rw e

    pub one_phase : 40 ≤ tag → tag ≤ 41 → one_run mode room base tag l program f ≡ (step mode.limit room base >> phase_at mode room tag base l f)
    unfolding statement_by choose run_statement runs phase_of cphase_of run_phase run_cphase phase_at
    one_phase a b = ap runs (level mode.levels (field base tag l) h) ∙ go (eqb tag 40) refl
      where
        go : (u : Bool) → eqb tag 40 ≡ u → runs (statement_by (read_statement (mode.levels - 1)) (field base tag l)) ≡ (step mode.limit room base >> phase_at mode room tag base l f)
        go true e = let t : tag ≡ 40 = eqb-true tag 40 e in rw t
        go false e = let t : tag ≡ 41 = omega (arith, eqb-false tag 40 e) in rw t

    pub one_reverse : tag ≡ 37 → one_run mode room base tag l program f
        ≡ (step mode.limit room base >> run_statements mode.limit room (list_at (mode.levels - 1) (base + 3) l) (families_in mode room program) (in_direction f (flipped f.direction)))
    unfolding statement_by choose run_statement run_reverse runs
    one_reverse e = ap runs (level mode.levels (field base tag l) h) ∙ rw e

    pub one_for : tag ≡ 38 → one_run mode room base tag l program f ≡ (step mode.limit room base >>
        run_for mode.limit room base (due (outer_index) (bad_index 4 base) (fields (base + 3) l)) (due (outer_index) (bad_index 4 base) (drop 1 (fields (base + 3) l)))
        (λ g. run_statements mode.limit room (statements_by (read_statement (mode.levels - 1)) (drop 2 (fields (base + 3) l))) (families_in mode room program) g) f)
    unfolding statement_by choose run_statement runs for_of
    one_for e = ap runs (level mode.levels (field base tag l) h) ∙ rw e

pub turned : (b : Bool) → flipped (direction_of b) ≡ direction_of (not b)
unfolding direction_of flipped
turned true = refl
turned false = refl

-- no call has this tag
no_call : (tag : ℕ) → is_call_tag tag ≡ false → (tag ≡ 36 → ⊥) × (tag ≡ 39 → ⊥) × (tag ≡ 42 → ⊥)
no_call tag h = go (eqb tag 36) refl (eqb tag 39) refl (eqb tag 42) refl h
  where
    go : (a : Bool) → eqb tag 36 ≡ a → (b : Bool) → eqb tag 39 ≡ b → (c : Bool) → eqb tag 42 ≡ c → (a || (b || c)) ≡ false → (tag ≡ 36 → ⊥) × (tag ≡ 39 → ⊥) × (tag ≡ 42 → ⊥)
    go true e b g c f h = absurd (clash h)
    go false e true g c f h = absurd (clash h)
    go false e false g true f h = absurd (clash h)
    go false e false g false f h = (eqb-false tag 36 e, eqb-false tag 39 g, eqb-false tag 42 f)

-- a statement that is neither a gate, nor a phase, nor a call holds statements
pub has_body : (tag : ℕ) → tag ≤ 42 → is_action_tag tag ≡ false → is_call_tag tag ≡ false → HasBody tag
has_body tag m k h = go (ltb tag 36) refl (leb 40 tag) refl (leb tag 41) refl k
  where
    go : (t : Bool) → ltb tag 36 ≡ t → (u : Bool) → leb 40 tag ≡ u → (v : Bool) → leb tag 41 ≡ v → (t || (u && v)) ≡ false → HasBody tag
    go true d u i v j k = absurd (clash k)
    go false d true i true j k = absurd (clash k)
    go false d true i false j k = absurd (omega (arith, leb-false tag 41 j, (no_call tag h).2))
    go false d false i v j k = record { low = omega (arith, ltb-false tag 36 d, (no_call tag h).0); high = omega (arith, leb-false 40 tag i, (no_call tag h).1) }

-- ---- a statement entered

module _ (mode : Mode) (room base tag : ℕ) (l program : List ℕ) (f : Frame) where
  pub one_refused : (Enterable mode tag l → ⊥) → one_run mode room base tag l program f ≡ no_meaning
  one_refused h = go (eqb mode.levels 0) refl (leb 32 tag) refl (leb tag 42) refl (nameless_of tag l) refl
    where
      go : (a : Bool) → eqb mode.levels 0 ≡ a → (b : Bool) → leb 32 tag ≡ b → (c : Bool) → leb tag 42 ≡ c → (d : Bool) → nameless_of tag l ≡ d → one_run mode room base tag l program f ≡ no_meaning
      go true e b f₁ c g d i = one_deep mode room base tag l program f (eqb-true mode.levels 0 e)
      go false e false f₁ c g d i = one_other mode room base tag l program f (eqb-false mode.levels 0 e) (λ n x y z. omega (arith, leb-false 32 tag f₁))
      go false e true f₁ false g d i = one_other mode room base tag l program f (eqb-false mode.levels 0 e) (λ n x y z. omega (arith, leb-false tag 42 g))
      go false e true f₁ true g true i = one_nameless mode room base tag l program f (eqb-false mode.levels 0 e) (nameless_call tag l i)
      go false e true f₁ true g false i = absurd (h (record { deep = eqb-false mode.levels 0 e; low = leb-true 32 tag f₁; high = leb-true tag 42 g; named = i }))

  -- every statement that is entered takes its step first
  pub record StepFirst : Type 0 where
    pub after_it : Run (Unit {0})
    pub is : one_run mode room base tag l program f ≡ (step mode.limit room base >> after_it)

  -- a call, too
  called_first : is_call_tag tag ≡ true → Enterable mode tag l → StepFirst
  called_first c w =
      let k = names_number tag l 0 c w.named in
      record {
        after_it = _;
        is = one_call mode room base tag l program f w.deep c k.number _ _ ((named_number tag 0 l k.number k.after k.is).reads (calling_by tag) base);
      }

  -- a gate or a phase
  pub one_acts : (mode.levels ≡ 0 → ⊥) → 32 ≤ tag → is_action_tag tag ≡ true → one_run mode room base tag l program f ≡ (step mode.limit room base >> action_at mode room tag base l f)
  unfolding action_at gate_by
  one_acts h a c = go (ltb tag 36) refl (eqb tag 35) refl (leb 40 tag) refl (leb tag 41) refl c
    where
      go : (t : Bool) → ltb tag 36 ≡ t → (u : Bool) → eqb tag 35 ≡ u → (v : Bool) → leb 40 tag ≡ v → (x : Bool) → leb tag 41 ≡ x → (t || (v && x)) ≡ true
          → one_run mode room base tag l program f ≡ (step mode.limit room base >> cond t (cond u (cx_at mode room base l f) (gate_at mode room tag base l f)) (phase_at mode room tag base l f))
      go true d true e v i x j k = one_cx mode room base tag l program f h (eqb-true tag 35 e)
      go true d false e v i x j k = one_gate mode room base tag l program f h a (omega (arith, ltb-true tag 36 d, eqb-false tag 35 e))
      go false d u e true i true j k = one_phase mode room base tag l program f h (leb-true 40 tag i) (leb-true tag 41 j)
      go false d u e true i false j k = absurd (clash (sym k))
      go false d u e false i x j k = absurd (clash (sym k))

  pub first : Enterable mode tag l → StepFirst
  first w = go (is_action_tag tag) refl (is_call_tag tag) refl (eqb tag 37) refl
    where
      for_tag : is_action_tag tag ≡ false → is_call_tag tag ≡ false → (tag ≡ 37 → ⊥) → tag ≡ 38
      for_tag a b c = let x = has_body tag w.high a b in omega (arith, x)

      go : (u : Bool) → is_action_tag tag ≡ u → (v : Bool) → is_call_tag tag ≡ v → (x : Bool) → eqb tag 37 ≡ x → StepFirst
      go true e v g x k = record { after_it = _; is = one_acts w.deep w.low e }
      go false e true g x k = called_first g w
      go false e false g true k = record { after_it = _; is = one_reverse mode room base tag l program f w.deep (eqb-true tag 37 k) }
      go false e false g false k = record { after_it = _; is = one_for mode room base tag l program f w.deep (for_tag e g (eqb-false tag 37 k)) }

  -- a statement that is not entered
  pub one_stops : (o : List ℕ) (st : State) (r : Result State Stop) → Entered mode tag l base st r → {e : Stop} → r ≡ Err e → Does o st o (Err e) (one_run mode room base tag l program f)
  unfolding Entered Stepped
  one_stops o st r w {e} k = go e (rw k at w)
    where
      go : (e : Stop) → Entered mode tag l base st (Err e) → Does o st o (Err e) (one_run mode room base tag l program f)
      go (Ended n p t) w =
          let q = first w.enterable in
          does_as o st o (Err (Ended n p t)) (step mode.limit room base >> q.after_it) (one_run mode room base tag l program f) q.is (stepped_stops mode.limit room o st base q.after_it (Err (Ended n p t)) w.none refl)
      go Stuck w = does_as o st o (Err Stuck) no_meaning (one_run mode room base tag l program f) (one_refused w) (does_stuck o st o)

-- the step that a statement entered has taken
pub one_steps : (mode : Mode) (tag : ℕ) (l : List ℕ) (place : ℕ) (st s : State) (r : Result State Stop) → Entered mode tag l place st r → r ≡ Ok s → StepTaken mode tag l st s
unfolding Entered
one_steps mode tag l place st s r e h = rw h at e
