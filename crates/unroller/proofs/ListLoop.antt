-- The loop that runs a list: what holds between two statements, and what each turn does. Assumes nothing.
use Prim.Native.Nat.{ℕ, ◌+◌, ◌-◌, ◌<◌, ◌≤◌}
use mathlib.Core.Path.{◌≡◌, refl, sym, ap, ◌∙◌, subst}
use mathlib.Core.List.{List}
use mathlib.Core.Bool.{Bool}
use native.Mathlib.Omega.{arith}
use lib.IntN.{ℤ}
use lib.ListN.{length, take}
use lib.Seq.{slice}
use Rattle.language.specs.Machine.{Run, ◌>>◌}
use Rattle.language.proofs.Runs.{then_then, done_then}
use Rattle.std.specs.Prelude.{Option as Maybe, Some, None, Result, Ok, Err}
use Rattle.fields.specs.declared.Header.{Header}
use Rattle.fields.specs.Header.{fields_at, header_of}
use Rattle.field_walk.specs.declared.Walk.{Walk}
use Rattle.field_walk.specs.declared.Held.{Held}
use Rattle.field_walk.specs.Walks.{Walking, Sought, Starting, passed_of, whole_of}
use Rattle.operands.specs.declared.Scope.{Scope}
use Rattle.records.specs.Outcomes.{Does, Leads}
use Rattle.records.specs.declared.State.{State}
use Rattle.records.specs.declared.Stop.{Stop}
use Rattle.records.specs.declared.Stop.TheVariants.{Stuck}
use Rattle.records.proofs.Sequences.{does_stuck, does_done, does_then, does_other}
use Rattle.gates.specs.declared.Mode.{Mode}
use Rattle.gates.specs.Gates.{frame_in}
use Rattle.gates.proofs.GateRuns.{does_as}
use Rattle.unroller.specs.Runs.{one_run, rest_run, times_run, kept_in, Often, Turned}
use Rattle.unroller.proofs.Walks.{Turn, walk_none, walk_start, walk_turn, walk_stops, begin_stops, rest_done}
use Rattle.unroller.proofs.Rounds.{later_run, stuck_then, kept_still, later_start, later_none, round_stops, round_goes, round_kept}

module _ (looping : Bool) (mode : Mode) (base from to place : ℕ) (start : ℤ) (total : ℕ) (l program : List ℕ) (vars₀ : List ℤ) (scope : Scope) (regs out₀ : List ℕ) (s₀ : State) where
  -- the whole, what comes after the present round, and what is left of it
  abbrev whole : Run (Unit {0})
  whole = times_run looping mode (length out₀) base from to place start total l program (frame_in mode (take (kept_in mode looping) vars₀) scope regs)

  abbrev later : (i : ℕ) → Run (Unit {0})
  later i = later_run looping mode (length out₀) base from to place start l program (frame_in mode (take (kept_in mode looping) vars₀) scope regs) (total - i) i

  abbrev ahead : (vars : List ℤ) → (at to : ℕ) → Run (Unit {0})
  ahead vars at to = rest_run mode (length out₀) base at to l program (frame_in mode (take mode.variables vars) scope regs)

  -- the whole, from the same value on by another name
  pub at_start : (z : ℤ) → start ≡ z → (o : List ℕ) (r : Result State Stop) → Does out₀ s₀ o r whole
      → Does out₀ s₀ o r (times_run looping mode (length out₀) base from to place z total l program (frame_in mode (take (kept_in mode looping) vars₀) scope regs))
  at_start z e o r d = subst (λ (x : ℤ). Does out₀ s₀ o r (times_run looping mode (length out₀) base from to place x total l program (frame_in mode (take (kept_in mode looping) vars₀) scope regs))) e d

  pub record Midway (vars : List ℤ) (out cuts : List ℕ) (w : Walk) (i : ℕ) (s : State) : Type 0 where
    pub leads : Leads out₀ s₀ out s (ahead vars w.at w.to >> later i) whole
    pub same_length : length out ≡ length out₀
    pub walking : Walking l mode.reversed w cuts
    pub few : i ≤ total
    pub kept : take (kept_in mode looping) vars ≡ take (kept_in mode looping) vars₀
    pub low : from ≤ w.at
    pub high : w.to ≤ to

  -- before the first round
  pub starts : Often looping mode start total → from ≤ to → to ≤ length l → (cuts : List ℕ) → Midway vars₀ out₀ cuts (whole_of to to 0 0) 0 s₀
  unfolding whole_of
  starts o h k cuts = record {
    leads = λ x r d. does_as _ _ _ _ _ whole (sym (ap (λ (a : Run (Unit {0})). a >> later 0) (rest_done mode (length out₀) base l program (frame_in mode (take mode.variables vars₀) scope regs) to to (omega arith))
        ∙ done_then (later 0) ∙ later_start mode (length out₀) base from to place start l program (take (kept_in mode looping) vars₀) scope regs looping total o)) d;
    same_length = refl;
    walking = walk_none l to mode.reversed cuts k;
    few = omega arith;
    kept = refl;
    low = h;
    high = omega arith;
  }

  module _ (vars : List ℤ) (out cuts : List ℕ) (w : Walk) (i : ℕ) (s : State) (h : Midway vars out cuts w i s) where
    -- ---- nothing is left of a round

    module _ (e : w.to ≤ w.at) where
      over : ahead vars w.at w.to >> later i ≡ later i
      over = ap (λ (a : Run (Unit {0})). a >> later i) (rest_done mode (length out₀) base l program (frame_in mode (take mode.variables vars) scope regs) w.at w.to e) ∙ done_then (later i)

      pub ends : total ≤ i → Does out₀ s₀ out (Ok s) whole
      ends k = h.leads out (Ok s) (does_as _ _ _ _ _ (ahead vars w.at w.to >> later i)
          (over ∙ later_none mode (length out₀) base from to place start l program (take (kept_in mode looping) vars₀) scope regs looping (total - i) i (omega arith)) (does_done out s))

      module _ (k : i < total) (vars' : List ℤ) (r : Result State Stop) (turned : Turned looping mode place start i vars vars' s r) where
        pub stays : take (kept_in mode looping) vars' ≡ take (kept_in mode looping) vars₀
        stays = round_kept looping mode place start i vars vars' s r turned ∙ h.kept

        -- no step is left for the next
        pub refuses : {x : Stop} → r ≡ Err x → Does out₀ s₀ out (Err x) whole
        refuses {x} q = h.leads out (Err x) (does_as _ _ _ _ _ (ahead vars w.at w.to >> later i) over
            (round_stops mode (length out₀) base from to place start l program (take (kept_in mode looping) vars₀) scope regs total i k looping vars vars' s r turned q out))

        module _ (often : Often looping mode start total) (t : State) (g : r ≡ Ok t) (kept' : List ℕ) (b : Maybe Held) (started : Starting l from to mode.reversed kept' b) where
          opens : (x : List ℕ) (q : Result State Stop) → Does out t x q (ahead vars' from to >> later (i + 1)) → Does out₀ s₀ x q whole
          opens x q d = h.leads x q (does_as _ _ _ _ _ (ahead vars w.at w.to >> later i) over
              ((round_goes mode (length out₀) base from to place start l program (take (kept_in mode looping) vars₀) scope regs total i k looping often vars vars' s t r turned g h.kept out).leads x q d))

          -- a list with a bad header
          pub breaks : b ≡ None → (x : List ℕ) → Does out₀ s₀ x (Err Stuck) whole
          breaks q x = opens x (Err Stuck) (does_as _ _ _ _ _ (ahead vars' from to >> later (i + 1))
              (ap (λ (a : Run (Unit {0})). a >> later (i + 1)) (begin_stops mode (length out₀) base l program (frame_in mode (take mode.variables vars') scope regs) mode.reversed refl from to kept' b started q) ∙ stuck_then (later (i + 1)))
              (does_stuck out t x))

          -- the next round
          pub begins : from ≤ to → (k : Held) → b ≡ Some k → Midway vars' out kept' (whole_of from to k.depth k.sure) (i + 1) t
          unfolding whole_of
          begins j m q = record {
            leads = opens;
            same_length = h.same_length;
            walking = walk_start l from to mode.reversed kept' b m started q;
            few = omega arith;
            kept = stays;
            low = omega arith;
            high = omega arith;
          }

    -- ---- a statement

    module _ (e : w.at < w.to) (v : Walk) (kept' : List ℕ) (sought : Sought l mode.reversed w v kept') where
      some : v.at < v.to
      some = omega (arith, sought.same_at, sought.same_to)

      same : ahead vars w.at w.to ≡ ahead vars v.at v.to
      same j = ahead vars (sym sought.same_at j) (sym sought.same_to j)

      -- no whole field
      pub cut : ((k : Header) → header_of v.here (fields_at l v.here v.to) ≡ Ok k → ⊥) → (x : List ℕ) → Does out₀ s₀ x (Err Stuck) whole
      cut q x = h.leads x (Err Stuck) (does_as _ _ _ _ _ (ahead vars w.at w.to >> later i)
          (ap (λ (a : Run (Unit {0})). a >> later i) (same ∙ walk_stops mode (length out₀) base l program (frame_in mode (take mode.variables vars) scope regs) mode.reversed refl v kept' sought.next some q) ∙ stuck_then (later i))
          (does_stuck out s x))

      module _ (tag end : ℕ) (is : header_of v.here (fields_at l v.here v.to) ≡ Ok (record { tag = tag; next = end })) where
        turn : Turn mode (length out₀) base l program (frame_in mode (take mode.variables vars) scope regs) mode.reversed v kept' tag end
        turn = walk_turn mode (length out₀) base l program (frame_in mode (take mode.variables vars) scope regs) mode.reversed refl v kept' tag end sought.next some is

        -- where it stands
        pub record Spot : Type 0 where
          pub inside : v.here + 3 ≤ end
          pub within : end ≤ length l
          pub past : from ≤ v.here
          pub sooner : end ≤ to
          pub less : (passed_of v mode.reversed end).to - (passed_of v mode.reversed end).at < w.to - w.at

        pub spot : Spot
        spot = record {
          inside = turn.inside;
          within = turn.within;
          past = omega (arith, turn.low, h.low, sought.same_at);
          sooner = omega (arith, turn.high, h.high, sought.same_to);
          less = omega (arith, turn.less, sought.same_at, sought.same_to);
        }

        abbrev field_run_lem : (room : ℕ) → Run (Unit {0})
        field_run_lem room = one_run mode room (base + v.here) tag (slice (v.here + 3) end l) program (frame_in mode (take mode.variables vars) scope regs)

        next : ahead vars w.at w.to >> later i ≡ (field_run_lem (length out₀) >> (ahead vars (passed_of v mode.reversed end).at (passed_of v mode.reversed end).to >> later i))
        next = ap (λ (a : Run (Unit {0})). a >> later i) (same ∙ turn.runs_on) ∙ then_then _ _ _

        module _ (out' : List ℕ) (r : Result State Stop) (does : Does out s out' r (field_run_lem (length out))) where
          did : Does out s out' r (field_run_lem (length out₀))
          did = subst (λ (n : ℕ). Does out s out' r (field_run_lem n)) h.same_length does

          -- it does not go on
          pub other : {x : Stop} → r ≡ Err x → Does out₀ s₀ out' (Err x) whole
          other {x} q = h.leads out' (Err x) (does_as _ _ _ _ _ (ahead vars w.at w.to >> later i) next (does_other _ _ _ _ _ _ did q))

          -- it goes on
          pub passes : (t : State) → r ≡ Ok t → length out' ≡ length out → (vars' : List ℤ) → take mode.variables vars' ≡ take mode.variables vars → Midway vars' out' kept' (passed_of v mode.reversed end) i t
          passes t g k vars' f = record {
            leads = λ x q d. h.leads x q (does_as _ _ _ _ _ (ahead vars w.at w.to >> later i) next (does_then _ _ _ _ _ _ _ _ _ did g
                (subst (λ (values : List ℤ). Does out' t x q (rest_run mode (length out₀) base (passed_of v mode.reversed end).at (passed_of v mode.reversed end).to l program (frame_in mode values scope regs) >> later i)) f d)));
            same_length = k ∙ h.same_length;
            walking = turn.walking;
            few = h.few;
            kept = kept_still looping mode vars' vars f ∙ h.kept;
            low = omega (arith, turn.at_later, h.low, sought.same_at);
            high = omega (arith, turn.to_sooner, h.high, sought.same_to);
          }
