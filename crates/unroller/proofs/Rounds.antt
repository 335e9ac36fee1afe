-- The rounds of a list: one that begins, and those that are left. Assumes nothing.
use Prim.Native.Nat.{ℕ, zero, suc, ◌+◌, ◌-◌, ◌<◌, ◌≤◌}
use mathlib.Core.Path.{◌≡◌, refl, sym, ap, ◌∙◌}
use mathlib.Core.List.{List, [], ◌∷◌, ◌++◌}
use mathlib.Core.Bool.{Bool, true, false, cond}
use native.Mathlib.Omega.{arith}
use lib.IntN.{ℤ}
use lib.ListN.{length, take, set}
use lib.Seq.{take-suc-set, take-set-le, take-take}
use Rattle.language.specs.Form.{in_range}
use Rattle.language.specs.Machine.{Run, Frame, done, no_meaning, step, rounds, in_round, after, ◌>>=◌, ◌>>◌}
use Rattle.language.proofs.Runs.{then_done}
use Rattle.operands.specs.declared.Scope.{Scope}
use Rattle.records.specs.Outcomes.{Does, OneStep, Stepped}
use Rattle.records.specs.declared.State.{State}
use Rattle.std.specs.Prelude.{Result, Ok, Err}
use Rattle.records.specs.declared.Stop.{Stop}
use Rattle.records.specs.declared.Stop.TheVariants.{Ended, Stuck}
use Rattle.records.proofs.Sequences.{stepped_stops, step_taken}
use Rattle.gates.specs.declared.Mode.{Mode}
use Rattle.gates.specs.Gates.{direction_of, frame_in, turn_of}
use Rattle.gates.proofs.GateRuns.{does_as}
use Rattle.gates.proofs.RoundValues.{turn_start, turn_step}
use Rattle.unroller.specs.Runs.{rest_run, rounds_run, times_run, kept_in, Often, Turns, Round, RoundBegun, Turned}

-- a part that is run once, or no more
unfoldable pub once_run : (left : ℕ) → Run (Unit {0}) → Run (Unit {0})
once_run zero run = done
once_run (suc n) run = run

-- what is left of a list's rounds: so many, from the round i on
abbrev pub later_run : (looping : Bool) → Mode → (room base from to place : ℕ) → ℤ → List ℕ → (program : List ℕ) → Frame → (left i : ℕ) → Run (Unit {0})
later_run looping mode room base from to place start l program f left i =
    cond looping (rounds_run mode room base from to place (turn_of mode.reversed start i) left l program f) (once_run left (rest_run mode room base from to l program f))

pub stuck_then : (next : Run (Unit {0})) → ◌≡◌ {A = Run (Unit {0})} (no_meaning >> next) no_meaning
unfolding ◌>>◌ after
stuck_then next = refl

-- ---- the values in scope

pub kept_less : (looping : Bool) (mode : Mode) → kept_in mode looping ≤ mode.variables
kept_less true mode = omega arith
kept_less false mode = omega arith

pub kept_still : (looping : Bool) (mode : Mode) (a b : List ℤ) → take mode.variables a ≡ take mode.variables b → take (kept_in mode looping) a ≡ take (kept_in mode looping) b
kept_still looping mode a b e =
    sym (take-take (kept_in mode looping) mode.variables a (kept_less looping mode)) ∙ ap (take (kept_in mode looping)) e ∙ take-take (kept_in mode looping) mode.variables b (kept_less looping mode)

-- a value behind those that stay
pub value_set : (many : ℕ) (vars : List ℤ) (z : ℤ) → 1 ≤ many → many ≤ length vars → take many (set vars (many - 1) z) ≡ take (many - 1) vars ++ (z ∷ [])
value_set zero vars z h k = absurd (omega arith)
value_set (suc n) vars z h k = let e : suc n - 1 ≡ n = omega arith in rw e (take-suc-set vars n z (omega arith))

pub values_stay : (n : ℕ) (vars : List ℤ) (z : ℤ) → take n (set vars n z) ≡ take n vars
values_stay n vars z = take-set-le n vars n z (omega arith)

-- ---- all rounds, and none

module _ (mode : Mode) (room base from to place : ℕ) (start : ℤ) (l program : List ℕ) (values : List ℤ) (scope : Scope) (regs : List ℕ) where
  abbrev f : Frame
  f = frame_in mode values scope regs

  pub later_start : (looping : Bool) (total : ℕ) → Often looping mode start total → later_run looping mode room base from to place start l program f (total - 0) 0 ≡ times_run looping mode room base from to place start total l program f
  unfolding Often once_run
  later_start true total h = let z : total - 0 ≡ total = omega arith in
      (λ j. rounds_run mode room base from to place (turn_start mode.reversed start j) (z j) l program f)
  later_start false total h = let z : total - 0 ≡ 1 = omega (arith, h) in rw z

  pub later_none : (looping : Bool) (left i : ℕ) → left ≡ 0 → later_run looping mode room base from to place start l program f left i ≡ done
  unfolding once_run rounds
  later_none true left i e = rw e
  later_none false left i e = rw e

  rounds_more : (left i : ℕ) → 0 < left → later_run true mode room base from to place start l program f left i
      ≡ (step mode.limit room place >> (rest_run mode room base from to l program (in_round f (turn_of mode.reversed start i)) >> later_run true mode room base from to place start l program f (left - 1) (i + 1)))
  unfolding rounds ◌>>=◌ ◌>>◌
  rounds_more zero i h = absurd (omega arith)
  rounds_more (suc n) i h = let e : suc n - 1 ≡ n = omega arith in rw e
      (ap (λ (z : ℤ). step mode.limit room place >> (rest_run mode room base from to l program (in_round f (turn_of mode.reversed start i)) >> rounds mode.limit room place (direction_of mode.reversed) n z (λ v. rest_run mode room base from to l program (in_round f v)))) (turn_step mode.reversed start i))

-- ---- a round that begins

module _ (mode : Mode) (room base from to place : ℕ) (start : ℤ) (l program : List ℕ) (values : List ℤ) (scope : Scope) (regs : List ℕ) (total i : ℕ) (h : i < total) where
  abbrev left_over : (looping : Bool) → (left i : ℕ) → Run (Unit {0})
  left_over looping left i = later_run looping mode room base from to place start l program (frame_in mode values scope regs) left i

  -- none is left: the list's answer
  pub round_stops : (looping : Bool) (vars vars' : List ℤ) (st : State) (r : Result State Stop) → Turned looping mode place start i vars vars' st r → {e : Stop} → r ≡ Err e
      → (out : List ℕ) → Does out st out (Err e) (left_over looping (total - i) i)
  unfolding Turned RoundBegun Stepped
  round_stops false vars vars' st r w {e} k out = absurd (let z : ◌≡◌ {A = Result State Stop} (Ok st) (Err e) = sym w.0 ∙ k in let y : ◌≡◌ {A = ℕ} 0 1 = cc in omega arith)
  round_stops true vars vars' st r w {e} k out = does_as _ _ _ _ _ (left_over true (total - i) i)
      (rounds_more mode room base from to place start l program values scope regs (total - i) i (omega arith))
      (stepped_stops mode.limit room out st place _ (Err e) (unstepped e (rw k at w)) refl)
    where
      unstepped : (e : Stop) → RoundBegun mode place (turn_of mode.reversed start i) vars vars' st (Err e) → Stepped mode.limit place st (Err e)
      unstepped (Ended n p t) w = w.none
      unstepped Stuck w = w

  -- it goes on: the list in the round's frame, and then the rounds after it
  pub record RoundsGo (looping : Bool) (vars' : List ℤ) (st t : State) (out : List ℕ) : Type 0 where
    pub leads : (x : List ℕ) (q : Result State Stop) → Does out t x q (rest_run mode room base from to l program (frame_in mode (take mode.variables vars') scope regs) >> left_over looping (total - (i + 1)) (i + 1))
        → Does out st x q (left_over looping (total - i) i)

  pub round_goes : (looping : Bool) → Often looping mode start total → (vars vars' : List ℤ) (st t : State) (r : Result State Stop) → Turned looping mode place start i vars vars' st r → r ≡ Ok t
      → take (kept_in mode looping) vars ≡ values → (out : List ℕ) → RoundsGo looping vars' st t out
  unfolding Often Turned RoundBegun once_run in_round
  round_goes false o vars vars' st t r w e v out =
      let a : total - i ≡ 1 = omega (arith, o) in
      let b : total - (i + 1) ≡ 0 = omega (arith, o) in
      let same : st ≡ t = (let z : ◌≡◌ {A = Result State Stop} (Ok st) (Ok t) = sym w.0 ∙ e in cc) in
      let k : take mode.variables vars' ≡ values = rw w.1 v in
      record { leads = λ x q d. rw (a, same) (does_as _ _ _ _ _ (rest_run mode room base from to l program (frame_in mode values scope regs)) (sym (then_done _)) (rw (b, k) at d)) }
  round_goes true o vars vars' st t r w e v out =
      let u : Round mode (turn_of mode.reversed start i) vars vars' st t = rw e at w in
      let k : take mode.variables vars' ≡ values ++ (turn_of mode.reversed start i ∷ []) = u.values ∙ ap (λ (a : List ℤ). a ++ (turn_of mode.reversed start i ∷ [])) v in
      let z : total - i - 1 ≡ total - (i + 1) = omega arith in
      let more = rounds_more mode room base from to place start l program values scope regs (total - i) i (omega arith) in
      record { leads = λ x q d. does_as _ _ _ _ _ (left_over true (total - i) i) more (step_taken mode.limit room out st t place _ x q u.step.left u.step.same u.step.more (rw z (rw k at d))) }

-- the values that stay, stay
pub round_kept : (looping : Bool) (mode : Mode) (place : ℕ) (start : ℤ) (i : ℕ) (vars vars' : List ℤ) (st : State) (r : Result State Stop) → Turned looping mode place start i vars vars' st r
    → take (kept_in mode looping) vars' ≡ take (kept_in mode looping) vars
unfolding Turned RoundBegun
round_kept false mode place start i vars vars' st r w = ap (take mode.variables) w.1
round_kept true mode place start i vars vars' st (Ok t) w = w.kept
round_kept true mode place start i vars vars' st (Err (Ended n p t)) w = ap (take (mode.variables - 1)) w.kept
round_kept true mode place start i vars vars' st (Err Stuck) w = absurd w

-- what the round i is given
pub round_turns : (looping : Bool) (mode : Mode) (start : ℤ) (total i : ℕ) → Often looping mode start total → i < total → Turns looping mode start i
unfolding Often Turns
round_turns false mode start total i o h = tt
round_turns true mode start total i o h = (o.0, o.1, o.2 i h)

-- ---- how a round begins

module _ (looping : Bool) (mode : Mode) (place : ℕ) (start : ℤ) (i : ℕ) (vars : List ℤ) (st : State) where
  pub turned_once : looping ≡ false → Turned looping mode place start i vars vars st (Ok st)
  unfolding Turned
  turned_once e = rw e (refl, refl)

  module _ (e : looping ≡ true) where
    pub turned_none : (r : Result State Stop) → Stepped mode.limit place st r → {x : Stop} → r ≡ Err x → Turned looping mode place start i vars vars st (Err x)
    unfolding Turned RoundBegun Stepped
    turned_none r h {x} k = rw e (go x (rw k at h))
      where
        go : (x : Stop) → Stepped mode.limit place st (Err x) → RoundBegun mode place (turn_of mode.reversed start i) vars vars st (Err x)
        go (Ended n p t) h = record { none = h; kept = refl }
        go Stuck h = h

    pub turns_are : Turns looping mode start i → (1 ≤ mode.variables) × (in_range start ≡ true) × (in_range (turn_of mode.reversed start i) ≡ true)
    unfolding Turns
    turns_are w = rw e at w

    pub turned_goes : Turns looping mode start i → mode.variables ≤ length vars → (t : State) → OneStep mode.limit st t
        → (last : ℕ) → last ≡ mode.variables - 1 → (z : ℤ) → z ≡ turn_of mode.reversed start i → Turned looping mode place start i vars (set vars last z) st (Ok t)
    unfolding Turned RoundBegun
    turned_goes w h t one last l z v = rw (e, l, v) (record {
      step = one;
      values = value_set mode.variables vars (turn_of mode.reversed start i) (turns_are w).0 h;
      kept = values_stay (mode.variables - 1) vars (turn_of mode.reversed start i);
    })
