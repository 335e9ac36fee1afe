-- The body of a reverse or a for: how often it runs, and in which frame. Assumes nothing.
use Prim.Native.Nat.{ℕ, ◌+◌, ◌-◌, ◌≤◌}
use mathlib.Core.Path.{◌≡◌, refl, sym, ap, ◌∙◌, subst}
use mathlib.Core.List.{List}
use mathlib.Core.Bool.{Bool, true, false, cond, not}
use native.Mathlib.Omega.{arith}
use borrow.Author.Tests.{eqb-true, eqb-false}
use lib.ListN.{take, drop}
use lib.Seq.{slice}
use lib.Dec.{eqb}
use lib.IntN.{ℤ, pos, ◌-ℤ◌}
use Rattle.indexes.specs.Values.{most_values}
use Rattle.language.specs.Form.{in_range}
use Rattle.language.specs.Read.{fields, read_statement, statements_by}
use Rattle.language.specs.Machine.{run_for, Run, step, rounds, rounds_of, start_of, in_round, in_direction, run_statements, ◌>>◌}
use Rattle.operands.specs.declared.Scope.{Scope}
use Rattle.operands.specs.Meanings.{operands_of, frame_of}
use Rattle.records.specs.Outcomes.{condition_of}
use Rattle.gates.specs.declared.Mode.{Mode}
use Rattle.std.specs.Prelude.{Result, Ok, Err}
use Rattle.indexes.specs.declared.Fault.{Fault}
use Rattle.indexes.specs.declared.Bounds.{Bounds}
use Rattle.indexes.specs.Values.{fault_told}
use Rattle.indexes.specs.Bounds.{bounding, Bounded}
use Rattle.indexes.proofs.TwoBounds.{bounds_run}
use Rattle.gates.specs.declared.Repeats.{Repeats}
use Rattle.gates.specs.Gates.{direction_of, frame_in, deeper_of, inner_of, Rounds, Looped, Repeated}
use Rattle.gates.proofs.RoundValues.{rounds_behind, rounds_start, rounds_turn}
use Rattle.unroller.specs.Runs.{families_in, one_run, list_at, times_run, kept_in, Often, HasBody}
use Rattle.unroller.proofs.Statements.{one_reverse, one_for, turned}

-- ---- what stays in the body

module _ (mode : Mode) where
  abbrev chosen : Bool → Mode
  chosen b = cond b (deeper_of mode mode.variables (not mode.reversed)) (deeper_of mode (mode.variables + 1) mode.reversed)

  pub inner_seen : (tag : ℕ) → (inner_of mode tag).families_visible ≡ mode.families_visible
  inner_seen tag = go (eqb tag 37)
    where
      go : (b : Bool) → (chosen b).families_visible ≡ mode.families_visible
      go true = refl
      go false = refl

  pub inner_few : (tag : ℕ) → mode.variables + mode.levels ≤ most_values → (mode.levels ≡ 0 → ⊥) → (inner_of mode tag).variables + (inner_of mode tag).levels ≤ most_values
  inner_few tag h k = go (eqb tag 37)
    where
      go : (b : Bool) → (chosen b).variables + (chosen b).levels ≤ most_values
      go true = omega (arith, h)
      go false = omega (arith, h, k)

  -- the values that were in scope stay
  pub inner_kept : (tag : ℕ) → HasBody tag → kept_in (inner_of mode tag) (eqb tag 38) ≡ mode.variables
  inner_kept tag h = go (eqb tag 37) refl
    where
      go : (u : Bool) → eqb tag 37 ≡ u → kept_in (inner_of mode tag) (eqb tag 38) ≡ mode.variables
      go true e = let t : tag ≡ 37 = eqb-true tag 37 e in rw t
      go false e = let t : tag ≡ 38 = omega (arith, h, eqb-false tag 37 e) in let z : mode.variables + 1 - 1 ≡ mode.variables = omega arith in rw t z

  pub inner_stays : (tag : ℕ) → HasBody tag → (a b : List ℤ) → take (kept_in (inner_of mode tag) (eqb tag 38)) a ≡ take (kept_in (inner_of mode tag) (eqb tag 38)) b → take mode.variables a ≡ take mode.variables b
  inner_stays tag h a b e = subst (λ (n : ℕ). take n a ≡ take n b) (inner_kept tag h) e

-- ---- the statement and its body

module _ (mode : Mode) (room base from to place tag : ℕ) (bytes program : List ℕ) (vars : List ℤ) (scope : Scope) (regs : List ℕ)
    (deep : mode.levels ≡ 0 → ⊥) (has : HasBody tag) (at : base + from ≡ place + 3) where
  abbrev whole : Run (Unit {0})
  whole = one_run mode room place tag (slice from to bytes) program (frame_in mode (take mode.variables vars) scope regs)

  -- the body at `body`, run so often
  abbrev bodied : ℤ → (total body : ℕ) → Run (Unit {0})
  bodied start total body = times_run (eqb tag 38) (inner_of mode tag) room base body to place start total bytes program (frame_in (inner_of mode tag) (take (kept_in (inner_of mode tag) (eqb tag 38)) vars) scope regs)

  -- a reverse
  reverse_is : tag ≡ 37 → whole ≡ (step mode.limit room place >> bodied (pos 0) 1 from)
  unfolding in_direction
  reverse_is t = one_reverse mode room place tag (slice from to bytes) program (frame_in mode (take mode.variables vars) scope regs) deep t
      ∙ rw t (λ j. step mode.limit room place >> run_statements mode.limit room (list_at (mode.levels - 1) (sym at j) (slice from to bytes)) (families_in mode room program) (frame_of (turned mode.reversed j) (condition_of mode.condition) (take mode.variables vars) (operands_of scope regs)))

  -- a for
  module _ (t : tag ≡ 38) where
    for_is : (b : Result Bounds Fault) → Bounded bytes from to (take mode.variables vars) b → whole ≡ (step mode.limit room place >> bounding place b (λ x y.
        rounds mode.limit room place (direction_of mode.reversed) (rounds_of (y -ℤ x)) (start_of (direction_of mode.reversed) x y)
        (λ z. run_statements mode.limit room (statements_by (read_statement (mode.levels - 1)) (drop 2 (fields (place + 3) (slice from to bytes)))) (families_in mode room program) (in_round (frame_in mode (take mode.variables vars) scope regs) z))))
    unfolding run_for
    for_is b w = one_for mode room place tag (slice from to bytes) program (frame_in mode (take mode.variables vars) scope regs) deep t
        ∙ ap (λ (x : Run (Unit {0})). step mode.limit room place >> x) (sym (bounds_run _ w place place (place + 3)))

    for_fails : (f : Fault) → Bounded bytes from to (take mode.variables vars) (Err f) → whole ≡ (step mode.limit room place >> fault_told place f)
    unfolding bounding
    for_fails f w = for_is (Err f) w

    for_are : (start : ℤ) (total body : ℕ) → Rounds bytes from to (take mode.variables vars) mode.reversed start total body → whole ≡ (step mode.limit room place >> bodied start total body)
    unfolding bounding in_round
    for_are start total body w =
        let b = rounds_behind w in
        let q : place + 3 + (body - from) ≡ base + body = omega (arith, at, b.past) in
        let fs : drop 2 (fields (place + 3) (slice from to bytes)) ≡ fields (base + body) (slice body to bytes) = b.rest (place + 3) ∙ ap (λ (n : ℕ). fields n (slice body to bytes)) q in
        let k : mode.variables ≡ mode.variables + 1 - 1 = omega arith in
        for_is (Ok (record { low = w.x; high = w.y; next = body })) w.bounded
        ∙ rw t (λ j. step mode.limit room place >> rounds mode.limit room place (direction_of mode.reversed) (sym w.often j) (sym w.first j)
        (λ z. run_statements mode.limit room (statements_by (read_statement (mode.levels - 1)) (fs j)) (families_in mode room program) (in_round (frame_in mode (take (k j) vars) scope regs) z)))

  -- what a body is given
  pub record Opens (start : ℤ) (total body : ℕ) : Type 0 where
    pub low : from ≤ body
    pub high : body ≤ to
    pub often : Often (eqb tag 38) (inner_of mode tag) start total
    pub ranged : in_range start ≡ true
    pub is : whole ≡ (step mode.limit room place >> bodied start total body)

  reverse_opens : tag ≡ 37 → from ≤ to → (start : ℤ) (total body : ℕ) → ◌≡◌ {A = Result Repeats Fault} (Ok (record { start = start; total = total; body = body })) (Ok (record { start = pos 0; total = 1; body = from })) → Opens start total body
  unfolding Often in_range
  reverse_opens t h start total body q =
      let z : ◌≡◌ {A = Repeats} (record { start = start; total = total; body = body }) (record { start = pos 0; total = 1; body = from }) = cc in
      let u : start ≡ pos 0 = ap (λ (k : Repeats). k.start) z in
      let v : total ≡ 1 = ap (λ (k : Repeats). k.total) z in
      let w : body ≡ from = ap (λ (k : Repeats). k.body) z in
      record {
        low = omega arith;
        high = omega arith;
        often = rw t v;
        ranged = rw u refl;
        is = reverse_is t ∙ (λ j. step mode.limit room place >> bodied (sym u j) (sym v j) (sym w j));
      }

  for_opens : tag ≡ 38 → (start : ℤ) (total body : ℕ) → Rounds bytes from to (take mode.variables vars) mode.reversed start total body → Opens start total body
  unfolding Often
  for_opens t start total body w =
      let b = rounds_behind w in
      record {
        low = omega (arith, b.past);
        high = b.within;
        often = rw t (omega arith, rounds_start w, rounds_turn w);
        ranged = rounds_start w;
        is = for_are t start total body w;
      }

  module _ (r : Result Repeats Fault) (w : Repeated bytes from to tag (take mode.variables vars) mode.reversed r) where
    for_tag : (tag ≡ 37 → ⊥) → tag ≡ 38
    for_tag h = omega (arith, has)

    pub loop_fails : (f : Fault) → r ≡ Err f → whole ≡ (step mode.limit room place >> fault_told place f)
    unfolding Looped
    loop_fails f q = go (eqb tag 37) refl
      where
        go : (b : Bool) → eqb tag 37 ≡ b → whole ≡ (step mode.limit room place >> fault_told place f)
        go true u = absurd (let z = sym q ∙ w.once (eqb-true tag 37 u) in let z : ◌≡◌ {A = ℕ} 0 1 = cc in omega arith)
        go false u = let n = eqb-false tag 37 u in for_fails (for_tag n) f (rw q at (w.looped n))

    pub loop_opens : from ≤ to → (k : Repeats) → r ≡ Ok k → Opens k.start k.total k.body
    unfolding Looped
    loop_opens h k q = go (eqb tag 37) refl
      where
        go : (b : Bool) → eqb tag 37 ≡ b → Opens k.start k.total k.body
        go true u = let t = eqb-true tag 37 u in reverse_opens t h k.start k.total k.body (sym q ∙ w.once t)
        go false u = let n = eqb-false tag 37 u in for_opens (for_tag n) k.start k.total k.body (rw q at (w.looped n))
