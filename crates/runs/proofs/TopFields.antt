-- What is known at each top field of a whole run. Assumes nothing.
use Prim.Native.Nat.{ℕ, ◌+◌, ◌*◌, ◌≤◌, ◌<◌}
use native.Mathlib.Omega.{arith}
use mathlib.Core.Path.{◌≡◌, refl, sym, ap, ◌∙◌, subst}
use mathlib.Core.List.{List, [], ◌∷◌}
use mathlib.Core.Bool.{Bool, true, false}
use lib.Dec.{eqb}
use borrow.Author.Tests.{eqb-true, eqb-false}
use lib.ListN.{length, take}
use lib.Seq.{slice}
use Rattle.language.specs.Limits.{most_families, most_registers, longest_program}
use Rattle.language.specs.Read.{field, fields, read_top}
use Rattle.language.specs.Machine.{act_top, Run, Globals, run_tops}
use Rattle.std.specs.Prelude.{Result, Ok, Err}
use Rattle.fields.specs.declared.Header.{Header}
use Rattle.fields.specs.declared.NoHeader.{NoHeader}
use Rattle.fields.specs.declared.NoHeader.TheVariants.{End, Cut}
use Rattle.fields.proofs.Parts.{look}
use Rattle.fields.proofs.Between.{in_whole}
use Rattle.records.specs.declared.State.{State}
use Rattle.records.specs.declared.Stop.{Stop}
use Rattle.records.specs.declared.Stop.TheVariants.{Stuck}
use Rattle.records.specs.Outcomes.{Does}
use Rattle.calls.specs.Families.{Tabled}
use Rattle.calls.proofs.FamilyTable.{tabled, tabled_fewer}
use Rattle.runs.specs.declared.Totals.{Totals}
use Rattle.runs.specs.Whole.{tops_at, globals_of, more_families, more_locations, size_in, total_of, Acceptable, DeclareReady, OneMore, Declares, FullTable, started}
use Rattle.runs.specs.TopFields.{globals_in, WholeField, ActReady}
use Rattle.runs.proofs.Reached.{zero_totals, Reached, reached_start}
use Rattle.runs.proofs.Declarations.{register_tag, register_room, register_reached, register_runs, family_room, family_reached, family_runs}
use Rattle.runs.proofs.TopActions.{acting_reached}
use Rattle.runs.proofs.TopLoop.{Onward, onward_same, whole_run, starts, at_end, at_cut, acts_then, acts_other, act_ready, seen_few}

-- the bytes of one field, and the field alone
module _ (l : List ℕ) (at tag next : ℕ) (e : look l at ≡ Ok (record { tag = tag; next = next })) where
  pub field_within : length l ≤ longest_program → WholeField l at next
  field_within h = let w = in_whole l at (length l) tag next e in record { low = w.low; high = w.high; short = h }

  pub field_alone : fields at (slice at next l) ≡ (field at tag (slice (at + 3) next l) ∷ [])
  field_alone = (in_whole l at (length l) tag next e).alone at

module _ (limit : ℕ) (l out₀ : List ℕ) where
  abbrev room : ℕ
  room = length out₀

  abbrev rest_run : ℕ → Totals → List ℕ → Run Globals
  rest_run at t regs = run_tops limit room (tops_at l at) (globals_of limit room l t regs)

  pub record At (regs out : List ℕ) (at : ℕ) (t : Totals) (s : State) : Type 0 where
    pub reached : Reached limit room l at t
    pub few : t.registers ≤ most_registers
    pub same : length out ≡ room
    pub onward : Onward out₀ started out s (rest_run at t regs) (whole_run limit room l)

  pub at_start : (regs : List ℕ) → Acceptable l → At regs out₀ 0 zero_totals started
  at_start regs a = record {
    reached = reached_start limit room l a.declares a.accepted;
    few = omega arith;
    same = refl;
    onward = onward_same out₀ started out₀ started (whole_run limit room l) (rest_run 0 zero_totals regs) (whole_run limit room l) (sym (starts limit room l regs)) (λ x r d. d);
  }

  module _ (regs out : List ℕ) (at : ℕ) (t : Totals) (s : State) (i : At regs out at t s) where
    pub ends_here : look l at ≡ Err End → Does out₀ started out (Ok s) (whole_run limit room l)
    ends_here e = i.onward out (Ok s) (at_end limit room l at (globals_of limit room l t regs) out s e)

    pub cut_here : look l at ≡ Err Cut → Does out₀ started out (Err Stuck) (whole_run limit room l)
    cut_here e = i.onward out (Err Stuck) (at_cut limit room l at (globals_of limit room l t regs) out s e)

    -- ---- a field that declares something
    module _ (tag next : ℕ) (e : look l at ≡ Ok (record { tag = tag; next = next })) where
      abbrev content : List ℕ
      content = slice (at + 3) next l

      ok_at : ℕ → Result Header NoHeader
      ok_at x = Ok (record { tag = x; next = next })

      tagged : (n : ℕ) → tag ≡ n → look l at ≡ Ok (record { tag = n; next = next })
      unfolding ok_at
      tagged n h = e ∙ ap (λ (x : ℕ). ok_at x) h

      two : tag ≡ 2 → look l at ≡ Ok (record { tag = register_tag true; next = next })
      unfolding register_tag
      two h = tagged 2 h

      three : tag ≡ 3 → look l at ≡ Ok (record { tag = register_tag false; next = next })
      unfolding register_tag
      three h = tagged 3 h

      pub declare_ready : (1 ≤ tag) × (tag ≤ 3) → DeclareReady tag (slice (at + 3) next l) t
      unfolding total_of
      declare_ready h = record {
        least = h.0;
        most = h.1;
        family = λ k. family_room limit room l at next t i.reached (tagged 1 k);
        quantum = λ k. register_room limit room l at next t i.reached true (two k);
        classical = λ k. register_room limit room l at next t i.reached false (three k);
      }

      -- past it
      past : (regs' : List ℕ) (t' : Totals) → t'.registers ≤ most_registers → Reached limit room l next t' → rest_run at t regs ≡ rest_run next t' regs' → At regs' out next t' s
      past regs' t' f r q = record { reached = r; few = f; same = i.same; onward = onward_same out₀ started out s (rest_run at t regs) (rest_run next t' regs') (whole_run limit room l) q i.onward }

      more_few : (b : Bool) → t.registers < most_registers → (more_locations b t (size_in content)).registers ≤ most_registers
      unfolding more_locations
      more_few true h = omega arith
      more_few false h = omega arith

      one_more_lem : (b : Bool) → look l at ≡ Ok (record { tag = register_tag b; next = next }) → (regs' : List ℕ) (t' : Totals) → OneMore b (slice (at + 3) next l) t regs regs' t' → At regs' out next t' s
      one_more_lem b k regs' t' m = subst (λ (x : Totals). At regs' out next x s) (sym m.0)
          (past regs' _ (more_few b (register_room limit room l at next t i.reached b k).few) (register_reached limit room l at next t i.reached b k) (register_runs limit room l at next t i.reached b k regs regs' m.1))

      pub declared_on : (regs' : List ℕ) (t' : Totals) → (1 ≤ tag) × (tag ≤ 3) → Declares tag (slice (at + 3) next l) t regs regs' t' → At regs' out next t' s
      declared_on regs' t' h m = go (eqb tag 1) (eqb tag 2) (eqb-true tag 1) (eqb-true tag 2) (eqb-false tag 1) (eqb-false tag 2)
        where
          family_on : tag ≡ 1 → At regs' out next t' s
          family_on k = let f = m.family k in
              subst (λ (x : Totals). At regs' out next x s) (sym f.0) (past regs' (more_families t) i.few (family_reached limit room l at next t i.reached (tagged 1 k))
              (family_runs limit room l at next t i.reached (tagged 1 k) regs ∙ ap (λ (x : List ℕ). rest_run next (more_families t) x) (sym f.1)))

          go : (a b : Bool) → (a ≡ true → tag ≡ 1) → (b ≡ true → tag ≡ 2) → (a ≡ false → tag ≡ 1 → ⊥) → (b ≡ false → tag ≡ 2 → ⊥) → At regs' out next t' s
          go true b f g u v = family_on (f refl)
          go false true f g u v = one_more_lem true (two (g refl)) regs' t' (m.quantum (g refl))
          go false false f g u v = let k : tag ≡ 3 = (let x = u refl in let y = v refl in omega (arith, h.0, h.1)) in one_more_lem false (three k) regs' t' (m.classical k)

      -- ---- a field that declares nothing
      module _ (h : (tag ≡ 1 → ⊥) × (tag ≡ 2 → ⊥) × (tag ≡ 3 → ⊥)) where
        pub acts_ready : ActReady tag (slice (at + 3) next l)
        acts_ready = act_ready limit room l at tag next t i.reached e h

        module _ (out' : List ℕ) (r : Result State Stop)
            (d : (q b : ℕ) → Does out s out' r (act_top limit (length out) (read_top (field at tag (slice (at + 3) next l))) (globals_in limit (length out) l t.families (take (3 * t.registers) regs) q b))) where
          there : Does out s out' r (act_top limit room (read_top (field at tag (slice (at + 3) next l))) (globals_of limit room l t regs))
          there = subst (λ (n : ℕ). Does out s out' r (act_top limit n (read_top (field at tag (slice (at + 3) next l))) (globals_in limit n l t.families (take (3 * t.registers) regs) t.qubits t.bits))) i.same (d t.qubits t.bits)

          pub acted_on : (u : State) → r ≡ Ok u → length out' ≡ length out → At regs out' next t u
          acted_on u k n = record {
            reached = acting_reached limit room l at tag next t i.reached e h;
            few = i.few;
            same = n ∙ i.same;
            onward = λ x q b. i.onward x q (acts_then limit room l at tag next e h (globals_of limit room l t regs) out s out' r there u x q k b);
          }

          pub acted_last : {x : Stop} → r ≡ Err x → Does out₀ started out' (Err x) (whole_run limit room l)
          acted_last k = i.onward out' (Err _) (acts_other limit room l at tag next e h (globals_of limit room l t regs) out s out' r there k)

    -- the families that may be called
    pub tabled_here : (table : List ℕ) → Acceptable l → FullTable l table → Tabled l table t.families
    tabled_here table a f = tabled_fewer l table f.count t.families (seen_few limit room l a.declares a.accepted at t i.reached table f.count f.listed f.long)
        (tabled l table f.count a.declares a.accepted a.short f.listed)

    pub few_families : (table : List ℕ) → Acceptable l → FullTable l table → t.families ≤ most_families
    few_families table a f = omega (arith, seen_few limit room l a.declares a.accepted at t i.reached table f.count f.listed f.long, f.listed.room, f.long)
