-- Two bounds in a row. Assumes nothing.
use Prim.Native.Nat.{ℕ, ◌+◌, ◌-◌, ◌≤◌}
use mathlib.Core.Path.{◌≡◌, refl, sym, ap, ◌∙◌, fun_ext}
use mathlib.Core.List.{List}
use native.Mathlib.Omega.{arith}
use lib.ListN.{drop}
use lib.Seq.{slice, drop-drop}
use lib.IntN.{ℤ}
use Rattle.language.specs.Tree.{Place, Index, bad_index}
use Rattle.language.specs.Read.{Field, fields, due, outer_index, read_index}
use Rattle.language.specs.Machine.{run_bounds, Outcome, going, ended, stuck, Run, evaluate, after, ◌>>=◌}
use Rattle.std.specs.Prelude.{Result, Ok, Err}
use Rattle.fields.specs.declared.NoHeader.{NoHeader}
use Rattle.indexes.specs.declared.Fault.{Fault}
use Rattle.indexes.specs.declared.Fault.TheVariants.{Stuck}
use Rattle.indexes.specs.declared.Bounds.{Bounds}
use Rattle.indexes.specs.Values.{value_told, IndexAt}
use Rattle.indexes.specs.Bounds.{bounding, Behind, BehindBounds, both, Bounded}
use Rattle.fields.proofs.Between.{look_in, in_whole}
use Rattle.indexes.proofs.Leaves.{fault_on}
use Rattle.indexes.proofs.Operations.{index_ranged, index_none}

module _ (l : List ℕ) (from to : ℕ) (values : List ℤ) where
  pub bounds_low : (f : Fault) → IndexAt (slice from to l) 0 values (Err f) → Bounded l from to values (Err f)
  unfolding BehindBounds bounding run_bounds value_told
  bounds_low f w = record { behind = tt; same = λ p q t. sym (fault_on p f _) ∙ ap (λ (a : Run ℤ). a >>= (λ x. evaluate p values (due (read_index 16) (bad_index 4 q) (drop 1 (fields t (slice from to l)))) >>= (λ y. both x y))) (w.same p q t) }

  pub bounds_none : {e : NoHeader} → look_in l from to ≡ Err e → Bounded l from to values (Err Stuck)
  bounds_none e = bounds_low Stuck (index_none l from to values e)

  module _ (x : ℤ) (w : IndexAt (slice from to l) 0 values (Ok x)) (u mid : ℕ) (e : look_in l from to ≡ Ok (record { tag = u; next = mid })) where
    next_at : (t : Place) → drop 1 (fields t (slice from to l)) ≡ fields (t + (mid - from)) (slice mid to l)
    next_at t = ap (drop 1) ((in_whole l from to u mid e).first t)

    -- the low bound is x, and the high one is what the second part says
    second : (p q t : Place) →
        (evaluate p values (due (read_index 16) (bad_index 4 q) (fields t (slice from to l))) >>= (λ x. evaluate p values (due (read_index 16) (bad_index 4 q) (drop 1 (fields t (slice from to l)))) >>= (λ y. both x y)))
        ≡ (evaluate p values (due (read_index 16) (bad_index 4 q) (fields (t + (mid - from)) (slice mid to l))) >>= (λ y. both x y))
    unfolding ◌>>=◌ after value_told
    second p q t =
        ap (λ (a : Run ℤ). a >>= (λ x. evaluate p values (due (read_index 16) (bad_index 4 q) (drop 1 (fields t (slice from to l)))) >>= (λ y. both x y))) (sym (w.same p q t))
        ∙ ap (λ (fs : List Field). evaluate p values (due (read_index 16) (bad_index 4 q) fs) >>= (λ y. both x y)) (next_at t)

    pub bounds_high : (f : Fault) → IndexAt (slice mid to l) 0 values (Err f) → Bounded l from to values (Err f)
    unfolding BehindBounds bounding run_bounds value_told
    bounds_high f w₂ = record { behind = tt; same = λ p q t. sym (fault_on p f _) ∙ ap (λ (a : Run ℤ). a >>= (λ y. both x y)) (w₂.same p q (t + (mid - from))) ∙ sym (second p q t) }

    pub bounds_cut : {k : NoHeader} → look_in l mid to ≡ Err k → Bounded l from to values (Err Stuck)
    bounds_cut k = bounds_high Stuck (index_none l mid to values k)

    pub bounds_are : (y : ℤ) (v at : ℕ) → IndexAt (slice mid to l) 0 values (Ok y) → look_in l mid to ≡ Ok (record { tag = v; next = at }) → Bounded l from to values (Ok (record { low = x; high = y; next = at }))
    unfolding BehindBounds bounding run_bounds ◌>>=◌ after value_told
    bounds_are y v at w₂ f =
        let a = in_whole l from to u mid e in
        let b = in_whole l mid to v at f in
        record {
          behind = record {
            low = index_ranged (slice from to l) 0 values x w;
            high = index_ranged (slice mid to l) 0 values y w₂;
            within = b.high;
            past = omega (arith, a.low, b.low);
            rest = λ q. sym (drop-drop 1 1 (fields q (slice from to l))) ∙ ap (λ (fs : List Field). drop 1 fs) (next_at q) ∙ ap (drop 1) (b.first (q + (mid - from)))
                ∙ ap (λ (i : ℕ). fields i (slice at to l)) (far q a.low b.low);
          };
          same = λ p q t. ap (λ (a : Run ℤ). a >>= (λ y. both x y)) (w₂.same p q (t + (mid - from))) ∙ sym (second p q t);
        }
      where
        far : (q : ℕ) → from + 3 ≤ mid → mid + 3 ≤ at → q + (mid - from) + (at - mid) ≡ q + (at - from)
        far q a b = omega arith

-- ---- what is done with both

module _ {A : Type 0} (k : ℤ → ℤ → Run A) where
  abbrev next : ℤ × ℤ → Run A
  next z = k z.0 z.1

  told_then : (p : Place) (r : Result Bounds Fault) → (bounding p r both >>= next) ≡ bounding p r k
  unfolding bounding ◌>>=◌ after
  told_then p (Ok b) = refl
  told_then p (Err f) = fault_on p f next

  run_then : (p : Place) (values : List ℤ) (i j : Index) → (run_bounds p values i j both >>= next) ≡ run_bounds p values i j k
  unfolding run_bounds ◌>>=◌ after
  run_then p values i j = fun_ext (λ s. low (evaluate p values i s))
    where
      high : (x : ℤ) (o : Outcome ℤ) → after (after o (λ y. both x y)) next ≡ after o (λ y. k x y)
      high x (going y s) = refl
      high x (ended n q s) = refl
      high x stuck = refl

      low : (o : Outcome ℤ) → after (after o (λ x s. after (evaluate p values j s) (λ y. both x y))) next ≡ after o (λ x s. after (evaluate p values j s) (λ y. k x y))
      low (going x s) = high x (evaluate p values j s)
      low (ended n q s) = refl
      low stuck = refl

  -- the first two indexes in the content, and what is done with their values
  pub bounds_run : {l : List ℕ} {from to : ℕ} {values : List ℤ} {r : Result Bounds Fault} → Bounded l from to values r → (p q t : Place) → bounding p r k
      ≡ run_bounds p values (due outer_index (bad_index 4 q) (fields t (slice from to l))) (due outer_index (bad_index 4 q) (drop 1 (fields t (slice from to l)))) k
  bounds_run {values = values} {r = r} b p q t = sym (told_then p r) ∙ ap (λ (a : Run (ℤ × ℤ)). a >>= next) (b.same p q t) ∙ run_then p values _ _

pub bounds_behind : {l : List ℕ} {from to : ℕ} {values : List ℤ} {b : Bounds} → Bounded l from to values (Ok b) → Behind l from to b.low b.high b.next
unfolding BehindBounds
bounds_behind b = b.behind
