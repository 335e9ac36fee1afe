-- Two indexes in a row: the bounds of a loop, or of a slice. Assumes nothing.
use mathlib.Core.Path.{◌≡◌, refl, sym, ap, ◌∙◌}
use mathlib.Core.List.{List}
use Prim.Native.Nat.{ℕ}
use lib.IntN.{ℤ}
use lib.ListN.{drop}
use Rattle.language.specs.Tree.{Index, bad_index}
use Rattle.language.specs.Read.{Field, due, outer_index}
use Rattle.language.specs.Form.{Form, Loop}
use Rattle.language.specs.Check.{Checked, good, refused, ◌>>=◌, form_of, check_bounds}
use Rattle.fields.specs.Header.{fields_at}
use Rattle.forms.specs.Flat.{Kept, as_form}
use Rattle.check_index.specs.Answers.{checked_form, PastField, FormPasses, checked_part}
use Rattle.check_index.proofs.Answers.{beyond_none, beyond_more}
use Rattle.check_index.specs.Bounds.{checked_bounds, bounds_due, BoundsPass}
use Rattle.std.specs.Prelude.{Result, Ok, Err}
use Rattle.refusals.specs.declared.Refusal.{Refusal}
use Rattle.language.specs.Check as C

module _ (s : C.Scope) (program : List ℕ) (at from to : ℕ) (r : Result ℕ Refusal) (l : List ℤ) (e : checked_form r l ≡ form_of s (due outer_index (bad_index 4 at) (fields_at program from to))) where
  abbrev then_high : List Field → Form → Checked Loop
  then_high fs f = form_of s (due outer_index (bad_index 4 at) fs) >>= λ g. good (record { low = f; high = g })

  low_is : bounds_due s at (fields_at program from to) ≡ (checked_form r l >>= then_high (drop 1 (fields_at program from to)))
  unfolding check_bounds
  low_is = ap (λ (c : Checked Form). c >>= then_high (drop 1 (fields_at program from to))) (sym e)

  pub low_stops : (a b : List ℤ) {e : Refusal} → r ≡ Err e → checked_bounds (Err e) a b ≡ bounds_due s at (fields_at program from to)
  unfolding checked_bounds checked_form ◌>>=◌
  low_stops a b h = sym (low_is ∙ ap (λ (x : Result ℕ Refusal). checked_form x l >>= then_high (drop 1 (fields_at program from to))) h)

  module _ (mid : ℕ) (u : r ≡ Ok mid) (v : PastField program from to mid) (t : Result ℕ Refusal) (k : List ℤ) (d : checked_form t k ≡ form_of s (due outer_index (bad_index 4 at) (fields_at program mid to))) where
    high_is : bounds_due s at (fields_at program from to) ≡ (checked_form t k >>= λ g. good (record { low = as_form l; high = g }))
    unfolding checked_form ◌>>=◌
    high_is =
        low_is ∙ ap (λ (x : Result ℕ Refusal). checked_form x l >>= then_high (drop 1 (fields_at program from to))) u
        ∙ ap (λ (fs : List Field). then_high fs (as_form l)) v.rest ∙ ap (λ (c : Checked Form). c >>= λ g. good (record { low = as_form l; high = g })) (sym d)

    pub high_stops : (a b : List ℤ) {e : Refusal} → t ≡ Err e → checked_bounds (Err e) a b ≡ bounds_due s at (fields_at program from to)
    unfolding checked_bounds checked_form ◌>>=◌
    high_stops a b h = sym (high_is ∙ ap (λ (x : Result ℕ Refusal). checked_form x k >>= λ g. good (record { low = as_form l; high = g })) h)

    -- where the second index is the last thing asked
    pub high_is_last : checked_bounds t l k ≡ bounds_due s at (fields_at program from to)
    unfolding checked_bounds checked_form ◌>>=◌
    high_is_last = by t ∙ sym high_is
      where
        by : (t : Result ℕ Refusal) → checked_bounds t l k ≡ (checked_form t k >>= λ g. good (record { low = as_form l; high = g }))
        by (Ok j) = refl
        by (Err e) = refl

    pub high_good : (end : ℕ) → t ≡ Ok end → checked_bounds (Ok end) l k ≡ bounds_due s at (fields_at program from to)
    unfolding checked_bounds checked_form ◌>>=◌
    high_good end w = sym (high_is ∙ ap (λ (x : Result ℕ Refusal). checked_form x k >>= λ g. good (record { low = as_form l; high = g })) w)

-- the second index passes where the first did
pub both_pass : (program : List ℕ) (at mid to : ℕ) (l : List ℤ) → PastField program at to mid × Kept l → (r : Result ℕ Refusal) (h : List ℤ) → FormPasses program mid to r h → BoundsPass program at to r l h
both_pass program at mid to l v (Ok n) h w =
    (beyond_more program at to 1 mid n (beyond_more program at to 0 at mid (beyond_none program at to) v.0) w.0, v.1, w.1, w.0.high)
both_pass program at mid to l v (Err e) h w = tt

pub bounds_upto : (program : List ℕ) (at to : ℕ) (r : Result ℕ Refusal) (a b : List ℤ) (m : ℕ) → r ≡ Ok m → BoundsPass program at to r a b → BoundsPass program at to (Ok m) a b
bounds_upto program at to r a b m e h = rw e at h

-- what follows two indexes
pub bounds_are : {B : Type 0} (s : C.Scope) (i j : Index) (next : Loop → Checked B) → (check_bounds s i j >>= next) ≡ (form_of s i >>= λ f. (form_of s j >>= λ g. next (record { low = f; high = g })))
unfolding check_bounds ◌>>=◌
bounds_are s i j next = by (form_of s i) (form_of s j)
  where
    by : (c d : Checked Form) → ((c >>= λ f. (d >>= λ g. good (record { low = f; high = g }))) >>= next) ≡ (c >>= λ f. (d >>= λ g. next (record { low = f; high = g })))
    by (good f) (good g) = refl
    by (good f) (refused n p) = refl
    by (refused n p) d = refl

pub bounds_end : (r : Result ℕ Refusal) (l h : List ℤ) (next : Loop → Checked (Unit {0})) {e : Refusal} → r ≡ Err e → checked_part (Err e) ≡ (checked_bounds r l h >>= next)
unfolding checked_bounds checked_part ◌>>=◌
bounds_end r l h next q = sym (ap (λ (x : Result ℕ Refusal). checked_bounds x l h >>= next) q)

pub bounds_then : {B : Type 0} (r : Result ℕ Refusal) (l h : List ℤ) (m : ℕ) (next : Loop → Checked B) → r ≡ Ok m → (checked_bounds r l h >>= next) ≡ next (record { low = as_form l; high = as_form h })
unfolding checked_bounds ◌>>=◌
bounds_then r l h m next e = ap (λ (x : Result ℕ Refusal). checked_bounds x l h >>= next) e
