-- The tables of operands and of loops, and the scope that they stand for. Assumes nothing.
use mathlib.Core.Path.{◌≡◌, refl, sym, ap, ◌∙◌}
use mathlib.Core.List.{List, [], ◌∷◌, ◌++◌}
use mathlib.Core.Bool.{Bool, true, false}
use mathlib.Core.Option.{none, some}
use Prim.Native.Nat.{ℕ, zero, suc, ◌+◌, ◌≤◌, ◌<◌}
use native.Mathlib.Omega.{arith}
use native.Mathlib.Nat.{add-zero}
use native.Mathlib.Numerals.{add-one}
use lib.Dec.{eqb, ltb}
use lib.IntN.{ℤ}
use lib.ListN.{length, get_or, drop, get_elem?, set, length-set}
use lib.Seq.{get_or-set_same, get_or-set_other}
use borrow.Author.Tests.{eqb-true, eqb-false}
use Rattle.language.specs.Tree.{Index, literal, variable, operation, bad_index}
use Rattle.language.specs.Read.{Field, due, outer_index}
use Rattle.language.specs.Form.{variable_form}
use Rattle.language.specs.Check.{good, ◌>>=◌, ◌>>◌, require, no_leftover, form_of, Kind, Signature, check_bounds}
use Rattle.forms.specs.Flat.{Kept}
use Rattle.forms.specs.Rows.{Rows, loops_of}
use Rattle.check_index.specs.Indexes.{scope_of}
use Rattle.check_index.specs.Bounds.{bounds_due}
use Rattle.check_operand.specs.Tables.{Formals, kind_at, kinds_at, tabulated, scope_with}
use Rattle.language.specs.Check as C

module _ {A : Type 0} (row : ℕ → A) where
  pub row_get : (n i j : ℕ) → j < n → get_elem? (tabulated row n i) j ≡ some (row (i + j))
  unfolding tabulated
  row_get zero i j h = absurd (omega arith)
  row_get (suc n) i zero h = rw add-zero
  row_get (suc n) i (suc j) h =
      let e : suc i + j ≡ i + suc j = omega arith in
      row_get n (suc i) j (omega arith) ∙ ap (λ (k : ℕ). some (row k)) e

  pub row_none : (n i j : ℕ) → n ≤ j → get_elem? (tabulated row n i) j ≡ none
  unfolding tabulated
  row_none zero i j h = refl
  row_none (suc n) i zero h = absurd (omega arith)
  row_none (suc n) i (suc j) h = row_none n (suc i) j (omega arith)

  pub row_drop : (n i j : ℕ) → j < n → drop j (tabulated row n i) ≡ (row (i + j) ∷ drop (suc j) (tabulated row n i))
  unfolding tabulated
  row_drop zero i j h = absurd (omega arith)
  row_drop (suc n) i zero h = rw add-zero
  row_drop (suc n) i (suc j) h =
      let e : suc i + j ≡ i + suc j = omega arith in
      row_drop n (suc i) j (omega arith) ∙ ap (λ (k : ℕ). row k ∷ drop (suc j) (tabulated row n (suc i))) e

  pub length_rows : (n i : ℕ) → length (tabulated row n i) ≡ n
  unfolding tabulated
  length_rows zero i = refl
  length_rows (suc n) i = ap suc (length_rows n (suc i))

  pub row_more : (n i : ℕ) → tabulated row (n + 1) i ≡ (tabulated row n i ++ (row (i + n) ∷ []))
  unfolding tabulated
  row_more n i = rw add-one (more n i)
    where
      more : (n i : ℕ) → tabulated row (suc n) i ≡ (tabulated row n i ++ (row (i + n) ∷ []))
      more zero i = rw add-zero
      more (suc n) i =
          let e : suc i + n ≡ i + suc n = omega arith in
          ap (λ (l : List A). row i ∷ l) (more n (suc i) ∙ ap (λ (k : ℕ). tabulated row n (suc i) ++ (row k ∷ [])) e)

pub rows_same : {A : Type 0} (f g : ℕ → A) (n i : ℕ) → ((j : ℕ) → i ≤ j → j < i + n → f j ≡ g j) → tabulated f n i ≡ tabulated g n i
unfolding tabulated
rows_same f g zero i h = refl
rows_same f g (suc n) i h = λ j. h i (omega arith) (omega arith) j ∷ rows_same f g n (suc i) (λ k a b. h k (omega arith) (omega arith)) j

pub kinds_get : (formals : Formals) (n i j : ℕ) (ks : List ℕ) (ss : List (List ℤ)) → j < n → get_elem? (kinds_at formals n i ks ss) j ≡ some (kind_at formals (i + j) ks ss)
kinds_get formals n i j ks ss h = row_get (λ k. kind_at formals k ks ss) n i j h

pub kinds_none : (formals : Formals) (n i j : ℕ) (ks : List ℕ) (ss : List (List ℤ)) → n ≤ j → get_elem? (kinds_at formals n i ks ss) j ≡ none
kinds_none formals n i j ks ss h = row_none (λ k. kind_at formals k ks ss) n i j h

pub length_loops : (n : ℕ) (l h : List (List ℤ)) → length (loops_of n l h) ≡ n
unfolding loops_of
length_loops zero l h = refl
length_loops (suc n) l h = ap suc (length_loops n l h)

pub same_forms : (s t : C.Scope) (i : Index) → s.variables + length s.loops ≡ t.variables + length t.loops → form_of s i ≡ form_of t i
unfolding form_of
same_forms s t (literal p n) e = refl
same_forms s t (variable p n x) e = ap (λ (k : ℕ). require 8 p (ltb n k) >> (no_leftover p x >> good (variable_form n))) e
same_forms s t (operation p o l r x) e =
    (λ j. same_forms s t l e j >>= λ f. (same_forms s t r e j >>= λ g. (no_leftover p x >> C.combined p o f g)))
same_forms s t (bad_index n p) e = refl

pub scope_forms : (fs : List Signature) (ks : List Kind) (m n : ℕ) (l h : List (List ℤ)) (i : Index) → form_of (scope_of (m + n)) i ≡ form_of (scope_with fs ks m (loops_of n l h)) i
unfolding scope_of
scope_forms fs ks m n l h i = same_forms _ _ i (add-zero (m + n) ∙ ap (λ (k : ℕ). m + k) (sym (length_loops n l h)))

pub bounds_same : (fs : List Signature) (ks : List Kind) (m n : ℕ) (l h : List (List ℤ)) (at : ℕ) (x : List Field) → bounds_due (scope_of (m + n)) at x ≡ bounds_due (scope_with fs ks m (loops_of n l h)) at x
unfolding check_bounds
bounds_same fs ks m n l h at x =
    (λ j. scope_forms fs ks m n l h (due outer_index (bad_index 4 at) x) j >>= λ f. (scope_forms fs ks m n l h (due outer_index (bad_index 4 at) (drop 1 x)) j >>= λ g. good (record { low = f; high = g })))

-- a scope by equal parts
pub same_scope : (fs : List Signature) (ks : List Kind) {m p n o : ℕ} {l k h j : List (List ℤ)} → m ≡ p → n ≡ o → l ≡ k → h ≡ j → scope_with fs ks m (loops_of n l h) ≡ scope_with fs ks p (loops_of o k j)
same_scope fs ks a b c d = λ i. scope_with fs ks (a i) (loops_of (b i) (c i) (d i))

pub rows_set : (fs : List (List ℤ)) (n i : ℕ) (l : List ℤ) → Rows fs n → Kept l → Rows (set fs i l) n
rows_set fs n i l r k = record {
  enough = (let e = r.enough in omega (arith, length-set fs i l));
  each = λ j h. by j h (eqb j i) refl;
}
  where
    by : (j : ℕ) → j < n → (t : Bool) → eqb j i ≡ t → Kept (get_or (set fs i l) j [])
    by j h true e =
        let z : j ≡ i = eqb-true j i e in
        let q : i < length fs = (let y = r.enough in omega arith) in
        rw (z, get_or-set_same fs i l [] q) k
    by j h false e = rw (get_or-set_other fs i j l [] (eqb-false j i e)) (r.each j h)
