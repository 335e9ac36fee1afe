-- Rows of the table of operands that change, and those that stay. Assumes nothing.
use mathlib.Core.Path.{◌≡◌, refl, ap, ◌∙◌}
use mathlib.Core.List.{List, []}
use mathlib.Core.Bool.{Bool, true, false}
use Prim.Native.Nat.{ℕ, ◌+◌, ◌*◌, ◌/◌, ◌%◌, ◌≤◌, ◌<◌}
use native.Mathlib.Omega.{arith}
use lib.Arith.{digits_div, digits_mod}
use lib.Dec.{eqb}
use lib.IntN.{ℤ}
use lib.ListN.{length, get_or, set, length-set}
use lib.Seq.{get_or-set_same, get_or-set_other}
use borrow.Author.Tests.{eqb-true, eqb-false}
use Rattle.language.specs.Limits.{most_registers}
use Rattle.kinds.specs.Numbers.{number_of, kind_with, kind_back}
use Rattle.kinds.specs.declared.Kind.{Kind}
use Rattle.kinds.specs.declared.Kind.TheVariants.{Qubit, Quantum, Classical, Family}
use Rattle.forms.specs.Flat.{Short, widened, as_form}
use Rattle.forms.specs.Rows.{ShortRows}
use Rattle.check_operand.specs.Tables.{Formals, kind_of_row, size_of_row, kind_in, kind_by, kind_at, kinds_at}
use Rattle.check_operand.proofs.Tables.{rows_same}
use Rattle.check_declaration.specs.Types.{size_row, row_number, OperandTable, InUse, InUseAfter, Apart}
use Rattle.std.specs.Prelude.{Result, Ok}
use Rattle.refusals.specs.declared.Refusal.{Refusal}

short_set : (rows : List (List ℤ)) (n i : ℕ) (l : List ℤ) → ShortRows rows n → Short l → ShortRows (set rows i l) n
short_set rows n i l r k = record {
  enough = (let e = r.enough in omega (arith, length-set rows i l));
  each = λ j h. by j h (eqb j i) refl;
}
  where
    by : (j : ℕ) → j < n → (t : Bool) → eqb j i ≡ t → Short (get_or (set rows i l) j [])
    by j h true e =
        let z : j ≡ i = eqb-true j i e in
        let q : i < length rows = (let y = r.enough in omega arith) in
        rw (z, get_or-set_same rows i l [] q) k
    by j h false e = rw (get_or-set_other rows i j l [] (eqb-false j i e)) (r.each j h)

pub number_few : (k : Kind) → number_of k < 4
unfolding number_of
number_few Qubit = omega arith
number_few Quantum = omega arith
number_few Classical = omega arith
number_few Family = omega arith

-- the number for a kind and the row of a size stands for both
pub number_size : (k : Kind) (row b : ℕ) → b ≡ row_number k row → size_of_row b ≡ row
unfolding size_of_row
number_size k row b e = ap (λ (x : ℕ). x / 4) e ∙ digits_div row (number_few k)

pub number_kind : (k : Kind) (row b : ℕ) → b ≡ row_number k row → kind_of_row b ≡ k
unfolding kind_of_row
number_kind k row b e = ap (λ (x : ℕ). kind_with (x % 4)) e ∙ ap kind_with (digits_mod row (number_few k)) ∙ kind_back k

pub apart_none : (bytes first count : ℕ) (kinds : List ℕ) (sizes : List (List ℤ)) → OperandTable bytes kinds sizes → Apart bytes first count kinds sizes kinds sizes
apart_none bytes first count kinds sizes t = record { table = t; kinds_same = refl; sizes_same = refl; below = λ j h. refl; above = λ j h. refl; kinds_below = λ formals j h. refl; kinds_above = λ formals j h. refl }

-- the rows in use are in use before a later place, too
pub in_use_later : (rows more registers at to : ℕ) (kinds : List ℕ) → InUse rows registers at kinds → at ≤ to → 3 * more ≤ 3 * most_registers + to → InUse more registers to kinds
in_use_later rows more registers at to kinds u h k = record { few = k; few_registers = u.few_registers; named = λ j. omega (arith, u.named j) }

pub in_use_upto : (rows registers n : ℕ) (r : Result ℕ Refusal) (kinds : List ℕ) → r ≡ Ok n → InUseAfter rows registers r kinds → InUse rows registers n kinds
in_use_upto rows registers n r kinds e h = rw e at h

-- a row that names a size of an earlier row than the next
named_set : (kinds : List ℕ) (row b own next : ℕ) → row < length kinds → ((j : ℕ) → size_of_row (get_or kinds j 0) < own) → size_of_row b < next → own ≤ next → (j : ℕ) → size_of_row (get_or (set kinds row b) j 0) < next
named_set kinds row b own next h n k q j = by (eqb j row) refl
  where
    by : (t : Bool) → eqb j row ≡ t → size_of_row (get_or (set kinds row b) j 0) < next
    by true e =
        let z : j ≡ row = eqb-true j row e in
        rw (z, get_or-set_same kinds row b 0 h) k
    by false e = rw (get_or-set_other kinds row j b 0 (eqb-false j row e)) (omega (arith, n j))

pub in_use_set : (rows more registers many at to : ℕ) (kinds : List ℕ) (row b : ℕ) → InUse rows registers at kinds → row < length kinds → size_of_row b < size_row to many → at + 2 * registers ≤ to + 2 * many → 3 * more ≤ 3 * most_registers + to → many ≤ most_registers → InUse more many to (set kinds row b)
in_use_set rows more registers many at to kinds row b u h k q f m = record { few = f; few_registers = m; named = named_set kinds row b (size_row at registers) (size_row to many) h u.named k (omega arith) }

module _ (bytes row : ℕ) (kinds : List ℕ) (sizes : List (List ℤ)) (t : OperandTable bytes kinds sizes) (h : row < length kinds) (b : ℕ) where
  kinds_set : OperandTable bytes (set kinds row b) sizes
  kinds_set = record { kinds_long = rw (length-set kinds row b) t.kinds_long; sizes_long = t.sizes_long; size_rows = t.size_rows }

  pub apart_kind : Apart bytes row 1 kinds sizes (set kinds row b) sizes
  apart_kind = record {
    table = kinds_set;
    kinds_same = length-set kinds row b;
    sizes_same = refl;
    below = λ j k. get_or-set_other kinds row j b 0 (λ e. omega arith);
    above = λ j k. get_or-set_other kinds row j b 0 (λ e. omega arith);
    kinds_below = λ formals j k. ap (λ (x : ℕ). kind_by formals x sizes) (get_or-set_other kinds row j b 0 (λ e. omega arith));
    kinds_above = λ formals j k. ap (λ (x : ℕ). kind_by formals x sizes) (get_or-set_other kinds row j b 0 (λ e. omega arith));
  }

  pub row_kind : (formals : Formals) → kind_at formals row (set kinds row b) sizes ≡ kind_by formals b sizes
  row_kind formals = ap (λ (x : ℕ). kind_by formals x sizes) (get_or-set_same kinds row b 0 h)

  module _ (own : ℕ) (l : List ℤ) (k : Short l) (n : (j : ℕ) → size_of_row (get_or kinds j 0) < own) (q : own < length sizes) where
    pub apart_both : Apart bytes row 1 kinds sizes (set kinds row b) (set sizes own l)
    apart_both = record {
      table = record {
        kinds_long = kinds_set.kinds_long;
        sizes_long = omega (arith, t.sizes_long, length-set sizes own l);
        size_rows = rw (length-set sizes own l) (short_set sizes (length sizes) own l t.size_rows k);
      };
      kinds_same = length-set kinds row b;
      sizes_same = length-set sizes own l;
      below = λ j p. get_or-set_other kinds row j b 0 (λ e. omega arith);
      above = λ j p. get_or-set_other kinds row j b 0 (λ e. omega arith);
      kinds_below = λ formals j p. other formals j (λ e. omega arith);
      kinds_above = λ formals j p. other formals j (λ e. omega arith);
    }
      where
        other : (formals : Formals) (j : ℕ) → (j ≡ row → ⊥) → kind_at formals j (set kinds row b) (set sizes own l) ≡ kind_at formals j kinds sizes
        other formals j d =
            ap (λ (x : ℕ). kind_by formals x (set sizes own l)) (get_or-set_other kinds row j b 0 d)
            ∙ ap (λ (x : List ℤ). kind_in (kind_of_row (get_or kinds j 0)) (as_form (widened x)) (formals (size_of_row (get_or kinds j 0)))) (get_or-set_other sizes own (size_of_row (get_or kinds j 0)) l [] (λ e. omega (arith, n j)))

    pub row_both : (kind : Kind) → b ≡ row_number kind own → (formals : Formals) → kind_at formals row (set kinds row b) (set sizes own l) ≡ kind_in kind (as_form (widened l)) (formals own)
    row_both kind e formals =
        ap (λ (x : ℕ). kind_by formals x (set sizes own l)) (get_or-set_same kinds row b 0 h)
        ∙ (λ i. kind_in (number_kind kind own b e i) (as_form (widened (get_or (set sizes own l) (number_size kind own b e i) []))) (formals (number_size kind own b e i)))
        ∙ ap (λ (x : List ℤ). kind_in kind (as_form (widened x)) (formals own)) (get_or-set_same sizes own l [] q)

-- one row more
pub apart_more : (bytes first count j : ℕ) {k₀ : List ℕ} {s₀ : List (List ℤ)} {k₁ : List ℕ} {s₁ : List (List ℤ)} {k₂ : List ℕ} {s₂ : List (List ℤ)}
    → j < count → Apart bytes first count k₀ s₀ k₁ s₁ → Apart bytes (first + j) 1 k₁ s₁ k₂ s₂ → Apart bytes first count k₀ s₀ k₂ s₂
apart_more bytes first count j h a b = record {
  table = b.table;
  kinds_same = b.kinds_same ∙ a.kinds_same;
  sizes_same = b.sizes_same ∙ a.sizes_same;
  below = λ i q. b.below i (omega arith) ∙ a.below i q;
  above = λ i q. b.above i (omega arith) ∙ a.above i q;
  kinds_below = λ formals i q. b.kinds_below formals i (omega arith) ∙ a.kinds_below formals i q;
  kinds_above = λ formals i q. b.kinds_above formals i (omega arith) ∙ a.kinds_above formals i q;
}

-- so many rows are the same where no row of theirs changes
pub rows_below : (bytes first count n i : ℕ) {k₀ : List ℕ} {s₀ : List (List ℤ)} {k₁ : List ℕ} {s₁ : List (List ℤ)}
    → Apart bytes first count k₀ s₀ k₁ s₁ → i + n ≤ first → (formals : Formals) → kinds_at formals n i k₁ s₁ ≡ kinds_at formals n i k₀ s₀
rows_below bytes first count n i {k₀} {s₀} {k₁} {s₁} a h formals = rows_same (λ j. kind_at formals j k₁ s₁) (λ j. kind_at formals j k₀ s₀) n i (λ j p q. a.kinds_below formals j (omega arith))

pub rows_above : (bytes first count n i : ℕ) {k₀ : List ℕ} {s₀ : List (List ℤ)} {k₁ : List ℕ} {s₁ : List (List ℤ)}
    → Apart bytes first count k₀ s₀ k₁ s₁ → first + count ≤ i → (formals : Formals) → kinds_at formals n i k₁ s₁ ≡ kinds_at formals n i k₀ s₀
rows_above bytes first count n i {k₀} {s₀} {k₁} {s₁} a h formals = rows_same (λ j. kind_at formals j k₁ s₁) (λ j. kind_at formals j k₀ s₀) n i (λ j p q. a.kinds_above formals j (omega arith))
