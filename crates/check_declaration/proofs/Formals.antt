-- What family parameters take: their rows, those that stay, and one more. Assumes nothing.
use mathlib.Core.Path.{◌≡◌, refl, sym, ap, ◌∙◌}
use mathlib.Core.List.{List, [], ◌∷◌, map}
use mathlib.Core.Bool.{Bool, true, false}
use mathlib.Core.Option.{Option}
use Prim.Native.Nat.{ℕ, zero, suc, ◌+◌, ◌-◌, ◌*◌, ◌/◌, ◌≤◌, ◌<◌}
use native.Mathlib.Omega.{arith}
use lib.Dec.{eqb, ltb}
use lib.IntN.{ℤ}
use lib.ListN.{length, get_or, set, length-set}
use lib.Seq.{get_or-set_same, get_or-set_other}
use borrow.Author.Tests.{eqb-true, eqb-false, ltb-true, ltb-false}
use Rattle.language.specs.Limits.{most_families, most_variables}
use Rattle.language.specs.Form.{Form}
use Rattle.language.specs.Check.{Formal, plain_size}
use Rattle.kinds.specs.declared.Kind.{Kind}
use Rattle.kinds.specs.declared.Kind.TheVariants.{Qubit, Quantum, Classical, Family}
use Rattle.forms.specs.Flat.{widened, as_form}
use Rattle.check_operand.specs.Tables.{Formals, kind_in, kind_of_row, size_of_row, kind_at, kinds_at, tabulated}
use Rattle.check_operand.proofs.Tables.{rows_same}
use Rattle.check_call.specs.Calls.{plain_in, plain_by, plains_at, formal_in, formal_at, IsPlain}
use Rattle.check_index.specs.Answers.{Passes}
use Rattle.std.specs.Prelude.{Result, Ok, Err}
use Rattle.refusals.specs.declared.Refusal.{Refusal}
use Rattle.check_declaration.specs.Types.{size_row, plain_row, row_number, OperandTable, InUse, InUseAfter, Apart, TypesWithin, PlainRows, PlainAfter, FormalRight, FormalsIn, FormalsAfter, Stays}
use Rattle.check_declaration.proofs.Tables.{number_kind, apart_kind}

-- ---- plain rows

-- a number put into a row is of its kind
pub set_plain : (kinds : List ℕ) (row b : ℕ) (k : Kind) (own : ℕ) → row < length kinds → b ≡ row_number k own → IsPlain k → PlainRows 1 row (set kinds row b)
set_plain kinds row b k own h e p i q = let z : row + i ≡ row = omega arith in rw (z, get_or-set_same kinds row b 0 h, number_kind k own b e) p

pub no_plain : (first : ℕ) (kinds : List ℕ) → PlainRows 0 first kinds
no_plain first kinds i h = absurd (omega arith)

pub more_plain : (bytes first j : ℕ) (k₀ k₁ : List ℕ) (s₀ s₁ : List (List ℤ)) → PlainRows j first k₀ → Apart bytes (first + j) 1 k₀ s₀ k₁ s₁ → PlainRows 1 (first + j) k₁ → PlainRows (j + 1) first k₁
more_plain bytes first j k₀ k₁ s₀ s₁ p a q i h = by (ltb i j) refl
  where
    by : (t : Bool) → ltb i j ≡ t → IsPlain (kind_of_row (get_or k₁ (first + i) 0))
    by true e = let l = ltb-true i j e in rw (a.below (first + i) (omega arith)) (p i l)
    by false e =
        let l = ltb-false i j e in
        let z : first + i ≡ first + j + 0 = omega arith in
        rw z (q 0 (omega arith))

pub plain_upto : (r : Result ℕ Refusal) (n count first : ℕ) (kinds : List ℕ) → r ≡ Ok n → PlainAfter r count first kinds → PlainRows count first kinds
plain_upto r n count first kinds e h = rw e at h

pub within_upto : (at to count : ℕ) (r : Result ℕ Refusal) (n : ℕ) → r ≡ Ok n → TypesWithin at to count r → (at + 3 * count ≤ n) × (n ≤ to)
within_upto at to count r n e h = rw e at h

-- ---- what a family parameter takes, from its rows

plain_size_lem : (k : Kind) (f : Form) (g : Formal) → plain_size (kind_in k f g) ≡ plain_in k f
unfolding plain_size kind_in plain_in
plain_size_lem Qubit f g = refl
plain_size_lem Quantum f g = refl
plain_size_lem Classical f g = refl
plain_size_lem Family f g = refl

-- a row whose kind stays has the same size
plain_stays : (formals : Formals) (j : ℕ) (k₀ : List ℕ) (s₀ : List (List ℤ)) (k₁ : List ℕ) (s₁ : List (List ℤ)) → kind_at formals j k₁ s₁ ≡ kind_at formals j k₀ s₀ → plain_by (get_or k₁ j 0) s₁ ≡ plain_by (get_or k₀ j 0) s₀
plain_stays formals j k₀ s₀ k₁ s₁ e = sym (plain_size_lem (kind_of_row (get_or k₁ j 0)) _ _) ∙ ap plain_size e ∙ plain_size_lem (kind_of_row (get_or k₀ j 0)) _ _

pub sizes_are : (formals : Formals) (n i : ℕ) (kinds : List ℕ) (sizes : List (List ℤ)) → map plain_size (kinds_at formals n i kinds sizes) ≡ plains_at n i kinds sizes
unfolding tabulated
sizes_are formals zero i kinds sizes = refl
sizes_are formals (suc n) i kinds sizes = λ j. plain_size_lem (kind_of_row (get_or kinds i 0)) (as_form (widened (get_or sizes (size_of_row (get_or kinds i 0)) []))) (formals (size_of_row (get_or kinds i 0))) j ∷ sizes_are formals n (suc i) kinds sizes j

-- rows that stay take the same
formal_stays : (formals : Formals) (row : List ℕ) (k₀ : List ℕ) (s₀ : List (List ℤ)) (k₁ : List ℕ) (s₁ : List (List ℤ)) → ((j : ℕ) → get_or row 2 0 ≤ j → j < get_or row 2 0 + get_or row 1 0 → kind_at formals j k₁ s₁ ≡ kind_at formals j k₀ s₀) → formal_in row k₁ s₁ ≡ formal_in row k₀ s₀
formal_stays formals row k₀ s₀ k₁ s₁ h =
    ap (λ (l : List (Option Form)). record { variables = get_or row 0 0; sizes = l })
    (rows_same (λ j. plain_by (get_or k₁ j 0) s₁) (λ j. plain_by (get_or k₀ j 0) s₀) (get_or row 1 0) (get_or row 2 0) (λ j p q. plain_stays formals j k₀ s₀ k₁ s₁ (h j p q)))

-- rows of operands that change in one half, or behind those in use
module _ (bytes first count at : ℕ) (families : List (List ℕ)) {k₀ : List ℕ} {s₀ : List (List ℤ)} {k₁ : List ℕ} {s₁ : List (List ℤ)} (f : FormalsIn at families k₀) (a : Apart bytes first count k₀ s₀ k₁ s₁) where
  at_row : (x j : ℕ) → get_or (get_or families (most_families + x) []) 2 0 ≤ j → j < get_or (get_or families (most_families + x) []) 2 0 + get_or (get_or families (most_families + x) []) 1 0 → (length k₀ / 2 ≤ j) × (j < plain_row (length k₀) at)
  at_row x j p q =
      let row = get_or families (most_families + x) [] in
      let i = j - get_or row 2 0 in
      let e : get_or row 2 0 + i ≡ j = omega arith in
      let z : i < get_or row 1 0 = omega arith in
      (omega (arith, (f x).low i z), omega (arith, (f x).high i z))

  module _ (h : first + count ≤ length k₀ / 2) where
    pub taken_lower : (x : ℕ) → formal_at families k₁ s₁ x ≡ formal_at families k₀ s₀ x
    taken_lower x = formal_stays (formal_at families k₀ s₀) (get_or families (most_families + x) []) k₀ s₀ k₁ s₁ (λ j p q. a.kinds_above (formal_at families k₀ s₀) j (omega (arith, (at_row x j p q).0)))

    pub formals_lower : (to : ℕ) → at ≤ to → FormalsIn to families k₁
    formals_lower to t x =
        let r = f x in
        let e = a.kinds_same in
        record {
          few = r.few;
          inside = omega (arith, r.inside);
          low = λ i z. rw e (r.low i z);
          high = λ i z. rw e (omega (arith, r.high i z));
          plain = λ i z. rw (a.above (get_or (get_or families (most_families + x) []) 2 0 + i) (omega (arith, r.low i z))) (r.plain i z);
        }

  module _ (h : plain_row (length k₀) at ≤ first) where
    pub taken_upper : (x : ℕ) → formal_at families k₁ s₁ x ≡ formal_at families k₀ s₀ x
    taken_upper x = formal_stays (formal_at families k₀ s₀) (get_or families (most_families + x) []) k₀ s₀ k₁ s₁ (λ j p q. a.kinds_below (formal_at families k₀ s₀) j (omega (arith, (at_row x j p q).1)))

    pub formals_upper : FormalsIn at families k₁
    formals_upper x =
        let r = f x in
        let e = a.kinds_same in
        record {
          few = r.few;
          inside = omega (arith, r.inside);
          low = λ i z. rw e (r.low i z);
          high = λ i z. rw e (r.high i z);
          plain = λ i z. rw (a.below (get_or (get_or families (most_families + x) []) 2 0 + i) (omega (arith, r.high i z))) (r.plain i z);
        }

-- ---- a parameter more

-- a plain one: the table of families stays
pub stays_plain : (bytes row at registers : ℕ) (families : List (List ℕ)) {k₀ : List ℕ} {s₀ : List (List ℤ)} {k₁ : List ℕ} {s₁ : List (List ℤ)} → FormalsIn at families k₀ → Apart bytes row 1 k₀ s₀ k₁ s₁ → row < length k₀ / 2 → Stays bytes row at registers families k₀ s₀ families k₁ s₁
stays_plain bytes row at registers families f a h = record {
  table = a.table;
  families_same = refl;
  kinds_same = a.kinds_same;
  sizes_same = a.sizes_same;
  declared = λ k p. refl;
  below = λ formals j p. a.kinds_below formals j p;
  numbers = λ j p. a.below j p;
  taken = λ x p. taken_lower bytes row 1 at families f a (omega arith) x;
}

pub stays_none : (bytes row at registers : ℕ) (families : List (List ℕ)) (kinds : List ℕ) (sizes : List (List ℤ)) → OperandTable bytes kinds sizes → Stays bytes row at registers families kinds sizes families kinds sizes
stays_none bytes row at registers families kinds sizes t = record { table = t; families_same = refl; kinds_same = refl; sizes_same = refl; declared = λ k p. refl; below = λ formals j p. refl; numbers = λ j p. refl; taken = λ x p. refl }

-- where a part of it was right only
pub stays_upper : (bytes row first count at registers : ℕ) (families : List (List ℕ)) {k₀ : List ℕ} {s₀ : List (List ℤ)} {k₁ : List ℕ} {s₁ : List (List ℤ)} → FormalsIn at families k₀ → Apart bytes first count k₀ s₀ k₁ s₁ → plain_row (length k₀) at ≤ first → row < length k₀ / 2 → Stays bytes row at registers families k₀ s₀ families k₁ s₁
stays_upper bytes row first count at registers families f a h l = record {
  table = a.table;
  families_same = refl;
  kinds_same = a.kinds_same;
  sizes_same = a.sizes_same;
  declared = λ k p. refl;
  below = λ formals j p. a.kinds_below formals j (omega arith);
  numbers = λ j p. a.below j (omega arith);
  taken = λ x p. taken_upper bytes first count at families f a h x;
}

-- a family: its plain types stand in so many rows from a first one on, its own row behind those of the families, and its number in a row
module _ (bytes row first count at next registers : ℕ) (families : List (List ℕ)) {k₀ : List ℕ} {s₀ : List (List ℤ)} {k₁ : List ℕ} {s₁ : List (List ℤ)} (f : FormalsIn at families k₀) (a : Apart bytes first count k₀ s₀ k₁ s₁)
    (starts : first ≡ plain_row (length k₀) at) (low : row < length k₀ / 2) (m own b : ℕ) (is : own ≡ size_row at registers) (u : b ≡ row_number Family own) (inside : most_families + own < length families) where
  abbrev entry : List ℕ
  entry = m ∷ count ∷ first ∷ []

  abbrev families₁ : List (List ℕ)
  families₁ = set families (most_families + own) entry

  abbrev kinds₁ : List ℕ
  kinds₁ = set k₁ row b

  wide : row < length k₁
  wide = omega (arith, a.kinds_same)

  last : Apart bytes row 1 k₁ s₁ kinds₁ s₁
  last = apart_kind bytes row k₁ s₁ a.table wide b

  between : FormalsIn at families k₁
  between = formals_upper bytes first count at families f a (omega arith)

  half : row + 1 ≤ length k₁ / 2
  half = rw a.kinds_same (omega arith)

  pub stays_family : Stays bytes row at registers families k₀ s₀ families₁ kinds₁ s₁
  stays_family = record {
    table = last.table;
    families_same = length-set families (most_families + own) entry;
    kinds_same = last.kinds_same ∙ a.kinds_same;
    sizes_same = a.sizes_same;
    declared = λ k p. get_or-set_other families (most_families + own) k entry [] (λ e. omega arith);
    below = λ formals j p. last.kinds_below formals j p ∙ a.kinds_below formals j (omega arith);
    numbers = λ j p. last.below j p ∙ a.below j (omega arith);
    taken = λ x p. ap (λ (l : List ℕ). formal_in l kinds₁ s₁) (get_or-set_other families (most_families + own) (most_families + x) entry [] (λ e. omega arith))
        ∙ taken_lower bytes row 1 at families between last half x ∙ taken_upper bytes first count at families f a (omega arith) x;
  }

  module _ (few : m ≤ most_variables) (room : first + count ≤ length k₀) (far : at + 3 * count + 5 ≤ next) (p : PlainRows count first k₁) where
    own_right : FormalRight entry (plain_row (length kinds₁) next) kinds₁
    own_right =
        let e : length kinds₁ ≡ length k₀ = last.kinds_same ∙ a.kinds_same in
        record {
          few = few;
          inside = rw e room;
          low = λ i z. rw e (omega arith);
          high = λ i z. rw e (omega arith);
          plain = λ i z. rw (last.above (first + i) (omega arith)) (p i z);
        }

    pub formals_family : FormalsIn next families₁ kinds₁
    formals_family x = by (eqb x own) refl
      where
        by : (t : Bool) → eqb x own ≡ t → FormalRight (get_or families₁ (most_families + x) []) (plain_row (length kinds₁) next) kinds₁
        by true e =
            let z : most_families + x ≡ most_families + own = ap (λ (k : ℕ). most_families + k) (eqb-true x own e) in
            rw (z, get_or-set_same families (most_families + own) entry [] inside) own_right
        by false e =
            let d = eqb-false x own e in
            rw (get_or-set_other families (most_families + own) (most_families + x) entry [] (λ q. d (omega arith))) (formals_lower bytes row 1 at families between last half next (omega arith) x)

  -- what it takes
  pub family_takes : (formals : Formals) → formal_at families₁ kinds₁ s₁ own ≡ record { variables = m; sizes = map plain_size (kinds_at formals count first k₁ s₁) }
  family_takes formals =
      ap (λ (l : List ℕ). formal_in l kinds₁ s₁) (get_or-set_same families (most_families + own) entry [] inside)
      ∙ formal_stays formals entry k₁ s₁ kinds₁ s₁ (λ j x y. last.kinds_above formals j (omega arith))
      ∙ ap (λ (l : List (Option Form)). record { variables = m; sizes = l }) (sym (sizes_are formals count first k₁ s₁))

-- ---- what stays, one parameter after the other

pub stays_more : (bytes first at from registers j : ℕ) {f₀ : List (List ℕ)} {k₀ : List ℕ} {s₀ : List (List ℤ)} {f₁ : List (List ℕ)} {k₁ : List ℕ} {s₁ : List (List ℤ)} {f₂ : List (List ℕ)} {k₂ : List ℕ} {s₂ : List (List ℤ)}
    → at ≤ from → Stays bytes first at registers f₀ k₀ s₀ f₁ k₁ s₁ → Stays bytes (first + j) from registers f₁ k₁ s₁ f₂ k₂ s₂ → Stays bytes first at registers f₀ k₀ s₀ f₂ k₂ s₂
stays_more bytes first at from registers j h a b = record {
  table = b.table;
  families_same = b.families_same ∙ a.families_same;
  kinds_same = b.kinds_same ∙ a.kinds_same;
  sizes_same = b.sizes_same ∙ a.sizes_same;
  declared = λ k p. b.declared k p ∙ a.declared k p;
  below = λ formals i p. b.below formals i (omega arith) ∙ a.below formals i p;
  numbers = λ i p. b.numbers i (omega arith) ∙ a.numbers i p;
  taken = λ x p. b.taken x (omega arith) ∙ a.taken x p;
}

-- kinds of rows in use stay, with what family parameters among them take
pub kind_stays : (bytes rows first at registers j : ℕ) {f₀ : List (List ℕ)} {k₀ : List ℕ} {s₀ : List (List ℤ)} {f₁ : List (List ℕ)} {k₁ : List ℕ} {s₁ : List (List ℤ)} → InUse rows registers at k₀ → Stays bytes first at registers f₀ k₀ s₀ f₁ k₁ s₁ → j < first
    → kind_at (formal_at f₁ k₁ s₁) j k₁ s₁ ≡ kind_at (formal_at f₀ k₀ s₀) j k₀ s₀
kind_stays bytes rows first at registers j {f₀} {k₀} {s₀} {f₁} {k₁} {s₁} u a h =
    a.below (formal_at f₁ k₁ s₁) j h
    ∙ ap (λ (g : Formal). kind_in (kind_of_row (get_or k₀ j 0)) (as_form (widened (get_or s₀ (size_of_row (get_or k₀ j 0)) []))) g) (a.taken (size_of_row (get_or k₀ j 0)) (u.named j))

pub kinds_stay : (bytes rows first at registers n i : ℕ) {f₀ : List (List ℕ)} {k₀ : List ℕ} {s₀ : List (List ℤ)} {f₁ : List (List ℕ)} {k₁ : List ℕ} {s₁ : List (List ℤ)} → InUse rows registers at k₀ → Stays bytes first at registers f₀ k₀ s₀ f₁ k₁ s₁ → i + n ≤ first
    → kinds_at (formal_at f₁ k₁ s₁) n i k₁ s₁ ≡ kinds_at (formal_at f₀ k₀ s₀) n i k₀ s₀
kinds_stay bytes rows first at registers n i {f₀} {k₀} {s₀} {f₁} {k₁} {s₁} u a h =
    rows_same (λ j. kind_at (formal_at f₁ k₁ s₁) j k₁ s₁) (λ j. kind_at (formal_at f₀ k₀ s₀) j k₀ s₀) n i (λ j p q. kind_stays bytes rows first at registers j u a (omega arith))

-- the families' rows are right before a later place, too
pub formals_later : (at to : ℕ) (families : List (List ℕ)) (kinds : List ℕ) → at ≤ to → FormalsIn at families kinds → FormalsIn to families kinds
formals_later at to families kinds h f x = let r = f x in record { few = r.few; inside = r.inside; low = r.low; high = λ i z. omega (arith, r.high i z); plain = r.plain }

pub formals_upto : (n : ℕ) (r : Result ℕ Refusal) (families : List (List ℕ)) (kinds : List ℕ) → r ≡ Ok n → FormalsAfter r families kinds → FormalsIn n families kinds
formals_upto n r families kinds e h = rw e at h

-- a plain parameter in its row
pub plain_after : (program : List ℕ) (at to row registers : ℕ) (r : Result ℕ Refusal) (k₀ k₁ : List ℕ) → InUse row registers at k₀ → Passes program at to r → InUseAfter 0 registers r k₁ → InUseAfter (row + 1) registers r k₁
plain_after program at to row registers (Ok n) k₀ k₁ u p h = record { few = omega (arith, u.few, p.low); few_registers = h.few_registers; named = h.named }
plain_after program at to row registers (Err e) k₀ k₁ u p h = tt

pub formals_after : (program : List ℕ) (bytes row at to : ℕ) (r : Result ℕ Refusal) (families : List (List ℕ)) {k₀ : List ℕ} {s₀ : List (List ℤ)} {k₁ : List ℕ} {s₁ : List (List ℤ)} → FormalsIn at families k₀ → Apart bytes row 1 k₀ s₀ k₁ s₁ → row < length k₀ / 2 → Passes program at to r → FormalsAfter r families k₁
formals_after program bytes row at to (Ok n) families f a h p = formals_lower bytes row 1 at families f a (omega arith) n (omega (arith, p.low))
formals_after program bytes row at to (Err e) families f a h p = tt
