-- A plain type, and types one after the other. Assumes nothing.
use mathlib.Core.Path.{◌≡◌, refl, sym, ap, ◌∙◌}
use mathlib.Core.List.{List, [], ◌∷◌, ◌++◌, append_assoc}
use Prim.Native.Nat.{ℕ, ◌+◌, ◌≤◌, ◌<◌, suc}
use native.Mathlib.Omega.{arith}
use lib.ListN.{length, get_or, drop, set}
use lib.Seq.{slice}
use lib.IntN.{ℤ}
use borrow.Author.Tests.{ne_eqb}
use native.Mathlib.Decide.{dec_lt}
use Rattle.language.specs.Tree.{bad_index, bad_type}
use Rattle.language.specs.Form.{Form, built}
use Rattle.language.specs.Read.{Field, field, Reader, choose, due, ending, fields_after, qbits_of, outer_index, read_index, index_by, read_literal, read_variable, operation_of, read_plain, read_qbit, bad_header, parts_of, read_type}
use Rattle.language.proofs.ReadLaws.{AllRows, choose_all}
use Rattle.language.specs.Check.{Checked, good, refused, ◌>>=◌, ◌>>◌, Kind, qubit, quantum, Signature, form_of, must_show, plain_kind, plain_kinds, no_leftover, kind_of, kinds_of}
use Rattle.fields.proofs.Headers.{Wholly, View, ends, cuts, goes, view, one_byte, slice_none}
use Rattle.fields.specs.Header.{fields_at}
use Rattle.forms.specs.Flat.{Kept, as_form, Short, widened}
use Rattle.check_index.proofs.Answers.{more_left, none_left, then_upto}
use Rattle.check_index.specs.Answers.{PastField, FormEndsAt, checked_form, checked_part}
use Rattle.check_index.specs.Indexes.{scope_of}
use Rattle.kinds.specs.declared.Kind as K
use Rattle.kinds.specs.declared.Kind.TheVariants.{Qubit, Quantum}
use Rattle.check_operand.specs.Tables.{Formals, scope_with, kind_in, size_of_row, kind_at, kinds_at, tabulated}
use Rattle.check_declaration.specs.Types.{row_number, checked_sized_type, checked_type, TypePasses, OperandTable, checked_row, checked_rows}
use Rattle.std.specs.Prelude.{Result, Ok, Err}
use Rattle.refusals.specs.Reasons.{number_of}
use Rattle.refusals.specs.declared.Refusal.{Refusal}
use Rattle.check_operand.proofs.Tables.{same_forms, row_more}
use Rattle.check_declaration.specs.declared.PlainType.{PlainType}
use Rattle.check_declaration.specs.declared.PlainType.TheVariants.{Single, Many}
use Rattle.check_declaration.proofs.Tables.{number_kind, row_kind, row_both}
use Rattle.language.specs.Tree as T
use Rattle.language.specs.Check as C

pub size_stops : (r : Result ℕ Refusal) (l : List ℤ) (next : Form → Checked Kind) (k : List ℤ) {e : Refusal} → r ≡ Err e → checked_sized_type (Err e) k ≡ (checked_form r l >>= next)
unfolding checked_sized_type checked_form ◌>>=◌
size_stops r l next k h = sym (ap (λ (x : Result ℕ Refusal). checked_form x l >>= next) h)

pub shown_stops : (t : Result ℕ Refusal) (next : Checked Kind) (k : List ℤ) {e : Refusal} → t ≡ Err e → checked_sized_type (Err e) k ≡ (checked_part t >> next)
unfolding checked_sized_type checked_part ◌>>◌
shown_stops t next k h = sym (ap (λ (x : Result ℕ Refusal). checked_part x >> next) h)

module _ (fs : List Signature) (ks : List Kind) (m : ℕ) (program : List ℕ) (at next : ℕ) (r : Result ℕ Refusal) (l : List ℤ) (e : checked_form r l ≡ form_of (scope_of m) (due outer_index (bad_index 4 at) (fields_at program (at + 3) next))) where
  abbrev pub typed : Checked Kind
  typed = plain_kind (scope_with fs ks m []) (qbits_of at (fields_at program (at + 3) next))

  abbrev finish : List Field → Form → Checked Kind
  finish gs f = no_leftover at (ending gs) >> (must_show at (scope_with fs ks m []) (built f) >> good (quantum f))

  typed_is : typed ≡ (checked_form r l >>= finish (drop 1 (fields_at program (at + 3) next)))
  unfolding plain_kind qbits_of scope_of
  typed_is = ap (λ (c : Checked Form). c >>= finish (drop 1 (fields_at program (at + 3) next))) (sym (e ∙ same_forms (scope_of m) (scope_with fs ks m []) (due outer_index (bad_index 4 at) (fields_at program (at + 3) next)) refl))

  pub type_stops : (k : List ℤ) {e : Refusal} → r ≡ Err e → checked_sized_type (Err e) k ≡ typed
  type_stops k h = size_stops r l (finish (drop 1 (fields_at program (at + 3) next))) k h ∙ sym typed_is

  module _ (end : ℕ) (u : r ≡ Ok end) (v : PastField program (at + 3) next end) where
    type_end : typed ≡ finish (fields_at program end next) (as_form l)
    unfolding checked_form ◌>>=◌
    type_end = typed_is ∙ ap (λ (x : Result ℕ Refusal). checked_form x l >>= finish (drop 1 (fields_at program (at + 3) next))) u ∙ ap (λ (gs : List Field). finish gs (as_form l)) v.rest

    pub type_long : end < next → next ≤ length program → refused 4 at ≡ typed
    unfolding no_leftover ◌>>◌
    type_long h k = sym (type_end ∙ ap (λ (x : T.Ending). no_leftover at x >> (must_show at (scope_with fs ks m []) (built (as_form l)) >> good (quantum (as_form l)))) (more_left program end next h k))

    module _ (h : next ≤ end) (t : Result ℕ Refusal) (d : checked_part t ≡ must_show at (scope_with fs ks m []) (built (as_form l))) where
      type_shown : typed ≡ (checked_part t >> good (quantum (as_form l)))
      unfolding no_leftover ◌>>◌
      type_shown =
          type_end ∙ ap (λ (x : T.Ending). no_leftover at x >> (must_show at (scope_with fs ks m []) (built (as_form l)) >> good (quantum (as_form l)))) (none_left program end next h)
          ∙ ap (λ (c : Checked (Unit {0})). c >> good (quantum (as_form l))) (sym d)

      pub type_not : (k : List ℤ) {e : Refusal} → t ≡ Err e → checked_sized_type (Err e) k ≡ typed
      type_not k q = shown_stops t (good (quantum (as_form l))) k q ∙ sym type_shown

      pub type_good : (n : ℕ) → t ≡ Ok n → checked_sized_type (Ok next) l ≡ typed
      unfolding checked_sized_type
      type_good n q = sym (type_shown ∙ then_upto t n (good (quantum (as_form l))) q)

-- an index takes 4 bytes at least, and so a type with a size takes 7
never : {A : Type 0} {B : Type 0} {a : A} {n p : ℕ} → refused n p ≡ good a → B
never e = absurd (let z : ◌≡◌ {A = ℕ} 0 1 = cc in omega arith)

Refuses : C.Scope → Reader T.Index → Type 0
Refuses s r = (p : ℕ) (f : Form) → form_of s (r p []) ≡ good f → ⊥

empty_refused : (s : C.Scope) (tag p : ℕ) (f : Form) → form_of s (outer_index (field p tag [])) ≡ good f → ⊥
unfolding read_index index_by Refuses AllRows read_literal read_variable operation_of form_of ◌>>=◌ fields_after due
empty_refused s tag p f e = choose_all (Refuses s) tag _ _ ((λ q g. never), ((λ q g. never), ((λ q g. never), ((λ q g. never), ((λ q g. never), tt))))) (λ q g. never) p f e

index_long : (s : C.Scope) (program : List ℕ) (at to p : ℕ) (f : Form) → to ≤ length program → form_of s (due outer_index (bad_index 4 p) (fields_at program at to)) ≡ good f → at + 4 ≤ to
unfolding due form_of read_index index_by
index_long s program at to p f h e = by (view program at to h)
  where
    by : View program at to → at + 4 ≤ to
    by (ends none k) = never (sym (ap (λ (fs : List Field). form_of s (due outer_index (bad_index 4 p) fs)) none) ∙ e)
    by (cuts one) = never (sym (ap (λ (fs : List Field). form_of s (due outer_index (bad_index 4 p) fs)) one) ∙ e)
    by (goes tag next w) = go (dec_lt (at + 3) next)
      where
        is : form_of s (outer_index (field at tag (slice (at + 3) next program))) ≡ good f
        is = sym (ap (λ (fs : List Field). form_of s (due outer_index (bad_index 4 p) fs)) w.first) ∙ e

        go : Dec (at + 3 < next) → at + 4 ≤ to
        go (yes k) = omega (arith, w.high)
        go (no k) = absurd (empty_refused s tag at f (sym (ap (λ (l : List ℕ). form_of s (outer_index (field at tag l))) (slice_none (at + 3) next program (omega arith))) ∙ is))

pub type_seven : (s : C.Scope) (program : List ℕ) (at next : ℕ) (k : Kind) → next ≤ length program → plain_kind s (qbits_of at (fields_at program (at + 3) next)) ≡ good k → at + 7 ≤ next
unfolding plain_kind qbits_of ◌>>=◌
type_seven s program at next k h e = go (form_of s (due outer_index (bad_index 4 at) (fields_at program (at + 3) next))) refl e
  where
    go : (c : Checked Form) → form_of s (due outer_index (bad_index 4 at) (fields_at program (at + 3) next)) ≡ c → (c >>= λ f. (no_leftover at (ending (drop 1 (fields_at program (at + 3) next))) >> (must_show at s (built f) >> good (quantum f)))) ≡ good k → at + 7 ≤ next
    go (good f) u v = omega (arith, index_long s program (at + 3) next at f h u)
    go (refused n p) u v = never v

module _ (s : C.Scope) (program : List ℕ) (at to parent : ℕ) where
  abbrev pub type_meant : Checked Kind
  type_meant = plain_kind s (due read_plain (bad_type 4 parent) (fields_at program at to))

  pub type_none : fields_at program at to ≡ [] → refused 4 parent ≡ type_meant
  unfolding due plain_kind
  type_none e = sym (ap (λ (fs : List Field). plain_kind s (due read_plain (bad_type 4 parent) fs)) e)

  pub type_cut : fields_at program at to ≡ (bad_header at ∷ []) → refused 2 at ≡ type_meant
  unfolding due plain_kind read_plain
  type_cut e = sym (ap (λ (fs : List Field). plain_kind s (due read_plain (bad_type 4 parent) fs)) e)

  module _ (tag next : ℕ) (w : Wholly program at to tag next) where
    type_is : type_meant ≡ plain_kind s (read_plain (field at tag (slice (at + 3) next program)))
    unfolding due
    type_is = ap (λ (fs : List Field). plain_kind s (due read_plain (bad_type 4 parent) fs)) w.first

    pub type_single : tag ≡ 16 → next ≤ at + 3 → good qubit ≡ type_meant
    unfolding read_plain choose read_qbit plain_kind no_leftover ending ◌>>◌
    type_single e h =
        sym (type_is ∙ ap (λ (t : ℕ). plain_kind s (read_plain (field at t (slice (at + 3) next program)))) e
        ∙ ap (λ (l : List ℕ). no_leftover at (ending l) >> good qubit) (slice_none (at + 3) next program h))

    pub type_more : tag ≡ 16 → at + 3 < next → next ≤ length program → refused 4 at ≡ type_meant
    unfolding read_plain choose read_qbit plain_kind no_leftover ending ◌>>◌
    type_more e h k =
        sym (type_is ∙ ap (λ (t : ℕ). plain_kind s (read_plain (field at t (slice (at + 3) next program)))) e
        ∙ ap (λ (l : List ℕ). no_leftover at (ending l) >> good qubit) (one_byte (at + 3) next program h k))

    pub type_many : tag ≡ 17 → plain_kind s (qbits_of at (fields_at program (at + 3) next)) ≡ type_meant
    unfolding read_plain choose fields_at
    type_many e = sym (type_is ∙ ap (λ (t : ℕ). plain_kind s (read_plain (field at t (slice (at + 3) next program)))) e)

    pub type_other : (tag ≡ 16 → ⊥) → (tag ≡ 17 → ⊥) → refused 3 at ≡ type_meant
    unfolding read_plain choose plain_kind
    type_other x y = sym (type_is ∙ rw (ne_eqb tag 16 x, ne_eqb tag 17 y))

pub ends_kept : (next : ℕ) (r : Result ℕ Refusal) (l : List ℤ) (n : ℕ) → r ≡ Ok n → FormEndsAt next r l → Kept l
ends_kept next r l n h e = (rw h at e).1

pub size_many : (r : Result ℕ Refusal) (l : List ℤ) (n : ℕ) → r ≡ Ok n → good (quantum (as_form l)) ≡ checked_sized_type r l
unfolding checked_sized_type
size_many r l n h = sym (ap (λ (x : Result ℕ Refusal). checked_sized_type x l) h)

pub size_refused : (e : Refusal) (r : Result ℕ Refusal) (l : List ℤ) → r ≡ Err e → refused (number_of e.0) e.1 ≡ checked_sized_type r l
unfolding checked_sized_type
size_refused e r l h = sym (ap (λ (x : Result ℕ Refusal). checked_sized_type x l) h)

pub row_stops : (formals : Formals) (r : Result ℕ Refusal) (count first row : ℕ) (kinds : List ℕ) (sizes : List (List ℤ)) (next : Kind → Checked (List Kind)) {e : Refusal} → r ≡ Err e → checked_rows formals (Err e) count first kinds sizes ≡ (checked_row formals r row kinds sizes >>= next)
unfolding checked_rows checked_row ◌>>=◌
row_stops formals r count first row kinds sizes next h = sym (ap (λ (x : Result ℕ Refusal). checked_row formals x row kinds sizes >>= next) h)

pub rows_stop : (formals : Formals) (e : Refusal) (count first : ℕ) (kinds : List ℕ) (sizes : List (List ℤ)) (next : List Kind → Checked (List Kind)) → checked_rows formals (Err e) count first kinds sizes ≡ (checked_rows formals (Err e) count first kinds sizes >>= next)
unfolding checked_rows ◌>>=◌
rows_stop formals e count first kinds sizes next = refl

-- types of either level, one after the other: how one is read and what its kind is
pub record Level : Type 1 where
  pub Sort : Type 0
  pub part : Field → Sort
  pub absent : Sort
  pub one : Sort → Checked Kind
  pub all : List Sort → Checked (List Kind)
  pub none : all [] ≡ good []
  pub some : (x : Sort) (xs : List Sort) → all (x ∷ xs) ≡ (one x >>= λ k. (all xs >>= λ ks. good (k ∷ ks)))

pub plain_none : (s : C.Scope) → plain_kinds s [] ≡ good []
unfolding plain_kinds
plain_none s = refl

pub plain_some : (s : C.Scope) (x : T.PlainType) (xs : List T.PlainType) → plain_kinds s (x ∷ xs) ≡ (plain_kind s x >>= λ k. (plain_kinds s xs >>= λ ks. good (k ∷ ks)))
unfolding plain_kinds
plain_some s x xs = refl

abbrev pub plain_level : C.Scope → ℕ → Level
plain_level s parent = record { Sort = T.PlainType; part = read_plain; absent = bad_type 4 parent; one = plain_kind s; all = plain_kinds s; none = plain_none s; some = plain_some s }

pub type_nil : (s : C.Scope) → kinds_of s [] ≡ good []
unfolding kinds_of
type_nil s = refl

pub type_cons : (s : C.Scope) (x : T.ParameterType) (xs : List T.ParameterType) → kinds_of s (x ∷ xs) ≡ (kind_of s x >>= λ k. (kinds_of s xs >>= λ ks. good (k ∷ ks)))
unfolding kinds_of
type_cons s x xs = refl

abbrev pub type_level : C.Scope → ℕ → Level
type_level s parent = record { Sort = T.ParameterType; part = read_type; absent = T.plain (bad_type 4 parent); one = kind_of s; all = kinds_of s; none = type_nil s; some = type_cons s }

module _ (L : Level) (n : ℕ) (program : List ℕ) (at to : ℕ) (formals : Formals) (r : Result ℕ Refusal) (row : ℕ) (kinds : List ℕ) (sizes : List (List ℤ)) (e : checked_row formals r row kinds sizes ≡ L.one (due L.part L.absent (fields_at program at to))) where
  abbrev types_here : Checked (List Kind)
  types_here = L.all (parts_of L.part L.absent (suc n) (fields_at program at to))

  abbrev types_after : Kind → Checked (List Kind)
  types_after k = L.all (parts_of L.part L.absent n (drop 1 (fields_at program at to))) >>= λ ks. good (k ∷ ks)

  types_are : types_here ≡ (checked_row formals r row kinds sizes >>= types_after)
  unfolding parts_of
  types_are = L.some _ _ ∙ ap (λ (c : Checked Kind). c >>= types_after) (sym e)

  pub types_stop : (count first : ℕ) {e : Refusal} → r ≡ Err e → checked_rows formals (Err e) count first kinds sizes ≡ types_here
  types_stop count first h = row_stops formals r count first row kinds sizes types_after h ∙ sym types_are

  pub types_go : (next : ℕ) → r ≡ Ok next → PastField program at to next → types_here ≡ (L.all (parts_of L.part L.absent n (fields_at program next to)) >>= λ ks. good (kind_at formals row kinds sizes ∷ ks))
  unfolding checked_row ◌>>=◌
  types_go next u v =
      types_are ∙ ap (λ (x : Result ℕ Refusal). checked_row formals x row kinds sizes >>= types_after) u
      ∙ ap (λ (fs : List Field). L.all (parts_of L.part L.absent n fs) >>= λ ks. good (kind_at formals row kinds sizes ∷ ks)) v.rest

-- the kinds so far, and one more; those so far stay
pub more_kinds : (c : Checked (List Kind)) (first j : ℕ) (g₀ g₁ : Formals) (k₀ : List ℕ) (s₀ : List (List ℤ)) (k₁ : List ℕ) (s₁ : List (List ℤ)) → kinds_at g₁ j first k₁ s₁ ≡ kinds_at g₀ j first k₀ s₀
    → ((c >>= λ ks. good (kind_at g₁ (first + j) k₁ s₁ ∷ ks)) >>= λ rest. good (kinds_at g₀ j first k₀ s₀ ++ rest)) ≡ (c >>= λ rest. good (kinds_at g₁ (j + 1) first k₁ s₁ ++ rest))
unfolding ◌>>=◌
more_kinds (refused n p) first j g₀ g₁ k₀ s₀ k₁ s₁ a = refl
more_kinds (good ks) first j g₀ g₁ k₀ s₀ k₁ s₁ a =
    ap good
    (ap (λ (l : List Kind). l ++ (kind_at g₁ (first + j) k₁ s₁ ∷ ks)) (sym a)
    ∙ sym (append_assoc (kinds_at g₁ j first k₁ s₁) (kind_at g₁ (first + j) k₁ s₁ ∷ []) ks)
    ∙ ap (λ (l : List Kind). l ++ ks) (sym (row_more (λ i. kind_at g₁ i k₁ s₁) j first)))

pub no_kinds : (formals : Formals) (c : Checked (List Kind)) (first : ℕ) (kinds : List ℕ) (sizes : List (List ℤ)) → c ≡ (c >>= λ rest. good (kinds_at formals 0 first kinds sizes ++ rest))
unfolding ◌>>=◌ tabulated
no_kinds formals (good ks) first kinds sizes = refl
no_kinds formals (refused n p) first kinds sizes = refl

pub all_kinds : (L : Level) (fs : List Field) (ks : List Kind) → (L.all (parts_of L.part L.absent 0 fs) >>= λ rest. good (ks ++ rest)) ≡ good ks
unfolding parts_of ◌>>=◌
all_kinds L fs ks = ap (λ (c : Checked (List Kind)). c >>= λ rest. good (ks ++ rest)) L.none ∙ ap good (append_nil ks)
  where
    append_nil : (xs : List Kind) → xs ++ [] ≡ xs
    append_nil [] = refl
    append_nil (x ∷ xs) = ap (λ (y : List Kind). x ∷ y) (append_nil xs)

module _ (r : Result PlainType Refusal) (n : ℕ) (l : List ℤ) (bytes row : ℕ) (kinds : List ℕ) (sizes : List (List ℤ)) (t : OperandTable bytes kinds sizes) (h : row < length kinds) where
  pub typed_single : (b : ℕ) → b ≡ row_number Qubit 0 → r ≡ Ok (Single n) → (formals : Formals) → checked_row formals (Ok n) row (set kinds row b) sizes ≡ checked_type r l
  unfolding checked_row checked_type kind_in
  typed_single b u e formals =
      ap good (row_kind bytes row kinds sizes t h b formals ∙ ap (λ (k : K.Kind). kind_in k (as_form (widened (get_or sizes (size_of_row b) []))) (formals (size_of_row b))) (number_kind Qubit 0 b u))
      ∙ sym (ap (λ (x : Result PlainType Refusal). checked_type x l) e)

  pub typed_many : (b own : ℕ) → b ≡ row_number Quantum own → (short : List ℤ) → ((j : ℕ) → size_of_row (get_or kinds j 0) < own) → own < length sizes → r ≡ Ok (Many n) → Short short → widened short ≡ l
      → (formals : Formals) → checked_row formals (Ok n) row (set kinds row b) (set sizes own short) ≡ checked_type r l
  unfolding checked_row checked_type kind_in
  typed_many b own u short d f e k w formals =
      ap good (row_both bytes row kinds sizes t h b own short k d f Quantum u formals ∙ ap (λ (x : List ℤ). quantum (as_form x)) w)
      ∙ sym (ap (λ (x : Result PlainType Refusal). checked_type x l) e)

pub typed_bad : (r : Result PlainType Refusal) (e : Refusal) (l : List ℤ) (row : ℕ) (kinds : List ℕ) (sizes : List (List ℤ)) → r ≡ Err e → (formals : Formals) → checked_row formals (Err e) row kinds sizes ≡ checked_type r l
unfolding checked_row checked_type
typed_bad r e l row kinds sizes h formals = sym (ap (λ (x : Result PlainType Refusal). checked_type x l) h)

module _ (program : List ℕ) (at to : ℕ) (r : Result PlainType Refusal) (l : List ℤ) (n : ℕ) (h : TypePasses program at to r l) where
  pub past_single : r ≡ Ok (Single n) → PastField program at to n
  past_single e = rw e at h

  pub past_many : r ≡ Ok (Many n) → PastField program at to n × Kept l × (at + 7 ≤ n)
  past_many e = rw e at h
