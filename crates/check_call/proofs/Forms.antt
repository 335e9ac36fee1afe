-- The forms of a call's indexes. Assumes nothing.
use mathlib.Core.Path.{◌≡◌, refl, sym, ap, ◌∙◌}
use mathlib.Core.List.{List, [], ◌∷◌, ◌++◌, map, append_assoc}
use mathlib.Core.Bool.{Bool, true, false, cond, ◌&&◌}
use Prim.Native.Nat.{ℕ, suc, ◌+◌, ◌≤◌, ◌<◌}
use native.Mathlib.Omega.{arith}
use native.Mathlib.Numerals.{add-one}
use lib.IntN.{ℤ, pos}
use lib.ListN.{length, take, drop, set, replicate, get_or-replicate}
use lib.Seq.{slice, take-suc-set}
use borrow.Author.Tests.{ne_eqb, le-leb}
use Rattle.language.specs.Tree.{Index, bad_index, Argument, index, operand, bad_argument}
use Rattle.language.specs.Read.{Field, field, choose, due, outer_index, is_index_tag, is_operand_tag, index_by, read_index, read_operand, read_argument}
use Rattle.language.specs.Form.{Form, built}
use Rattle.language.specs.Check.{Checked, good, refused, ◌>>=◌, ◌>>◌, form_of, must_show, call_forms}
use Rattle.language.proofs.Integers.{clash}
use Rattle.fields.specs.Header.{fields_at}
use Rattle.fields.proofs.Headers.{View, ends, cuts, goes, view}
use Rattle.forms.proofs.Laws.{zeros_kept}
use Rattle.forms.specs.Flat.{as_form}
use Rattle.forms.specs.Rows.{Rows, forms_of}
use Rattle.check_index.specs.Answers.{checked_form, PastField, checked_part}
use Rattle.check_call.specs.Calls.{checked_forms}
use Rattle.std.specs.Prelude.{Result, Ok, Err}
use Rattle.refusals.specs.declared.Refusal.{Refusal}
use Rattle.language.specs.Check as C

not_index : (part : Field → Index) (p tag : ℕ) (content : List ℕ) → is_index_tag tag ≡ false → index_by part (field p tag content) ≡ bad_index 3 p
unfolding index_by choose
not_index part p tag content e =
    rw (ne_eqb tag 64 (λ z. never (omega arith) (omega arith)), ne_eqb tag 65 (λ z. never (omega arith) (omega arith)), ne_eqb tag 66 (λ z. never (omega arith) (omega arith)), ne_eqb tag 67 (λ z. never (omega arith) (omega arith)), ne_eqb tag 68 (λ z. never (omega arith) (omega arith)))
  where
    never : 64 ≤ tag → tag ≤ 68 → ⊥
    never h k = clash (sym (λ j. le-leb 64 tag h j && le-leb tag 68 k j) ∙ e)

module _ (s : C.Scope) (parent n : ℕ) where
  -- the first index of a call, and those after it
  abbrev pub first_form : (at : ℕ) → List Field → Checked (List Form)
  first_form at fs = form_of s (due outer_index (bad_index 4 parent) fs) >>= λ f. (must_show at s (built f) >> (call_forms s parent n (map read_argument (drop 1 fs)) >>= λ gs. good (f ∷ gs)))

  pub call_first : (program : List ℕ) (at to : ℕ) → to ≤ length program → call_forms s parent (suc n) (map read_argument (fields_at program at to)) ≡ first_form at (fields_at program at to)
  unfolding call_forms due form_of read_index index_by read_argument ◌>>=◌
  call_first program at to k = by (view program at to k)
    where
      tags : (tag : ℕ) (content : List ℕ) (rest : List Field) (t : Bool) → is_index_tag tag ≡ t
          → call_forms s parent (suc n) (cond t (index at (outer_index (field at tag content))) (cond (is_operand_tag tag) (operand at (read_operand (field at tag content))) (bad_argument 3 at)) ∷ map read_argument rest) ≡ first_form at (field at tag content ∷ rest)
      tags tag content rest true e = refl
      tags tag content rest false e =
          others (is_operand_tag tag)
          ∙ sym (ap (λ (i : Index). form_of s i >>= λ f. (must_show at s (built f) >> (call_forms s parent n (map read_argument rest) >>= λ gs. good (f ∷ gs)))) (not_index (read_index 15) at tag content e))
        where
          others : (t : Bool) → call_forms s parent (suc n) (cond t (operand at (read_operand (field at tag content))) (bad_argument 3 at) ∷ map read_argument rest) ≡ refused 3 at
          others true = refl
          others false = refl

      by : View program at to → call_forms s parent (suc n) (map read_argument (fields_at program at to)) ≡ first_form at (fields_at program at to)
      by (ends e h) = rw e
      by (cuts e) = rw e
      by (goes tag next w) = rw w.first (tags tag (slice (at + 3) next program) (fields_at program next to) (is_index_tag tag) refl)

pub list_stops : (e : Refusal) (m : ℕ) (l : List (List ℤ)) (next : List Form → Checked (List Form)) → checked_forms (Err e) m l ≡ (checked_forms (Err e) m l >>= next)
unfolding checked_forms ◌>>=◌
list_stops e m l next = refl

module _ (s : C.Scope) (parent n m : ℕ) (program : List ℕ) (at to : ℕ) (k : to ≤ length program) (r : Result ℕ Refusal) (l : List ℤ) (e : checked_form r l ≡ form_of s (due outer_index (bad_index 4 parent) (fields_at program at to))) where
  abbrev here : Checked (List Form)
  here = call_forms s parent (suc n) (map read_argument (fields_at program at to))

  abbrev show : Form → Checked (List Form)
  show f = must_show at s (built f) >> (call_forms s parent n (map read_argument (drop 1 (fields_at program at to))) >>= λ gs. good (f ∷ gs))

  here_is : here ≡ (checked_form r l >>= show)
  here_is = call_first s parent n program at to k ∙ ap (λ (c : Checked Form). c >>= show) (sym e)

  pub form_none : (fs : List (List ℤ)) {q : Refusal} → r ≡ Err q → checked_forms (Err q) m fs ≡ here
  unfolding checked_forms checked_form ◌>>=◌
  form_none fs h = sym (here_is ∙ ap (λ (x : Result ℕ Refusal). checked_form x l >>= show) h)

  module _ (next : ℕ) (u : r ≡ Ok next) (v : PastField program at to next) (t : Result ℕ Refusal) (d : checked_part t ≡ must_show at s (built (as_form l))) where
    abbrev there : Checked (List Form)
    there = call_forms s parent n (map read_argument (fields_at program next to)) >>= λ gs. good (as_form l ∷ gs)

    mid_is : here ≡ (checked_part t >> there)
    unfolding checked_form ◌>>=◌
    mid_is =
        here_is ∙ ap (λ (x : Result ℕ Refusal). checked_form x l >>= show) u
        ∙ (λ j. sym d j >> (call_forms s parent n (map read_argument (v.rest j)) >>= λ gs. good (as_form l ∷ gs)))

    pub show_none : (fs : List (List ℤ)) {q : Refusal} → t ≡ Err q → checked_forms (Err q) m fs ≡ here
    unfolding checked_forms checked_part ◌>>◌
    show_none fs h = sym (mid_is ∙ ap (λ (x : Result ℕ Refusal). checked_part x >> there) h)

    pub show_good : {j : ℕ} → t ≡ Ok j → here ≡ there
    unfolding checked_part ◌>>◌
    show_good h = mid_is ∙ ap (λ (x : Result ℕ Refusal). checked_part x >> there) h

-- the forms so far, and one more
pub more_forms : (c : Checked (List Form)) (i : ℕ) (fs : List (List ℤ)) (l : List ℤ) → i < length fs
    → ((c >>= λ gs. good (as_form l ∷ gs)) >>= λ rest. good (forms_of i fs ++ rest)) ≡ (c >>= λ rest. good (forms_of (i + 1) (set fs i l) ++ rest))
unfolding ◌>>=◌
more_forms (refused n p) i fs l h = refl
more_forms (good gs) i fs l h =
    ap good (sym (rw (add-one, take-suc-set fs i l h) (ap (λ (x : List Form). x ++ gs) (map_append (take i fs)) ∙ append_assoc (map as_form (take i fs)) (as_form l ∷ []) gs)))
  where
    map_append : (xs : List (List ℤ)) → map as_form (xs ++ (l ∷ [])) ≡ (map as_form xs ++ (as_form l ∷ []))
    map_append [] = refl
    map_append (x ∷ xs) = ap (λ (y : List Form). as_form x ∷ y) (map_append xs)

pub all_forms : (s : C.Scope) (parent : ℕ) (args : List Argument) (fs : List Form) → (call_forms s parent 0 args >>= λ rest. good (fs ++ rest)) ≡ good fs
unfolding call_forms ◌>>=◌
all_forms s parent args fs = ap good (append_nil fs)
  where
    append_nil : (xs : List Form) → xs ++ [] ≡ xs
    append_nil [] = refl
    append_nil (x ∷ xs) = ap (λ (y : List Form). x ∷ y) (append_nil xs)

pub no_forms_lem : (c : Checked (List Form)) (fs : List (List ℤ)) → c ≡ (c >>= λ rest. good (forms_of 0 fs ++ rest))
unfolding ◌>>=◌
no_forms_lem (good gs) fs = refl
no_forms_lem (refused n p) fs = refl

pub four_rows : Rows (replicate 4 (replicate 13 (pos 0))) 4
four_rows = record { enough = omega arith; each = λ i h. rw (get_or-replicate 4 i (replicate 13 (pos 0)) [] h) zeros_kept }
