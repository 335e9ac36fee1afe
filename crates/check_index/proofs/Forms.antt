-- The form that an index field means, by its tag. Assumes nothing.
use mathlib.Core.Path.{◌≡◌, refl, sym, ap, ◌∙◌}
use mathlib.Core.List.{List, [], ◌∷◌}
use mathlib.Core.Bool.{Bool, true, false, cond}
use Prim.Native.Nat.{ℕ, zero, suc, ◌+◌, ◌-◌, ◌≤◌, ◌<◌}
use native.Mathlib.Omega.{arith}
use native.Mathlib.Nat.{add-zero}
use lib.Dec.{ltb}
use lib.IntN.{ℤ, pos}
use lib.ListN.{length, drop}
use lib.Seq.{slice}
use borrow.Author.Tests.{le-leb, lt-ltb, le-ltb, lt-leb}
use Rattle.language.specs.Tree.{bad_index}
use Rattle.language.specs.Read.{Field, field, bad_header, ending, due, read_literal, read_variable, operation_of, is_index_tag, deep_index, index_by, read_index, two_bytes}
use Rattle.language.specs.Form.{Form, Built, constant_form, variable_form}
use Rattle.language.specs.Check.{Checked, good, refused, ◌>>=◌, ◌>>◌, require, no_leftover, in_form, combined, form_of}
use Rattle.fields.specs.Header.{fields_at}
use Rattle.fields.proofs.Headers.{Wholly}
use Rattle.forms.specs.Flat.{as_form, built_of}
use Rattle.check_index.specs.Indexes.{index_reader, IndexSays, scope_of, tree_operation}
use Rattle.check_index.specs.Answers.{checked_form, PastField}
use Rattle.check_index.specs.declared.Operation.{Operation}
use Rattle.check_index.specs.declared.IndexTag.{IndexTag}
use Rattle.check_index.specs.declared.IndexTag.TheVariants.{Both}
use Rattle.std.specs.Prelude.{Result, Ok, Err}
use Rattle.refusals.specs.declared.Refusal.{Refusal}
use Rattle.refusals.specs.declared.Reason.TheVariants.{FormOutOfRange}
use Rattle.forms.specs.declared.OutOfRange.{OutOfRange}
use Rattle.check_index.proofs.Answers.{checked_then, checked_stop, drop_two, more_left, none_left}
use Rattle.language.specs.Tree as T

-- past the deepest level
module _ (p tag : ℕ) (content : List ℕ) where
  deep_by : (t : Bool) → is_index_tag tag ≡ t → cond t (bad_index 5 p) (bad_index 3 p) ≡ deep_index (field p tag content)
  unfolding deep_index
  deep_by t e = sym (ap (λ (t : Bool). cond t (bad_index 5 p) (bad_index 3 p)) e)

  pub deep_below : tag < 64 → bad_index 3 p ≡ deep_index (field p tag content)
  deep_below h = deep_by false (rw (lt-leb 64 tag h))

  pub deep_above : 68 < tag → bad_index 3 p ≡ deep_index (field p tag content)
  deep_above h = deep_by false (rw (le-leb 64 tag (omega arith), lt-leb tag 68 h))

  pub deep_index_lem : 64 ≤ tag → tag ≤ 68 → bad_index 5 p ≡ deep_index (field p tag content)
  deep_index_lem h k = deep_by true (rw (le-leb 64 tag h, le-leb tag 68 k))

pub literal_bad : (p n : ℕ) (l : List ℕ) → (length l ≡ 2 → ⊥) → refused 4 p ≡ form_of (scope_of n) (read_literal p l)
unfolding form_of read_literal
literal_bad p n [] h = refl
literal_bad p n (a ∷ []) h = refl
literal_bad p n (a ∷ b ∷ []) h = absurd (h refl)
literal_bad p n (a ∷ b ∷ c ∷ l) h = refl

pub literal_good : (p n a b : ℕ) (l : List ℕ) → l ≡ (a ∷ b ∷ []) → good (constant_form (pos (two_bytes a b))) ≡ form_of (scope_of n) (read_literal p l)
unfolding form_of read_literal
literal_good p n a b l e = sym (ap (λ (x : List ℕ). form_of (scope_of n) (read_literal p x)) e)

pub variable_none : (p n : ℕ) (l : List ℕ) → l ≡ [] → refused 4 p ≡ form_of (scope_of n) (read_variable p l)
unfolding form_of read_variable
variable_none p n l e = sym (ap (λ (x : List ℕ). form_of (scope_of n) (read_variable p x)) e)

module _ (p n v : ℕ) (l more : List ℕ) (e : l ≡ (v ∷ more)) where
  read_is : form_of (scope_of n) (read_variable p l) ≡ (require 8 p (ltb v (n + 0)) >> (no_leftover p (ending more) >> good (variable_form v)))
  unfolding form_of read_variable scope_of
  read_is = ap (λ (x : List ℕ). form_of (scope_of n) (read_variable p x)) e

  pub variable_beyond : n ≤ v → refused 8 p ≡ form_of (scope_of n) (read_variable p l)
  unfolding require ◌>>◌
  variable_beyond h = sym (read_is ∙ rw (add-zero n, le-ltb v n h))

  pub variable_long : v < n → (length more ≡ 0 → ⊥) → refused 4 p ≡ form_of (scope_of n) (read_variable p l)
  unfolding require ◌>>◌ no_leftover ending
  variable_long h k = sym (read_is ∙ rw (add-zero n, lt-ltb v n h) (by more k))
    where
      by : (more : List ℕ) → (length more ≡ 0 → ⊥) → (no_leftover p (ending more) >> good (variable_form v)) ≡ refused 4 p
      by [] k = absurd (k refl)
      by (x ∷ more) k = refl

  pub variable_good : v < n → more ≡ [] → good (variable_form v) ≡ form_of (scope_of n) (read_variable p l)
  unfolding require ◌>>◌ no_leftover ending
  variable_good h k = sym (read_is ∙ rw (add-zero n, lt-ltb v n h, k))

pub made : (p next : ℕ) (l : List ℤ) {t : Result (Unit {0}) OutOfRange} {b : Built} {u : Unit {0}} → built_of t l ≡ b → t ≡ Ok u → checked_form (Ok next) l ≡ in_form p b
unfolding checked_form in_form built_of
made p next l e q = ap (λ (t : Result (Unit {0}) OutOfRange). in_form p (built_of t l)) (sym q) ∙ ap (in_form p) e

pub unmade : (p : ℕ) (l m : List ℤ) {t : Result (Unit {0}) OutOfRange} {b : Built} {o : OutOfRange} → built_of t l ≡ b → t ≡ Err o → checked_form (Err (record { 0 = FormOutOfRange; 1 = p })) m ≡ in_form p b
unfolding checked_form in_form built_of
unmade p l m e q = ap (λ (t : Result (Unit {0}) OutOfRange). in_form p (built_of t l)) (sym q) ∙ ap (in_form p) e

module _ (program : List ℕ) (at to parent levels n : ℕ) where
  abbrev pub meant : Checked Form
  meant = form_of (scope_of n) (due (read_index levels) (bad_index 4 parent) (fields_at program at to))

  due_by : {fs : List Field} → fields_at program at to ≡ fs → meant ≡ form_of (scope_of n) (due (read_index levels) (bad_index 4 parent) fs)
  due_by e = ap (λ (fs : List Field). form_of (scope_of n) (due (read_index levels) (bad_index 4 parent) fs)) e

  pub index_end : fields_at program at to ≡ [] → refused 4 parent ≡ meant
  unfolding due form_of
  index_end e = sym (due_by e)

  pub index_cut : fields_at program at to ≡ (bad_header at ∷ []) → refused 2 at ≡ meant
  unfolding due form_of read_index deep_index index_by
  index_cut e = sym (due_by e ∙ by levels)
    where
      by : (k : ℕ) → form_of (scope_of n) (read_index k (bad_header at)) ≡ refused 2 at
      by zero = refl
      by (suc k) = refl

  module _ (tag next : ℕ) (w : Wholly program at to tag next) where
    pub index_deep : (r : ℕ) → bad_index r at ≡ deep_index (field at tag (slice (at + 3) next program)) → levels ≡ 0 → refused r at ≡ meant
    unfolding due form_of read_index
    index_deep r e z =
        sym (due_by w.first ∙ ap (λ (k : ℕ). form_of (scope_of n) (read_index k (field at tag (slice (at + 3) next program)))) z ∙ ap (form_of (scope_of n)) (sym e))

    pub index_acts : (k : IndexTag) → (levels ≡ 0 → ⊥) → (i : IndexTag) → IndexSays tag i → i ≡ k → form_of (scope_of n) (index_reader (read_index (levels - 1)) k at (slice (at + 3) next program)) ≡ meant
    unfolding due read_index
    index_acts k z i says e = sym (due_by w.first ∙ by levels z)
      where
        by : (m : ℕ) → (m ≡ 0 → ⊥) → form_of (scope_of n) (read_index m (field at tag (slice (at + 3) next program))) ≡ form_of (scope_of n) (index_reader (read_index (m - 1)) k at (slice (at + 3) next program))
        by zero z = absurd (z refl)
        by (suc m) z =
            let q : suc m - 1 ≡ m = omega arith in
            rw q (ap (form_of (scope_of n)) (says (read_index m) at (slice (at + 3) next program)) ∙ ap (λ (j : IndexTag). form_of (scope_of n) (index_reader (read_index m) j at (slice (at + 3) next program))) e)

module _ (program : List ℕ) (at next n below : ℕ) (o : Operation) where
  abbrev pub both : Checked Form
  both = form_of (scope_of n) (index_reader (read_index below) (Both o) at (slice (at + 3) next program))

  abbrev side : List Field → Checked Form
  side fs = form_of (scope_of n) (due (read_index below) (bad_index 4 at) fs)

  abbrev after : List Field → List Field → Form → Checked Form
  after fs gs f = side fs >>= λ g. (no_leftover at (ending gs) >> combined at (tree_operation o) f g)

  both_is : both ≡ (side (fields_at program (at + 3) next) >>= after (drop 1 (fields_at program (at + 3) next)) (drop 2 (fields_at program (at + 3) next)))
  unfolding form_of operation_of fields_at
  both_is = refl

  module _ (r : Result ℕ Refusal) (l : List ℤ) (checked_part : checked_form r l ≡ side (fields_at program (at + 3) next)) where
    pub both_left : {e : Refusal} → r ≡ Err e → checked_form (Err e) l ≡ both
    both_left h =
        checked_stop r l l (after (drop 1 (fields_at program (at + 3) next)) (drop 2 (fields_at program (at + 3) next))) h
        ∙ ap (λ (c : Checked Form). c >>= after (drop 1 (fields_at program (at + 3) next)) (drop 2 (fields_at program (at + 3) next))) checked_part
        ∙ sym both_is

    module _ (mid : ℕ) (e : r ≡ Ok mid) (w : PastField program (at + 3) next mid) where
      both_mid : both ≡ after (fields_at program mid next) (drop 1 (fields_at program mid next)) (as_form l)
      both_mid =
          both_is
          ∙ ap (λ (c : Checked Form). c >>= after (drop 1 (fields_at program (at + 3) next)) (drop 2 (fields_at program (at + 3) next))) (sym checked_part)
          ∙ checked_then r l mid (after (drop 1 (fields_at program (at + 3) next)) (drop 2 (fields_at program (at + 3) next))) e
          ∙ (λ j. after (w.rest j) ((drop_two (fields_at program (at + 3) next) ∙ ap (drop 1) w.rest) j) (as_form l))

      module _ (s : Result ℕ Refusal) (k : List ℤ) (tells : checked_form s k ≡ side (fields_at program mid next)) where
        pub both_right : (m : List ℤ) {e : Refusal} → s ≡ Err e → checked_form (Err e) m ≡ both
        both_right m h =
            checked_stop s k m (λ g. no_leftover at (ending (drop 1 (fields_at program mid next))) >> combined at (tree_operation o) (as_form l) g) h
            ∙ ap (λ (c : Checked Form). c >>= λ g. (no_leftover at (ending (drop 1 (fields_at program mid next))) >> combined at (tree_operation o) (as_form l) g)) tells
            ∙ sym both_mid

        module _ (end : ℕ) (d : s ≡ Ok end) (v : PastField program mid next end) where
          both_end : both ≡ (no_leftover at (ending (fields_at program end next)) >> combined at (tree_operation o) (as_form l) (as_form k))
          both_end =
              both_mid
              ∙ ap (λ (c : Checked Form). c >>= λ g. (no_leftover at (ending (drop 1 (fields_at program mid next))) >> combined at (tree_operation o) (as_form l) g)) (sym tells)
              ∙ checked_then s k end (λ g. no_leftover at (ending (drop 1 (fields_at program mid next))) >> combined at (tree_operation o) (as_form l) g) d
              ∙ ap (λ (fs : List Field). no_leftover at (ending fs) >> combined at (tree_operation o) (as_form l) (as_form k)) v.rest

          pub both_leftover : end < next → next ≤ length program → refused 4 at ≡ both
          unfolding no_leftover ◌>>◌
          both_leftover h q = sym (both_end ∙ ap (λ (x : T.Ending). no_leftover at x >> combined at (tree_operation o) (as_form l) (as_form k)) (more_left program end next h q))

          pub both_good_lem : next ≤ end → combined at (tree_operation o) (as_form l) (as_form k) ≡ both
          unfolding no_leftover ◌>>◌
          both_good_lem h = sym (both_end ∙ ap (λ (x : T.Ending). no_leftover at x >> combined at (tree_operation o) (as_form l) (as_form k)) (none_left program end next h))
