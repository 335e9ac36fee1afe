-- Operands: taken whole, elements, the one that is due, and two in a row; slices stand apart. Assumes nothing.
use mathlib.Core.Path.{◌≡◌, refl, sym, ap, ◌∙◌, subst}
use mathlib.Core.List.{List, [], ◌∷◌}
use mathlib.Core.Option.{Option, none, some}
use Prim.Native.Nat.{ℕ, ◌+◌, ◌≤◌, ◌<◌}
use native.Mathlib.Omega.{arith}
use lib.IntN.{ℤ}
use lib.ListN.{length, drop, get_elem?}
use lib.Seq.{slice}
use borrow.Author.Tests.{ne_eqb}
use Rattle.std.specs.Prelude.{Result, Ok, Err}
use Rattle.language.specs.Tree.{bad_index, bad_operand}
use Rattle.language.specs.Read.{Field, field, bad_header, choose, ending, due, outer_index, read_whole, read_element, element_of, read_slice, read_passed, read_operand}
use Rattle.language.specs.Form.{Form}
use Rattle.language.specs.Check.{Checked, refused, ◌>>=◌, ◌>>◌, no_leftover, in_scope, form_of, Kind, whole_fits, element_size, check_within, check_operand}
use Rattle.fields.specs.Header.{fields_at, header_of}
use Rattle.fields.specs.declared.Header.{Header}
use Rattle.fields.specs.declared.NoHeader.{NoHeader}
use Rattle.fields.proofs.Headers.{Wholly, when_whole}
use Rattle.forms.specs.Flat.{as_form}
use Rattle.refusals.specs.declared.Refusal.{Refusal}
use Rattle.check_index.specs.Answers.{checked_form, PastField, checked_part}
use Rattle.check_operand.specs.Operands.{checked_size, Answerable}
use Rattle.check_operand.specs.declared.Wanted.{Wanted}
use Rattle.check_index.proofs.Answers.{more_left, none_left, form_stops, checked_then, drop_two}
use Rattle.language.specs.Tree as T
use Rattle.language.specs.Check as C

module _ (s : C.Scope) (d : C.Due) (at : ℕ) (content : List ℕ) where
  pub whole_none : content ≡ [] → refused 4 at ≡ check_operand s d (read_whole at content)
  unfolding check_operand read_whole
  whole_none e = sym (ap (λ (l : List ℕ). check_operand s d (read_whole at l)) e)

  module _ (n : ℕ) (more : List ℕ) (e : content ≡ (n ∷ more)) where
    whole_is : check_operand s d (read_whole at content) ≡ (in_scope at (get_elem? s.operands n) >>= λ k. (no_leftover at (ending more) >> whole_fits at s d k))
    unfolding check_operand read_whole
    whole_is = ap (λ (l : List ℕ). check_operand s d (read_whole at l)) e

    pub whole_beyond : get_elem? s.operands n ≡ none → refused 8 at ≡ check_operand s d (read_whole at content)
    unfolding in_scope ◌>>=◌
    whole_beyond q = sym (whole_is ∙ ap (λ (o : Option Kind). in_scope at o >>= λ k. (no_leftover at (ending more) >> whole_fits at s d k)) q)

    module _ (k : Kind) (q : get_elem? s.operands n ≡ some k) where
      whole_some : check_operand s d (read_whole at content) ≡ (no_leftover at (ending more) >> whole_fits at s d k)
      unfolding in_scope ◌>>=◌
      whole_some = whole_is ∙ ap (λ (o : Option Kind). in_scope at o >>= λ k. (no_leftover at (ending more) >> whole_fits at s d k)) q

      pub whole_long : (length more ≡ 0 → ⊥) → refused 4 at ≡ check_operand s d (read_whole at content)
      unfolding no_leftover ending ◌>>◌
      whole_long h = sym (whole_some ∙ by more h)
        where
          by : (more : List ℕ) → (length more ≡ 0 → ⊥) → (no_leftover at (ending more) >> whole_fits at s d k) ≡ refused 4 at
          by [] h = absurd (h refl)
          by (x ∷ more) h = refl

      pub whole_good : more ≡ [] → whole_fits at s d k ≡ check_operand s d (read_whole at content)
      unfolding no_leftover ending ◌>>◌
      whole_good z = sym (whole_some ∙ ap (λ (l : List ℕ). no_leftover at (ending l) >> whole_fits at s d k) z)

-- nothing is left of the fields after the last one, or something is
pub left_long : {B : Type 0} (program : List ℕ) (at end next : ℕ) (more : Checked B) → end < next → next ≤ length program → refused 4 at ≡ (no_leftover at (ending (fields_at program end next)) >> more)
unfolding no_leftover ◌>>◌
left_long program at end next more h w = sym (ap (λ (x : T.Ending). no_leftover at x >> more) (more_left program end next h w))

pub left_good : {B : Type 0} (program : List ℕ) (at end next : ℕ) (more : Checked B) → next ≤ end → more ≡ (no_leftover at (ending (fields_at program end next)) >> more)
unfolding no_leftover ◌>>◌
left_good program at end next more h = sym (ap (λ (x : T.Ending). no_leftover at x >> more) (none_left program end next h))

module _ (s : C.Scope) (d : C.Due) (at : ℕ) (content : List ℕ) where
  pub element_none : content ≡ [] → refused 4 at ≡ check_operand s d (read_element at content)
  unfolding check_operand read_element
  element_none e = sym (ap (λ (l : List ℕ). check_operand s d (read_element at l)) e)

  module _ (n : ℕ) (program : List ℕ) (next : ℕ) (e : content ≡ (n ∷ slice (at + 3 + 1) next program)) where
    abbrev inside : List Field
    inside = fields_at program (at + 4) next

    abbrev sized : Kind → Form → Checked (Unit {0})
    sized k f = element_size at d k >>= λ size. check_within at s size f

    abbrev typed : Kind → Checked (Unit {0})
    typed k = form_of s (due outer_index (bad_index 4 at) inside) >>= λ f. (no_leftover at (ending (drop 1 inside)) >> sized k f)

    element_is : check_operand s d (read_element at content) ≡ (in_scope at (get_elem? s.operands n) >>= typed)
    unfolding check_operand read_element element_of fields_at
    element_is =
        let q : at + 3 + 1 ≡ at + 4 = omega arith in
        ap (λ (l : List ℕ). check_operand s d (read_element at l)) (e ∙ ap (λ (k : ℕ). n ∷ slice k next program) q)

    pub element_beyond : get_elem? s.operands n ≡ none → refused 8 at ≡ check_operand s d (read_element at content)
    unfolding in_scope ◌>>=◌
    element_beyond q = sym (element_is ∙ ap (λ (o : Option Kind). in_scope at o >>= typed) q)

    module _ (k : Kind) (q : get_elem? s.operands n ≡ some k) (r : Result ℕ Refusal) (l : List ℤ) (t : checked_form r l ≡ form_of s (due outer_index (bad_index 4 at) inside)) where
      element_some : check_operand s d (read_element at content) ≡ (checked_form r l >>= λ f. (no_leftover at (ending (drop 1 inside)) >> sized k f))
      unfolding in_scope ◌>>=◌
      element_some = element_is ∙ ap (λ (o : Option Kind). in_scope at o >>= typed) q ∙ ap (λ (c : Checked Form). c >>= λ f. (no_leftover at (ending (drop 1 inside)) >> sized k f)) (sym t)

      pub element_stops : {e : Refusal} → r ≡ Err e → checked_part (Err e) ≡ check_operand s d (read_element at content)
      element_stops h = form_stops r l (λ f. no_leftover at (ending (drop 1 inside)) >> sized k f) h ∙ sym element_some

      module _ (end : ℕ) (u : r ≡ Ok end) (v : PastField program (at + 4) next end) where
        element_end : check_operand s d (read_element at content) ≡ (no_leftover at (ending (fields_at program end next)) >> sized k (as_form l))
        element_end =
            element_some ∙ checked_then r l end (λ f. no_leftover at (ending (drop 1 inside)) >> sized k f) u
            ∙ ap (λ (fs : List Field). no_leftover at (ending fs) >> sized k (as_form l)) v.rest

        pub element_long : end < next → next ≤ length program → refused 4 at ≡ check_operand s d (read_element at content)
        element_long h w = left_long program at end next (sized k (as_form l)) h w ∙ sym element_end

        pub element_good : next ≤ end → sized k (as_form l) ≡ check_operand s d (read_element at content)
        element_good h = left_good program at end next (sized k (as_form l)) h ∙ sym element_end

-- an element or a slice, from the answer on its kind
module _ (c : Checked Form) (next : Form → Checked (Unit {0})) (size : Form) (r : Result ℕ Refusal) (e : checked_size r size ≡ c) where
  pub kind_stops : {q : Refusal} → r ≡ Err q → checked_part (Err q) ≡ (c >>= next)
  unfolding checked_size checked_part ◌>>=◌
  kind_stops h = sym (ap (λ (x : Result ℕ Refusal). checked_size x size >>= next) h) ∙ ap (λ (x : Checked Form). x >>= next) e

  pub kind_goes : {n : ℕ} → r ≡ Ok n → next size ≡ (c >>= next)
  unfolding checked_size ◌>>=◌
  kind_goes h = sym (ap (λ (x : Result ℕ Refusal). checked_size x size >>= next) h) ∙ ap (λ (x : Checked Form). x >>= next) e

-- the operand due, by its tag
module _ (program : List ℕ) (at to parent tag next : ℕ) (w : Wholly program at to tag next) where
  abbrev operand_read : T.Operand
  operand_read = due read_operand (bad_operand 4 parent) (fields_at program at to)

  pub reads_field : operand_read ≡ read_operand (field at tag (slice (at + 3) next program))
  unfolding due
  reads_field = ap (due read_operand (bad_operand 4 parent)) w.first

  reads_tag : (t : ℕ) → tag ≡ t → operand_read ≡ read_operand (field at t (slice (at + 3) next program))
  reads_tag t e = reads_field ∙ ap (λ (t : ℕ). read_operand (field at t (slice (at + 3) next program))) e

  pub reads_whole : tag ≡ 48 → operand_read ≡ read_whole at (slice (at + 3) next program)
  unfolding read_operand choose
  reads_whole e = reads_tag 48 e

  pub reads_element : tag ≡ 49 → operand_read ≡ read_element at (slice (at + 3) next program)
  unfolding read_operand choose
  reads_element e = reads_tag 49 e

  pub reads_slice : tag ≡ 50 → operand_read ≡ read_slice at (slice (at + 3) next program)
  unfolding read_operand choose
  reads_slice e = reads_tag 50 e

  pub reads_passed : tag ≡ 51 → operand_read ≡ read_passed at (slice (at + 3) next program)
  unfolding read_operand choose
  reads_passed e = reads_tag 51 e

module _ (s : C.Scope) (d : C.Due) (program : List ℕ) (at to parent : ℕ) where
  abbrev pub operand_meant : Checked (Unit {0})
  operand_meant = check_operand s d (due read_operand (bad_operand 4 parent) (fields_at program at to))

  pub operand_end : fields_at program at to ≡ [] → refused 4 parent ≡ operand_meant
  unfolding due check_operand
  operand_end e = sym (ap (λ (fs : List Field). check_operand s d (due read_operand (bad_operand 4 parent) fs)) e)

  pub operand_cut : fields_at program at to ≡ (bad_header at ∷ []) → refused 2 at ≡ operand_meant
  unfolding due check_operand read_operand
  operand_cut e = sym (ap (λ (fs : List Field). check_operand s d (due read_operand (bad_operand 4 parent) fs)) e)

  module _ (tag next : ℕ) (w : Wholly program at to tag next) where
    pub operand_whole : tag ≡ 48 → check_operand s d (read_whole at (slice (at + 3) next program)) ≡ operand_meant
    operand_whole e = ap (check_operand s d) (sym (reads_whole program at to parent tag next w e))

    pub operand_element : tag ≡ 49 → check_operand s d (read_element at (slice (at + 3) next program)) ≡ operand_meant
    operand_element e = ap (check_operand s d) (sym (reads_element program at to parent tag next w e))

    pub operand_slice : tag ≡ 50 → check_operand s d (read_slice at (slice (at + 3) next program)) ≡ operand_meant
    operand_slice e = ap (check_operand s d) (sym (reads_slice program at to parent tag next w e))

    pub operand_passed : tag ≡ 51 → check_operand s d (read_passed at (slice (at + 3) next program)) ≡ operand_meant
    operand_passed e = ap (check_operand s d) (sym (reads_passed program at to parent tag next w e))

    pub operand_other : (tag ≡ 48 → ⊥) → (tag ≡ 49 → ⊥) → (tag ≡ 50 → ⊥) → (tag ≡ 51 → ⊥) → refused 3 at ≡ operand_meant
    unfolding read_operand choose check_operand
    operand_other x y z u = sym (ap (check_operand s d) (reads_field program at to parent tag next w) ∙ rw (ne_eqb tag 48 x, ne_eqb tag 49 y, ne_eqb tag 50 z, ne_eqb tag 51 u))

-- what can be answered of the operand due can be answered of a passed family
pub answers_passed : (w : Wanted) (program : List ℕ) (at to parent tag next : ℕ) → Wholly program at to tag next → tag ≡ 51 → Answerable w (due read_operand (bad_operand 4 parent) (fields_at program at to)) → Answerable w (read_passed at (slice (at + 3) next program))
answers_passed w program at to parent tag next v e h = subst (Answerable w) (reads_passed program at to parent tag next v e) h

-- the second operand and the end, seen from where the first ends
pub second_is : (s : C.Scope) (d : C.Due) (program : List ℕ) (at from to mid : ℕ) → PastField program from to mid →
    (check_operand s d (due read_operand (bad_operand 4 at) (drop 1 (fields_at program from to))) >> no_leftover at (ending (drop 2 (fields_at program from to))))
    ≡ (check_operand s d (due read_operand (bad_operand 4 at) (fields_at program mid to)) >> no_leftover at (ending (drop 1 (fields_at program mid to))))
second_is s d program at from to mid v =
    (λ j. check_operand s d (due read_operand (bad_operand 4 at) (v.rest j)) >> no_leftover at (ending ((drop_two (fields_at program from to) ∙ ap (drop 1) v.rest) j)))

-- the field that a header stands for, and where its content lies
pub field_whole : (program : List ℕ) (at to : ℕ) {r : Result Header NoHeader} {h : Header} → to ≤ length program → r ≡ header_of at (fields_at program at to) → r ≡ Ok h → Wholly program at to h.tag h.next
field_whole program at to {h = h} k e q = when_whole program at to h.tag h.next k (sym e ∙ q)

pub field_inside : (program : List ℕ) (at to : ℕ) {r : Result Header NoHeader} {h : Header} → to ≤ length program → r ≡ header_of at (fields_at program at to) → r ≡ Ok h → (at + 3 ≤ h.next) × (h.next ≤ length program)
field_inside program at to k e q =
    let w = field_whole program at to k e q in
    let b = w.high in
    (w.low, omega arith)
