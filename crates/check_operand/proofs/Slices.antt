-- Slices: where they lie, whether they fit, and the one at a place. Assumes nothing.
use mathlib.Core.Path.{◌≡◌, refl, sym, ap, ◌∙◌}
use mathlib.Core.List.{List, [], ◌∷◌}
use mathlib.Core.Bool.{false}
use mathlib.Core.Option.{Option, none, some}
use Prim.Native.Nat.{ℕ, ◌+◌, ◌≤◌, ◌<◌}
use native.Mathlib.Omega.{arith}
use lib.IntN.{ℤ}
use lib.ListN.{length, drop, get_elem?}
use lib.Seq.{slice}
use Rattle.std.specs.Prelude.{Result, Ok, Err}
use Rattle.language.specs.Tree.{bad_index}
use Rattle.language.specs.Read.{Field, ending, due, outer_index, read_slice, slice_of}
use Rattle.language.specs.Form.{Form, Loop, Built, built, out_of_range, Showing, shown, not_shown, beyond_range, is_shown}
use Rattle.language.specs.Check.{Checked, good, refused, ◌>>=◌, ◌>>◌, no_leftover, in_form, in_scope, form_of, Formal, Kind, by_showing, must_show, whole_fits, room_after, sliced_size, slice_size, check_slice, slice_fits, check_operand}
use Rattle.kinds.specs.declared.Kind.TheVariants.{Qubit, Quantum, Classical, Family}
use Rattle.fields.specs.Header.{fields_at}
use Rattle.forms.specs.Flat.{as_form}
use Rattle.forms.specs.declared.OutOfRange.{OutOfRange}
use Rattle.refusals.specs.declared.Refusal.{Refusal}
use Rattle.check_index.specs.Answers.{checked_part, Beyond}
use Rattle.check_index.specs.Bounds.{checked_bounds, bounds_due}
use Rattle.check_index.proofs.TwoBounds.{bounds_are, bounds_end, bounds_then}
use Rattle.check_operand.specs.Tables.{Known, kind_in}
use Rattle.check_operand.specs.Operands.{wanted_of}
use Rattle.check_operand.specs.declared.Wanted.{Wanted}
use Rattle.check_operand.specs.declared.Wanted.TheVariants.{Wire, Bit, Register, Family as Passed}
use Rattle.check_operand.proofs.Shown.{stops, goes}
use Rattle.check_operand.proofs.Operands.{left_long, left_good}
use Rattle.kinds.specs.declared.Kind as D
use Rattle.language.specs.Check as C

-- what a showing, with a form beside it, answers
abbrev with_form : ℕ → Showing → List ℤ → Checked Form
with_form at x l = by_showing at x >> good (as_form l)

-- a slice of a register of a size: what is shown of it, one after the other
module _ (at : ℕ) (s : C.Scope) (size first last : Form) where
  abbrev size_shown : Built → Checked Form
  size_shown b = in_form at b >>= λ n. (must_show at s (built n) >> good n)

  abbrev last_shown : Checked Form
  last_shown = must_show at s (room_after size last) >> size_shown (slice_size first last)

  module _ {x : Showing} (e : x ≡ C.showing_in s (built first)) where
    first_is : (by_showing at x >> last_shown) ≡ check_slice at s size first last
    unfolding check_slice must_show
    first_is = ap (λ (z : Showing). by_showing at z >> last_shown) e

    pub first_stops : (l : List ℤ) → false ≡ is_shown x → with_form at x l ≡ check_slice at s size first last
    first_stops l h = stops at x h (good (as_form l)) last_shown ∙ first_is

    module _ (h : x ≡ shown) {y : Showing} (d : y ≡ C.showing_in s (room_after size last)) where
      last_is : (by_showing at y >> size_shown (slice_size first last)) ≡ check_slice at s size first last
      unfolding must_show
      last_is = ap (λ (z : Showing). by_showing at z >> size_shown (slice_size first last)) d ∙ goes at h last_shown ∙ first_is

      pub last_stops : (l : List ℤ) → false ≡ is_shown y → with_form at y l ≡ check_slice at s size first last
      last_stops l k = stops at y k (good (as_form l)) (size_shown (slice_size first last)) ∙ last_is

      module _ (k : y ≡ shown) where
        size_is : size_shown (slice_size first last) ≡ check_slice at s size first last
        size_is = goes at k (size_shown (slice_size first last)) ∙ last_is

        pub size_outside : (l : List ℤ) → slice_size first last ≡ out_of_range → with_form at beyond_range l ≡ check_slice at s size first last
        unfolding in_form ◌>>=◌ by_showing ◌>>◌
        size_outside l q = sym (ap size_shown q) ∙ size_is

        pub size_shown_lem : (l : List ℤ) → slice_size first last ≡ built (as_form l) → {z : Showing} → z ≡ C.showing_in s (built (as_form l)) → with_form at z l ≡ check_slice at s size first last
        unfolding in_form ◌>>=◌ must_show
        size_shown_lem l q v = ap (λ (z : Showing). with_form at z l) v ∙ sym (ap size_shown q) ∙ size_is

-- whether a slice fits: not where no register is due or none stands there, else by the answer on where it lies
module _ (at : ℕ) (s : C.Scope) (m : List ℤ) (size first last : Form) (known : Known) (g : Formal) where
  pub slice_unwanted : (w : Wanted) (k : Kind) → ((b : Result (Unit {0}) OutOfRange) → w ≡ Register b → ⊥) → refused 9 at ≡ slice_fits at s (wanted_of known w m) k first last
  unfolding slice_fits sliced_size wanted_of ◌>>=◌
  slice_unwanted Wire k h = refl
  slice_unwanted Bit k h = refl
  slice_unwanted (Register b) k h = absurd (h b refl)
  slice_unwanted (Passed x) k h = refl

  pub slice_no_register : (b : Result (Unit {0}) OutOfRange) (k : D.Kind) → (k ≡ Quantum → ⊥) → refused 9 at ≡ slice_fits at s (wanted_of known (Register b) m) (kind_in k size g) first last
  unfolding slice_fits sliced_size wanted_of kind_in ◌>>=◌
  slice_no_register b Qubit h = refl
  slice_no_register b Quantum h = absurd (h refl)
  slice_no_register b Classical h = refl
  slice_no_register b Family h = refl

  module _ (b : Result (Unit {0}) OutOfRange) (x : Showing) (l : List ℤ) (v : with_form at x l ≡ check_slice at s size first last) where
    abbrev enough : Form → Checked (Unit {0})
    enough n = whole_fits at s (wanted_of known (Register b) m) (C.quantum n)

    fits_is : (with_form at x l >>= enough) ≡ slice_fits at s (wanted_of known (Register b) m) (kind_in Quantum size g) first last
    unfolding slice_fits sliced_size wanted_of kind_in ◌>>=◌
    fits_is = ap (λ (c : Checked Form). c >>= enough) v

    pub lies_stops : false ≡ is_shown x → by_showing at x ≡ slice_fits at s (wanted_of known (Register b) m) (kind_in Quantum size g) first last
    unfolding is_shown by_showing ◌>>◌ ◌>>=◌
    lies_stops q = stopped x q ∙ fits_is
      where
        stopped : (x : Showing) → false ≡ is_shown x → by_showing at x ≡ (with_form at x l >>= enough)
        stopped shown q = absurd (let z : ◌≡◌ {A = ℕ} 0 1 = cc in omega arith)
        stopped not_shown q = refl
        stopped beyond_range q = refl

    pub lies_goes : x ≡ shown → whole_fits at s (wanted_of known (Register b) m) (kind_in Quantum (as_form l) g) ≡ slice_fits at s (wanted_of known (Register b) m) (kind_in Quantum size g) first last
    unfolding kind_in ◌>>=◌
    lies_goes q = ap (λ (c : Checked Form). c >>= enough) (goes at q (good (as_form l))) ∙ fits_is

module _ (s : C.Scope) (d : C.Due) (at : ℕ) (content : List ℕ) where
  pub slice_empty : content ≡ [] → refused 4 at ≡ check_operand s d (read_slice at content)
  unfolding check_operand read_slice
  slice_empty e = sym (ap (λ (l : List ℕ). check_operand s d (read_slice at l)) e)

  module _ (n : ℕ) (program : List ℕ) (next : ℕ) (e : content ≡ (n ∷ slice (at + 3 + 1) next program)) where
    abbrev inside : List Field
    inside = fields_at program (at + 4) next

    abbrev fits : Kind → Loop → Checked (Unit {0})
    fits k b = no_leftover at (ending (drop 2 inside)) >> slice_fits at s d k b.low b.high

    abbrev bounded : Kind → Checked (Unit {0})
    bounded k = form_of s (due outer_index (bad_index 4 at) inside) >>= λ f. (form_of s (due outer_index (bad_index 4 at) (drop 1 inside)) >>= λ l. (no_leftover at (ending (drop 2 inside)) >> slice_fits at s d k f l))

    slice_is : check_operand s d (read_slice at content) ≡ (in_scope at (get_elem? s.operands n) >>= bounded)
    unfolding check_operand read_slice slice_of fields_at
    slice_is =
        let q : at + 3 + 1 ≡ at + 4 = omega arith in
        ap (λ (l : List ℕ). check_operand s d (read_slice at l)) (e ∙ ap (λ (k : ℕ). n ∷ slice k next program) q)

    pub slice_beyond : get_elem? s.operands n ≡ none → refused 8 at ≡ check_operand s d (read_slice at content)
    unfolding in_scope ◌>>=◌
    slice_beyond q = sym (slice_is ∙ ap (λ (o : Option Kind). in_scope at o >>= bounded) q)

    module _ (k : Kind) (q : get_elem? s.operands n ≡ some k) (r : Result ℕ Refusal) (l h : List ℤ) (t : checked_bounds r l h ≡ bounds_due s at inside) where
      slice_some : check_operand s d (read_slice at content) ≡ (checked_bounds r l h >>= fits k)
      unfolding in_scope ◌>>=◌
      slice_some =
          slice_is ∙ ap (λ (o : Option Kind). in_scope at o >>= bounded) q
          ∙ sym (bounds_are s (due outer_index (bad_index 4 at) inside) (due outer_index (bad_index 4 at) (drop 1 inside)) (fits k)) ∙ ap (λ (c : Checked Loop). c >>= fits k) (sym t)

      pub slice_stops : {e : Refusal} → r ≡ Err e → checked_part (Err e) ≡ check_operand s d (read_slice at content)
      slice_stops z = bounds_end r l h (fits k) z ∙ sym slice_some

      module _ (end : ℕ) (u : r ≡ Ok end) (v : Beyond program (at + 4) next 2 end) where
        slice_end : check_operand s d (read_slice at content) ≡ (no_leftover at (ending (fields_at program end next)) >> slice_fits at s d k (as_form l) (as_form h))
        slice_end =
            slice_some ∙ bounds_then r l h end (fits k) u
            ∙ ap (λ (fs : List Field). no_leftover at (ending fs) >> slice_fits at s d k (as_form l) (as_form h)) v.rest

        pub slice_long : end < next → next ≤ length program → refused 4 at ≡ check_operand s d (read_slice at content)
        slice_long z w = left_long program at end next (slice_fits at s d k (as_form l) (as_form h)) z w ∙ sym slice_end

        pub slice_good : next ≤ end → slice_fits at s d k (as_form l) (as_form h) ≡ check_operand s d (read_slice at content)
        slice_good z = left_good program at end next (slice_fits at s d k (as_form l) (as_form h)) z ∙ sym slice_end
