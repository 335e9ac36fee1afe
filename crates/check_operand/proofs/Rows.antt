-- The operand that bytes name, by its row: taken whole, an element, a slice. Assumes nothing.
use mathlib.Core.Path.{◌≡◌, sym, ap, ◌∙◌}
use mathlib.Core.List.{List, ◌∷◌}
use mathlib.Core.Option.{some}
use Prim.Native.Nat.{ℕ, ◌+◌, ◌≤◌, ◌<◌}
use native.Mathlib.Omega.{arith}
use lib.IntN.{ℤ}
use lib.ListN.{length, get_or, get_elem?}
use lib.Seq.{slice, length-slice}
use Rattle.std.specs.Prelude.{Result, Ok, Err}
use Rattle.refusals.specs.declared.Refusal.{Refusal}
use Rattle.refusals.specs.declared.Reason.TheVariants.{BadContent, NotInScope}
use Rattle.language.specs.Tree.{bad_index}
use Rattle.language.specs.Read.{due, outer_index, read_whole, read_element, read_slice}
use Rattle.language.specs.Check.{Checked, refused, ◌>>=◌, form_of, whole_fits, element_size, check_within, slice_fits, check_operand}
use Rattle.fields.specs.Header.{fields_at}
use Rattle.fields.proofs.Headers.{one_byte, slice_none}
use Rattle.forms.specs.Flat.{as_form}
use Rattle.forms.specs.Ranges.{all_loops}
use Rattle.forms.specs.declared.ranges.Ranges.{Ranges}
use Rattle.check_index.specs.Answers.{checked_part, checked_form, FormPasses}
use Rattle.check_index.specs.Bounds.{checked_bounds, bounds_due, BoundsPass}
use Rattle.check_index.specs.Indexes.{scope_of}
use Rattle.check_index.proofs.Answers.{form_passes_upto}
use Rattle.check_index.proofs.TwoBounds.{bounds_upto}
use Rattle.check_operand.specs.Tables.{Known, kind_at, kinds_at, tabulated, scope_with}
use Rattle.check_operand.specs.Scopes.{scope_at, InRow, Unnamed}
use Rattle.check_operand.specs.Operands.{FormOf}
use Rattle.check_operand.specs.declared.scope.Scope.{Scope}
use Rattle.check_operand.proofs.Tables.{kinds_get, kinds_none, scope_forms, bounds_same, same_scope}
use Rattle.check_operand.proofs.Operands.{whole_none, whole_beyond, whole_long, whole_good, element_none, element_beyond, element_stops, element_long, element_good}
use Rattle.check_operand.proofs.Slices.{slice_empty, slice_beyond, slice_stops, slice_long, slice_good}
use Rattle.check_operand.proofs.Wires.{element_form, form_is}
use Rattle.language.specs.Check as C

-- the scope by the ranges that forms are shown under there
pub ranges_scope : (k : Known) (s : Scope) (r : Ranges) → r.variables ≡ s.visible.variables → r.loops ≡ s.visible.loops → r.lows.now ≡ s.lows.now → r.highs.now ≡ s.highs.now
    → scope_with (tabulated k.declared s.visible.families 0) (kinds_at k.formals s.visible.count s.visible.first s.kinds.now s.sizes.now) r.variables (all_loops r) ≡ scope_at k s
ranges_scope k s r a b c d = same_scope _ _ a b c d

-- bytes that name no operand
pub unnamed_empty : (s : Scope) (program : List ℕ) (at next : ℕ) → next ≤ at + 3 → Unnamed s program at next (record { 0 = BadContent; 1 = at })
unfolding checked_part
unnamed_empty s program at next h =
    let e = slice_none (at + 3) next program h in
    record {
      whole = λ k d. whole_none (scope_at k s) d at (slice (at + 3) next program) e;
      element = λ k d. element_none (scope_at k s) d at (slice (at + 3) next program) e;
      part = λ k d. slice_empty (scope_at k s) d at (slice (at + 3) next program) e;
    }

pub unnamed_beyond : (s : Scope) (program : List ℕ) (at next : ℕ) → at + 3 < next → next ≤ length program → s.visible.count ≤ get_or program (at + 3) 0 → Unnamed s program at next (record { 0 = NotInScope; 1 = at })
unfolding checked_part
unnamed_beyond s program at next h b q =
    let n = get_or program (at + 3) 0 in
    let e = one_byte (at + 3) next program h b in
    let none = λ (k : Known). kinds_none k.formals s.visible.count s.visible.first n s.kinds.now s.sizes.now q in
    record {
      whole = λ k d. whole_beyond (scope_at k s) d at (slice (at + 3) next program) n (slice (at + 3 + 1) next program) e (none k);
      element = λ k d. element_beyond (scope_at k s) d at (slice (at + 3) next program) n program next e (none k);
      part = λ k d. slice_beyond (scope_at k s) d at (slice (at + 3) next program) n program next e (none k);
    }

module _ (k : Known) (s : Scope) (d : C.Due) (program : List ℕ) (at next row : ℕ) (q : InRow s.visible program at next row) (b : next ≤ length program) where
  abbrev content : List ℕ
  content = slice (at + 3) next program

  abbrev n : ℕ
  n = get_or program (at + 3) 0

  abbrev kind : C.Kind
  kind = kind_at k.formals row s.kinds.now s.sizes.now

  first : content ≡ (n ∷ slice (at + 3 + 1) next program)
  first = one_byte (at + 3) next program q.there b

  found : get_elem? (scope_at k s).operands n ≡ some kind
  found = kinds_get k.formals s.visible.count s.visible.first n s.kinds.now s.sizes.now q.below ∙ ap (λ (j : ℕ). some (kind_at k.formals j s.kinds.now s.sizes.now)) (sym q.row_is)

  pub row_whole_long : at + 4 < next → refused 4 at ≡ check_operand (scope_at k s) d (read_whole at content)
  row_whole_long h =
      let l = length-slice (at + 3 + 1) next program b in
      whole_long (scope_at k s) d at content n (slice (at + 3 + 1) next program) first kind found (λ z. absurd (omega arith))

  pub row_whole : next ≤ at + 4 → whole_fits at (scope_at k s) d kind ≡ check_operand (scope_at k s) d (read_whole at content)
  row_whole h = whole_good (scope_at k s) d at content n (slice (at + 3 + 1) next program) first kind found (slice_none (at + 3 + 1) next program (omega arith))

  -- an element, from the answer on its index
  module _ (r : Result ℕ Refusal) (l : List ℤ) (t : checked_form r l ≡ form_of (scope_of (s.visible.variables + s.visible.loops)) (due outer_index (bad_index 4 at) (fields_at program (at + 4) next))) where
    form_meant : checked_form r l ≡ form_of (scope_at k s) (due outer_index (bad_index 4 at) (fields_at program (at + 4) next))
    form_meant = t ∙ scope_forms _ _ s.visible.variables s.visible.loops s.lows.now s.highs.now (due outer_index (bad_index 4 at) (fields_at program (at + 4) next))

    pub row_element_stops : {e : Refusal} → r ≡ Err e → checked_part (Err e) ≡ check_operand (scope_at k s) d (read_element at content)
    row_element_stops u = element_stops (scope_at k s) d at content n program next first kind found r l form_meant u

    module _ (end : ℕ) (u : r ≡ Ok end) (p : FormPasses program (at + 4) next r l) where
      pub row_element_long : end < next → refused 4 at ≡ check_operand (scope_at k s) d (read_element at content)
      row_element_long h = element_long (scope_at k s) d at content n program next first kind found r l form_meant end u (form_passes_upto program (at + 4) next r l end u p).0 h b

      pub row_element : next ≤ end → (element_size at d kind >>= λ size. check_within at (scope_at k s) size (as_form l)) ≡ check_operand (scope_at k s) d (read_element at content)
      row_element h = element_good (scope_at k s) d at content n program next first kind found r l form_meant end u (form_passes_upto program (at + 4) next r l end u p).0 h

      pub row_form : FormOf (scope_at k s) (read_element at content) l
      row_form = element_form (scope_at k s) at n next program content l first (form_is r l end _ form_meant u) (form_passes_upto program (at + 4) next r l end u p).1

  -- a slice, from the answer on its two indexes
  module _ (r : Result ℕ Refusal) (l h : List ℤ) (t : checked_bounds r l h ≡ bounds_due (scope_of (s.visible.variables + s.visible.loops)) at (fields_at program (at + 4) next)) where
    bounds_meant : checked_bounds r l h ≡ bounds_due (scope_at k s) at (fields_at program (at + 4) next)
    bounds_meant = t ∙ bounds_same _ _ s.visible.variables s.visible.loops s.lows.now s.highs.now at (fields_at program (at + 4) next)

    pub row_slice_stops : {e : Refusal} → r ≡ Err e → checked_part (Err e) ≡ check_operand (scope_at k s) d (read_slice at content)
    row_slice_stops u = slice_stops (scope_at k s) d at content n program next first kind found r l h bounds_meant u

    module _ (end : ℕ) (u : r ≡ Ok end) (p : BoundsPass program (at + 4) next r l h) where
      pub row_slice_long : end < next → refused 4 at ≡ check_operand (scope_at k s) d (read_slice at content)
      row_slice_long z = slice_long (scope_at k s) d at content n program next first kind found r l h bounds_meant end u (bounds_upto program (at + 4) next r l h end u p).0 z b

      pub row_slice : next ≤ end → slice_fits at (scope_at k s) d kind (as_form l) (as_form h) ≡ check_operand (scope_at k s) d (read_slice at content)
      row_slice z = slice_good (scope_at k s) d at content n program next first kind found r l h bounds_meant end u (bounds_upto program (at + 4) next r l h end u p).0 z
