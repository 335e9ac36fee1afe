-- Two wires: the forms that are left beside the answers, and one wire twice. Assumes nothing.
use mathlib.Core.Path.{◌≡◌, refl, sym, ap, ◌∙◌, subst}
use mathlib.Core.List.{List, [], ◌∷◌}
use mathlib.Core.Bool.{Bool, true, false, not, ◌&&◌, ◌||◌}
use Prim.Native.Nat.{ℕ, ◌+◌, ◌≤◌, ◌<◌}
use native.Mathlib.Omega.{arith}
use lib.IntN.{ℤ}
use lib.Dec.{leb, eqb}
use lib.ListN.{length, get_or, drop, get_elem?}
use lib.Seq.{slice}
use borrow.Author.Tests.{leb-true, leb-false, eqb-true, eqb-false, eq-eqb, ne_eqb}
use Rattle.std.specs.Prelude.{Result, Ok, Err}
use Rattle.language.specs.Tree.{Ending, Index, Operand, whole, element, bad_index, bad_operand}
use Rattle.language.specs.Read.{Field, fields, ending, due, outer_index, read_whole, read_element, element_of, read_slice, slice_of, read_passed, read_operand, operand_due}
use Rattle.language.specs.Form.{Form, same_form}
use Rattle.language.specs.Check as C
use Rattle.language.specs.Check.{Checked, good, refused, ◌>>◌, fine, require, no_leftover, in_scope, form_of, wire, sliced_size, slice_fits, family_fits, check_operand, check_two, check_wires, equal_forms, same_wire}
use Rattle.language.proofs.Safe.{not_good, both, then_both}
use Rattle.fields.specs.Header.{fields_at}
use Rattle.fields.proofs.Headers.{Wholly, View, ends, cuts, goes, view, slice_none, one_byte}
use Rattle.forms.specs.Flat.{Kept, as_form}
use Rattle.check_index.specs.Answers.{checked_form, checked_part, PastField}
use Rattle.refusals.specs.declared.Refusal.{Refusal}
use Rattle.check_operand.specs.Tables.{Known}
use Rattle.check_operand.specs.Operands.{wanted_of, checked_two, FormOf, Leaves, Comparable, same_by}
use Rattle.check_operand.specs.declared.Wanted.{Wanted}
use Rattle.check_operand.specs.declared.Wanted.TheVariants.{Wire, Bit, Register, Family}
use Rattle.check_operand.proofs.Operands.{whole_none, element_none, operand_end, operand_cut, operand_other, reads_whole, reads_element, reads_slice, reads_passed}

-- ---- the forms that are left

pub leaves_form : (s : C.Scope) (o : Operand) (r : Result ℕ Refusal) (l : List ℤ) → FormOf s o l → Leaves s o r l
leaves_form s o (Ok n) l h = h
leaves_form s o (Err e) l h = tt

pub leaves_upto : (s : C.Scope) (o : Operand) (r : Result ℕ Refusal) (l : List ℤ) (n : ℕ) → r ≡ Ok n → Leaves s o r l → FormOf s o l
leaves_upto s o r l n e h = rw e at h

pub fine_upto : (r : Result ℕ Refusal) (n : ℕ) (x : Checked (Unit {0})) → checked_part r ≡ x → r ≡ Ok n → x ≡ fine
unfolding checked_part
fine_upto r n x e u = sym e ∙ ap checked_part u

-- an index that is right has the form beside its answer
pub form_is : (r : Result ℕ Refusal) (l : List ℤ) (n : ℕ) (x : Checked Form) → checked_form r l ≡ x → r ≡ Ok n → x ≡ good (as_form l)
unfolding checked_form
form_is r l n x e u = sym e ∙ ap (λ (y : Result ℕ Refusal). checked_form y l) u

-- operands that have none
pub whole_form : (s : C.Scope) (at : ℕ) (content : List ℕ) (l : List ℤ) → FormOf s (read_whole at content) l
unfolding read_whole
whole_form s at [] l = tt
whole_form s at (n ∷ rest) l = tt

pub slice_form : (s : C.Scope) (at : ℕ) (content : List ℕ) (l : List ℤ) → FormOf s (read_slice at content) l
unfolding read_slice slice_of
slice_form s at [] l = tt
slice_form s at (n ∷ rest) l = tt

pub passed_form : (s : C.Scope) (at : ℕ) (content : List ℕ) (l : List ℤ) → FormOf s (read_passed at content) l
unfolding read_passed
passed_form s at [] l = tt
passed_form s at (low ∷ []) l = tt
passed_form s at (low ∷ high ∷ rest) l = tt

-- and one that has
pub element_form : (s : C.Scope) (at n next : ℕ) (program content : List ℕ) (l : List ℤ) → content ≡ (n ∷ slice (at + 3 + 1) next program)
    → form_of s (due outer_index (bad_index 4 at) (fields_at program (at + 4) next)) ≡ good (as_form l) → Kept l → FormOf s (read_element at content) l
unfolding read_element element_of fields_at
element_form s at n next program content l e f k =
    let q : at + 3 + 1 ≡ at + 4 = omega arith in
    subst (λ (c : List ℕ). FormOf s (read_element at c) l) (sym (e ∙ ap (λ (j : ℕ). n ∷ slice j next program) q)) (f, k)

-- the operand due, by its tag
module _ (s : C.Scope) (program : List ℕ) (at to parent tag next : ℕ) (w : Wholly program at to tag next) (r : Result ℕ Refusal) (l : List ℤ) where
  abbrev pub Left : Type 0
  Left = Leaves s (due read_operand (bad_operand 4 parent) (fields_at program at to)) r l

  pub left_whole : tag ≡ 48 → Left
  left_whole e = subst (λ (o : Operand). Leaves s o r l) (sym (reads_whole program at to parent tag next w e)) (leaves_form s _ r l (whole_form s at (slice (at + 3) next program) l))

  pub left_element : tag ≡ 49 → Leaves s (read_element at (slice (at + 3) next program)) r l → Left
  left_element e = subst (λ (o : Operand). Leaves s o r l) (sym (reads_element program at to parent tag next w e))

  pub left_slice : tag ≡ 50 → Left
  left_slice e = subst (λ (o : Operand). Leaves s o r l) (sym (reads_slice program at to parent tag next w e)) (leaves_form s _ r l (slice_form s at (slice (at + 3) next program) l))

  pub left_passed : tag ≡ 51 → Left
  left_passed e = subst (λ (o : Operand). Leaves s o r l) (sym (reads_passed program at to parent tag next w e)) (leaves_form s _ r l (passed_form s at (slice (at + 3) next program) l))

-- ---- an operand that is right as a wire, by its bytes

pub data Named (program : List ℕ) (at : ℕ) : Operand → Type 0 where
  wholly : {p n : ℕ} {e : Ending} → get_or program at 0 ≡ 48 → get_or program (at + 3) 0 ≡ n → at + 3 < length program → Named program at (whole p n e)
  partly : {p n : ℕ} {i : Index} {e : Ending} → get_or program at 0 ≡ 49 → get_or program (at + 3) 0 ≡ n → at + 3 < length program → Named program at (element p n i e)

no_slice : (s : C.Scope) (at : ℕ) (content : List ℕ) → check_operand s wire (read_slice at content) ≡ fine → ⊥
unfolding read_slice slice_of check_operand slice_fits sliced_size C.◌>>=◌
no_slice s at [] h = not_good h
no_slice s at (n ∷ rest) h =
    let fs = fields (at + 4) rest in
    let a = both (in_scope at (get_elem? s.operands n)) _ tt h in
    let b = both (form_of s (due outer_index (bad_index 4 at) fs)) _ tt a.second in
    let c = both (form_of s (due outer_index (bad_index 4 at) (drop 1 fs))) _ tt b.second in
    not_good (then_both (no_leftover at (ending (drop 2 fs))) _ tt c.second).1

no_family_lem : (s : C.Scope) (at : ℕ) (content : List ℕ) → check_operand s wire (read_passed at content) ≡ fine → ⊥
unfolding read_passed check_operand family_fits
no_family_lem s at [] h = not_good h
no_family_lem s at (low ∷ []) h = not_good h
no_family_lem s at (low ∷ high ∷ rest) h =
    let a = both (in_scope at (get_elem? s.families _)) _ tt h in
    not_good (then_both (no_leftover at (ending rest)) _ tt a.second).1

module _ (s : C.Scope) (program : List ℕ) (at to parent : ℕ) (k : to ≤ length program) where
  abbrev operand_read : Operand
  operand_read = due read_operand (bad_operand 4 parent) (fields_at program at to)

  module _ (h : check_operand s wire operand_read ≡ fine) (tag next : ℕ) (w : Wholly program at to tag next) where
    abbrev content : List ℕ
    content = slice (at + 3) next program

    no_content : next ≤ at + 3 → content ≡ []
    no_content q = slice_none (at + 3) next program q

    first_byte : at + 3 < next → content ≡ (get_or program (at + 3) 0 ∷ slice (at + 3 + 1) next program)
    first_byte q = let u = w.high in one_byte (at + 3) next program q (omega arith)

    as_whole : tag ≡ 48 → Named program at operand_read
    unfolding read_whole
    as_whole e = subst (Named program at) (sym r) (by (leb next (at + 3)) (leb-true next (at + 3)) (leb-false next (at + 3)))
      where
        r : operand_read ≡ read_whole at content
        r = reads_whole program at to parent tag next w e

        by : (b : Bool) → (b ≡ true → next ≤ at + 3) → (b ≡ false → at + 3 < next) → Named program at (read_whole at content)
        by true f g = absurd (not_good (whole_none s wire at content (no_content (f refl)) ∙ ap (check_operand s wire) (sym r) ∙ h))
        by false f g = let u = w.high in let q = g refl in subst (λ (c : List ℕ). Named program at (read_whole at c)) (sym (first_byte q)) (wholly (sym w.byte ∙ e) refl (omega arith))

    as_element : tag ≡ 49 → Named program at operand_read
    unfolding read_element element_of
    as_element e = subst (Named program at) (sym r) (by (leb next (at + 3)) (leb-true next (at + 3)) (leb-false next (at + 3)))
      where
        r : operand_read ≡ read_element at content
        r = reads_element program at to parent tag next w e

        by : (b : Bool) → (b ≡ true → next ≤ at + 3) → (b ≡ false → at + 3 < next) → Named program at (read_element at content)
        by true f g = absurd (not_good (element_none s wire at content (no_content (f refl)) ∙ ap (check_operand s wire) (sym r) ∙ h))
        by false f g = let u = w.high in let q = g refl in subst (λ (c : List ℕ). Named program at (read_element at c)) (sym (first_byte q)) (partly (sym w.byte ∙ e) refl (omega arith))

    by_tag : Named program at operand_read
    by_tag = go (eqb tag 48) (eqb-true tag 48) (eqb-false tag 48) (eqb tag 49) (eqb-true tag 49) (eqb-false tag 49) (eqb tag 50) (eqb-true tag 50) (eqb-false tag 50) (eqb tag 51) (eqb-true tag 51) (eqb-false tag 51)
      where
        go : (a : Bool) → (a ≡ true → tag ≡ 48) → (a ≡ false → tag ≡ 48 → ⊥) → (b : Bool) → (b ≡ true → tag ≡ 49) → (b ≡ false → tag ≡ 49 → ⊥)
            → (c : Bool) → (c ≡ true → tag ≡ 50) → (c ≡ false → tag ≡ 50 → ⊥) → (d : Bool) → (d ≡ true → tag ≡ 51) → (d ≡ false → tag ≡ 51 → ⊥) → Named program at operand_read
        go true x x' b y y' c z z' d u u' = as_whole (x refl)
        go false x x' true y y' c z z' d u u' = as_element (y refl)
        go false x x' false y y' true z z' d u u' = absurd (no_slice s at content (ap (check_operand s wire) (sym (reads_slice program at to parent tag next w (z refl))) ∙ h))
        go false x x' false y y' false z z' true u u' = absurd (no_family_lem s at content (ap (check_operand s wire) (sym (reads_passed program at to parent tag next w (u refl))) ∙ h))
        go false x x' false y y' false z z' false u u' = absurd (not_good (operand_other s wire program at to parent tag next w (x' refl) (y' refl) (z' refl) (u' refl) ∙ h))

  pub named : check_operand s wire operand_read ≡ fine → Named program at operand_read
  named h = go (view program at to k)
    where
      go : View program at to → Named program at operand_read
      go (ends e q) = absurd (not_good (operand_end s wire program at to parent e ∙ h))
      go (cuts e) = absurd (not_good (operand_cut s wire program at to parent e ∙ h))
      go (goes tag next w) = by_tag h tag next w

-- its bytes and its form can be compared
pub comparable : (s : C.Scope) (program : List ℕ) (at : ℕ) (o : Operand) (l : List ℤ) → Named program at o → FormOf s o l → Comparable program at l
comparable s program at o l (wholly t n r) f = record { there = r; kept = λ h. absurd (h t) }
comparable s program at o l (partly t n r) f = record { there = r; kept = λ h. f.1 }

-- and the comparison tells whether two of them are one wire
pub same_is : (s : C.Scope) (program : List ℕ) (first second : ℕ) (c o : Operand) (l m : List ℤ) → Named program first c → Named program second o → FormOf s c l → FormOf s o m → same_by program first second l m ≡ same_wire s c o
unfolding same_by same_wire equal_forms
same_is s program first second c o l m (wholly t n r) (wholly u k q) f g = rw (t, u, n, k) (whole_alone _)
  where
    whole_alone : (b : Bool) → (b && true) ≡ b
    whole_alone true = refl
    whole_alone false = refl
same_is s program first second c o l m (wholly t n r) (partly u k q) f g = rw (t, u) refl
same_is s program first second c o l m (partly t n r) (wholly u k q) f g = rw (t, u) refl
same_is s program first second c o l m (partly t n r) (partly u k q) f g = rw (t, u, n, k, f.0, g.0) refl

-- the comparison, test by test
module _ (program : List ℕ) (first second : ℕ) (l m : List ℤ) where
  pub other_tags : (get_or program first 0 ≡ get_or program second 0 → ⊥) → same_by program first second l m ≡ false
  unfolding same_by
  other_tags h = rw (ne_eqb (get_or program first 0) (get_or program second 0) h) refl

  pub other_numbers : (get_or program (first + 3) 0 ≡ get_or program (second + 3) 0 → ⊥) → same_by program first second l m ≡ false
  unfolding same_by
  other_numbers h = rw (ne_eqb (get_or program (first + 3) 0) (get_or program (second + 3) 0) h) (no_more (eqb (get_or program first 0) (get_or program second 0)))
    where
      no_more : (b : Bool) → (b && false && (eqb (get_or program first 0) 48 || same_form (as_form l) (as_form m))) ≡ false
      no_more true = refl
      no_more false = refl

  module _ (t : get_or program first 0 ≡ get_or program second 0) (n : get_or program (first + 3) 0 ≡ get_or program (second + 3) 0) where
    left : same_by program first second l m ≡ (eqb (get_or program first 0) 48 || same_form (as_form l) (as_form m))
    unfolding same_by
    left = rw (eq-eqb (get_or program first 0) (get_or program second 0) t, eq-eqb (get_or program (first + 3) 0) (get_or program (second + 3) 0) n) refl

    pub both_whole : get_or program first 0 ≡ 48 → same_by program first second l m ≡ true
    both_whole e = left ∙ ap (λ (b : Bool). b || same_form (as_form l) (as_form m)) (eq-eqb (get_or program first 0) 48 e)

    pub by_forms : (get_or program first 0 ≡ 48 → ⊥) → same_by program first second l m ≡ same_form (as_form l) (as_form m)
    by_forms h = left ∙ ap (λ (b : Bool). b || same_form (as_form l) (as_form m)) (ne_eqb (get_or program first 0) 48 h)

-- what is asked of two wires holds whatever is known of families: also if nothing is
abbrev pub nothing_known : Known
nothing_known = record { declared = λ n. record { variables = 0; parameters = [] }; formals = λ n. record { variables = 0; sizes = [] } }

-- what is left to test after two operands: two wires are not one
abbrev pub last_test : ℕ → C.Scope → C.Due → (first second : Operand) → Checked (Unit {0})
last_test p s C.wire w o = require 35 p (not (s.rules.twice && same_wire s w o))
last_test p s C.bit w o = fine
last_test p s (C.register i) w o = fine
last_test p s (C.fitting g) w o = fine

then_fine : (x : Checked (Unit {0})) → (x >> fine) ≡ x
unfolding ◌>>◌
then_fine (good tt) = refl
then_fine (refused n p) = refl

pub two_then : (p : ℕ) (s : C.Scope) (d : C.Due) (w o : Operand) (e : Ending) → (check_two p s d w o e >> last_test p s d w o) ≡ checked_two p s d w o e
unfolding check_wires
two_then p s C.wire w o e = refl
two_then p s C.bit w o e = then_fine (check_two p s C.bit w o e)
two_then p s (C.register i) w o e = then_fine (check_two p s (C.register i) w o e)
two_then p s (C.fitting g) w o e = then_fine (check_two p s (C.fitting g) w o e)

pub second_wire : (k : Known) (a : Wanted) (l : List ℤ) → a ≡ Wire → wanted_of k a l ≡ C.wire
unfolding wanted_of
second_wire k a l h = ap (λ (a : Wanted). wanted_of k a l) h

pub second_other : (p : ℕ) (s : C.Scope) (k : Known) (a : Wanted) (l : List ℤ) (w o : Operand) → (a ≡ Wire → ⊥) → last_test p s (wanted_of k a l) w o ≡ fine
unfolding wanted_of
second_other p s k Wire l w o h = absurd (h refl)
second_other p s k Bit l w o h = refl
second_other p s k (Register t) l w o h = refl
second_other p s k (Family x) l w o h = refl

-- two wires that are right, the second of which starts at `mid`
module _ (s : C.Scope) (program : List ℕ) (p from next mid : ℕ) (k : next ≤ length program) (v : PastField program from next mid) (l m : List ℤ) where
  abbrev all : List Field
  all = fields_at program from next

  abbrev rest : List Field
  rest = fields_at program mid next

  module _ (f : FormOf s (operand_due p 0 all) l) (g : FormOf s (operand_due p 0 rest) m) (x : check_operand s wire (operand_due p 0 all) ≡ fine) (y : check_operand s wire (operand_due p 0 rest) ≡ fine) where
    pub can_compare : Comparable program from l × Comparable program mid m
    can_compare = (comparable s program from (operand_due p 0 all) l (named s program from next p k x) f, comparable s program mid (operand_due p 0 rest) m (named s program mid next p k y) g)

    pub twice_is : same_by program from mid l m ≡ same_wire s (operand_due p 0 all) (operand_due p 1 all)
    twice_is =
        same_is s program from mid (operand_due p 0 all) (operand_due p 0 rest) l m (named s program from next p k x) (named s program mid next p k y) f g
        ∙ ap (λ (fs : List Field). same_wire s (operand_due p 0 all) (due read_operand (bad_operand 4 p) fs)) (sym v.rest)
