-- Families that are passed in a call: the tests in their order, counts and kinds, and sizes. Assumes nothing.
use mathlib.Core.Path.{◌≡◌, refl, sym, ap, ◌∙◌}
use mathlib.Core.List.{List, [], ◌∷◌, map}
use mathlib.Core.Bool.{Bool, true, false, ◌&&◌}
use mathlib.Core.Option.{Option, none, some}
use Prim.Native.Nat.{ℕ, zero, suc, ◌+◌, ◌-◌, ◌≤◌, ◌<◌}
use native.Mathlib.Omega.{arith}
use native.Mathlib.Nat.{add-zero}
use lib.Dec.{eqb, ltb}
use lib.IntN.{ℤ}
use lib.ListN.{length, get_or, get_elem?}
use lib.Seq.{slice, length-slice}
use borrow.Author.Tests.{eq-eqb, ne_eqb, lt-ltb, le-ltb}
use Rattle.language.specs.Tree.{Operand, whole, element, slice as slice_operand, passed, bad_operand}
use Rattle.language.specs.Read.{field, two_bytes, choose, due, read_whole, read_element, element_of, read_slice, slice_of, read_passed, read_operand}
use Rattle.language.specs.Form.{Form, Loop, difference_of}
use Rattle.language.specs.Check.{Checked, refused, fine, require, in_scope, ◌>>=◌, ◌>>◌, Formal, Kind, Signature, fitting, must_show, size_scope, taken, plain_of, signature_of, plain_size, same_kind, same_kinds, size_fits, sizes_fit, family_fits, declared_before, check_operand}
use Rattle.kinds.specs.declared.Kind.TheVariants.{Qubit, Quantum, Classical, Family}
use Rattle.fields.specs.Header.{fields_at, header_of, tagged_in}
use Rattle.fields.proofs.Headers.{Wholly, View, ends, cuts, goes, view, when_not, slice_none}
use Rattle.std.specs.Prelude.{None}
use Rattle.check_operand.specs.Tables.{Formals, kind_in, kind_of_row, size_of_row, kind_by, kinds_at, tabulated}
use Rattle.check_operand.proofs.Tables.{row_get, row_none}
use Rattle.check_operand.specs.Operands.{NoFamily, Answerable}
use Rattle.check_operand.specs.declared.Wanted.{Wanted}
use Rattle.check_operand.specs.declared.Wanted.TheVariants.{Wire, Bit, Register, Family as Due}
use Rattle.check_operand.proofs.Passed.{two_first, passed_long, passed_good}
use Rattle.check_call.specs.Calls.{plain_in, plains_at, formal_in, signature_in, call_operand, IsPlain}
use Rattle.check_call.specs.Scopes.{scope_full, formals_of, signatures_of}
use Rattle.check_call.specs.declared.scope.FullScope.{FullScope}
use Rattle.forms.specs.Flat.{widened, as_form}
use Rattle.kinds.specs.declared.Kind as K
use Rattle.language.specs.Check as C

-- ---- the tests of a passed family, in their order

module _ (s : C.Scope) (before : ℕ) (forms : List Form) (k : Kind) (at : ℕ) (content : List ℕ) where
  abbrev asked : Checked (Unit {0})
  asked = call_operand s before forms k (read_passed at content)

  pub late_cut : length content < 2 → refused 4 at ≡ asked
  unfolding call_operand declared_before check_operand read_passed ◌>>◌
  late_cut h = by content h
    where
      by : (l : List ℕ) → length l < 2 → refused 4 at ≡ call_operand s before forms k (read_passed at l)
      by [] h = refl
      by (x ∷ []) h = refl
      by (x ∷ y ∷ l) h = absurd (omega arith)

  module _ (low high : ℕ) (more : List ℕ) (e : content ≡ (low ∷ high ∷ more)) where
    abbrev n : ℕ
    n = two_bytes low high

    asked_is : asked ≡ ((in_scope at (get_elem? s.families n) >>= λ f. require 33 at (ltb n before)) >> check_operand s (taken forms k) (read_passed at content))
    unfolding call_operand declared_before read_passed
    asked_is = ap (λ (l : List ℕ). declared_before s before (read_passed at l) >> check_operand s (taken forms k) (read_passed at content)) e

    pub late_beyond : get_elem? s.families n ≡ none → refused 8 at ≡ asked
    unfolding in_scope ◌>>=◌ ◌>>◌
    late_beyond q = sym (asked_is ∙ ap (λ (o : Option Signature). (in_scope at o >>= λ f. require 33 at (ltb n before)) >> check_operand s (taken forms k) (read_passed at content)) q)

    module _ (f : Signature) (q : get_elem? s.families n ≡ some f) where
      asked_some : asked ≡ (require 33 at (ltb n before) >> check_operand s (taken forms k) (read_passed at content))
      unfolding in_scope ◌>>=◌
      asked_some = asked_is ∙ ap (λ (o : Option Signature). (in_scope at o >>= λ f. require 33 at (ltb n before)) >> check_operand s (taken forms k) (read_passed at content)) q

      pub late : before ≤ n → refused 33 at ≡ asked
      unfolding require ◌>>◌
      late h = sym (asked_some ∙ ap (λ (b : Bool). require 33 at b >> check_operand s (taken forms k) (read_passed at content)) (le-ltb n before h))

      module _ (h : n < before) where
        early : check_operand s (taken forms k) (read_passed at content) ≡ asked
        unfolding require ◌>>◌
        early = sym (asked_some ∙ ap (λ (b : Bool). require 33 at b >> check_operand s (taken forms k) (read_passed at content)) (lt-ltb n before h))

        pub late_long : (length more ≡ 0 → ⊥) → refused 4 at ≡ asked
        late_long l = passed_long s (taken forms k) at content low high more e f q l ∙ early

        pub late_good : more ≡ [] → family_fits at (taken forms k) f ≡ asked
        late_good l = passed_good s (taken forms k) at content low high more e f q l ∙ early

-- the same, for a field of the program that ends at `next`, in the code's scope with any loops
module _ (full : FullScope) (program : List ℕ) (at next before number : ℕ) (room : next ≤ length program) (forms : List Form) (loops : List Loop) where
  abbrev pub with_loops : C.Scope
  with_loops = record (scope_full full) { loops = loops }

  abbrev pub asked_at : Checked (Unit {0})
  asked_at = call_operand with_loops before forms (kind_by (formals_of full) number full.scope.sizes.now) (read_passed at (slice (at + 3) next program))

  pub cut_at : next - (at + 3) < 2 → refused 4 at ≡ asked_at
  cut_at h = late_cut _ before forms _ at (slice (at + 3) next program) (omega (arith, length-slice (at + 3) next program room))

  module _ (long : (at + 3) + 2 ≤ next) (n : ℕ) (e : n ≡ two_bytes (get_or program (at + 3) 0) (get_or program (at + 3 + 1) 0)) where
    abbrev low : ℕ
    low = get_or program (at + 3) 0

    abbrev high : ℕ
    high = get_or program (at + 3 + 1) 0

    abbrev more : List ℕ
    more = slice (at + 3 + 2) next program

    first : slice (at + 3) next program ≡ (low ∷ high ∷ more)
    first = two_first (at + 3) next program long room

    pub beyond_at : full.scope.visible.families ≤ n → refused 8 at ≡ asked_at
    beyond_at h = late_beyond with_loops before forms _ at _ low high more first (row_none (signatures_of full) full.scope.visible.families 0 (two_bytes low high) (omega arith))

    module _ (there : n < full.scope.visible.families) where
      declared : get_elem? (tabulated (signatures_of full) full.scope.visible.families 0) (two_bytes low high) ≡ some (signatures_of full n)
      declared = row_get (signatures_of full) full.scope.visible.families 0 (two_bytes low high) (omega arith) ∙ ap (λ (k : ℕ). some (signatures_of full k)) (omega arith)

      pub late_at : before ≤ n → refused 33 at ≡ asked_at
      late_at h = late with_loops before forms _ at _ low high more first (signatures_of full n) declared (omega arith)

      module _ (early : n < before) where
        pub long_at : (next - (at + 3) ≡ 2 → ⊥) → refused 4 at ≡ asked_at
        long_at h = late_long with_loops before forms _ at _ low high more first (signatures_of full n) declared (omega arith) (λ z. h (omega (arith, length-slice (at + 3 + 2) next program room)))

        pub good_at : next - (at + 3) ≡ 2 → family_fits at (taken forms (kind_by (formals_of full) number full.scope.sizes.now)) (signatures_of full n) ≡ asked_at
        good_at h = late_good with_loops before forms _ at _ low high more first (signatures_of full n) declared (omega arith) (slice_none (at + 3 + 2) next program (omega arith))

-- where no family is due, none fits
pub not_due : (at : ℕ) (forms : List Form) (k : K.Kind) (i : Form) (g : Formal) (f : Signature) → (k ≡ Family → ⊥) → refused 9 at ≡ family_fits at (taken forms (kind_in k i g)) f
unfolding family_fits taken kind_in
not_due at forms Qubit i g f h = refl
not_due at forms Quantum i g f h = refl
not_due at forms Classical i g f h = refl
not_due at forms Family i g f h = absurd (h refl)

pub family_due : (at : ℕ) (forms : List Form) (i : Form) (g : Formal) (f : Signature) → family_fits at (fitting g) f ≡ family_fits at (taken forms (kind_in Family i g)) f
unfolding taken kind_in
family_due at forms i g f = refl

-- the operand due is a passed family
pub passed_due : (program : List ℕ) (at to parent next : ℕ) → Wholly program at to 51 next → read_passed at (slice (at + 3) next program) ≡ due read_operand (bad_operand 4 parent) (fields_at program at to)
unfolding due read_operand choose
passed_due program at to parent next w = sym (ap (due read_operand (bad_operand 4 parent)) w.first)

-- an operand that is not a family is only checked
pub plain_operand : (s : C.Scope) (before : ℕ) (forms : List Form) (k : Kind) (o : Operand) → NoFamily o → check_operand s (taken forms k) o ≡ call_operand s before forms k o
unfolding call_operand declared_before ◌>>◌
plain_operand s before forms k (whole p n e) h = refl
plain_operand s before forms k (element p n i e) h = refl
plain_operand s before forms k (slice_operand p n i j e) h = refl
plain_operand s before forms k (passed p n e) h = absurd h
plain_operand s before forms k (bad_operand n p) h = refl

whole_no : (at : ℕ) (l : List ℕ) → NoFamily (read_whole at l)
unfolding read_whole
whole_no at [] = tt
whole_no at (x ∷ l) = tt

element_no : (at : ℕ) (l : List ℕ) → NoFamily (read_element at l)
unfolding read_element element_of
element_no at [] = tt
element_no at (x ∷ l) = tt

slice_no : (at : ℕ) (l : List ℕ) → NoFamily (read_slice at l)
unfolding read_slice slice_of
slice_no at [] = tt
slice_no at (x ∷ l) = tt

other_tag : (at tag : ℕ) (l : List ℕ) → (tag ≡ 51 → ⊥) → NoFamily (read_operand (field at tag l))
unfolding read_operand choose
other_tag at tag l h = go (eqb tag 48) refl (eqb tag 49) refl (eqb tag 50) refl
  where
    go : (a : Bool) → eqb tag 48 ≡ a → (b : Bool) → eqb tag 49 ≡ b → (c : Bool) → eqb tag 50 ≡ c → NoFamily (read_operand (field at tag l))
    go true e b d c f = rw e (whole_no at l)
    go false e true d c f = rw (e, d) (element_no at l)
    go false e false d true f = rw (e, d, f) (slice_no at l)
    go false e false d false f = rw (e, d, f, ne_eqb tag 51 h) tt

-- a field with another tag is no family
pub no_family_lem : (program : List ℕ) (at to parent : ℕ) → to ≤ length program → tagged_in 51 (header_of at (fields_at program at to)) ≡ None → NoFamily (due read_operand (bad_operand 4 parent) (fields_at program at to))
unfolding due read_operand
no_family_lem program at to parent k e = go (view program at to k)
  where
    go : View program at to → NoFamily (due read_operand (bad_operand 4 parent) (fields_at program at to))
    go (ends x h) = rw x tt
    go (cuts x) = rw x tt
    go (goes u n w) = rw w.first (other_tag at u (slice (at + 3) n program) (when_not program at to 51 u n k e w))

pub answerable : (w : Wanted) (o : Operand) → NoFamily o → Answerable w o
answerable Wire o h = tt
answerable Bit o h = tt
answerable (Register b) o h = tt
answerable (Due x) o h = h

-- ---- counts and kinds

module _ (at : ℕ) (g : Formal) (f : Signature) where
  abbrev alike : Bool → Bool → Checked (Unit {0})
  alike a b = require 9 at (a && b) >> sizes_fit at g.variables g.sizes f.parameters

  pub fits_counts : (g.variables ≡ f.variables → ⊥) → refused 9 at ≡ family_fits at (fitting g) f
  unfolding family_fits require ◌>>◌
  fits_counts h = sym (ap (λ (a : Bool). alike a (same_kinds g.sizes f.parameters)) (ne_eqb g.variables f.variables h))

  module _ (e : g.variables ≡ f.variables) where
    pub fits_kinds : same_kinds g.sizes f.parameters ≡ false → refused 9 at ≡ family_fits at (fitting g) f
    unfolding family_fits require ◌>>◌
    fits_kinds h = sym (λ i. alike (eq-eqb g.variables f.variables e i) (h i))

    pub fits_sizes : same_kinds g.sizes f.parameters ≡ true → sizes_fit at g.variables g.sizes f.parameters ≡ family_fits at (fitting g) f
    unfolding family_fits require ◌>>◌
    fits_sizes h = sym (λ i. alike (eq-eqb g.variables f.variables e i) (h i))

-- as many are alike
pub many_alike : (is : List (Option Form)) (ks : List Kind) → (length is ≡ length ks → ⊥) → same_kinds is ks ≡ false
unfolding same_kinds
many_alike [] [] h = absurd (h refl)
many_alike [] (k ∷ ks) h = refl
many_alike (i ∷ is) [] h = refl
many_alike (i ∷ is) (k ∷ ks) h = by (same_kind i k) (many_alike is ks (λ e. h (ap suc e)))
  where
    by : (b : Bool) → same_kinds is ks ≡ false → (b && same_kinds is ks) ≡ false
    by true e = e
    by false e = refl

module _ (i : Option Form) (is : List (Option Form)) (k : Kind) (ks : List Kind) where
  pub first_differs : same_kind i k ≡ false → same_kinds (i ∷ is) (k ∷ ks) ≡ false
  unfolding same_kinds
  first_differs e = ap (λ (b : Bool). b && same_kinds is ks) e

  pub first_same : same_kind i k ≡ true → same_kinds (i ∷ is) (k ∷ ks) ≡ same_kinds is ks
  unfolding same_kinds
  first_same e = ap (λ (b : Bool). b && same_kinds is ks) e

-- ---- sizes

module _ (at m : ℕ) (i : Form) (o : Option Form) where
  pub no_formal : (k : K.Kind) → (k ≡ Quantum → ⊥) → fine ≡ size_fits at m (plain_in k i) o
  unfolding size_fits plain_in
  no_formal Qubit h = refl
  no_formal Quantum h = absurd (h refl)
  no_formal Classical h = refl
  no_formal Family h = refl

pub no_actual : (at m : ℕ) (o : Option Form) (j : Form) (g : Formal) (k : K.Kind) → (k ≡ Quantum → ⊥) → fine ≡ size_fits at m o (plain_size (kind_in k j g))
unfolding size_fits plain_size kind_in
no_actual at m none j g Qubit h = refl
no_actual at m none j g Quantum h = refl
no_actual at m none j g Classical h = refl
no_actual at m none j g Family h = refl
no_actual at m (some i) j g Qubit h = refl
no_actual at m (some i) j g Quantum h = absurd (h refl)
no_actual at m (some i) j g Classical h = refl
no_actual at m (some i) j g Family h = refl

pub both_sizes : (at m : ℕ) (i j : Form) (g : Formal) → must_show at (size_scope m) (difference_of i j) ≡ size_fits at m (plain_in Quantum i) (plain_size (kind_in Quantum j g))
unfolding size_fits plain_in plain_size kind_in
both_sizes at m i j g = refl

-- what a family parameter takes, as its rows say, where they are plain
pub plain_kinds_lem : (formals : Formals) (kinds : List ℕ) (sizes : List (List ℤ)) (n i : ℕ) → ((j : ℕ) → j < n → IsPlain (kind_of_row (get_or kinds (i + j) 0))) → map plain_of (plains_at n i kinds sizes) ≡ kinds_at formals n i kinds sizes
unfolding tabulated plain_in plain_of kind_in
plain_kinds_lem formals kinds sizes zero i h = refl
plain_kinds_lem formals kinds sizes (suc n) i h =
    λ j. one (kind_of_row (get_or kinds i 0)) (rw add-zero at (h 0 (omega arith))) j ∷ plain_kinds_lem formals kinds sizes n (suc i) (λ j k. let e : suc i + j ≡ i + suc j = omega arith in rw e (h (suc j) (omega arith))) j
  where
    size : Form
    size = as_form (widened (get_or sizes (size_of_row (get_or kinds i 0)) []))

    one : (k : K.Kind) → IsPlain k → plain_of (plain_in k size) ≡ kind_in k size (formals (size_of_row (get_or kinds i 0)))
    one Qubit h = refl
    one Quantum h = refl
    one Classical h = absurd h
    one Family h = absurd h

pub formal_signature : (formals : Formals) (kinds : List ℕ) (sizes : List (List ℤ)) (row : List ℕ) → ((i : ℕ) → i < get_or row 1 0 → IsPlain (kind_of_row (get_or kinds (get_or row 2 0 + i) 0))) → signature_of (formal_in row kinds sizes) ≡ signature_in formals row kinds sizes
unfolding signature_of
formal_signature formals kinds sizes row h = λ i. record { variables = get_or row 0 0; parameters = plain_kinds_lem formals kinds sizes (get_or row 1 0) (get_or row 2 0) h i }

pub formal_kind : (f : Form) (g : Formal) → kind_in Family f g ≡ C.formal g
unfolding kind_in
formal_kind f g = refl
