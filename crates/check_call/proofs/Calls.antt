-- A call's operands, and the whole call. Assumes nothing.
use mathlib.Core.Path.{◌≡◌, refl, sym, ap, ◌∙◌}
use mathlib.Core.List.{List, [], ◌∷◌, map}
use mathlib.Core.Bool.{Bool, true, false, cond, ◌&&◌}
use mathlib.Core.Option.{Option, none, some}
use Prim.Native.Nat.{ℕ, zero, suc, ◌+◌, ◌≤◌, ◌<◌}
use native.Mathlib.Omega.{arith}
use lib.Dec.{leb}
use lib.IntN.{ℤ}
use lib.ListN.{length, drop, get_elem?, drop_of_length-le}
use lib.Seq.{slice}
use borrow.Author.Tests.{ne_eqb, le-leb, lt-leb, leb-true}
use Rattle.language.specs.Tree.{Operand, bad_operand, Argument, index, operand, bad_argument, Statement, call, call_parameter, bad_statement}
use Rattle.language.specs.Read.{Field, field, choose, due, outer_index, is_index_tag, is_operand_tag, read_operand, read_argument, call_of}
use Rattle.language.specs.Form.{Form}
use Rattle.language.specs.Check.{Checked, good, refused, ◌>>=◌, ◌>>◌, Formal, Kind, Signature, declared_before, check_operand, call_forms, call_operands, call_fits, taken, in_scope, check_call, signature_of, formal_of, check_parameter_call, check_statement}
use Rattle.language.proofs.Integers.{clash}
use Rattle.fields.specs.Header.{fields_at}
use Rattle.fields.specs.CallNumber.{call_reader}
use Rattle.fields.proofs.Headers.{View, ends, cuts, goes, view, fields_end}
use Rattle.forms.specs.Rows.{forms_of}
use Rattle.kinds.specs.declared.Kind.TheVariants.{Qubit, Quantum, Classical, Family}
use Rattle.check_operand.specs.Tables.{kind_in, tabulated}
use Rattle.check_index.specs.Answers.{checked_part, Beyond}
use Rattle.check_call.specs.Calls.{call_operand, checked_forms}
use Rattle.std.specs.Prelude.{Result, Ok, Err}
use Rattle.refusals.specs.declared.Refusal.{Refusal}
use Rattle.check_operand.proofs.Tables.{length_rows, row_drop}
use Rattle.kinds.specs.declared.Kind as K
use Rattle.language.specs.Check as C

not_operand : (p tag : ℕ) (content : List ℕ) → is_operand_tag tag ≡ false → read_operand (field p tag content) ≡ bad_operand 3 p
unfolding read_operand choose
not_operand p tag content e =
    rw (ne_eqb tag 48 (λ z. never (omega arith) (omega arith)), ne_eqb tag 49 (λ z. never (omega arith) (omega arith)), ne_eqb tag 50 (λ z. never (omega arith) (omega arith)), ne_eqb tag 51 (λ z. never (omega arith) (omega arith)))
  where
    never : 48 ≤ tag → tag ≤ 51 → ⊥
    never h k = clash (sym (λ j. le-leb 48 tag h j && le-leb tag 51 k j) ∙ e)

index_no_operand : (tag : ℕ) → is_index_tag tag ≡ true → is_operand_tag tag ≡ false
index_no_operand tag e = by (leb 64 tag) (leb-true 64 tag) e
  where
    by : (t : Bool) → (t ≡ true → 64 ≤ tag) → (t && leb tag 68) ≡ true → is_operand_tag tag ≡ false
    by true f e = let h = f refl in rw (le-leb 48 tag (omega arith), lt-leb tag 51 (omega arith))
    by false f e = absurd (clash (sym e))

then_twice : (x y z : Checked (Unit {0})) → ((x >> y) >> z) ≡ (x >> (y >> z))
unfolding ◌>>◌
then_twice (good tt) y z = refl
then_twice (refused n p) y z = refl

module _ (s : C.Scope) (parent before : ℕ) (forms : List Form) (k : Kind) (ks : List Kind) where
  abbrev pub first_operand : List Field → Checked (Unit {0})
  first_operand fs = call_operand s before forms k (due read_operand (bad_operand 4 parent) fs) >> call_operands s parent before forms ks (map read_argument (drop 1 fs))

  pub operand_first : (program : List ℕ) (at to : ℕ) → to ≤ length program → call_operands s parent before forms (k ∷ ks) (map read_argument (fields_at program at to)) ≡ first_operand (fields_at program at to)
  unfolding call_operands call_operand declared_before due check_operand read_argument read_operand ◌>>◌
  operand_first program at to q = by (view program at to q)
    where
      refuses : (tag : ℕ) (content : List ℕ) (rest : List Field) → is_operand_tag tag ≡ false → refused 3 at ≡ first_operand (field at tag content ∷ rest)
      refuses tag content rest e = sym (ap (λ (o : Operand). call_operand s before forms k o >> call_operands s parent before forms ks (map read_argument rest)) (not_operand at tag content e))

      tags : (tag : ℕ) (content : List ℕ) (rest : List Field) (t : Bool) → is_index_tag tag ≡ t → (u : Bool) → is_operand_tag tag ≡ u
          → call_operands s parent before forms (k ∷ ks) (cond t (index at (outer_index (field at tag content))) (cond u (operand at (read_operand (field at tag content))) (bad_argument 3 at)) ∷ map read_argument rest) ≡ first_operand (field at tag content ∷ rest)
      tags tag content rest true e u d = refuses tag content rest (index_no_operand tag e)
      tags tag content rest false e true d =
          let o = read_operand (field at tag content) in
          sym (then_twice (declared_before s before o) (check_operand s (taken forms k) o) (call_operands s parent before forms ks (map read_argument rest)))
      tags tag content rest false e false d = refuses tag content rest d

      by : View program at to → call_operands s parent before forms (k ∷ ks) (map read_argument (fields_at program at to)) ≡ first_operand (fields_at program at to)
      by (ends e h) = rw e
      by (cuts e) = rw e
      by (goes tag next w) = rw w.first (tags tag (slice (at + 3) next program) (fields_at program next to) (is_index_tag tag) refl (is_operand_tag tag) refl)

pub operands_over : (s : C.Scope) (parent before : ℕ) (forms : List Form) (program : List ℕ) (at to : ℕ) → to ≤ at → call_operands s parent before forms [] (map read_argument (fields_at program at to)) ≡ good tt
unfolding call_operands
operands_over s parent before forms program at to h = rw (fields_end program at to h)

pub operands_left : (s : C.Scope) (parent before : ℕ) (forms : List Form) (program : List ℕ) (at to : ℕ) → at < to → to ≤ length program → call_operands s parent before forms [] (map read_argument (fields_at program at to)) ≡ refused 4 parent
unfolding call_operands
operands_left s parent before forms program at to h k = by (view program at to k)
  where
    by : View program at to → call_operands s parent before forms [] (map read_argument (fields_at program at to)) ≡ refused 4 parent
    by (ends e q) = absurd (omega arith)
    by (cuts e) = rw e
    by (goes tag next w) = rw w.first

pub drop_end : {A : Type 0} (row : ℕ → A) (n i j : ℕ) → n ≤ j → drop j (tabulated row n i) ≡ []
drop_end row n i j h = drop_of_length-le (tabulated row n i) {i = j} (omega (arith, length_rows row n i))

-- the operands from `at` on, for the parameters from the one with the number j on, whose kinds stand in rows
module _ (s : C.Scope) (parent before : ℕ) (forms : List Form) (row : ℕ → Kind) (count first j : ℕ) (program : List ℕ) (at to : ℕ) where
  abbrev pub left_from : List Kind → List Field → Checked (Unit {0})
  left_from ks fs = call_operands s parent before forms ks (map read_argument fs)

  abbrev pub left : Checked (Unit {0})
  left = left_from (drop j (tabulated row count first)) (fields_at program at to)

  pub next_operand : j < count → to ≤ length program
      → left ≡ (call_operand s before forms (row (first + j)) (due read_operand (bad_operand 4 parent) (fields_at program at to)) >> left_from (drop (suc j) (tabulated row count first)) (drop 1 (fields_at program at to)))
  next_operand h k =
      ap (λ (ks : List Kind). left_from ks (fields_at program at to)) (row_drop row count first j h)
      ∙ operand_first s parent before forms (row (first + j)) (drop (suc j) (tabulated row count first)) program at to k

  pub last_operand : count ≤ j → to ≤ at → left ≡ good tt
  last_operand h k = ap (λ (ks : List Kind). left_from ks (fields_at program at to)) (drop_end row count first j h) ∙ operands_over s parent before forms program at to k

  pub more_than_operands : count ≤ j → at < to → to ≤ length program → left ≡ refused 4 parent
  more_than_operands h k l = ap (λ (ks : List Kind). left_from ks (fields_at program at to)) (drop_end row count first j h) ∙ operands_left s parent before forms program at to k l

drop_map : {A B : Type 0} (g : A → B) (n : ℕ) (l : List A) → drop n (map g l) ≡ map g (drop n l)
drop_map g zero l = refl
drop_map g (suc n) [] = refl
drop_map g (suc n) (x ∷ l) = drop_map g n l

-- a call that names nothing
pub call_unnamed : (s : C.Scope) (at k tag : ℕ) (content : List ℕ) → call_reader tag at content ≡ bad_statement k at → refused k at ≡ check_statement (call_reader tag at content) s
unfolding check_statement
call_unnamed s at k tag content e = sym (ap (λ (x : Statement). check_statement x s) e)

-- a call of the family n
module _ (s : C.Scope) (at n : ℕ) (fs : List Field) where
  abbrev called : Checked (Unit {0})
  called = check_statement (call_of call at n fs) s

  abbrev matched : Signature → Checked (Unit {0})
  matched f = call_fits at s n f (map read_argument fs)

  call_is : called ≡ (in_scope at (get_elem? s.families n) >>= matched)
  unfolding check_statement check_call call_of
  call_is = refl

  pub call_beyond : get_elem? s.families n ≡ none → refused 8 at ≡ called
  unfolding in_scope ◌>>=◌
  call_beyond q = sym (call_is ∙ ap (λ (o : Option Signature). in_scope at o >>= matched) q)

  pub call_found : (f : Signature) → get_elem? s.families n ≡ some f → matched f ≡ called
  unfolding in_scope ◌>>=◌
  call_found f q = sym (call_is ∙ ap (λ (o : Option Signature). in_scope at o >>= matched) q)

-- a call of the parameter n
module _ (s : C.Scope) (at n : ℕ) (fs : List Field) where
  abbrev passed_on : Checked (Unit {0})
  passed_on = check_statement (call_of call_parameter at n fs) s

  abbrev fitted : Formal → Checked (Unit {0})
  fitted g = call_fits at s (length s.families) (signature_of g) (map read_argument fs)

  parameter_is : passed_on ≡ (in_scope at (get_elem? s.operands n) >>= λ k. (formal_of at k >>= fitted))
  unfolding check_statement check_parameter_call call_of
  parameter_is = refl

  pub parameter_beyond : get_elem? s.operands n ≡ none → refused 8 at ≡ passed_on
  unfolding in_scope ◌>>=◌
  parameter_beyond q = sym (parameter_is ∙ ap (λ (o : Option Kind). in_scope at o >>= λ k. (formal_of at k >>= fitted)) q)

  pub parameter_other : (k : K.Kind) (f : Form) (g : Formal) → get_elem? s.operands n ≡ some (kind_in k f g) → (k ≡ Family → ⊥) → refused 9 at ≡ passed_on
  unfolding in_scope ◌>>=◌ kind_in formal_of
  parameter_other k f g q h = by k h ∙ sym (parameter_is ∙ ap (λ (o : Option Kind). in_scope at o >>= λ k. (formal_of at k >>= fitted)) q)
    where
      by : (k : K.Kind) → (k ≡ Family → ⊥) → refused 9 at ≡ (formal_of at (kind_in k f g) >>= fitted)
      by Qubit h = refl
      by Quantum h = refl
      by Classical h = refl
      by Family h = absurd (h refl)

  pub parameter_found : (g : Formal) → get_elem? s.operands n ≡ some (C.formal g) → fitted g ≡ passed_on
  unfolding in_scope ◌>>=◌ formal_of
  parameter_found g q = sym (parameter_is ∙ ap (λ (o : Option Kind). in_scope at o >>= λ k. (formal_of at k >>= fitted)) q)

-- a call's indexes and operands, by a signature
module _ (s : C.Scope) (at before from : ℕ) (program : List ℕ) (next : ℕ) (f : Signature) where
  abbrev args : List Argument
  args = map read_argument (fields_at program from next)

  abbrev fits : Checked (Unit {0})
  fits = call_fits at s before f args

  module _ (r : Result ℕ Refusal) (l : List (List ℤ)) (m : ℕ) (a : m ≡ f.variables) (t : checked_forms r m l ≡ call_forms s at m args) where
    fits_is : fits ≡ (checked_forms r m l >>= λ forms. call_operands s at before forms f.parameters (drop m args))
    unfolding call_fits
    fits_is =
        ap (λ (k : ℕ). call_forms s at k args >>= λ forms. call_operands s at before forms f.parameters (drop k args)) (sym a)
        ∙ ap (λ (c : Checked (List Form)). c >>= λ forms. call_operands s at before forms f.parameters (drop m args)) (sym t)

    pub fits_stops : {e : Refusal} → r ≡ Err e → checked_part (Err e) ≡ fits
    unfolding checked_forms checked_part ◌>>=◌
    fits_stops h = sym (fits_is ∙ ap (λ (x : Result ℕ Refusal). checked_forms x m l >>= λ forms. call_operands s at before forms f.parameters (drop m args)) h)

    pub fits_good : (mid : ℕ) → r ≡ Ok mid → Beyond program from next m mid → call_operands s at before (forms_of m l) f.parameters (map read_argument (fields_at program mid next)) ≡ fits
    unfolding checked_forms ◌>>=◌
    fits_good mid u b =
        sym (fits_is ∙ ap (λ (x : Result ℕ Refusal). checked_forms x m l >>= λ forms. call_operands s at before forms f.parameters (drop m args)) u
        ∙ ap (λ (x : List Argument). call_operands s at before (forms_of m l) f.parameters x) (drop_map read_argument m (fields_at program from next) ∙ ap (map read_argument) b.rest))
