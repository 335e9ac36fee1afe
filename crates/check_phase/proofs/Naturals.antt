-- The k of a phase, and what is due after it. Assumes nothing.
use mathlib.Core.Path.{◌≡◌, refl, sym, ap, ◌∙◌}
use mathlib.Core.List.{List, [], ◌∷◌}
use mathlib.Core.Bool.{Bool, true, false, cond}
use Prim.Native.Nat.{ℕ, ◌≤◌}
use native.Mathlib.Omega.{arith}
use lib.Dec.{leb}
use lib.IntN.{ℤ}
use lib.ListN.{length, take, drop}
use lib.Seq.{slice, length-slice, drop-drop}
use Rattle.language.specs.Tree.{Place, Operation, sum, difference, product, Index, bad_index, place_of, bad_operand}
use Rattle.language.specs.Read.{Field, field, bad_header, Reader, of_fields, due, fields_after, first_field, field_of, two_bytes, fields, ending, operand_due, read_operand, read_index, outer_index, read_literal, read_variable, operation_of, index_by, phase_of, cphase_of}
use Rattle.language.specs.Form.{built}
use Rattle.language.specs.Check.{Checked, Scope, form_of, must_show, check_natural, check_one_wire, check_wires, check_statement, wire, ◌>>=◌, ◌>>◌}
use Rattle.language.proofs.ReadLaws.{AllRows, choose_all}
use Rattle.fields.specs.Header.{fields_at}
use Rattle.forms.specs.Flat.{as_form}
use Rattle.std.specs.Prelude.{Result, Ok, Err}
use Rattle.refusals.specs.declared.Refusal.{Refusal}
use Rattle.check_index.specs.Answers.{checked_part, checked_form, EndsAt, Passes, PastField}
use Rattle.check_index.proofs.Answers.{checked_then, form_stops}
use Rattle.check_operand.specs.Operands.{one_wire, two_operands}
use Rattle.check_phase.specs.Phases.{phase_due, cphase_due}

-- ---- the place of an index as it is read

-- a reader that keeps the place
Keeps : Reader Index → Type 0
Keeps r = (p : Place) (content : List ℕ) → place_of (r p content) ≡ p

literal_keeps : Keeps read_literal
unfolding Keeps read_literal
literal_keeps p [] = refl
literal_keeps p (a ∷ []) = refl
literal_keeps p (a ∷ b ∷ []) = refl
literal_keeps p (a ∷ b ∷ c ∷ rest) = refl

variable_keeps : Keeps read_variable
unfolding Keeps read_variable
variable_keeps p [] = refl
variable_keeps p (a ∷ rest) = refl

operation_keeps : (part : Field → Index) (o : Operation) → Keeps (of_fields (operation_of part o))
unfolding Keeps operation_of
operation_keeps part o p content = refl

place_field : (part : Field → Index) (p tag : ℕ) (content : List ℕ) → place_of (index_by part (field p tag content)) ≡ p
unfolding index_by AllRows Keeps
place_field part p tag content = choose_all Keeps tag _ _
    (literal_keeps, (variable_keeps, (operation_keeps part sum, (operation_keeps part difference, (operation_keeps part product, tt))))) (λ q rest. refl) p content

-- the place of the index that is first of the fields in these bytes
place_first : (q p : ℕ) (bytes : List ℕ) → 1 ≤ length bytes → place_of (due outer_index (bad_index 4 q) (fields p bytes)) ≡ p
unfolding due fields_after first_field field_of read_index index_by
place_first q p [] h = absurd (omega arith)
place_first q p (tag ∷ []) h = refl
place_first q p (tag ∷ low ∷ []) h = refl
place_first q p (tag ∷ low ∷ high ∷ rest) h = go (leb (two_bytes low high) (length rest))
  where
    go : (b : Bool) → place_of (read_index 16 (cond b (field p tag (take (two_bytes low high) rest)) (bad_header p))) ≡ p
    go true = place_field (read_index 15) p tag (take (two_bytes low high) rest)
    go false = refl

-- ---- k

module _ (s : Scope) (program : List ℕ) (from next at : ℕ) where
  abbrev k : Index
  k = due outer_index (bad_index 4 at) (fields_at program from next)

  pub natural_stops : (r : Result ℕ Refusal) (l : List ℤ) → checked_form r l ≡ form_of s k → {w : Refusal} → r ≡ Err w → checked_part (Err w) ≡ check_natural s k
  unfolding check_natural
  natural_stops r l e h = form_stops r l (λ f. must_show (place_of k) s (built f)) h ∙ ap (λ (c : Checked _). c >>= λ f. must_show (place_of k) s (built f)) e

  pub natural_shows : (r : Result ℕ Refusal) (l : List ℤ) (mid : ℕ) → checked_form r l ≡ form_of s k → r ≡ Ok mid → PastField program from next mid → next ≤ length program → must_show from s (built (as_form l)) ≡ check_natural s k
  unfolding check_natural fields_at
  natural_shows r l mid e u p h =
      let some : 1 ≤ length (slice from next program) = omega (arith, length-slice from next program h, p.low, p.high) in
      ap (λ (q : ℕ). must_show q s (built (as_form l))) (sym (place_first at from (slice from next program) some))
      ∙ sym (checked_then r l mid (λ f. must_show (place_of k) s (built f)) u)
      ∙ ap (λ (c : Checked _). c >>= λ f. must_show (place_of k) s (built f)) e

-- how far it reaches
pub passes_ends : (program : List ℕ) (at to mid : ℕ) (r : Result ℕ Refusal) → PastField program at to mid → EndsAt mid r → Passes program at to r
passes_ends program at to mid (Ok n) p e = rw e p
passes_ends program at to mid (Err q) p e = tt

-- ---- what is due after it

three : {A : Type 0} (fs : List A) → drop 2 (drop 1 fs) ≡ drop 3 fs
three fs = drop-drop 2 1 fs

pub phase_is : (s : Scope) (p : Place) (fs gs : List Field) → drop 1 fs ≡ gs → (check_natural s (due outer_index (bad_index 4 p) fs) >> one_wire s p gs) ≡ phase_due s p fs
unfolding phase_of check_statement
phase_is s p fs gs e = ap (λ (hs : List Field). check_natural s (due outer_index (bad_index 4 p) fs) >> one_wire s p hs) (sym e)
    ∙ ap (λ (hs : List Field). check_natural s (due outer_index (bad_index 4 p) fs) >> check_one_wire p s (operand_due p 1 fs) (ending hs)) (drop-drop 1 1 fs)

pub cphase_is : (s : Scope) (p : Place) (fs gs : List Field) → drop 1 fs ≡ gs → (check_natural s (due outer_index (bad_index 4 p) fs) >> two_operands s wire p gs) ≡ cphase_due s p fs
unfolding cphase_of check_statement
cphase_is s p fs gs e = ap (λ (hs : List Field). check_natural s (due outer_index (bad_index 4 p) fs) >> two_operands s wire p hs) (sym e)
    ∙ ap (λ (hs : List Field). check_natural s (due outer_index (bad_index 4 p) fs) >> check_wires p s (operand_due p 1 fs) (due read_operand (bad_operand 4 p) hs) (ending (drop 2 (drop 1 fs)))) (drop-drop 1 1 fs)
    ∙ ap (λ (hs : List Field). check_natural s (due outer_index (bad_index 4 p) fs) >> check_wires p s (operand_due p 1 fs) (operand_due p 2 fs) (ending hs)) (three fs)
