-- Top fields that declare nothing. Assumes nothing.
use mathlib.Core.Path.{◌≡◌, refl, sym, ap, ◌∙◌}
use mathlib.Core.List.{List, [], ◌∷◌}
use Prim.Native.Nat.{ℕ, ◌+◌, ◌≤◌, ◌<◌}
use native.Mathlib.Omega.{arith}
use lib.Dec.{leb}
use lib.ListN.{drop}
use lib.Seq.{slice}
use borrow.Author.Tests.{ne_eqb, le-leb, lt-leb}
use Rattle.language.specs.Tree.{bad_operand}
use Rattle.language.specs.Read.{Field, field, choose, due, read_operand, read_statement, statements_by, read_if, if_of, read_top, measure_of, reset_of}
use Rattle.language.specs.Check.{Checked, good, refused, ◌>>◌, require, check_operand, check_statement, check_statements, Declared, top_scope, check_top, check_top_by}
use Rattle.fields.specs.Header.{fields_at}
use Rattle.check_index.specs.Answers.{checked_part}
use Rattle.check_operand.specs.Operands.{one_wire, two_operands}
use Rattle.check_statement.specs.Statements.{checked_declared}
use Rattle.std.specs.Prelude.{Result, Ok, Err}
use Rattle.refusals.specs.declared.Refusal.{Refusal}
use Rattle.language.specs.Check as C

pub kept_is : (r : Result ℕ Refusal) (d : Declared) → checked_declared r d ≡ (checked_part r >> good d)
unfolding checked_declared checked_part ◌>>◌
kept_is (Ok n) d = refl
kept_is (Err e) d = refl

-- an answer for the first part of a top field
pub kept_stops : (r : Result ℕ Refusal) (d : Declared) (x : Checked (Unit {0})) (next : Checked Declared) → checked_part r ≡ x → {q : Refusal} → r ≡ Err q → checked_declared (Err q) d ≡ (x >> next)
unfolding checked_declared checked_part ◌>>◌
kept_stops r d x next e h = sym (ap (λ (y : Result ℕ Refusal). checked_part y >> next) h) ∙ ap (λ (c : Checked (Unit {0})). c >> next) e

module _ (d : Declared) (at next tag : ℕ) (program : List ℕ) where
  abbrev pub topped : Checked Declared
  topped = check_top (read_top (field at tag (slice (at + 3) next program))) d

  pub top_measure : tag ≡ 4 → (two_operands (top_scope d) C.bit at (fields_at program (at + 3) next) >> good d) ≡ topped
  unfolding read_top choose measure_of check_top_by fields_at
  top_measure e = sym (ap (λ (t : ℕ). check_top (read_top (field at t (slice (at + 3) next program))) d) e)

  pub top_reset : tag ≡ 5 → (one_wire (top_scope d) at (fields_at program (at + 3) next) >> good d) ≡ topped
  unfolding read_top choose reset_of check_top_by fields_at
  top_reset e = sym (ap (λ (t : ℕ). check_top (read_top (field at t (slice (at + 3) next program))) d) e)

  pub top_if : tag ≡ 6 → check_top (read_if at (slice (at + 3) next program)) d ≡ topped
  unfolding read_top choose
  top_if e = sym (ap (λ (t : ℕ). check_top (read_top (field at t (slice (at + 3) next program))) d) e)

  pub top_statement : (tag ≡ 1 → ⊥) → (tag ≡ 2 → ⊥) → (tag ≡ 3 → ⊥) → (tag ≡ 4 → ⊥) → (tag ≡ 5 → ⊥) → (tag ≡ 6 → ⊥) → (check_statement (read_statement 16 (field at tag (slice (at + 3) next program))) (top_scope d) >> good d) ≡ topped
  unfolding read_top choose check_top_by
  top_statement a b c x y z =
      sym (rw (ne_eqb tag 1 a, ne_eqb tag 2 b, ne_eqb tag 3 c, ne_eqb tag 4 x, ne_eqb tag 5 y, ne_eqb tag 6 z))

module _ (d : Declared) (at : ℕ) (content : List ℕ) where
  pub if_none : content ≡ [] → refused 4 at ≡ check_top (read_if at content) d
  unfolding read_if check_top_by
  if_none e = sym (ap (λ (l : List ℕ). check_top (read_if at l) d) e)

  module _ (v : ℕ) (program : List ℕ) (next : ℕ) (e : content ≡ (v ∷ slice (at + 3 + 1) next program)) where
    abbrev pub inside : List Field
    inside = fields_at program (at + 4) next

    abbrev pub rest : List Field → Checked Declared
    rest fs = check_statements (statements_by (read_statement 15) fs) (top_scope d) >> good d

    abbrev pub bit : Checked (Unit {0})
    bit = check_operand (top_scope d) C.bit (due read_operand (bad_operand 4 at) inside)

    if_is : check_top (read_if at content) d ≡ (require 13 at (leb v 1) >> (bit >> rest (drop 1 inside)))
    unfolding read_if if_of check_top_by fields_at
    if_is =
        let q : at + 3 + 1 ≡ at + 4 = omega arith in
        ap (λ (l : List ℕ). check_top (read_if at l) d) (e ∙ ap (λ (k : ℕ). v ∷ slice k next program) q)

    pub if_large : 1 < v → refused 13 at ≡ check_top (read_if at content) d
    unfolding require ◌>>◌
    if_large h = sym (if_is ∙ rw (lt-leb v 1 h))

    pub if_bit : v ≤ 1 → (bit >> rest (drop 1 inside)) ≡ check_top (read_if at content) d
    unfolding require ◌>>◌
    if_bit h = sym (if_is ∙ rw (le-leb v 1 h))
