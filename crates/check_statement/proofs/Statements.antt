-- Statements by their tags, and lists of them. Assumes nothing.
use mathlib.Core.Path.{◌≡◌, refl, sym, ap, ◌∙◌}
use mathlib.Core.List.{List, [], ◌∷◌}
use mathlib.Core.Bool.{Bool, true, false, cond}
use Prim.Native.Nat.{ℕ, zero, suc, ◌+◌, ◌-◌, ◌≤◌, ◌<◌}
use native.Mathlib.Omega.{arith}
use lib.Seq.{slice}
use borrow.Author.Tests.{le-leb, lt-leb}
use Rattle.language.specs.Tree.{Statement, bad_statement}
use Rattle.language.specs.Read.{Field, field, bad_header, is_statement_tag, read_statement, statement_by, statements_by, deep_statement}
use Rattle.language.specs.Check.{Checked, good, refused, ◌>>◌, check_statement, check_statements}
use Rattle.fields.specs.Header.{fields_at}
use Rattle.fields.proofs.Headers.{Wholly}
use Rattle.check_statement.specs.Statements.{statement_reader, StatementSays}
use Rattle.check_statement.specs.declared.StatementTag.{StatementTag}
use Rattle.language.specs.Check as C

-- past the deepest level
module _ (p tag : ℕ) (content : List ℕ) where
  deep_by : (t : Bool) → is_statement_tag tag ≡ t → cond t (bad_statement 5 p) (bad_statement 3 p) ≡ deep_statement (field p tag content)
  unfolding deep_statement
  deep_by t e = sym (ap (λ (t : Bool). cond t (bad_statement 5 p) (bad_statement 3 p)) e)

  pub deep_below : tag < 32 → bad_statement 3 p ≡ deep_statement (field p tag content)
  deep_below h = deep_by false (rw (lt-leb 32 tag h))

  pub deep_above : 42 < tag → bad_statement 3 p ≡ deep_statement (field p tag content)
  deep_above h = deep_by false (rw (le-leb 32 tag (omega arith), lt-leb tag 42 h))

  pub deep_statement_lem : 32 ≤ tag → tag ≤ 42 → bad_statement 5 p ≡ deep_statement (field p tag content)
  deep_statement_lem h k = deep_by true (rw (le-leb 32 tag h, le-leb tag 42 k))

module _ (levels at tag next : ℕ) (program : List ℕ) (s : C.Scope) where
  abbrev pub stated : Checked (Unit {0})
  stated = check_statement (read_statement levels (field at tag (slice (at + 3) next program))) s

  pub statement_deep : (r : ℕ) → bad_statement r at ≡ deep_statement (field at tag (slice (at + 3) next program)) → levels ≡ 0 → refused r at ≡ stated
  unfolding read_statement check_statement
  statement_deep r e z =
      sym (ap (λ (k : ℕ). check_statement (read_statement k (field at tag (slice (at + 3) next program))) s) z ∙ ap (λ (x : Statement). check_statement x s) (sym e))

  pub statement_acts : (k : StatementTag) → (levels ≡ 0 → ⊥) → (i : StatementTag) → StatementSays tag i → i ≡ k → check_statement (statement_reader (read_statement (levels - 1)) tag k at (slice (at + 3) next program)) s ≡ stated
  unfolding read_statement
  statement_acts k z i says e = sym (by levels z)
    where
      by : (m : ℕ) → (m ≡ 0 → ⊥) → check_statement (read_statement m (field at tag (slice (at + 3) next program))) s ≡ check_statement (statement_reader (read_statement (m - 1)) tag k at (slice (at + 3) next program)) s
      by zero z = absurd (z refl)
      by (suc m) z =
          let q : suc m - 1 ≡ m = omega arith in
          rw q (says (read_statement m) at (slice (at + 3) next program) s ∙ ap (λ (k : StatementTag). check_statement (statement_reader (read_statement m) tag k at (slice (at + 3) next program)) s) e)

module _ (levels : ℕ) (program : List ℕ) (at to : ℕ) (s : C.Scope) where
  abbrev pub listed : Checked (Unit {0})
  listed = check_statements (statements_by (read_statement levels) (fields_at program at to)) s

  pub list_end : fields_at program at to ≡ [] → good tt ≡ listed
  unfolding statements_by check_statements
  list_end e = sym (ap (λ (fs : List Field). check_statements (statements_by (read_statement levels) fs) s) e)

  pub list_cut : fields_at program at to ≡ (bad_header at ∷ []) → refused 2 at ≡ listed
  unfolding statements_by check_statements check_statement read_statement deep_statement statement_by ◌>>◌
  list_cut e = sym (ap (λ (fs : List Field). check_statements (statements_by (read_statement levels) fs) s) e ∙ by levels)
    where
      by : (m : ℕ) → check_statements (statements_by (read_statement m) (bad_header at ∷ [])) s ≡ refused 2 at
      by zero = refl
      by (suc m) = refl

  module _ (tag next : ℕ) (w : Wholly program at to tag next) where
    pub list_next : listed ≡ (stated levels at tag next program s >> check_statements (statements_by (read_statement levels) (fields_at program next to)) s)
    unfolding statements_by check_statements
    list_next = ap (λ (fs : List Field). check_statements (statements_by (read_statement levels) fs) s) w.first
