-- A family entered into the tables. Assumes nothing.
use mathlib.Core.Path.{◌≡◌, refl, sym, ap, ◌∙◌}
use mathlib.Core.List.{List, [], ◌∷◌, ◌++◌}
use mathlib.Core.Bool.{Bool, true, false, ◌&&◌}
use Prim.Native.Nat.{ℕ, ◌+◌, ◌≤◌, ◌<◌}
use native.Mathlib.Omega.{arith}
use native.Mathlib.Nat.{zero-add}
use lib.Dec.{eqb, leb, ltb}
use lib.IntN.{ℤ}
use lib.ListN.{length, get_or, drop, set, length-set}
use lib.Seq.{slice, get_or-set_same, get_or-set_other}
use borrow.Author.Tests.{eqb-true, eqb-false, lt-ltb, le-ltb}
use Rattle.language.specs.Read.{Field, fields, types_of, statements_by, outer_statement, family_of, read_family}
use Rattle.language.specs.Limits.{most_families, most_registers, most_variables, most_parameters}
use Rattle.language.specs.Tree.{Number, number, missing}
use Rattle.language.specs.Check.{Checked, good, refused, ◌>>=◌, ◌>>◌, require, check_number, Kind, Signature, all_rules, kinds_of, check_statements, Declared, family_scope, family_scope_by, with_family, check_counts, check_family_by, check_top, check_top_by}
use Rattle.fields.specs.Header.{fields_at}
use Rattle.check_operand.specs.Tables.{Formals, kinds_at, tabulated}
use Rattle.check_index.specs.Answers.{checked_part, Beyond}
use Rattle.check_call.specs.Calls.{formal_in, formal_at, signature_in, signature_at, FamilyRight}
use Rattle.check_operand.specs.declared.scope.Visible.{Visible}
use Rattle.std.specs.Prelude.{Result, Ok, Err}
use Rattle.refusals.specs.declared.Refusal.{Refusal}
use Rattle.check_operand.proofs.Tables.{row_more, rows_same, length_rows}
use Rattle.check_declaration.specs.Types.{InUse, InUseBefore, checked_rows, FormalsIn, FormalsBefore, Stays}
use Rattle.check_declaration.specs.Families.{first_in, second_in, counts_in, checked_counts}
use Rattle.check_program.specs.Declarations.{family_in, declared_in, DeclaredRight, checked_step, scope_in}
use Rattle.check_program.specs.declared.SoFar.{SoFar}
use Rattle.check_declaration.specs.declared.Counts.{Counts}
use Rattle.check_declaration.proofs.FamilyTypes.{two_on}
use Rattle.check_program.proofs.Scopes.{families_below, registers_below}

rows_then : (formals : Formals) (r : Result ℕ Refusal) (count first : ℕ) (kinds : List ℕ) (sizes : List (List ℤ)) → checked_rows formals r count first kinds sizes ≡ (checked_part r >> good (kinds_at formals count first kinds sizes))
unfolding checked_rows checked_part ◌>>◌
rows_then formals (Ok n) count first kinds sizes = refl
rows_then formals (Err e) count first kinds sizes = refl

-- the scope of a family whose rows these are
abbrev pub family_rows : SoFar → (m p : ℕ) → Visible
family_rows t m p = record { families = t.families; first = t.rows; count = p; variables = m; loops = 0 }

module _ (bytes : ℕ) (t : SoFar) (at m p : ℕ) (program : List ℕ) (from next : ℕ) {f₀ : List (List ℕ)} {k₀ : List ℕ} {s₀ : List (List ℤ)} {f₁ : List (List ℕ)} {k₁ : List ℕ} {s₁ : List (List ℤ)} (h : DeclaredRight bytes at t f₀ k₀ s₀) (q : at ≤ from) (a : Stays bytes t.rows from t.registers f₀ k₀ s₀ f₁ k₁ s₁)
    (r : Result ℕ Refusal) (e : checked_rows (formal_at f₁ k₁ s₁) r p t.rows k₁ s₁ ≡ kinds_of (family_scope (declared_in t f₀ k₀ s₀) m []) (types_of at p (fields_at program from next))) where
  abbrev taking : Formals
  taking = formal_at f₁ k₁ s₁

  abbrev body_after : List Kind → Checked (List Kind)
  body_after ks = check_statements (statements_by outer_statement (drop p (fields_at program from next))) (family_scope (declared_in t f₀ k₀ s₀) m ks) >> good ks

  pub body_stops : {f : Refusal} → r ≡ Err f → checked_rows taking (Err f) p t.rows k₁ s₁ ≡ family_in (declared_in t f₀ k₀ s₀) at m p (fields_at program from next)
  unfolding checked_rows check_family_by ◌>>=◌
  body_stops o = ap (λ (c : Checked (List Kind)). c >>= body_after) (sym (ap (λ (x : Result ℕ Refusal). checked_rows taking x p t.rows k₁ s₁) o) ∙ e)

  family_scope_lem : scope_in (family_rows t m p) f₁ k₁ s₁ ≡ family_scope (declared_in t f₀ k₀ s₀) m (kinds_at taking p t.rows k₁ s₁)
  unfolding family_scope_by
  family_scope_lem = ap (λ (fs : List Signature). record { families = fs; operands = kinds_at taking p t.rows k₁ s₁; variables = m; loops = []; rules = all_rules }) (families_below bytes at t h from q a)

  pub body_goes : (mid : ℕ) → r ≡ Ok mid → Beyond program from next p mid → (o : Result ℕ Refusal)
      → checked_part o ≡ check_statements (statements_by outer_statement (fields_at program mid next)) (scope_in (family_rows t m p) f₁ k₁ s₁)
      → checked_rows taking o p t.rows k₁ s₁ ≡ family_in (declared_in t f₀ k₀ s₀) at m p (fields_at program from next)
  unfolding checked_rows check_family_by ◌>>=◌
  body_goes mid u b o d =
      rows_then taking o p t.rows k₁ s₁
      ∙ ap (λ (c : Checked (Unit {0})). c >> good (kinds_at taking p t.rows k₁ s₁)) (d ∙ (λ i. check_statements (statements_by outer_statement (sym b.rest i)) (family_scope_lem i)))
      ∙ ap (λ (c : Checked (List Kind)). c >>= body_after) (sym (ap (λ (x : Result ℕ Refusal). checked_rows taking x p t.rows k₁ s₁) u) ∙ e)

-- what follows the two numbers of a family is asked only where both are right
module _ {B : Type 0} (q : ℕ) (f g : ℕ × ℕ → Checked B) where
  abbrev pub Agree : Number → Type 0
  Agree missing = Unit {0}
  Agree (number p) = (m : ℕ) → f (m, p) ≡ g (m, p)

  -- from the first of them on
  abbrev from_first : ℕ → Number → Checked (ℕ × ℕ)
  from_first m p = check_number q p >>= λ p. (require 6 q (leb 1 p && leb p most_parameters) >> good (m, p))

  pub counts_same : (m p : Number) → Agree p → (check_counts q m p >>= f) ≡ (check_counts q m p >>= g)
  unfolding check_counts require check_number ◌>>=◌ ◌>>◌
  counts_same m p h = by m
    where
      third : (m p : ℕ) → f (m, p) ≡ g (m, p) → (b : Bool) → ((require 6 q b >> good (m, p)) >>= f) ≡ ((require 6 q b >> good (m, p)) >>= g)
      third m p h true = h
      third m p h false = refl

      second : (m : ℕ) (b : Bool) (p : Number) → Agree p → ((require 6 q b >> from_first m p) >>= f) ≡ ((require 6 q b >> from_first m p) >>= g)
      second m false p h = refl
      second m true missing h = refl
      second m true (number p) h = third m p (h m) (leb 1 p && leb p most_parameters)

      by : (m : Number) → ((check_number q m >>= λ m. (require 6 q (leb m most_variables) >> from_first m p)) >>= f) ≡ ((check_number q m >>= λ m. (require 6 q (leb m most_variables) >> from_first m p)) >>= g)
      by missing = refl
      by (number m) = second m (leb m most_variables) p h

-- what a family declares, after its two numbers
abbrev pub family_after : Declared → ℕ → List ℕ → ℕ × ℕ → Checked Declared
family_after d q content mp = family_in d q mp.0 mp.1 (fields (q + 5) (drop 2 content)) >>= λ ks. good (with_family d (record { variables = mp.0; parameters = ks }))

-- where so many families are declared that there may be one more, or not
abbrev roomed : Declared → ℕ → List ℕ → Bool → Checked Declared
roomed d q content b = require 6 q b >> (counts_in q content >>= family_after d q content)

family_is : (q : ℕ) (content : List ℕ) (d : Declared) → check_top (read_family q content) d ≡ roomed d q content (ltb (length d.families) most_families)
unfolding check_top_by read_family family_of first_in second_in
family_is q [] d = ap (λ (c : Checked Declared). require 6 q (ltb (length d.families) most_families) >> c) (counts_same q _ (family_after d q []) missing missing tt)
family_is q (m ∷ []) d = ap (λ (c : Checked Declared). require 6 q (ltb (length d.families) most_families) >> c) (counts_same q _ (family_after d q (m ∷ [])) (number m) missing tt)
family_is q (m ∷ p ∷ rest) d = ap (λ (c : Checked Declared). require 6 q (ltb (length d.families) most_families) >> c) (counts_same q _ (family_after d q (m ∷ p ∷ rest)) (number m) (number p) (λ k. refl))

pub family_many : (t : SoFar) (families : List (List ℕ)) (kinds : List ℕ) (sizes : List (List ℤ)) (at : ℕ) (content : List ℕ) → most_families ≤ t.families → refused 6 at ≡ check_top (read_family at content) (declared_in t families kinds sizes)
unfolding require ◌>>◌
family_many t families kinds sizes at content h =
    let d = declared_in t families kinds sizes in
    sym (family_is at content d ∙ ap (roomed d at content) (le-ltb (length d.families) most_families (omega (arith, length_rows (signature_at families kinds sizes) t.families 0))))

module _ (t : SoFar) (families : List (List ℕ)) (kinds : List ℕ) (sizes : List (List ℤ)) (program : List ℕ) (at next : ℕ) (room : t.families < most_families) (c : Result Counts Refusal) (e : checked_counts c ≡ counts_in at (slice (at + 3) next program)) where
  abbrev before : Declared
  before = declared_in t families kinds sizes

  family_meant : check_top (read_family at (slice (at + 3) next program)) before ≡ (checked_counts c >>= family_after before at (slice (at + 3) next program))
  unfolding require ◌>>◌
  family_meant =
      family_is at (slice (at + 3) next program) before
      ∙ ap (roomed before at (slice (at + 3) next program)) (lt-ltb (length before.families) most_families (omega (arith, length_rows (signature_at families kinds sizes) t.families 0)))
      ∙ ap (λ (x : Checked (ℕ × ℕ)). x >>= family_after before at (slice (at + 3) next program)) (sym e)

  pub family_bad : (f : Refusal) (f₁ : List (List ℕ)) (k₁ : List ℕ) (s₁ : List (List ℤ)) → c ≡ Err f → checked_step (Err f) f₁ k₁ s₁ ≡ check_top (read_family at (slice (at + 3) next program)) before
  unfolding checked_step checked_counts ◌>>=◌
  family_bad f f₁ k₁ s₁ u = sym (family_meant ∙ ap (λ (x : Result Counts Refusal). checked_counts x >>= family_after before at (slice (at + 3) next program)) u)

  module _ (m p : ℕ) (u : c ≡ Ok (record { variables = m; parameters = p })) (g : Formals) (r : Result ℕ Refusal) (k₁ : List ℕ) (s₁ : List (List ℤ)) (b : checked_rows g r p t.rows k₁ s₁ ≡ family_in before at m p (fields_at program (at + 5) next)) where
    abbrev entered : List Kind → Checked Declared
    entered ks = good (with_family before (record { variables = m; parameters = ks }))

    family_both : check_top (read_family at (slice (at + 3) next program)) before ≡ (checked_rows g r p t.rows k₁ s₁ >>= entered)
    unfolding checked_counts ◌>>=◌
    family_both =
        family_meant ∙ ap (λ (x : Result Counts Refusal). checked_counts x >>= family_after before at (slice (at + 3) next program)) u
        ∙ ap (λ (fs : List Field). family_in before at m p fs >>= entered) (two_on program at next)
        ∙ ap (λ (x : Checked (List Kind)). x >>= entered) (sym b)

    pub family_stops : (f : Refusal) (f₂ : List (List ℕ)) (k₂ : List ℕ) (s₂ : List (List ℤ)) → r ≡ Err f → checked_step (Err f) f₂ k₂ s₂ ≡ check_top (read_family at (slice (at + 3) next program)) before
    unfolding checked_step checked_rows ◌>>=◌
    family_stops f f₂ k₂ s₂ v = sym (family_both ∙ ap (λ (x : Result ℕ Refusal). checked_rows g x p t.rows k₁ s₁ >>= entered) v)

    pub family_goes : (n : ℕ) → r ≡ Ok n → good (with_family before (record { variables = m; parameters = kinds_at g p t.rows k₁ s₁ })) ≡ check_top (read_family at (slice (at + 3) next program)) before
    unfolding checked_rows ◌>>=◌
    family_goes n o = sym (family_both ∙ ap (λ (x : Result ℕ Refusal). checked_rows g x p t.rows k₁ s₁ >>= entered) o)

-- one family more
module _ (bytes at from next : ℕ) (t : SoFar) (m p : ℕ) {f₀ : List (List ℕ)} {k₀ : List ℕ} {s₀ : List (List ℤ)} {f₁ : List (List ℕ)} {k₁ : List ℕ} {s₁ : List (List ℤ)} (h : DeclaredRight bytes at t f₀ k₀ s₀) (q : at ≤ from) (a : Stays bytes t.rows from t.registers f₀ k₀ s₀ f₁ k₁ s₁) (room : t.families < most_families) (few : m ≤ most_variables) where
  abbrev more : SoFar
  more = record { families = t.families + 1; rows = t.rows + p; registers = t.registers; qubits = t.qubits; bits = t.bits }

  abbrev entry : List ℕ
  entry = m ∷ p ∷ t.rows ∷ []

  abbrev new_families : List (List ℕ)
  new_families = set f₁ t.families entry

  own : get_or new_families t.families [] ≡ entry
  own = get_or-set_same f₁ t.families entry [] (omega (arith, h.long, a.families_same))

  other : (k : ℕ) → (k ≡ t.families → ⊥) → get_or new_families k [] ≡ get_or f₁ k []
  other k d = get_or-set_other f₁ t.families k entry [] d

  -- what family parameters take stays
  taken_on : formal_at new_families k₁ s₁ ≡ formal_at f₁ k₁ s₁
  taken_on = λ i x. formal_in (other (most_families + x) (λ e. omega arith) i) k₁ s₁

  signatures_more : tabulated (signature_at new_families k₁ s₁) (t.families + 1) 0 ≡ (tabulated (signature_at f₀ k₀ s₀) t.families 0 ++ (record { variables = m; parameters = kinds_at (formal_at f₁ k₁ s₁) p t.rows k₁ s₁ } ∷ []))
  signatures_more =
      row_more (signature_at new_families k₁ s₁) t.families 0
      ∙ ap (λ (k : ℕ). tabulated (signature_at new_families k₁ s₁) t.families 0 ++ (signature_at new_families k₁ s₁ k ∷ [])) (zero-add t.families)
      ∙ (λ i. (earlier ∙ families_below bytes at t h from q a) i ++ (signature_in (taken_on i) (own i) k₁ s₁ ∷ []))
    where
      earlier : tabulated (signature_at new_families k₁ s₁) t.families 0 ≡ tabulated (signature_at f₁ k₁ s₁) t.families 0
      earlier = rows_same (signature_at new_families k₁ s₁) (signature_at f₁ k₁ s₁) t.families 0 (λ k x y. λ i. signature_in (taken_on i) (other k (λ e. omega arith) i) k₁ s₁)

  pub with_family_lem : declared_in more new_families k₁ s₁ ≡ with_family (declared_in t f₀ k₀ s₀) (record { variables = m; parameters = kinds_at (formal_at f₁ k₁ s₁) p t.rows k₁ s₁ })
  unfolding with_family
  with_family_lem =
      λ i. record {
        families = signatures_more i;
        registers = (ap (λ (g : Formals). kinds_at g t.registers 0 k₁ s₁) taken_on ∙ registers_below bytes at t h from q a) i;
        qubits = t.qubits;
        bits = t.bits;
      }

  pub holds_family : InUse (t.rows + p) t.registers next k₁ → FormalsIn next f₁ k₁ → next ≤ bytes → DeclaredRight bytes next more new_families k₁ s₁
  holds_family u f l =
      let x = h.least_rows in
      let same = a.kinds_same in
      record {
        short = h.short;
        table = a.table;
        used = u;
        wide = omega (arith, h.wide);
        long = omega (arith, length-set f₁ t.families entry, a.families_same, a.sizes_same, h.long);
        families_fit = omega arith;
        qubits_fit = h.qubits_fit;
        bits_fit = h.bits_fit;
        least_rows = omega arith;
        each = entered;
        behind = after;
        rows_right = right;
        taken = λ x. rw (other (most_families + x) (λ e. omega arith)) (f x);
      }
    where
      earlier : (k : ℕ) → (k ≡ t.families → ⊥) → k < most_families → get_or new_families k [] ≡ get_or f₀ k []
      earlier k d z = other k d ∙ a.declared k z

      entered : (k : ℕ) → k < t.families + 1 → FamilyRight (get_or new_families k []) (t.rows + p)
      entered k q = by (eqb k t.families) refl
        where
          by : (b : Bool) → eqb k t.families ≡ b → FamilyRight (get_or new_families k []) (t.rows + p)
          by true e = rw (eqb-true k t.families e, own) (record { few = few; inside = omega arith })
          by false e =
              let n = eqb-false k t.families e in
              let z : k < t.families = omega arith in
              let w = h.each k z in
              let v = w.inside in
              rw (earlier k n (omega arith)) (record { few = w.few; inside = omega arith })

      after : (k : ℕ) → k < t.families + 1 → most_registers ≤ get_or (get_or new_families k []) 2 0
      after k q = by (eqb k t.families) refl
        where
          by : (b : Bool) → eqb k t.families ≡ b → most_registers ≤ get_or (get_or new_families k []) 2 0
          by true e = rw (eqb-true k t.families e, own) h.least_rows
          by false e = let n = eqb-false k t.families e in let z : k < t.families = omega arith in rw (earlier k n (omega arith)) (h.behind k z)

      right : (k : ℕ) → k < most_families → FamilyRight (get_or new_families k []) (length k₁)
      right k q = by (eqb k t.families) refl
        where
          by : (b : Bool) → eqb k t.families ≡ b → FamilyRight (get_or new_families k []) (length k₁)
          by true e = rw (eqb-true k t.families e, own) (record { few = few; inside = omega (arith, u.few, a.table.kinds_long) })
          by false e = rw (earlier k (eqb-false k t.families e) q, a.kinds_same) (h.rows_right k q)

pub formals_upto : (to n : ℕ) (r : Result ℕ Refusal) (families : List (List ℕ)) (kinds : List ℕ) → r ≡ Ok n → FormalsBefore to r families kinds → FormalsIn to families kinds
formals_upto to n r families kinds e u = rw e at u

pub formals_kept : (to : ℕ) (r : Result ℕ Refusal) (families : List (List ℕ)) (kinds : List ℕ) → FormalsIn to families kinds → FormalsBefore to r families kinds
formals_kept to (Ok n) families kinds u = u
formals_kept to (Err e) families kinds u = tt

pub before_upto : (rows registers to n : ℕ) (r : Result ℕ Refusal) (kinds : List ℕ) → r ≡ Ok n → InUseBefore rows registers to r kinds → InUse rows registers to kinds
before_upto rows registers to n r kinds e u = rw e at u

pub before_kept : (rows registers to : ℕ) (r : Result ℕ Refusal) (kinds : List ℕ) → InUse rows registers to kinds → InUseBefore rows registers to r kinds
before_kept rows registers to (Ok n) kinds u = u
before_kept rows registers to (Err e) kinds u = tt
