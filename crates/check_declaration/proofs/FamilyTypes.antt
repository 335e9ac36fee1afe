-- The type of a family, and where it stands among types. Assumes nothing.
use mathlib.Core.Path.{◌≡◌, refl, sym, ap, ◌∙◌}
use mathlib.Core.List.{List, [], ◌∷◌, map}
use mathlib.Core.Bool.{Bool, true, false, ◌&&◌}
use Prim.Native.Nat.{ℕ, ◌+◌, ◌≤◌, ◌<◌}
use native.Mathlib.Omega.{arith}
use lib.Dec.{leb}
use lib.ListN.{length, drop, take}
use lib.Seq.{slice, drop-drop}
use lib.IntN.{ℤ}
use borrow.Author.Tests.{ne_eqb}
use Rattle.language.specs.Limits.{most_variables, most_parameters}
use Rattle.language.specs.Tree.{Ending, ended, bad_type, plain}
use Rattle.language.specs.Read.{Field, fields, choose, due, ending, read_plain, parts_of, family_type_of, read_family_type, read_type}
use Rattle.language.specs.Check.{Checked, good, refused, ◌>>=◌, ◌>>◌, require, no_leftover, check_number, Formal, Kind, formal, size_scope, plain_size, plain_kind, plain_kinds, check_counts, check_formal, kind_of}
use Rattle.fields.specs.Header.{fields_at, header_of, tagged_in}
use Rattle.fields.proofs.Headers.{Wholly, View, ends, cuts, goes, view, when_not}
use Rattle.check_index.specs.Answers.{Beyond}
use Rattle.std.specs.Prelude.{Result, Ok, Err, None}
use Rattle.refusals.specs.Reasons.{number_of}
use Rattle.refusals.specs.declared.Refusal.{Refusal}
use Rattle.check_index.proofs.Answers.{more_left, none_left}
use Rattle.check_operand.specs.Tables.{Formals, kinds_at}
use Rattle.check_declaration.specs.Types.{checked_row, checked_rows}
use Rattle.check_declaration.specs.Families.{first_in, second_in, counts_in, checked_counts, BothRight}
use Rattle.check_declaration.specs.declared.Counts.{Counts}
use Rattle.language.specs.Check as C

-- ---- a family type among types

pub type_family : (s : C.Scope) (program : List ℕ) (at to parent next : ℕ) → Wholly program at to 18 next → kind_of s (read_family_type at (slice (at + 3) next program)) ≡ kind_of s (due read_type (plain (bad_type 4 parent)) (fields_at program at to))
unfolding due read_type choose
type_family s program at to parent next w = sym (ap (λ (fs : List Field). kind_of s (due read_type (plain (bad_type 4 parent)) fs)) w.first)

pub type_plain : (s : C.Scope) (program : List ℕ) (at to parent : ℕ) → to ≤ length program → tagged_in 18 (header_of at (fields_at program at to)) ≡ None → plain_kind s (due read_plain (bad_type 4 parent) (fields_at program at to)) ≡ kind_of s (due read_type (plain (bad_type 4 parent)) (fields_at program at to))
unfolding due read_type read_plain choose kind_of
type_plain s program at to parent k e = go (view program at to k)
  where
    go : View program at to → plain_kind s (due read_plain (bad_type 4 parent) (fields_at program at to)) ≡ kind_of s (due read_type (plain (bad_type 4 parent)) (fields_at program at to))
    go (ends x h) = rw x refl
    go (cuts x) = rw x refl
    go (goes u n w) = rw (w.first, ne_eqb u 18 (when_not program at to 18 u n k e w)) refl

-- ---- what a family type is made of

-- the fields after its two numbers
pub two_on : (program : List ℕ) (at next : ℕ) → fields (at + 5) (drop 2 (slice (at + 3) next program)) ≡ fields_at program (at + 5) next
unfolding fields_at
two_on program at next = let e : at + 3 + 2 ≡ at + 5 = omega arith in ap (fields (at + 5)) (drop-drop 2 (at + 3) (take next program) ∙ ap (λ (k : ℕ). drop k (take next program)) e)

module _ (q : ℕ) where
  -- what it takes, from the fields after its two numbers
  abbrev takes_of : List Field → ℕ × ℕ → Checked Kind
  takes_of fs mp = check_formal q mp.0 (parts_of read_plain (bad_type 4 q) mp.1 fs) (ending (drop mp.1 fs)) >>= λ g. good (formal g)

  -- its second number is missing, or both are right
  abbrev cut : Checked (ℕ × ℕ)
  cut = refused 4 q

  abbrev right : ℕ → ℕ → Checked (ℕ × ℕ)
  right v n = good (v, n)

  family_type_is : (s : C.Scope) (content : List ℕ) → kind_of s (read_family_type q content) ≡ (counts_in q content >>= takes_of (fields (q + 5) (drop 2 content)))
  unfolding kind_of read_family_type family_type_of first_in second_in check_counts check_number require ◌>>=◌ ◌>>◌
  family_type_is s [] = refl
  family_type_is s (v ∷ []) = by (leb v most_variables)
    where
      by : (b : Bool) → ((require 6 q b >> cut) >>= λ c. (check_formal q c.0 [] ended >>= λ g. good (formal g))) ≡ ((require 6 q b >> cut) >>= takes_of (fields (q + 5) []))
      by true = refl
      by false = refl
  family_type_is s (v ∷ n ∷ rest) = by (leb v most_variables) (leb 1 n && leb n most_parameters)
    where
      by : (b d : Bool)
          → ((require 6 q b >> (require 6 q d >> right v n)) >>= λ c. (check_formal q c.0 (parts_of read_plain (bad_type 4 q) n (fields (q + 5) rest)) (ending (drop n (fields (q + 5) rest))) >>= λ g. good (formal g)))
          ≡ ((require 6 q b >> (require 6 q d >> right v n)) >>= takes_of (fields (q + 5) rest))
      by false d = refl
      by true false = refl
      by true true = refl

pub both_right : (at next : ℕ) (c : Result Counts Refusal) (n : Counts) → c ≡ Ok n → BothRight at next c → (n.variables ≤ most_variables) × (1 ≤ n.parameters) × (n.parameters ≤ most_parameters) × (at + 5 ≤ next)
both_right at next c n u h = rw u at h

-- the answer on a family type, by the answers on its numbers and on its plain types
module _ (s : C.Scope) (program : List ℕ) (at next : ℕ) (c : Result Counts Refusal) (e : checked_counts c ≡ counts_in at (slice (at + 3) next program)) where
  abbrev here : Checked Kind
  here = kind_of s (read_family_type at (slice (at + 3) next program))

  here_is : here ≡ (checked_counts c >>= takes_of at (fields_at program (at + 5) next))
  here_is =
      family_type_is at s (slice (at + 3) next program)
      ∙ (λ i. sym e i >>= takes_of at (two_on program at next i))

  pub counts_bad : (f : Refusal) → c ≡ Err f → refused (number_of f.0) f.1 ≡ here
  unfolding checked_counts ◌>>=◌
  counts_bad f u = sym (here_is ∙ ap (λ (x : Result Counts Refusal). checked_counts x >>= takes_of at (fields_at program (at + 5) next)) u)

  module _ (m p : ℕ) (u : c ≡ Ok (record { variables = m; parameters = p })) (formals : Formals) (r : Result ℕ Refusal) (first : ℕ) (kinds : List ℕ) (sizes : List (List ℤ))
      (t : checked_rows formals r p first kinds sizes ≡ plain_kinds (size_scope m) (parts_of read_plain (bad_type 4 at) p (fields_at program (at + 5) next))) where
    abbrev finished : List Field → List Kind → Checked Formal
    finished fs ks = no_leftover at (ending fs) >> good (record { variables = m; sizes = map plain_size ks })

    both_is : here ≡ ((checked_rows formals r p first kinds sizes >>= finished (drop p (fields_at program (at + 5) next))) >>= λ g. good (formal g))
    unfolding checked_counts check_formal ◌>>=◌
    both_is =
        here_is ∙ ap (λ (x : Result Counts Refusal). checked_counts x >>= takes_of at (fields_at program (at + 5) next)) u
        ∙ ap (λ (x : Checked (List Kind)). (x >>= finished (drop p (fields_at program (at + 5) next))) >>= λ g. good (formal g)) (sym t)

    pub plain_refused : {f : Refusal} → r ≡ Err f → (g : Formals) (row : ℕ) (k₁ : List ℕ) (s₁ : List (List ℤ)) → checked_row g (Err f) row k₁ s₁ ≡ here
    unfolding checked_rows checked_row ◌>>=◌
    plain_refused h g row k₁ s₁ = sym (both_is ∙ ap (λ (x : Result ℕ Refusal). (checked_rows formals x p first kinds sizes >>= finished (drop p (fields_at program (at + 5) next))) >>= λ g. good (formal g)) h)

    module _ (end : ℕ) (v : r ≡ Ok end) (b : Beyond program (at + 5) next p end) where
      end_is : here ≡ (finished (fields_at program end next) (kinds_at formals p first kinds sizes) >>= λ g. good (formal g))
      unfolding checked_rows ◌>>=◌
      end_is =
          both_is ∙ ap (λ (x : Result ℕ Refusal). (checked_rows formals x p first kinds sizes >>= finished (drop p (fields_at program (at + 5) next))) >>= λ g. good (formal g)) v
          ∙ ap (λ (fs : List Field). finished fs (kinds_at formals p first kinds sizes) >>= λ g. good (formal g)) b.rest

      pub plain_left : end < next → next ≤ length program → refused 4 at ≡ here
      unfolding no_leftover ◌>>◌ ◌>>=◌
      plain_left h k = sym (end_is ∙ ap (λ (x : Ending). (no_leftover at x >> good (record { variables = m; sizes = map plain_size (kinds_at formals p first kinds sizes) })) >>= λ g. good (formal g)) (more_left program end next h k))

      pub plain_all : next ≤ end → good (formal (record { variables = m; sizes = map plain_size (kinds_at formals p first kinds sizes) })) ≡ here
      unfolding no_leftover ◌>>◌ ◌>>=◌
      plain_all h = sym (end_is ∙ ap (λ (x : Ending). (no_leftover at x >> good (record { variables = m; sizes = map plain_size (kinds_at formals p first kinds sizes) })) >>= λ g. good (formal g)) (none_left program end next h))
