-- The fields of a family passed, and its body after them. Assumes nothing.
use mathlib.Core.Path.{◌≡◌, refl, sym, ap, ◌∙◌}
use mathlib.Core.List.{List, []}
use Prim.Native.Nat.{ℕ, zero, suc, ◌+◌, ◌-◌, ◌≤◌, ◌<◌}
use native.Mathlib.Omega.{arith}
use native.Mathlib.Nat.{sub-zero}
use lib.ListN.{drop}
use lib.Seq.{slice, slice_empty, drop-nil}
use Rattle.language.specs.Tree.{Place}
use Rattle.language.specs.Read.{fields, fields_after}
use Rattle.fields.specs.declared.Header.{Header}
use Rattle.std.specs.Prelude.{Result, Ok, Err}
use Rattle.fields.specs.declared.NoHeader.{NoHeader}
use Rattle.fields.specs.declared.NoHeader.TheVariants.{End, Cut}
use Rattle.fields.proofs.Between.{look_in, in_whole, in_none, in_bad}
use Rattle.calls.specs.Families.{PastFields}

-- the fields after the first k are those after the next `left` from `at` on
abbrev pub Passing : ℕ → List ℕ → (from to at left : ℕ) → Type 0
Passing k l from to at left = (t : Place) → drop left (fields (t + (at - from)) (slice at to l)) ≡ drop k (fields t (slice from to l))

pub passing_start : (k : ℕ) (l : List ℕ) (from to : ℕ) → Passing k l from to from (k - 0)
passing_start k l from to t = let e : t + (from - from) ≡ t = omega arith in rw (e, sub-zero)

module _ (k : ℕ) (l : List ℕ) (from to at : ℕ) (low : from ≤ at) where
  pub passing_next : (left tag next : ℕ) → 0 < left → look_in l at to ≡ Ok (record { tag = tag; next = next }) → Passing k l from to at left → Passing k l from to next (left - 1)
  passing_next zero tag next z e h t = absurd (omega arith)
  passing_next (suc n) tag next z e h t =
      let w = in_whole l at to tag next e in
      let i : t + (at - from) + (next - at) ≡ t + (next - from) = (let q = w.low in omega arith) in
      let s : suc n - 1 ≡ n = omega arith in
      rw (s, ← i) (sym (ap (drop (suc n)) (w.first (t + (at - from)))) ∙ h t)

  pub passing_done : (left : ℕ) → left ≡ 0 → at ≤ to → Passing k l from to at left → PastFields k l from to at
  passing_done zero z w h = record { rest = h; low = low; high = w }
  passing_done (suc n) z w h = absurd (omega arith)

  pub passing_stops : (left : ℕ) → 0 < left → from ≤ to → ((h : Header) → look_in l at to ≡ Ok h → ⊥) → Passing k l from to at left → PastFields k l from to to
  unfolding fields_after
  passing_stops left z b o h = record { rest = λ t. rw (slice_empty to l) (sym (none t (look_in l at to) refl left z) ∙ h t); low = b; high = omega arith }
    where
      none : (t : Place) (f : Result Header NoHeader) → look_in l at to ≡ f → (left : ℕ) → 0 < left → drop left (fields (t + (at - from)) (slice at to l)) ≡ []
      none t (Ok f) e left z = absurd (o f e)
      none t (Err End) e left z = ap (drop left) (in_none l at to e (t + (at - from))) ∙ drop-nil left
      none t (Err Cut) e zero z = absurd (omega arith)
      none t (Err Cut) e (suc n) z = ap (drop (suc n)) (in_bad l at to e (t + (at - from))) ∙ drop-nil n
