-- A family type among a family's types. Assumes nothing.
use Prim.Native.Nat.{ℕ, zero, suc, ◌+◌, ◌-◌, ◌≤◌, ◌<◌}
use mathlib.Core.Path.{◌≡◌, refl, sym, ap, ◌∙◌}
use mathlib.Core.List.{List, [], ◌∷◌}
use mathlib.Core.Bool.{true, false}
use native.Mathlib.Omega.{arith}
use native.Mathlib.Nat.{sub-zero}
use borrow.Author.Tests.{ne_eqb}
use lib.Seq.{slice}
use Rattle.language.specs.Tree.{Place, ParameterType}
use Rattle.language.specs.Read.{field, fields, read_type, read_family_type, family_type_of, parts_of, types_of, due, choose}
use Rattle.language.specs.Machine.{has_family_type}
use Rattle.std.specs.Prelude.{Ok, Err}
use Rattle.fields.specs.declared.NoHeader.{NoHeader}
use Rattle.fields.specs.declared.NoHeader.TheVariants.{End, Cut}
use Rattle.fields.proofs.Between.{look_in, in_whole, in_none, in_bad}
use Rattle.layout.specs.Layout.{TakesFamily}

-- ---- one type

family_first : (p : Place) (content : List ℕ) (types : List ParameterType) → has_family_type (read_family_type p content ∷ types) ≡ true
unfolding read_family_type family_type_of has_family_type
family_first p [] types = refl
family_first p (v ∷ []) types = refl
family_first p (v ∷ n ∷ rest) types = refl

family_here : (p tag : ℕ) (content : List ℕ) (types : List ParameterType) → tag ≡ 18 → has_family_type (read_type (field p tag content) ∷ types) ≡ true
unfolding read_type choose
family_here p tag content types e = rw e (family_first p content types)

other_here : (p tag : ℕ) (content : List ℕ) (types : List ParameterType) → (tag ≡ 18 → ⊥) → has_family_type (read_type (field p tag content) ∷ types) ≡ has_family_type types
unfolding read_type choose has_family_type
other_here p tag content types h = rw (ne_eqb tag 18 h)

-- types that are missing
none_left : (p n : ℕ) → has_family_type (types_of p n []) ≡ false
unfolding has_family_type parts_of due
none_left p zero = refl
none_left p (suc n) = none_left p n

-- ---- the walk over the types

module _ (l : List ℕ) (from to count : ℕ) where
  -- a family type is among all where one is among those that are left at `at`, after i of them
  abbrev pub FamilyLeft : (at i : ℕ) → Type 0
  FamilyLeft at i = (p t : Place) → has_family_type (types_of p (count - i) (fields (t + (at - from)) (slice at to l))) ≡ has_family_type (types_of p count (fields t (slice from to l)))

  pub left_start : FamilyLeft from 0
  left_start p t = let e : t + (from - from) ≡ t = omega arith in rw (e, sub-zero)

  module _ (at i : ℕ) (left : FamilyLeft at i) where
    pub left_done : count ≤ i → TakesFamily (slice from to l) count false
    unfolding parts_of has_family_type
    left_done h p t = let e : count - i ≡ 0 = omega arith in rw e at (left p t)

    module _ (low : from ≤ at) (more : i < count) where
      one_more_lem : count - i ≡ suc (count - (i + 1))
      one_more_lem = omega arith

      pub left_none : (e : NoHeader) → look_in l at to ≡ Err e → TakesFamily (slice from to l) count false
      unfolding parts_of due read_type has_family_type
      left_none e h p t = go e h ∙ left p t
        where
          go : (e : NoHeader) → look_in l at to ≡ Err e → false ≡ has_family_type (types_of p (count - i) (fields (t + (at - from)) (slice at to l)))
          go End e = rw (one_more_lem, in_none l at to e (t + (at - from))) (sym (none_left p (count - (i + 1))))
          go Cut e = rw (one_more_lem, in_bad l at to e (t + (at - from))) (sym (none_left p (count - (i + 1))))

      module _ (tag next : ℕ) (e : look_in l at to ≡ Ok (record { tag = tag; next = next })) where
        abbrev later : (p t : Place) → List ParameterType
        later p t = types_of p (count - (i + 1)) (fields (t + (next - from)) (slice next to l))

        here : (p t : Place) → types_of p (count - i) (fields (t + (at - from)) (slice at to l)) ≡ (read_type (field (t + (at - from)) tag (slice (at + 3) next l)) ∷ later p t)
        unfolding parts_of due
        here p t =
            let w = in_whole l at to tag next e in
            let j : t + (at - from) + (next - at) ≡ t + (next - from) = (let h = w.low in omega arith) in
            rw (one_more_lem, w.first (t + (at - from)), j)

        pub left_family : tag ≡ 18 → TakesFamily (slice from to l) count true
        left_family h p t = sym (ap has_family_type (here p t) ∙ family_here (t + (at - from)) tag (slice (at + 3) next l) (later p t) h) ∙ left p t

        pub left_next : (tag ≡ 18 → ⊥) → FamilyLeft next (i + 1)
        left_next h p t = sym (ap has_family_type (here p t) ∙ other_here (t + (at - from)) tag (slice (at + 3) next l) (later p t) h) ∙ left p t
