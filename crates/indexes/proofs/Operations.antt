-- The value of an index field, from the values of its parts. Assumes nothing.
use Prim.Native.Nat.{ℕ, zero, suc, ◌+◌, ◌-◌, ◌≤◌}
use mathlib.Core.Path.{◌≡◌, refl, sym, ap, ◌∙◌}
use mathlib.Core.List.{List, []}
use mathlib.Core.Bool.{Bool, true, false, cond}
use native.Mathlib.Omega.{arith}
use borrow.Author.Tests.{ne_eqb, eqb-true, eqb-false}
use lib.ListN.{take, drop}
use lib.Seq.{slice, drop-drop}
use lib.Dec.{eqb}
use lib.IntN.{ℤ}
use Rattle.language.specs.Tree.{Place, Index, literal, variable, operation, bad_index, Operation, sum, difference, product}
use Rattle.language.specs.Form.{in_range}
use Rattle.language.specs.Read.{Field, field, bad_header, fields, read_index, index_by, deep_index, choose, due, read_literal, read_variable, operation_of, is_index_tag}
use Rattle.language.specs.Machine.{Run, evaluate, inside, operate, after, ◌>>=◌, no_meaning}
use Rattle.std.specs.Prelude.{Result, Ok, Err}
use Rattle.fields.specs.declared.Header.{Header}
use Rattle.fields.specs.declared.NoHeader.{NoHeader}
use Rattle.fields.specs.declared.NoHeader.TheVariants.{End, Cut}
use Rattle.indexes.specs.declared.Fault.{Fault}
use Rattle.indexes.specs.declared.Fault.TheVariants.{Over, Stuck}
use Rattle.indexes.specs.Values.{fault_told, value_told, Ranged, InsideIs, LeafIs, TagOf, OperateIs, IndexIs, IndexAt}
use Rattle.fields.proofs.Between.{look_in, in_whole, in_none, in_bad}
use Rattle.indexes.proofs.Leaves.{fault_on}

-- ---- a part

module _ (levels : ℕ) (l : List ℕ) (at to : ℕ) (values : List ℤ) where
  pub part_none : {e : NoHeader} → look_in l at to ≡ Err e → (p q r : Place)
      → evaluate p values (due (read_index levels) (bad_index 4 q) (fields r (slice at to l))) ≡ no_meaning
  unfolding due evaluate read_index index_by deep_index
  part_none {e = e} h p q r = go e h
    where
      bad : (n : ℕ) → evaluate p values (read_index n (bad_header r)) ≡ no_meaning
      bad zero = refl
      bad (suc n) = refl

      go : (e : NoHeader) → look_in l at to ≡ Err e → evaluate p values (due (read_index levels) (bad_index 4 q) (fields r (slice at to l))) ≡ no_meaning
      go End h = rw (in_none l at to h r)
      go Cut h = rw (in_bad l at to h r) (bad levels)

  pub part_some : (p q r : Place) (tag next : ℕ) (v : Result ℤ Fault) → look_in l at to ≡ Ok (record { tag = tag; next = next }) → IndexIs tag (slice (at + 3) next l) levels values v
      → evaluate p values (due (read_index levels) (bad_index 4 q) (fields r (slice at to l))) ≡ value_told p v
  unfolding due
  part_some p q r tag next v e w = rw ((in_whole l at to tag next e).first r) (sym (w.same p r))

-- ---- by tag

-- one level
level : (levels : ℕ) (f : Field) → (levels ≡ 0 → ⊥) → read_index levels f ≡ index_by (read_index (levels - 1)) f
unfolding read_index
level zero f h = absurd (h refl)
level (suc n) f h = let e : suc n - 1 ≡ n = omega arith in rw e

module _ (tag : ℕ) (l : List ℕ) (levels : ℕ) (values : List ℤ) where
  pub at_deepest : levels ≡ 0 → IndexIs tag l levels values (Err Stuck)
  unfolding read_index deep_index fault_told value_told Ranged evaluate
  at_deepest h = record { ranged = tt; same = λ p q. rw h (go (is_index_tag tag) p q) }
    where
      go : (b : Bool) (p q : Place) → no_meaning ≡ evaluate p values (cond b (bad_index 5 q) (bad_index 3 q))
      go true p q = refl
      go false p q = refl

  pub at_literal : (levels ≡ 0 → ⊥) → tag ≡ 64 → (r : Result ℤ Fault) → LeafIs read_literal l values r → IndexIs tag l levels values r
  unfolding index_by choose
  at_literal h e r w = record { ranged = w.ranged; same = λ p q. rw (level levels (field q tag l) h, e) (w.same p q) }

  pub at_variable : (levels ≡ 0 → ⊥) → tag ≡ 65 → (r : Result ℤ Fault) → LeafIs read_variable l values r → IndexIs tag l levels values r
  unfolding index_by choose
  at_variable h e r w = record { ranged = w.ranged; same = λ p q. rw (level levels (field q tag l) h, e) (w.same p q) }

  -- a tag that is none of the five
  pub at_other : (levels ≡ 0 → ⊥) → (tag ≡ 64 → ⊥) → (tag ≡ 65 → ⊥) → (tag ≡ 66 → ⊥) → (tag ≡ 67 → ⊥) → (tag ≡ 68 → ⊥) → IndexIs tag l levels values (Err Stuck)
  unfolding index_by choose fault_told value_told Ranged evaluate
  at_other h a b c d e = record {
    ranged = tt;
    same = λ p q.
        rw (level levels (field q tag l) h, ne_eqb tag 64 a, ne_eqb tag 65 b, ne_eqb tag 66 c, ne_eqb tag 67 d, ne_eqb tag 68 e);
  }

-- ---- the operation of a tag

pub tag_sum : TagOf sum 66
unfolding index_by choose
tag_sum = record { reads = λ part q l. refl }

pub tag_difference : TagOf difference 67
unfolding index_by choose
tag_difference = record { reads = λ part q l. refl }

pub tag_product : TagOf product 68
unfolding index_by choose
tag_product = record { reads = λ part q l. refl }

-- the operation of an index, or `o` where it is none
unfoldable operation_in : Operation → Index → Operation
operation_in o (literal q n) = o
operation_in o (variable q n e) = o
operation_in o (operation q u a b e) = u
operation_in o (bad_index n q) = o

-- 1 for an operation
unfoldable is_operation : Index → ℕ
is_operation (literal q n) = 0
is_operation (variable q n e) = 0
is_operation (operation q u a b e) = 1
is_operation (bad_index n q) = 0

-- a reading of parts, to look at the field alone
no_part : Field → Index
no_part f = bad_index 4 0

-- a tag is that of one operation
tag_one : (tag : ℕ) (o u : Operation) → TagOf o tag → TagOf u tag → o ≡ u
unfolding operation_in operation_of
tag_one tag o u a b = ap (operation_in sum) (sym (a.reads no_part 0 []) ∙ b.reads no_part 0 [])

tag_none : (tag : ℕ) → (tag ≡ 66 → ⊥) → (tag ≡ 67 → ⊥) → (tag ≡ 68 → ⊥) → (o : Operation) → TagOf o tag → ⊥
unfolding is_operation index_by choose operation_of read_literal read_variable
tag_none tag a b c o t = go (eqb tag 64) refl (eqb tag 65) refl
  where
    is : is_operation (index_by no_part (field 0 tag [])) ≡ 1
    is = ap is_operation (t.reads no_part 0 [])

    no : is_operation (index_by no_part (field 0 tag [])) ≡ 0 → ⊥
    no h = omega (arith, is, h)

    go : (u : Bool) → eqb tag 64 ≡ u → (v : Bool) → eqb tag 65 ≡ v → ⊥
    go true e v f = no (rw e)
    go false e true f = no (rw (e, f))
    go false e false f = no (rw (e, f, ne_eqb tag 66 a, ne_eqb tag 67 b, ne_eqb tag 68 c))

pub operated : (tag : ℕ) (o : Operation) (x y : ℤ) (r : Result ℤ Fault) → TagOf o tag → InsideIs (operate o x y) r → OperateIs tag x y r
operated tag o x y r t i = record {
  ranged = i.ranged;
  same = λ u w p. i.same p ∙ ap (λ (a : Operation). inside p (operate a x y)) (tag_one tag o u t w);
  other = λ n. absurd (n o t);
}

pub not_operated : (tag : ℕ) (x y : ℤ) → (tag ≡ 66 → ⊥) → (tag ≡ 67 → ⊥) → (tag ≡ 68 → ⊥) → OperateIs tag x y (Err Stuck)
unfolding Ranged
not_operated tag x y a b c = record { ranged = tt; same = λ o t p. absurd (tag_none tag a b c o t); other = λ n. refl }

-- the operation of a tag from 66 to 68
unfoldable operation_for : ℕ → Operation
operation_for t = cond (eqb t 66) sum (cond (eqb t 67) difference product)

tag_is : (tag : ℕ) → 66 ≤ tag → tag ≤ 68 → TagOf (operation_for tag) tag
unfolding operation_for
tag_is tag a b = go (eqb tag 66) refl (eqb tag 67) refl
  where
    go : (u : Bool) → eqb tag 66 ≡ u → (v : Bool) → eqb tag 67 ≡ v → TagOf (operation_for tag) tag
    go true e v f = let t : tag ≡ 66 = eqb-true tag 66 e in rw t tag_sum
    go false e true f = let t : tag ≡ 67 = eqb-true tag 67 f in rw t tag_difference
    go false e false f = let t : tag ≡ 68 = omega (arith, eqb-false tag 66 e, eqb-false tag 67 f) in rw t tag_product

-- both sides' values and their operation
both : Place → Operation → Run ℤ → Run ℤ → Run ℤ
both p o a b = a >>= (λ x. b >>= (λ y. inside p (operate o x y)))

both_left : (p : Place) (o : Operation) (f : Fault) (b : Run ℤ) → both p o (fault_told p f) b ≡ fault_told p f
unfolding both
both_left p o f b = fault_on p f _

both_right : (p : Place) (o : Operation) (x : ℤ) (f : Fault) → both p o (value_told p (Ok x)) (fault_told p f) ≡ fault_told p f
unfolding both value_told ◌>>=◌ after fault_told
both_right p o x Over = refl
both_right p o x Stuck = refl

both_is : (p : Place) (o : Operation) (x y : ℤ) → both p o (value_told p (Ok x)) (value_told p (Ok y)) ≡ inside p (operate o x y)
unfolding both value_told ◌>>=◌ after
both_is p o x y = refl

-- the two parts of an operation's field
abbrev left_of : ℕ → Place → List ℕ → Index
left_of levels q l = due (read_index levels) (bad_index 4 q) (fields (q + 3) l)

abbrev right_of : ℕ → Place → List ℕ → Index
right_of levels q l = due (read_index levels) (bad_index 4 q) (drop 1 (fields (q + 3) l))

module _ (tag : ℕ) (l : List ℕ) (levels : ℕ) (values : List ℤ) (h : levels ≡ 0 → ⊥) (low : 66 ≤ tag) (high : tag ≤ 68) where
  at_operation : (p q : Place) → evaluate p values (read_index levels (field q tag l))
      ≡ both p (operation_for tag) (evaluate p values (left_of (levels - 1) q l)) (evaluate p values (right_of (levels - 1) q l))
  unfolding operation_of evaluate both
  at_operation p q = ap (evaluate p values) (level levels (field q tag l) h ∙ (tag_is tag low high).reads (read_index (levels - 1)) q l)

  pub at_left : (f : Fault) → ((p q : Place) → evaluate p values (left_of (levels - 1) q l) ≡ fault_told p f) → IndexIs tag l levels values (Err f)
  unfolding value_told Ranged
  at_left f w = record { ranged = tt; same = λ p q. sym (at_operation p q ∙ ap (λ (r : Run ℤ). both p (operation_for tag) r (evaluate p values (right_of (levels - 1) q l))) (w p q) ∙ both_left p (operation_for tag) f _) }

  pub at_right : (x : ℤ) (f : Fault) → ((p q : Place) → evaluate p values (left_of (levels - 1) q l) ≡ value_told p (Ok x))
      → ((p q : Place) → evaluate p values (right_of (levels - 1) q l) ≡ fault_told p f) → IndexIs tag l levels values (Err f)
  unfolding value_told Ranged
  at_right x f v w = record { ranged = tt; same = λ p q. sym (at_operation p q ∙ (λ j. both p (operation_for tag) (v p q j) (w p q j)) ∙ both_right p (operation_for tag) x f) }

  pub at_both : (x y : ℤ) → ((p q : Place) → evaluate p values (left_of (levels - 1) q l) ≡ value_told p (Ok x))
      → ((p q : Place) → evaluate p values (right_of (levels - 1) q l) ≡ value_told p (Ok y))
      → (r : Result ℤ Fault) → OperateIs tag x y r → IndexIs tag l levels values r
  at_both x y v w r o = record {
    ranged = o.ranged;
    same = λ p q. o.same (operation_for tag) (tag_is tag low high) p
        ∙ sym (at_operation p q ∙ (λ j. both p (operation_for tag) (v p q j) (w p q j)) ∙ both_is p (operation_for tag) x y);
  }

-- the left part, and the right one after it
module _ (l : List ℕ) (from to levels : ℕ) (values : List ℤ) where
  pub left_none : {e : NoHeader} → look_in l from to ≡ Err e → (p q : Place) → evaluate p values (left_of levels q (slice from to l)) ≡ fault_told p Stuck
  unfolding fault_told
  left_none e p q = part_none levels l from to values e p q (q + 3)

  module _ (first mid : ℕ) (e : look_in l from to ≡ Ok (record { tag = first; next = mid })) where
    pub left_some : (v : Result ℤ Fault) → IndexIs first (slice (from + 3) mid l) levels values v → (p q : Place) → evaluate p values (left_of levels q (slice from to l)) ≡ value_told p v
    left_some v w p q = part_some levels l from to values p q (q + 3) first mid v e w

    right_at : (q : Place) → drop 1 (fields (q + 3) (slice from to l)) ≡ fields (q + 3 + (mid - from)) (slice mid to l)
    right_at q = ap (drop 1) ((in_whole l from to first mid e).first (q + 3))

    pub right_none : {k : NoHeader} → look_in l mid to ≡ Err k → (p q : Place) → evaluate p values (right_of levels q (slice from to l)) ≡ fault_told p Stuck
    unfolding fault_told
    right_none k p q = rw (right_at q) (part_none levels l mid to values k p q (q + 3 + (mid - from)))

    pub right_some : (second end : ℕ) (v : Result ℤ Fault) → look_in l mid to ≡ Ok (record { tag = second; next = end }) → IndexIs second (slice (mid + 3) end l) levels values v
        → (p q : Place) → evaluate p values (right_of levels q (slice from to l)) ≡ value_told p v
    right_some second end v f w p q = rw (right_at q) (part_some levels l mid to values p q (q + 3 + (mid - from)) second end v f w)

-- an operation's field, by what its parts come to
module _ (tag : ℕ) (l : List ℕ) (from to levels : ℕ) (values : List ℤ) (h : levels ≡ 0 → ⊥) (low : 66 ≤ tag) (high : tag ≤ 68) where
  abbrev ValueIs : Result ℤ Fault → Type 0
  ValueIs r = IndexIs tag (slice from to l) levels values r

  -- a part that ends at the header's end
  abbrev pub PartIs : ℕ → Header → Result ℤ Fault → Type 0
  PartIs at k r = IndexIs k.tag (slice (at + 3) k.next l) (levels - 1) values r

  pub combined_none : {e : NoHeader} → look_in l from to ≡ Err e → ValueIs (Err Stuck)
  combined_none e = at_left tag (slice from to l) levels values h low high Stuck (left_none l from to (levels - 1) values e)

  module _ (first : Header) (e : look_in l from to ≡ Ok first) where
    left_is : (v : Result ℤ Fault) → PartIs from first v → (p q : Place) → evaluate p values (left_of (levels - 1) q (slice from to l)) ≡ value_told p v
    left_is v w = left_some l from to (levels - 1) values first.tag first.next e v w

    pub combined_left : (f : Fault) → PartIs from first (Err f) → ValueIs (Err f)
    unfolding value_told
    combined_left f w = at_left tag (slice from to l) levels values h low high f (left_is (Err f) w)

    module _ (x : ℤ) (w : PartIs from first (Ok x)) where
      pub combined_cut : {k : NoHeader} → look_in l first.next to ≡ Err k → ValueIs (Err Stuck)
      combined_cut k = at_right tag (slice from to l) levels values h low high x Stuck (left_is (Ok x) w) (right_none l from to (levels - 1) values first.tag first.next e k)

      module _ (second : Header) (k : look_in l first.next to ≡ Ok second) where
        right_is : (v : Result ℤ Fault) → PartIs first.next second v → (p q : Place) → evaluate p values (right_of (levels - 1) q (slice from to l)) ≡ value_told p v
        right_is v u = right_some l from to (levels - 1) values first.tag first.next e second.tag second.next v k u

        pub combined_right : (f : Fault) → PartIs first.next second (Err f) → ValueIs (Err f)
        unfolding value_told
        combined_right f u = at_right tag (slice from to l) levels values h low high x f (left_is (Ok x) w) (right_is (Err f) u)

        pub combined_both : (y : ℤ) → PartIs first.next second (Ok y) → (r : Result ℤ Fault) → OperateIs tag x y r → ValueIs r
        combined_both y u r o = at_both tag (slice from to l) levels values h low high x y (left_is (Ok x) w) (right_is (Ok y) u) r o

pub is_ranged : (tag : ℕ) (l : List ℕ) (levels : ℕ) (values : List ℤ) (x : ℤ) → IndexIs tag l levels values (Ok x) → in_range x ≡ true
unfolding Ranged
is_ranged tag l levels values x w = w.ranged

-- ---- the index that is due

pub index_none : (l : List ℕ) (at to : ℕ) (values : List ℤ) {e : NoHeader} → look_in l at to ≡ Err e → IndexAt (slice at to l) 0 values (Err Stuck)
unfolding value_told fault_told Ranged
index_none l at to values e = record { ranged = tt; same = λ p q t. sym (part_none 16 l at to values e p q t) }

pub index_some : (l : List ℕ) (at to : ℕ) (values : List ℤ) (tag next : ℕ) (v : Result ℤ Fault) → look_in l at to ≡ Ok (record { tag = tag; next = next })
    → IndexIs tag (slice (at + 3) next l) 16 values v → IndexAt (slice at to l) 0 values v
index_some l at to values tag next v e u = record { ranged = u.ranged; same = λ p q t. sym (part_some 16 l at to values p q t tag next v e u) }

-- further on in the bytes
pub index_later : (l : List ℕ) (from n to : ℕ) (values : List ℤ) (v : Result ℤ Fault) → IndexAt (slice (from + n) to l) 0 values v → IndexAt (slice from to l) n values v
index_later l from n to values v u = record { ranged = u.ranged; same = λ p q t. rw (drop-drop n from (take to l)) (u.same p q t) }

pub index_ranged : (l : List ℕ) (at : ℕ) (values : List ℤ) (x : ℤ) → IndexAt l at values (Ok x) → in_range x ≡ true
unfolding Ranged
index_ranged l at values x w = w.ranged
