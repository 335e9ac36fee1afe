-- A family's parameters, laid out one after the other. Assumes nothing.
use Prim.Native.Nat.{ℕ, suc, ◌+◌, ◌-◌, ◌≤◌, ◌<◌}
use mathlib.Core.Path.{◌≡◌, refl, sym, ap, ◌∙◌}
use mathlib.Core.List.{List, [], ◌∷◌, ◌++◌, map, map-append, append_assoc, append-nil}
use mathlib.Core.Bool.{Bool, true, false, cond}
use native.Mathlib.Omega.{arith}
use borrow.Author.Tests.{le-leb, lt-leb, ne_eqb}
use native.Mathlib.Nat.{sub-zero}
use native.Mathlib.Numerals.{add-one}
use lib.Dec.{eqb}
use lib.IntN.{ℤ, pos, negsuc, nat_abs}
use lib.ListN.{length, take, set, length-set}
use lib.Seq.{slice, take-suc-set}
use lib.Signed.{lt_z}
use Rattle.language.proofs.Integers.{integers, range_true}
use Rattle.language.specs.Form.{in_range}
use Rattle.language.specs.Limits.{most_parameters, most_wires, furthest}
use Rattle.language.specs.Tree.{Place, bad_type, ParameterType, plain}
use Rattle.language.specs.Read.{field, fields, Reader, read_type, read_plain, read_family_type, family_type_of, parts_of, types_of, due, choose, read_qbit, qbits_of}
use Rattle.language.specs.Machine.{Meaning, Run, Outcome, going, ended, stuck, give, end_at, no_meaning, laid_out, natural_of, laid_then, lay_wire, lay_register, layout, after, ◌>>=◌, ◌>>◌}
use Rattle.operands.specs.Meanings.{parameter_of, of_parameter, clipped}
use Rattle.operands.specs.declared.Wire.{Wire}
use Rattle.operands.specs.declared.Operand.{Operand}
use Rattle.operands.specs.declared.Operand.TheVariants.{Single, Register}
use Rattle.std.specs.Prelude.{Result, Ok, Err}
use Rattle.refusals.specs.declared.Reason.TheVariants.{TooManyWires, IndexOutOfRange}
use Rattle.indexes.specs.declared.Fault.{Fault}
use Rattle.indexes.specs.declared.Fault.TheVariants as faults
use Rattle.indexes.specs.Values.{fault_told, value_told, IndexAt}
use Rattle.operands.specs.declared.Parameter.{Parameter}
use Rattle.fields.specs.declared.NoHeader.{NoHeader}
use Rattle.fields.specs.declared.NoHeader.TheVariants.{End, Cut}
use Rattle.fields.proofs.Between.{look_in, FieldIn, in_whole, in_none, in_bad}
use Rattle.layout.specs.declared.Placed.{Placed}
use Rattle.layout.specs.declared.Unplaced.{Unplaced}
use Rattle.layout.specs.declared.Unplaced.TheVariants.{Past, Over, Stuck}
use Rattle.layout.specs.declared.Unlaid.{Unlaid}
use Rattle.layout.specs.declared.Unlaid.TheVariants as unlaid
use Rattle.layout.specs.Layout.{faulted, placed, WithinWires, WireFrom, RegisterFrom, TypeFrom, laid, LaysOut}

pub natural_small : (z : ℤ) → in_range z ≡ true → nat_abs z ≤ furthest
natural_small (pos n) h = omega (integers, range_true)
natural_small (negsuc n) h = omega (integers, range_true)

-- ---- one parameter

laid_past : {A : Type 0} (p : Place) (n : ℕ) (then : Run A) → most_wires < n → end_at 23 p ≡ (laid_out p n >> then)
unfolding laid_out ◌>>◌ after
laid_past p n then h = rw (lt-leb n most_wires h)

laid_on : {A : Type 0} (p : Place) (n : ℕ) (then : Run A) → n ≤ most_wires → then ≡ (laid_out p n >> then)
unfolding laid_out ◌>>◌ after
laid_on p n then h = rw (le-leb n most_wires h)

module _ (next : ℕ) where
  pub wire_past : most_wires < next + 1 → WireFrom next (Err Past)
  unfolding placed lay_wire WithinWires
  wire_past h = record { same = λ p rest. laid_past p (next + 1) _ h; within = tt }

  pub wire_fits : (w : Wire) → w.0 ≡ next → next + 1 ≤ most_wires → WireFrom next (Ok (record { operand = Single w; next = next + 1 }))
  unfolding placed lay_wire WithinWires parameter_of
  wire_fits w e h = record { same = λ p rest. rw e (laid_on p (next + 1) _ h); within = h }

  pub register_negative : (z : ℤ) → lt_z z (pos 0) ≡ true → RegisterFrom z next (Err Stuck)
  unfolding placed lay_register WithinWires natural_of ◌>>=◌ after
  register_negative (pos n) h = absurd (omega integers)
  register_negative (negsuc n) h = record { same = λ p rest. refl; within = tt }

  module _ (z : ℤ) (n : ℕ) (natural : z ≡ pos n) where
    pub register_past : most_wires < next + n → RegisterFrom z next (Err Past)
    unfolding placed lay_register WithinWires natural_of ◌>>=◌ after
    register_past h = record { same = λ p rest. rw natural (laid_past p (next + n) _ h); within = tt }

    pub register_fits : (w : Wire) → w.0 ≡ next → next + n ≤ most_wires → RegisterFrom z next (Ok (record { operand = Register w n; next = next + n }))
    unfolding placed lay_register WithinWires natural_of ◌>>=◌ after parameter_of
    register_fits w e h =
        let whole : clipped next n ≡ n = omega arith in
        record { same = λ p rest. rw (natural, e, whole) (laid_on p (next + n) _ h); within = h }

-- a family parameter has no layout
family_stuck : (values : List ℤ) (next : ℕ) (p : Place) (content : List ℕ) (types : List ParameterType) → layout values next (read_family_type p content ∷ types) ≡ no_meaning
unfolding read_family_type family_type_of layout
family_stuck values next p [] types = refl
family_stuck values next p (v ∷ []) types = refl
family_stuck values next p (v ∷ n ∷ rest) types = refl

module _ (tag : ℕ) (l : List ℕ) (values : List ℤ) (next : ℕ) where
  pub type_wire : (r : Result Placed Unplaced) → tag ≡ 16 → WireFrom next r → TypeFrom tag l values next r
  unfolding read_type read_plain choose read_qbit layout
  type_wire r t w = record { same = λ p types. w.same p (λ n. layout values n types) ∙ rw t; within = w.within }

  pub type_other : (tag ≡ 16 → ⊥) → (tag ≡ 17 → ⊥) → TypeFrom tag l values next (Err Stuck)
  unfolding read_type read_plain choose layout placed WithinWires
  type_other a b = record { same = λ p types. rw (ne_eqb tag 16 a, ne_eqb tag 17 b) (go p types (eqb tag 18)); within = tt }
    where
      go : (p : Place) (types : List ParameterType) (c : Bool) → no_meaning ≡ layout values next (cond {A = Reader ParameterType} c read_family_type (λ q rest. plain (bad_type 3 q)) p l ∷ types)
      go p types true = sym (family_stuck values next p l types)
      go p types false = refl

  module _ (t : tag ≡ 17) where
    sized_is : (x : Result ℤ Fault) → IndexAt l 0 values x → (p : Place) (types : List ParameterType)
        → layout values next (read_type (field p tag l) ∷ types) ≡ (value_told p x >>= (λ z. lay_register p z next (λ n. layout values n types)))
    unfolding read_type read_plain choose qbits_of layout
    sized_is x u p types = rw t (ap (λ (r : Run ℤ). r >>= (λ z. lay_register p z next (λ n. layout values n types))) (sym (u.same p p (p + 3))))

    pub type_fault : (f : Fault) → IndexAt l 0 values (Err f) → TypeFrom tag l values next (Err (faulted f))
    unfolding value_told fault_told faulted placed WithinWires ◌>>=◌ after
    type_fault faults.Over u = record { same = λ p types. sym (sized_is (Err faults.Over) u p types); within = tt }
    type_fault faults.Stuck u = record { same = λ p types. sym (sized_is (Err faults.Stuck) u p types); within = tt }

    pub type_sized : (z : ℤ) → IndexAt l 0 values (Ok z) → (r : Result Placed Unplaced) → RegisterFrom z next r → TypeFrom tag l values next r
    unfolding value_told ◌>>=◌ after
    type_sized z u r w = record { same = λ p types. w.same p (λ n. layout values n types) ∙ sym (sized_is (Ok z) u p types); within = w.within }

-- ---- the parameters, one after the other

module _ {A : Type 0} where
  give_after : (o : Outcome A) → after o give ≡ o
  unfolding after
  give_after (going a s) = refl
  give_after (ended n p s) = refl
  give_after stuck = refl

  -- a run that only gives its value on
  give_on : (r : Run A) → (r >>= (λ a. give a)) ≡ r
  unfolding ◌>>=◌
  give_on r j s = give_after (r s) j

module _ {A B C : Type 0} (f : A → B) (g : B → C) where
  both_after : (o : Outcome A) → after (after o (λ a. give (f a))) (λ b. give (g b)) ≡ after o (λ a. give (g (f a)))
  unfolding after
  both_after (going a s) = refl
  both_after (ended n p s) = refl
  both_after stuck = refl

  -- two changes of a run's value are one
  both_on : (r : Run A) → ((r >>= (λ a. give (f a))) >>= (λ b. give (g b))) ≡ (r >>= (λ a. give (g (f a))))
  unfolding ◌>>=◌
  both_on r j s = both_after (r s) j

abbrev laid_so_far : List Parameter → ℕ → List Meaning
laid_so_far params i = map of_parameter (take i params)

-- the types that are left at `at`, of `count` in all
abbrev types_left : List ℕ → (to count at i : ℕ) → Place → List ParameterType
types_left l to count at i place = types_of place (count - i) (fields at (slice at to l))

-- the parameters of a family, of which i are laid out, and their types end at `at`
pub record Laying (l : List ℕ) (from to count : ℕ) (values : List ℤ) (params : List Parameter) (at next i : ℕ) : Type 0 where
  pub low : i ≤ count
  pub length_is : length params ≡ most_parameters
  pub few : next ≤ most_wires
  pub same : (place : Place) → (layout values next (types_left l to count at i place) >>= (λ ms. give (laid_so_far params i ++ ms)))
      ≡ layout values 0 (types_of place count (fields from (slice from to l)))

module _ (l : List ℕ) (from to count : ℕ) (values : List ℤ) where
  pub laying_start : (params : List Parameter) → length params ≡ most_parameters → Laying l from to count values params from 0 0
  laying_start params h = record {
    low = omega arith;
    length_is = h;
    few = omega arith;
    same = λ place. rw sub-zero (give_on (layout values 0 (types_of place count (fields from (slice from to l)))));
  }

  module _ (params : List Parameter) (at next i : ℕ) (so_far : Laying l from to count values params at next i) where
    pub laying_done : count ≤ i → LaysOut (slice from to l) from count values (Ok (record { params = params; count = count; top = false }))
    unfolding laid parts_of layout ◌>>=◌ after
    laying_done h = record {
      same = λ place.
          let e : i ≡ count = (let k = so_far.low in omega arith) in
          let none : count - i ≡ 0 = omega arith in
          ap give (sym (append-nil (laid_so_far params count)) ∙ rw e) ∙ (rw none at (so_far.same place));
      inside = λ s e. cc;
      counted = λ s e. cc;
    }

    -- an answer that the parameters are not laid out
    answers : (u : Unlaid) → ((place : Place) → laid (Err u) ≡ layout values 0 (types_of place count (fields from (slice from to l))))
        → LaysOut (slice from to l) from count values (Err u)
    answers u h = record {
      same = h;
      inside = λ s e. absurd (let z : ◌≡◌ {A = ℕ} 0 1 = cc in omega arith);
      counted = λ s e. absurd (let z : ◌≡◌ {A = ℕ} 0 1 = cc in omega arith);
    }

    module _ (more : i < count) where
      one_more_lem : count - i ≡ suc (count - (i + 1))
      one_more_lem = omega arith

      pub laying_none : (e : NoHeader) → look_in l at to ≡ Err e → LaysOut (slice from to l) from count values (Err unlaid.Stuck)
      unfolding laid parts_of due read_type layout ◌>>=◌ after
      laying_none e h = answers unlaid.Stuck λ place. go place e h ∙ so_far.same place
        where
          go : (place : Place) (e : NoHeader) → look_in l at to ≡ Err e
              → no_meaning ≡ (layout values next (types_left l to count at i place) >>= (λ ms. give (laid_so_far params i ++ ms)))
          go place End e = rw (one_more_lem, in_none l at to e at)
          go place Cut e = rw (one_more_lem, in_bad l at to e at)

      module _ (tag end : ℕ) (here : look_in l at to ≡ Ok (record { tag = tag; next = end })) (x : Result Placed Unplaced) (w : TypeFrom tag (slice (at + 3) end l) values next x) where
        part : FieldIn l at to tag end
        part = in_whole l at to tag end here

        -- the type field here, and those after it
        here_is : (place : Place) → layout values next (types_left l to count at i place)
            ≡ placed at (λ n. layout values n (types_left l to count end (i + 1) place)) x
        unfolding parts_of due
        here_is place =
            let e : at + (end - at) ≡ end = (let k = part.low in omega arith) in
            rw (one_more_lem, part.first at, e) (sym (w.same at (types_left l to count end (i + 1) place)))

        pub laying_past : x ≡ Err Past → LaysOut (slice from to l) from count values (Err (unlaid.Refused TooManyWires at))
        unfolding laid placed ◌>>=◌ after
        laying_past e = answers (unlaid.Refused TooManyWires at) λ place. rw (here_is place, e) at (so_far.same place)

        pub laying_over : x ≡ Err Over → LaysOut (slice from to l) from count values (Err (unlaid.Refused IndexOutOfRange at))
        unfolding laid placed ◌>>=◌ after
        laying_over e = answers (unlaid.Refused IndexOutOfRange at) λ place. rw (here_is place, e) at (so_far.same place)

        pub laying_stuck : x ≡ Err Stuck → LaysOut (slice from to l) from count values (Err unlaid.Stuck)
        unfolding laid placed ◌>>=◌ after
        laying_stuck e = answers unlaid.Stuck λ place. rw (here_is place, e) at (so_far.same place)

        pub laying_next : (o : Operand) (wire : ℕ) → x ≡ Ok (record { operand = o; next = wire }) → count ≤ most_parameters → Laying l from to count values (set params i (record { operand = o })) end wire (i + 1)
        unfolding placed laid_then WithinWires
        laying_next o wire e fits =
            let k = so_far.length_is in
            let q : Parameter = record { operand = o } in
            let inside : wire ≤ most_wires = rw e at w.within in
            let front : take (i + 1) (set params i q) ≡ take i params ++ (q ∷ []) = rw add-one (take-suc-set params i q (omega arith)) in
            let whole : laid_so_far (set params i q) (i + 1) ≡ laid_so_far params i ++ (parameter_of o ∷ []) = ap (map of_parameter) front ∙ map-append of_parameter (take i params) (q ∷ []) in
            record {
              low = omega arith;
              length_is = length-set params i q ∙ k;
              few = inside;
              same = λ place.
                  let rest = layout values wire (types_left l to count end (i + 1) place) in
                  rw (whole) (simp append_assoc (sym (both_on (λ ms. parameter_of o ∷ ms) (λ ms. laid_so_far params i ++ ms) rest)))
                  ∙ (rw (here_is place, e) at (so_far.same place));
            }
