-- The wires of an instance's parameters, summed one after the other. Assumes nothing.
use Prim.Native.Nat.{ℕ, suc, ◌+◌, ◌*◌, ◌≤◌, ◌<◌}
use native.Mathlib.Nat.{zero-add}
use native.Mathlib.Numerals.{add-one}
use native.Mathlib.Omega.{arith}
use mathlib.Core.Path.{◌≡◌, refl, ap, ◌∙◌}
use mathlib.Core.List.{List, [], ◌∷◌, map}
use lib.ListN.{length, take, drop, get_or, length-take, drop_of_length-le}
use lib.Seq.{drop-cons, get_or-take}
use Rattle.language.specs.Machine.{Meaning, a_wire, a_bit, wires, bits, the_family, begin}
use Rattle.language.specs.Sound.{wires_in, wires_laid}
use Rattle.operands.specs.declared.Parameter.{Parameter}
use Rattle.operands.specs.Meanings.{locations, of_parameter}
use Rattle.operands.specs.declared.Scope.{Scope}
use Rattle.std.specs.Prelude.{Ok, Err}
use Rattle.layout.specs.declared.Unlaid.{Unlaid}
use Rattle.layout.specs.declared.Unlaid.TheVariants.{Refused, Stuck}
use Rattle.layout.specs.Layout.{laid}

-- the wires of the first of some operands, and those of the others
wires_first : (m : Meaning) (ms : List Meaning) → wires_in (m ∷ ms) ≡ wires_in (m ∷ []) + wires_in ms
unfolding wires_in
wires_first (a_wire w) ms = omega arith
wires_first (wires first size) ms = omega arith
wires_first (a_bit b) ms = omega arith
wires_first (bits first size) ms = omega arith
wires_first (the_family n) ms = omega arith

-- ---- the parameters

abbrev wires_from : List Parameter → (count i : ℕ) → ℕ
wires_from params count i = wires_in (map of_parameter (drop i (take count params)))

-- so many wires are those of the first i parameters, and those of the parameters that are left make up the rest
pub record WiresSummed (params : List Parameter) (count i total : ℕ) : Type 0 where
  pub sum : total + wires_from params count i ≡ wires_in (map of_parameter (take count params))
  pub few : total ≤ locations * i

module _ (params : List Parameter) (count : ℕ) where
  pub wires_start : WiresSummed params count 0 0
  wires_start = record { sum = zero-add (wires_from params count 0); few = omega arith }

  module _ (i total : ℕ) (s : WiresSummed params count i total) where
    pub wires_end : count ≤ i → total ≡ wires_in (map of_parameter (take count params))
    unfolding wires_in
    wires_end h =
        let e : drop i (take count params) ≡ [] = drop_of_length-le (take count params) {i = i} (omega (arith, length-take count params)) in
        omega (arith, rw e at s.sum)

    pub wires_next : (d : Parameter) (n : ℕ) → i < count → count ≤ length params → n ≡ wires_in (of_parameter (get_or params i d) ∷ []) → n ≤ locations → WiresSummed params count (i + 1) (total + n)
    wires_next d n h k e f =
        let p = get_or params i d in
        let c : drop i (take count params) ≡ (p ∷ drop (suc i) (take count params)) =
        drop-cons (take count params) i d (omega (arith, length-take count params)) ∙ rw (get_or-take count params i d h) in
        record {
          sum = rw add-one (omega (arith, s.sum, ap (λ (x : List Parameter). wires_in (map of_parameter x)) c, wires_first (of_parameter p) (map of_parameter (drop (suc i) (take count params)))));
          few = omega (arith, s.few);
        }

-- ---- the layout

-- a layout that ends lays nothing out
pub laid_none : (u : Unlaid) → 0 ≡ wires_laid (laid (Err u) begin)
unfolding laid wires_laid
laid_none (Refused e p) = refl
laid_none Stuck = refl

pub laid_done : (s : Scope) → wires_in (map of_parameter (take s.count s.params)) ≡ wires_laid (laid (Ok s) begin)
unfolding laid wires_laid
laid_done s = refl
