-- What operands stand for. Assumes nothing.
use Prim.Native.Nat.{ℕ, zero, suc, ◌+◌, ◌*◌, ◌-◌, ◌<◌, ◌≤◌}
use mathlib.Core.Path.{◌≡◌, refl, ap, ◌∙◌}
use mathlib.Core.List.{List, [], ◌∷◌, map}
use mathlib.Core.Bool.{Bool, true, false, cond}
use mathlib.Core.Option.{Option, none, some}
use native.Mathlib.Omega.{arith}
use borrow.Author.Tests.{lt-ltb, le-ltb}
use lib.ListN.{length, get_or, get_elem?, take, length-take}
use lib.Seq.{get_or-take}
use lib.Dec.{ltb, T}
use lib.IntN.{ℤ, pos, negsuc, nat_abs, ◌+ℤ◌, ◌-ℤ◌}
use lib.Signed.{lt_z, non_neg}
use mir.Syntax.{w64}
use mir.Val.{Fits}
use Rattle.language.proofs.Integers.{integers, range_true, plus, minus, ◌≼◌, ≼-pos}
use Rattle.language.specs.Form.{in_range}
use Rattle.kinds.specs.declared.Kind.{Kind}
use Rattle.kinds.specs.declared.Kind.TheVariants.{Qubit, Quantum, Classical, Family as family_kind}
use Rattle.kinds.specs.Numbers.{kind_with}
use Rattle.operands.specs.declared.Wire.{Wire}
use Rattle.operands.specs.declared.Bit.{Bit}
use Rattle.language.specs.Tree.{Place}
use Rattle.language.specs.Machine.{Meaning, a_wire, a_bit, wires, bits, Run, give, no_meaning, found, natural_of, ◌>>=◌, after, element_at, slice_at, as_wire, as_bit}
use Rattle.operands.specs.declared.Operand.{Operand}
use Rattle.operands.specs.declared.Operand.TheVariants.{Single, Register, Family}
use Rattle.operands.specs.declared.Parameter.{Parameter}
use Rattle.std.specs.Prelude.{Result, Ok, Err}
use Rattle.std.specs.Option.{ok_or}
use Rattle.std.specs.Prelude as prelude
use Rattle.operands.specs.declared.Meaning as code
use Rattle.operands.specs.declared.Meaning.TheVariants.{Wire as m_wire, Bit as m_bit, Wires, Bits, Family as m_family}
use Rattle.indexes.specs.declared.Fault.{Fault}
use Rattle.indexes.specs.declared.Fault.TheVariants.{Stuck}
use Rattle.indexes.specs.Values.{fault_told}
use Rattle.operands.specs.Meanings.{of_parameter, parameter_of, register_of, registers_of, stood, meaning_told, location_in, locations, clipped, location_of, the_wire, the_bit}

pub register_at : (n : ℕ) (l : List ℕ) → 3 * n + 2 < length l → get_elem? (registers_of l) n ≡ some (register_of (kind_with (get_or l (3 * n) 0)) (get_or l (3 * n + 1) 0) (get_or l (3 * n + 2) 0))
unfolding registers_of
register_at n [] h = absurd (omega arith)
register_at n (a ∷ []) h = absurd (omega arith)
register_at n (a ∷ b ∷ []) h = absurd (omega arith)
register_at zero (a ∷ b ∷ c ∷ l) h = refl
register_at (suc n) (a ∷ b ∷ c ∷ l) h =
    let e : 3 * suc n ≡ suc (suc (suc (3 * n))) = omega arith in
    let f : suc (suc (suc (3 * n))) + 1 ≡ suc (suc (suc (3 * n + 1))) = omega arith in
    let g : suc (suc (suc (3 * n))) + 2 ≡ suc (suc (suc (3 * n + 2))) = omega arith in
    rw (e, f, g) (register_at n l (omega arith))

pub register_past : (n : ℕ) (l : List ℕ) → length l ≤ 3 * n + 2 → get_elem? (registers_of l) n ≡ none
unfolding registers_of
register_past n [] h = refl
register_past n (a ∷ []) h = refl
register_past n (a ∷ b ∷ []) h = refl
register_past zero (a ∷ b ∷ c ∷ l) h = absurd (omega arith)
register_past (suc n) (a ∷ b ∷ c ∷ l) h = register_past n l (omega arith)

-- a kind that is not classical
pub register_quantum : (k : Kind) (first size : ℕ) → (k ≡ Classical → ⊥) → register_of k first size ≡ wires (the_wire first) (clipped first size)
unfolding register_of
register_quantum Qubit first size h = refl
register_quantum Quantum first size h = refl
register_quantum Classical first size h = absurd (h refl)
register_quantum family_kind first size h = refl

-- of the first `count` in a table
pub table_at : (n count : ℕ) (l : List ℕ) → n < count → 3 * count ≤ length l
    → get_elem? (registers_of (take (3 * count) l)) n ≡ some (register_of (kind_with (get_or l (3 * n) 0)) (get_or l (3 * n + 1) 0) (get_or l (3 * n + 2) 0))
table_at n count l h k =
    register_at n (take (3 * count) l) (omega (arith, length-take (3 * count) l))
    ∙ rw (get_or-take (3 * count) l (3 * n) 0 (omega arith), get_or-take (3 * count) l (3 * n + 1) 0 (omega arith), get_or-take (3 * count) l (3 * n + 2) 0 (omega arith))

pub table_past : (n count : ℕ) (l : List ℕ) → count ≤ n → get_elem? (registers_of (take (3 * count) l)) n ≡ none
table_past n count l h = register_past n (take (3 * count) l) (omega (arith, length-take (3 * count) l))

pub parameter_at : (n k : ℕ) (l : List Parameter) (d : Parameter) → n < k → n < length l → get_elem? (map of_parameter (take k l)) n ≡ some (of_parameter (get_or l n d))
parameter_at n zero l d h i = absurd (omega arith)
parameter_at n (suc k) [] d h i = absurd (omega arith)
parameter_at zero (suc k) (x ∷ l) d h i = refl
parameter_at (suc n) (suc k) (x ∷ l) d h i = parameter_at n k l d (omega arith) (omega arith)

pub parameter_out : (n k : ℕ) (l : List Parameter) → (n < k → n < length l → ⊥) → get_elem? (map of_parameter (take k l)) n ≡ none
parameter_out n zero l h = refl
parameter_out n (suc k) [] h = refl
parameter_out zero (suc k) (x ∷ l) h = absurd (h (omega arith) (omega arith))
parameter_out (suc n) (suc k) (x ∷ l) h = parameter_out n k l (λ i j. h (omega arith) (omega arith))

-- the code's answer for what a parameter holds
abbrev pub parameter_answer : Operand → code.Meaning
parameter_answer (Single w) = m_wire w
parameter_answer (Register f n) = Wires f n
parameter_answer (Family n) = m_family n

pub parameter_answer_lem : (o : Operand) → stood (parameter_answer o) ≡ parameter_of o
unfolding stood parameter_of
parameter_answer_lem (Single w) = refl
parameter_answer_lem (Register f n) = refl
parameter_answer_lem (Family n) = refl

pub nothing : (p : Place) {A : Option Meaning} → A ≡ none → meaning_told p (Err Stuck) ≡ found A
unfolding meaning_told fault_told found
nothing p e = rw e

pub location_past : (first size i : ℕ) → size ≤ i → prelude.None ≡ location_in first size i
unfolding location_in
location_past first size i h = simp (le-ltb i (clipped first size) (omega arith))

pub location_high : (first size i : ℕ) → locations ≤ first + i → prelude.None ≡ location_in first size i
unfolding location_in
location_high first size i h = simp (le-ltb i (clipped first size) (omega arith))

pub location_at : (first size i : ℕ) → i < size → first + i < locations → prelude.Some (first + i) ≡ location_in first size i
unfolding location_in
location_at first size i h k = simp (lt-ltb i (clipped first size) (omega arith))

-- ---- a location, or a fault where there is none

pub location_none : (o : prelude.Option ℕ) (r : Result ℕ Fault) (f : Fault) → r ≡ ok_or o Stuck → r ≡ Err f → (o ≡ prelude.None) × (f ≡ Stuck)
location_none prelude.None r f e k = (refl, cc)
location_none (prelude.Some n) r f e k = absurd (let z : ◌≡◌ {A = ℕ} 0 1 = cc in omega arith)

pub location_some : (o : prelude.Option ℕ) (r : Result ℕ Fault) (n : ℕ) → r ≡ ok_or o Stuck → r ≡ Ok n → o ≡ prelude.Some n
location_some prelude.None r n e k = absurd (let z : ◌≡◌ {A = ℕ} 0 1 = cc in omega arith)
location_some (prelude.Some m) r n e k = cc

-- ---- what has no elements, or no slices

pub no_element : (s : code.Meaning) → ((w : Wire) (n : ℕ) → s ≡ Wires w n → ⊥) → ((b : Bit) (n : ℕ) → s ≡ Bits b n → ⊥) → (z : ℤ) → no_meaning ≡ element_at (stood s) z
unfolding stood element_at
no_element (m_wire w) h k z = refl
no_element (m_bit b) h k z = refl
no_element (Wires w n) h k z = absurd (h w n refl)
no_element (Bits b n) h k z = absurd (k b n refl)
no_element (m_family n) h k z = refl

pub no_slice : (s : code.Meaning) → ((w : Wire) (n : ℕ) → s ≡ Wires w n → ⊥) → (x y : ℤ) → no_meaning ≡ slice_at (stood s) x y
unfolding stood slice_at
no_slice (m_wire w) h x y = refl
no_slice (m_bit b) h x y = refl
no_slice (Wires w n) h x y = absurd (h w n refl)
no_slice (Bits b n) h x y = refl
no_slice (m_family n) h x y = refl

-- ---- what is no wire, or no bit

pub no_wire : (s : code.Meaning) → ((w : Wire) → s ≡ m_wire w → ⊥) → no_meaning ≡ as_wire (stood s)
unfolding stood as_wire
no_wire (m_wire w) h = absurd (h w refl)
no_wire (m_bit b) h = refl
no_wire (Wires w n) h = refl
no_wire (Bits b n) h = refl
no_wire (m_family n) h = refl

pub no_bit : (s : code.Meaning) → ((b : Bit) → s ≡ m_bit b → ⊥) → no_meaning ≡ as_bit (stood s)
unfolding stood as_bit
no_bit (m_wire w) h = refl
no_bit (m_bit b) h = absurd (h b refl)
no_bit (Wires w n) h = refl
no_bit (Bits b n) h = refl
no_bit (m_family n) h = refl

-- ---- elements

module _ (p : Place) (f size : ℕ) where
  pub wires_nowhere : (z : ℤ) → location_of f size z ≡ prelude.None → no_meaning ≡ element_at (wires (the_wire f) (clipped f size)) z
  unfolding location_of location_in element_at
  wires_nowhere (negsuc i) h = refl
  wires_nowhere (pos i) h = go (ltb i (clipped f size)) h
    where
      go : (b : Bool) → cond b (prelude.Some (f + i)) prelude.None ≡ prelude.None → no_meaning ≡ cond b (give (a_wire (the_wire (f + i)))) no_meaning
      go true h = absurd (let z : ◌≡◌ {A = ℕ} 0 1 = cc in omega arith)
      go false h = refl

  pub wires_at : (z : ℤ) (w : Wire) → location_of f size z ≡ prelude.Some w.0 → give (a_wire (the_wire w.0)) ≡ element_at (wires (the_wire f) (clipped f size)) z
  unfolding location_of location_in element_at
  wires_at (negsuc i) w h = absurd (let z : ◌≡◌ {A = ℕ} 0 1 = cc in omega arith)
  wires_at (pos i) w h = go (ltb i (clipped f size)) h
    where
      go : (b : Bool) → cond b (prelude.Some (f + i)) prelude.None ≡ prelude.Some w.0 → give (a_wire (the_wire w.0)) ≡ cond b (give (a_wire (the_wire (f + i)))) no_meaning
      go true h = let e : w.0 ≡ f + i = cc in ap (λ (n : ℕ). give (a_wire (the_wire n))) e
      go false h = absurd (let z : ◌≡◌ {A = ℕ} 0 1 = cc in omega arith)

  pub bits_nowhere : (z : ℤ) → location_of f size z ≡ prelude.None → no_meaning ≡ element_at (bits (the_bit f) (clipped f size)) z
  unfolding location_of location_in element_at
  bits_nowhere (negsuc i) h = refl
  bits_nowhere (pos i) h = go (ltb i (clipped f size)) h
    where
      go : (b : Bool) → cond b (prelude.Some (f + i)) prelude.None ≡ prelude.None → no_meaning ≡ cond b (give (a_bit (the_bit (f + i)))) no_meaning
      go true h = absurd (let z : ◌≡◌ {A = ℕ} 0 1 = cc in omega arith)
      go false h = refl

  pub bits_at : (z : ℤ) (w : Bit) → location_of f size z ≡ prelude.Some w.0 → give (a_bit (the_bit w.0)) ≡ element_at (bits (the_bit f) (clipped f size)) z
  unfolding location_of location_in element_at
  bits_at (negsuc i) w h = absurd (let z : ◌≡◌ {A = ℕ} 0 1 = cc in omega arith)
  bits_at (pos i) w h = go (ltb i (clipped f size)) h
    where
      go : (b : Bool) → cond b (prelude.Some (f + i)) prelude.None ≡ prelude.Some w.0 → give (a_bit (the_bit w.0)) ≡ cond b (give (a_bit (the_bit (f + i)))) no_meaning
      go true h = let e : w.0 ≡ f + i = cc in ap (λ (n : ℕ). give (a_bit (the_bit n))) e
      go false h = absurd (let z : ◌≡◌ {A = ℕ} 0 1 = cc in omega arith)

-- a negative index, and one that is not
pub indexed_negative : (f size : ℕ) (z : ℤ) → lt_z z (pos 0) ≡ true → prelude.None ≡ location_of f size z
unfolding location_of
indexed_negative f size (pos i) h = absurd (omega (integers))
indexed_negative f size (negsuc i) h = refl

pub natural_fits : (z : ℤ) → in_range z ≡ true → lt_z z (pos 0) ≡ false → T (non_neg z) × Fits w64 (nat_abs z)
natural_fits (pos i) r h = (tt, record { fits = omega (integers, range_true) })
natural_fits (negsuc i) r h = absurd (omega integers)

-- a value that is not below 0
pub natural_is : (z : ℤ) → lt_z z (pos 0) ≡ false → z ≡ pos (nat_abs z)
natural_is (pos n) h = refl
natural_is (negsuc n) h = absurd (omega integers)

pub indexed_natural : (f size : ℕ) (z : ℤ) (i : ℕ) → lt_z z (pos 0) ≡ false → i ≡ nat_abs z → location_in f size i ≡ location_of f size z
unfolding location_of
indexed_natural f size (pos n) i h e = ap (location_in f size) e
indexed_natural f size (negsuc n) i h e = absurd (omega integers)

-- ---- slices

-- past the last of a slice, which is not before its first
pub past_is : (x z : ℤ) → lt_z x (pos 0) ≡ false → lt_z z x ≡ false → z ≡ pos (nat_abs z)
past_is x (pos n) h k = refl
past_is x (negsuc n) h k = absurd (omega integers)

pub ordered : (x z : ℤ) → lt_z x (pos 0) ≡ false → lt_z z x ≡ false → nat_abs x ≤ nat_abs z
ordered (pos m) (pos n) h k = omega integers
ordered (pos m) (negsuc n) h k = absurd (omega integers)
ordered (negsuc m) z h k = absurd (omega integers)

pub past_fits : (x y z : ℤ) → z ≡ y +ℤ pos 1 → in_range y ≡ true → lt_z x (pos 0) ≡ false → lt_z z x ≡ false → T (non_neg z) × Fits w64 (nat_abs z)
past_fits x y (pos n) e r h k = (tt, record { fits = omega (integers, e, range_true y r, plus y (pos 1)) })
past_fits x y (negsuc n) e r h k = absurd (omega integers)

-- what a slice leaves before it and after it, and its size: whatever it is
module _ (f : ℕ) where
  three : ℤ → ℤ → ℤ → Run Meaning
  three u v w = natural_of u >>= (λ a. natural_of v >>= (λ b. natural_of w >>= (λ n. give (wires (the_wire (f + a)) n))))

  three_none : (u v w : ℤ) → (pos 0 ≼ u → pos 0 ≼ v → pos 0 ≼ w → ⊥) → no_meaning ≡ three u v w
  unfolding three natural_of ◌>>=◌ after
  three_none (negsuc a) v w h = refl
  three_none (pos a) (negsuc b) w h = refl
  three_none (pos a) (pos b) (negsuc n) h = refl
  three_none (pos a) (pos b) (pos n) h = absurd (h (≼-pos a) (≼-pos b) (≼-pos n))

  three_some : (u v w : ℤ) (a b n : ℕ) → u ≡ pos a → v ≡ pos b → w ≡ pos n → give (wires (the_wire (f + a)) n) ≡ three u v w
  unfolding three natural_of ◌>>=◌ after
  three_some u v w a b n d e g = rw (d, e, g) refl

  -- the run of wires from x to y of c wires
  module _ (c : ℕ) (x y : ℤ) where
    abbrev cut : Run Meaning
    cut = slice_at (wires (the_wire f) c) x y

    pub run_low : lt_z x (pos 0) ≡ true → no_meaning ≡ cut
    unfolding slice_at three
    run_low h = three_none x (pos c -ℤ pos 1 -ℤ y) (y -ℤ x +ℤ pos 1) (λ i j k. omega (integers, i, h))

    pub run_short : lt_z (y +ℤ pos 1) x ≡ true → no_meaning ≡ cut
    unfolding slice_at three
    run_short h = three_none x (pos c -ℤ pos 1 -ℤ y) (y -ℤ x +ℤ pos 1) (λ i j k. omega (integers, k, h, plus y (pos 1), minus y x, plus (y -ℤ x) (pos 1)))

    module _ (to : ℕ) (e : y +ℤ pos 1 ≡ pos to) where
      pub run_high : c < to → no_meaning ≡ cut
      unfolding slice_at three
      run_high h = three_none x (pos c -ℤ pos 1 -ℤ y) (y -ℤ x +ℤ pos 1) (λ i j k. omega (integers, e, j, h, plus y (pos 1), minus (pos c) (pos 1), minus (pos c -ℤ pos 1) y))

      pub run_at : (from : ℕ) → x ≡ pos from → from ≤ to → to ≤ c → give (wires (the_wire (f + from)) (to - from)) ≡ cut
      unfolding slice_at three
      run_at from d h k = three_some x (pos c -ℤ pos 1 -ℤ y) (y -ℤ x +ℤ pos 1) from (c - to) (to - from) d
          (omega (integers, e, k, plus y (pos 1), minus (pos c) (pos 1), minus (pos c -ℤ pos 1) y))
          (omega (integers, d, e, h, plus y (pos 1), minus y x, plus (y -ℤ x) (pos 1)))
