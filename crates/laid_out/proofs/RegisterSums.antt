-- The qubits and bits of a program's registers, summed field by field. Assumes nothing.
use Prim.Native.Nat.{ℕ, ◌+◌, ◌*◌, ◌≤◌, ◌<◌}
use native.Mathlib.Nat.{zero-add, add-zero}
use native.Mathlib.Omega.{arith}
use mathlib.Core.Path.{◌≡◌, refl, ap}
use mathlib.Core.List.{List, [], ◌∷◌, map}
use borrow.Author.Tests.{ne_eqb}
use lib.ListN.{length, get_or}
use lib.Seq.{slice}
use Rattle.language.specs.Tree.{Place, Ending, Number, number, missing, Top, qreg, creg}
use Rattle.language.specs.Read.{Field, field, bad_header, Reader, of_fields, two_bytes, choose, read, read_top, read_family, family_of, read_register, register_size, register_end, measure_of, reset_of, read_if, if_of}
use Rattle.language.specs.Sound.{qubits_of, bits_of, qubits_in, bits_in, qubits_declared, bits_declared}
use Rattle.language.proofs.ReadLaws.{AllRows, choose_all}
use Rattle.fields.specs.declared.Header.{Header}
use Rattle.std.specs.Prelude.{Result, Ok, Err}
use Rattle.fields.specs.declared.NoHeader.{NoHeader}
use Rattle.fields.specs.declared.NoHeader.TheVariants.{End, Cut}
use Rattle.fields.proofs.Headers.{one_byte, when_whole, when_end, when_cut}
use Rattle.fields.proofs.Parts.{look, rest_is}
use Rattle.operands.specs.Meanings.{locations}
use Rattle.runs.specs.Whole.{tops_at}
use Rattle.laid_out.specs.Numbers.{size_said, Counts}

-- ---- the size in a register's content

pub size_none : (l : List ℕ) → length l < 2 → size_said (register_size l) ≡ 0
unfolding size_said register_size
size_none [] h = refl
size_none (a ∷ []) h = refl
size_none (a ∷ b ∷ l) h = absurd (omega arith)

pub size_is : (l : List ℕ) (from to : ℕ) → from + 2 ≤ to → to ≤ length l → size_said (register_size (slice from to l)) ≡ two_bytes (get_or l from 0) (get_or l (from + 1) 0)
unfolding size_said register_size
size_is l from to h k = rw (one_byte from to l (omega arith) k, one_byte (from + 1) to l (omega arith) k)

-- ---- what a top field adds

-- so many qubits and bits
abbrev Adds : (qubits bits : ℕ) → Top → Type 0
Adds qubits bits x = (qubits_of x ≡ qubits) × (bits_of x ≡ bits)

qreg_adds : (p : Place) (content : List ℕ) → Adds (size_said (register_size content)) 0 (read_top (field p 2 content))
unfolding read_top choose read_register qubits_of bits_of size_said
qreg_adds p content = go (register_size content) (register_end content)
  where
    go : (n : Number) (e : Ending) → Adds (size_said n) 0 (qreg p n e)
    go (number n) e = (refl, refl)
    go missing e = (refl, refl)

creg_adds : (p : Place) (content : List ℕ) → Adds 0 (size_said (register_size content)) (read_top (field p 3 content))
unfolding read_top choose read_register qubits_of bits_of size_said
creg_adds p content = go (register_size content) (register_end content)
  where
    go : (n : Number) (e : Ending) → Adds 0 (size_said n) (creg p n e)
    go (number n) e = (refl, refl)
    go missing e = (refl, refl)

AddsNothing : Reader Top → Type 0
AddsNothing by = (p : Place) (content : List ℕ) → Adds 0 0 (by p content)

family_adds : AddsNothing read_family
unfolding AddsNothing read_family family_of qubits_of bits_of
family_adds p [] = (refl, refl)
family_adds p (m ∷ []) = (refl, refl)
family_adds p (m ∷ n ∷ rest) = (refl, refl)

if_adds : AddsNothing read_if
unfolding AddsNothing read_if if_of qubits_of bits_of
if_adds p [] = (refl, refl)
if_adds p (v ∷ rest) = (refl, refl)

other_adds : (tag : ℕ) → (tag ≡ 2 → ⊥) → (tag ≡ 3 → ⊥) → (p : Place) (content : List ℕ) → Adds 0 0 (read_top (field p tag content))
unfolding read_top choose AllRows AddsNothing measure_of reset_of qubits_of bits_of
other_adds tag h k p content = rw (ne_eqb tag 2 h, ne_eqb tag 3 k)
    (choose_all AddsNothing tag ((1, read_family) ∷ (4, of_fields measure_of) ∷ (5, of_fields reset_of) ∷ (6, read_if) ∷ []) _
    (family_adds, ((λ q fs. (refl, refl)), ((λ q fs. (refl, refl)), (if_adds, tt)))) (λ q fs. (refl, refl)) p content)

-- ---- the sums

-- so many qubits and bits are declared before a position, and those of the fields that are left make up the rest
pub record Summed (l : List ℕ) (at qubits bits : ℕ) : Type 0 where
  pub qubit_sum : qubits + qubits_in (tops_at l at) ≡ qubits_declared l
  pub bit_sum : bits + bits_in (tops_at l at) ≡ bits_declared l
  pub few_qubits_lem : qubits ≤ locations * at
  pub few_bits_lem : bits ≤ locations * at
  pub within : at ≤ length l

module _ (l : List ℕ) where
  pub summed_start : Summed l 0 0 0
  unfolding read
  summed_start =
      let e : tops_at l 0 ≡ read l = ap (map read_top) (rest_is l 0) in
      record { qubit_sum = rw (zero-add, e); bit_sum = rw (zero-add, e); few_qubits_lem = omega arith; few_bits_lem = omega arith; within = omega arith }

  module _ (at qubits bits : ℕ) (s : Summed l at qubits bits) where
    -- no field is left
    pub summed_end : ((f : Header) → look l at ≡ Ok f → ⊥) → Counts l (record { qubits = qubits; bits = bits })
    unfolding qubits_in bits_in read_top qubits_of bits_of
    summed_end h = go (look l at) refl
      where
        none : (fs : List Field) → qubits_in (map read_top fs) ≡ 0 → bits_in (map read_top fs) ≡ 0 → tops_at l at ≡ map read_top fs → Counts l (record { qubits = qubits; bits = bits })
        none fs q b e = record { qubits = omega (arith, s.qubit_sum, ap qubits_in e, q); bits = omega (arith, s.bit_sum, ap bits_in e, b) }

        go : (f : Result Header NoHeader) → look l at ≡ f → Counts l (record { qubits = qubits; bits = bits })
        go (Ok f) e = absurd (h f e)
        go (Err End) e = none [] refl refl (ap (map read_top) (when_end l at (length l) (omega arith) e))
        go (Err Cut) e = none (bad_header at ∷ []) refl refl (ap (map read_top) (when_cut l at (length l) (omega arith) e))

    module _ (tag next : ℕ) (e : look l at ≡ Ok (record { tag = tag; next = next })) where
      -- a field that adds so many
      added : (q b : ℕ) → q ≤ locations → b ≤ locations → Adds q b (read_top (field at tag (slice (at + 3) next l))) → Summed l next (qubits + q) (bits + b)
      unfolding qubits_in bits_in
      added q b f g a =
          let w = when_whole l at (length l) tag next (omega arith) e in
          let t = ap (map read_top) w.first in
          record {
            qubit_sum = omega (arith, s.qubit_sum, ap qubits_in t, a.0);
            bit_sum = omega (arith, s.bit_sum, ap bits_in t, a.1);
            few_qubits_lem = omega (arith, s.few_qubits_lem, w.low);
            few_bits_lem = omega (arith, s.few_bits_lem, w.low);
            within = w.high;
          }

      pub summed_other : (tag ≡ 2 → ⊥) → (tag ≡ 3 → ⊥) → Summed l next qubits bits
      summed_other h k = simp add-zero at (added 0 0 (omega arith) (omega arith) (other_adds tag h k at (slice (at + 3) next l)))

      -- a register, whose size is n
      module _ (n : ℕ) (r : (n ≡ size_said (register_size (slice (at + 3) next l))) × (n ≤ locations)) where
        pub summed_qreg : tag ≡ 2 → Summed l next (qubits + n) bits
        summed_qreg h = rw add-zero at (added n 0 r.1 (omega arith) (rw (h, r.0) (qreg_adds at (slice (at + 3) next l))))

        pub summed_creg : tag ≡ 3 → Summed l next qubits (bits + n)
        summed_creg h = rw add-zero at (added 0 n (omega arith) r.1 (rw (h, r.0) (creg_adds at (slice (at + 3) next l))))
