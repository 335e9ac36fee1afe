-- The wires that a record in an output names, as code reads it.
use mathlib.Core.Path.{◌≡◌, refl, sym, ap, ◌∙◌}
use mathlib.Core.Logic.{◌⊎◌, inl, inr}
use mathlib.Core.List.{List, [], ◌∷◌}
use mathlib.Core.Bool.{Bool, true, false, cond}
use mathlib.Core.Option
use mathlib.Core.Option.{none, some}
use Prim.Native.Nat.{ℕ, ◌+◌, ◌*◌, ◌/◌, ◌%◌, ◌^◌, ◌≤◌, ◌<◌}
use native.Mathlib.Omega.{arith}
use native.Mathlib.Nat.{pow-le-pow_right}
use native.Mathlib.Numerals.{add-one}
use borrow.Author.Tests.{eqb-true, eqb-false, ne_eqb}
use lib.Dec.{eqb}
use lib.Bits.{bit_or}
use lib.Count.{ones}
use Rattle.std.specs.List.{sum_by}
use Rattle.std.proofs.lemmas.List.Sums.{sum_by-cons}
use lib.ListN.{length, set, get_or}
use lib.Seq.{set-get_or}
use Rattle.language.specs.Limits.{record_size}
use Rattle.language.specs.Read.{choose}
use Rattle.language.specs.Machine.{Wire, forward, backward, do_h, do_t, do_tdg, do_reset, do_measure, do_phase}
use Rattle.written_records.specs.RecordsIn.{action_of, number_at}
use Rattle.written_records.specs.AnyBytes.{action_from, record_from, records_from}
use Rattle.written_records.proofs.AnyRecords.{records_next}
use Rattle.wire_map.specs.WireMap.{map_size, named_by, wires_named, bit_of, ones_over}
use Rattle.wire_map.specs.Marking.{marked, Marks, BitSet}
use Rattle.wire_map.proofs.Marking.{marked_length, marks_one, marks_then, marks_more}
use Rattle.wire_map.proofs.Marked.{marked_again, marked_bit, marked_stays}

-- the bit of a wire in its byte
pub bit_fits : (w : ℕ) → 1 * 2 ^ (w % 8) % 256 ≡ 2 ^ (w % 8)
bit_fits w =
    let e : w % 8 ≤ 7 = omega arith in
    let h : 2 ^ (w % 8) ≤ 2 ^ 7 = pow-le-pow_right {n = 2} (omega arith) e in
    omega arith

-- cx, cphase and its inverse name two wires
two_named : (op first second k : ℕ) → (op ≡ 4) ⊎ ((9 ≤ op) × (op < 11)) → named_by (action_from op first second k) ≡ first ∷ second ∷ []
unfolding named_by action_from action_of choose
two_named op first second k (inl e) = rw e refl
two_named op first second k (inr h) = go (eqb op 9) refl
  where
    go : (b : Bool) → eqb op 9 ≡ b → named_by (action_from op first second k) ≡ first ∷ second ∷ []
    go true e = let n : op ≡ 9 = eqb-true op 9 e in rw n refl
    go false e = let n : op ≡ 10 = omega (arith, eqb-false op 9 e) in rw n refl

-- any other operation names one
one_named : (op first second k : ℕ) → (op ≡ 4 → ⊥) → (op < 9) ⊎ (11 ≤ op) → named_by (action_from op first second k) ≡ first ∷ []
unfolding named_by action_from action_of choose
one_named op first second k four h =
    rw (ne_eqb op 4 four, ne_eqb op 9 (nine h), ne_eqb op 10 (ten h)) (go (eqb op 1) (eqb op 2) (eqb op 3) (eqb op 5) (eqb op 6) (eqb op 7) (eqb op 8))
  where
    nine : (op < 9) ⊎ (11 ≤ op) → op ≡ 9 → ⊥
    nine (inl l) e = omega arith
    nine (inr l) e = omega arith

    ten : (op < 9) ⊎ (11 ≤ op) → op ≡ 10 → ⊥
    ten (inl l) e = omega arith
    ten (inr l) e = omega arith

    w : Wire
    w = record { number = first }

    go : (h t tdg measure reset phase back : Bool)
        → named_by (Option.get_or (cond h (some (do_h w)) (cond t (some (do_t w)) (cond tdg (some (do_tdg w)) (cond measure (some (do_measure w (record { number = second }))) (cond reset (some (do_reset w)) (cond phase (some (do_phase forward k w)) (cond back (some (do_phase backward k w)) none))))))) (do_reset w)) ≡ first ∷ []
    go true t tdg measure reset phase back = refl
    go false true tdg measure reset phase back = refl
    go false false true measure reset phase back = refl
    go false false false true reset phase back = refl
    go false false false false true phase back = refl
    go false false false false false true back = refl
    go false false false false false false true = refl
    go false false false false false false false = refl

-- a byte that marking leaves as it was
pub already_marked : (m : List ℕ) (w : ℕ) → bit_or (get_or m (w / 8) 0) (1 * 2 ^ (w % 8) % 256) ≡ get_or m (w / 8) 0 → m ≡ marked m w
unfolding marked
already_marked m w e = sym (ap (set m (w / 8)) (ap (bit_or (get_or m (w / 8) 0)) (sym (bit_fits w)) ∙ e) ∙ set-get_or m (w / 8) 0)

-- the wire whose bit is set
pub last_marked : (m : List ℕ) (last w : ℕ) → BitSet last m → w < 8 * map_size → w ≡ last → m ≡ marked m w
last_marked m last w b h e = sym (marked_again m w (rw e (b (omega arith))))

-- ---- a record's wires, as they are marked

module _ (output before mid : List ℕ) (at w : ℕ) (l : map_size ≤ length before) (e : w ≡ number_at output (at + 2)) (h : w < 65536) (m : mid ≡ marked before w) where
  first_set : BitSet w mid
  first_set b = ap (λ (n : List ℕ). bit_of n w) m ∙ marked_bit before w (omega arith)

  pub one_marked : (get_or output at 0 ≡ 4 → ⊥) → (get_or output at 0 < 9) ⊎ (11 ≤ get_or output at 0) → Marks before (named_by (record_from output at).action) mid × BitSet w mid
  unfolding record_from
  one_marked four o =
      (rw (one_named (get_or output at 0) (number_at output (at + 2)) (number_at output (at + 4)) (number_at output (at + 8)) four o, ← e) (marks_one before w m (omega arith)), first_set)

  pub two_marked : (after : List ℕ) (v : ℕ) → v ≡ number_at output (at + 4) → v < 65536 → after ≡ marked mid v → (get_or output at 0 ≡ 4) ⊎ ((9 ≤ get_or output at 0) × (get_or output at 0 < 11))
      → Marks before (named_by (record_from output at).action) after × BitSet w after
  unfolding record_from
  two_marked after v f k n t = (
    rw (two_named (get_or output at 0) (number_at output (at + 2)) (number_at output (at + 4)) (number_at output (at + 8)) t, ← e, ← f)
        (marks_then (marks_one before w m (omega arith)) (marks_one mid v n (omega arith))),
    λ b. ap (λ (x : List ℕ). bit_of x w) n ∙ marked_stays mid v (omega (arith, ap length m, marked_length before w)) w (first_set b),
  )

-- one record more
pub record_marked : (output before mid after : List ℕ) (i : ℕ) → Marks before (wires_named (records_from i output)) mid → Marks mid (named_by (record_from output (record_size * i)).action) after
    → Marks before (wires_named (records_from (i + 1) output)) after
record_marked output before mid after i x y = rw (add-one i, records_next i output) (marks_more (records_from i output) (record_from output (record_size * i)) x y)

-- ---- the count of ones

-- the ones of each byte, summed
pub ones_summed : (m : List ℕ) → sum_by ones m ≡ ones_over m
unfolding ones_over
ones_summed [] = refl
ones_summed (b ∷ m) = sum_by-cons ones b m ∙ ap (λ (k : ℕ). ones b + k) (ones_summed m)
