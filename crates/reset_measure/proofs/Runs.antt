-- Reset and measure, as runs of the machine. Assumes nothing.
use Prim.Native.Nat.{ℕ, ◌+◌, ◌-◌}
use mathlib.Core.Path.{◌≡◌, sym, ap, ◌∙◌}
use mathlib.Core.List.{List}
use lib.ListN.{drop}
use lib.Seq.{slice}
use lib.IntN.{ℤ}
use Rattle.std.specs.Prelude.{Result, Ok, Err}
use Rattle.language.specs.Tree.{Place, bad_operand}
use Rattle.language.specs.Read.{fields, due, read_operand, operand_due}
use Rattle.language.specs.Machine.{Meaning, Run, Direction, Condition, no_meaning, after, ◌>>=◌, write}
use Rattle.fields.specs.declared.NoHeader.{NoHeader}
use Rattle.indexes.specs.declared.Fault.{Fault}
use Rattle.indexes.specs.Values.{fault_told}
use Rattle.indexes.proofs.Leaves.{fault_on}
use Rattle.fields.proofs.Between.{look_in, in_whole}
use Rattle.operands.specs.declared.Wire.{Wire}
use Rattle.operands.specs.Meanings.{the_wire, wire_told, WireAt, frame_of}
use Rattle.operands.proofs.OperandFields.{wire_none}
use Rattle.gates.specs.declared.Mode.{Mode}
use Rattle.reset_measure.specs.Tops.{reset_at, measure_at}
use Rattle.operands.specs.declared.Bit.{Bit}
use Rattle.operands.specs.Meanings.{the_bit, bit_told, BitAt}
use Rattle.language.specs.Machine.{bit_of, ◌>>◌, few_halvings, do_reset, do_measure, run_reset, run_measure}

module _ (mode : Mode) (room : ℕ) (p : Place) (l : List ℕ) (from to : ℕ) (d : Direction) (c : Condition) (values : List ℤ) (ms : List Meaning) where
  reset_is : (r : Result Wire Fault) → WireAt (slice from to l) 0 values ms r
      → reset_at mode room p (slice from to l) (frame_of d c values ms) ≡ (wire_told p r >>= (λ w. write mode.limit room p (frame_of d c values ms) (do_reset w)))
  unfolding run_reset
  reset_is r w = ap (λ (x : Run _). x >>= (λ w. write mode.limit room p (frame_of d c values ms) (do_reset w))) (sym (w p p (p + 3) d c))

  pub reset_wire : (r : Result Wire Fault) (w : Wire) → WireAt (slice from to l) 0 values ms r → r ≡ Ok w
      → reset_at mode room p (slice from to l) (frame_of d c values ms) ≡ (few_halvings p 0 >> write mode.limit room p (frame_of d c values ms) (do_reset (the_wire w.0)))
  unfolding few_halvings ◌>>◌ wire_told ◌>>=◌ after
  reset_wire r w h e = reset_is r h ∙ rw e

  pub reset_fault : (e : Fault) → WireAt (slice from to l) 0 values ms (Err e) → reset_at mode room p (slice from to l) (frame_of d c values ms) ≡ fault_told p e
  unfolding wire_told
  reset_fault e h = reset_is (Err e) h ∙ fault_on p e _

  pub measure_none : {k : NoHeader} → look_in l from to ≡ Err k → measure_at mode room p (slice from to l) (frame_of d c values ms) ≡ no_meaning
  unfolding run_measure wire_told fault_told ◌>>=◌ after
  measure_none h = rw (sym (wire_none l from to values ms h p p (p + 3) d c))

  module _ (t mid : ℕ) (e : look_in l from to ≡ Ok (record { tag = t; next = mid })) (r : Result Wire Fault) (u : WireAt (slice from to l) 0 values ms r) where
    second : (v : Result Bit Fault) → BitAt (slice mid to l) 0 values ms v → bit_of p (frame_of d c values ms) (operand_due p 1 (fields (p + 3) (slice from to l))) ≡ bit_told p v
    second v w =
        ap (λ fs. bit_of p (frame_of d c values ms) (due read_operand (bad_operand 4 p) (drop 1 fs))) ((in_whole l from to t mid e).first (p + 3)) ∙ sym (w p p (p + 3 + (mid - from)) d c)

    pub measure_first_fault : (f : Fault) → r ≡ Err f → measure_at mode room p (slice from to l) (frame_of d c values ms) ≡ fault_told p f
    unfolding run_measure wire_told
    measure_first_fault f k = rw (sym (u p p (p + 3) d c) ∙ ap (wire_told p) k) (fault_on p f _)

    module _ (x : Wire) (k : r ≡ Ok x) (v : Result Bit Fault) (w : BitAt (slice mid to l) 0 values ms v) where
      pub measure_second_fault : (f : Fault) → v ≡ Err f → measure_at mode room p (slice from to l) (frame_of d c values ms) ≡ fault_told p f
      unfolding run_measure wire_told bit_told ◌>>=◌ after
      measure_second_fault f j = rw (sym (u p p (p + 3) d c) ∙ ap (wire_told p) k, second v w ∙ ap (bit_told p) j) (fault_on p f _)

      pub measure_two : (y : Bit) → v ≡ Ok y → measure_at mode room p (slice from to l) (frame_of d c values ms) ≡ (few_halvings p 0 >> write mode.limit room p (frame_of d c values ms) (do_measure (the_wire x.0) (the_bit y.0)))
      unfolding few_halvings ◌>>◌ run_measure wire_told bit_told ◌>>=◌ after
      measure_two y j = rw (sym (u p p (p + 3) d c) ∙ ap (wire_told p) k, second v w ∙ ap (bit_told p) j)
