-- Gates, as runs of the machine. Assumes nothing.
use Prim.Native.Nat.{ℕ, ◌+◌, ◌-◌}
use mathlib.Core.Path.{◌≡◌, refl, sym, ap, ◌∙◌, subst}
use mathlib.Core.List.{List}
use mathlib.Core.Bool.{Bool, true, false, cond}
use borrow.Author.Tests.{eq-eqb, ne_eqb}
use lib.ListN.{length, drop}
use lib.Seq.{slice}
use lib.IntN.{ℤ}
use Rattle.std.specs.Prelude.{Result, Ok, Err}
use Rattle.language.specs.Tree.{Place, bad_operand, Gate, gate_h, gate_t, gate_tdg}
use Rattle.language.specs.Read.{fields, due, read_operand, operand_due}
use Rattle.language.specs.Machine.{Meaning, Run, Direction, Condition, Action, Frame, done, end_at, no_meaning, after, ◌>>=◌, ◌>>◌, wire_of, apart, few_halvings, write, written, do_cx, run_gate, run_cx}
use Rattle.language.specs.Machine as machine
use Rattle.language.specs.Result.{op, first_number, second_number, halvings_of}
use Rattle.fields.specs.declared.NoHeader.{NoHeader}
use Rattle.fields.proofs.Between.{look_in, in_whole}
use Rattle.indexes.specs.declared.Fault.{Fault}
use Rattle.indexes.specs.declared.Fault.TheVariants.{Over, Stuck}
use Rattle.indexes.specs.Values.{fault_told}
use Rattle.indexes.proofs.Leaves.{fault_on}
use Rattle.refusals.specs.declared.Reason.TheVariants.{IndexOutOfRange}
use Rattle.operands.specs.declared.Wire.{Wire}
use Rattle.operands.specs.Meanings.{the_wire, wire_told, WireAt, frame_of}
use Rattle.operands.proofs.OperandFields.{wire_none}
use Rattle.records.specs.declared.State.{State}
use Rattle.records.specs.declared.Stop.{Stop}
use Rattle.records.specs.Outcomes.{Does, ActionNumbers}
use Rattle.records.proofs.Sequences.{does_end, does_stuck}
use Rattle.gates.specs.declared.Mode.{Mode}
use Rattle.gates.specs.Gates.{direction_of, gate_for, code_of, stop_of, on_wire, on_two_wires, OnWire, OnTwoWires, OnWires, gate_by}

-- the same run by another name
pub does_as : (l : List ℕ) (st : State) (l' : List ℕ) (r : Result State Stop) (run run' : Run (Unit {0})) → run' ≡ run → Does l st l' r run → Does l st l' r run'
does_as l st l' r run run' e d = subst (λ (x : Run (Unit {0})). Does l st l' r x) (sym e) d

pub gate_acts : (tag : ℕ) (reversed : Bool) (n : ℕ) → ActionNumbers (written (direction_of reversed) (gate_for tag) (the_wire n)) (code_of tag reversed) n 0 0
unfolding direction_of written op first_number second_number halvings_of
gate_acts tag reversed n = go (gate_for tag) reversed
  where
    go : (g : Gate) (reversed : Bool) → ActionNumbers (written (direction_of reversed) g (the_wire n)) (op (written (direction_of reversed) g (the_wire 0))) n 0 0
    go gate_h true = record { its_code = refl; its_first = refl; its_second = refl; its_halvings = refl }
    go gate_h false = record { its_code = refl; its_first = refl; its_second = refl; its_halvings = refl }
    go gate_t true = record { its_code = refl; its_first = refl; its_second = refl; its_halvings = refl }
    go gate_t false = record { its_code = refl; its_first = refl; its_second = refl; its_halvings = refl }
    go gate_tdg true = record { its_code = refl; its_first = refl; its_second = refl; its_halvings = refl }
    go gate_tdg false = record { its_code = refl; its_first = refl; its_second = refl; its_halvings = refl }

pub cx_acts : (m n : ℕ) → ActionNumbers (do_cx (the_wire m) (the_wire n)) 4 m n 0
unfolding op first_number second_number halvings_of
cx_acts m n = record { its_code = refl; its_first = refl; its_second = refl; its_halvings = refl }

-- a fault stops a run
pub fault_ends : (l : List ℕ) (st : State) (e : Fault) (p : Place) → Does {A = Unit {0}} l st l (Err (stop_of e p st)) (fault_told p e)
unfolding stop_of fault_told
fault_ends l st Over p = does_end l st IndexOutOfRange p
fault_ends l st Stuck p = does_stuck l st l

-- an operand without a wire
pub wire_ends : (l : List ℕ) (st : State) (e : Fault) (p : Place) (next : machine.Wire → Run (Unit {0})) → Does l st l (Err (stop_of e p st)) (wire_told p (Err e) >>= next)
unfolding wire_told
wire_ends l st e p next = does_as l st l (Err (stop_of e p st)) _ _ (fault_on p e next) (fault_ends l st e p)

module _ (mode : Mode) (room : ℕ) (p : Place) (l : List ℕ) (from to : ℕ) (d : Direction) (c : Condition) (values : List ℤ) (ms : List Meaning) (r : Result Wire Fault) (u : WireAt (slice from to l) 0 values ms r) (t : Place) (k : ℕ) where
  -- ---- one wire

  module _ (act : machine.Wire → Action) where
    pub one_told : on_wire mode room p (fields t (slice from to l)) (frame_of d c values ms) k act ≡ (wire_told p r >>= λ w. (few_halvings p k >> write mode.limit room p (frame_of d c values ms) (act w)))
    one_told = ap (λ (x : Run machine.Wire). x >>= (λ w. few_halvings p k >> write mode.limit room p (frame_of d c values ms) (act w))) (sym (u p p t d c))

    pub one_wire_lem : (w : Wire) → r ≡ Ok w → on_wire mode room p (fields t (slice from to l)) (frame_of d c values ms) k act ≡ (few_halvings p k >> write mode.limit room p (frame_of d c values ms) (act (the_wire w.0)))
    unfolding wire_told ◌>>=◌ after
    one_wire_lem w e = one_told ∙ rw e

  -- ---- two wires

  module _ (act : machine.Wire → machine.Wire → Action) where
    -- what is done with two wires, once they are known to differ, before, and before the second is known
    abbrev both : machine.Wire → machine.Wire → Run (Unit {0})
    both x y = few_halvings p k >> write mode.limit room p (frame_of d c values ms) (act x y)

    abbrev pair : machine.Wire → machine.Wire → Run (Unit {0})
    pair x y = apart p x y >> both x y

    abbrev rest : machine.Wire → Run (Unit {0})
    rest x = wire_of p (frame_of d c values ms) (operand_due p 1 (fields t (slice from to l))) >>= pair x

    pub two_told : on_two_wires mode room p (fields t (slice from to l)) (frame_of d c values ms) k act ≡ (wire_told p r >>= rest)
    two_told = ap (λ (x : Run machine.Wire). x >>= rest) (sym (u p p t d c))

    pub two_none : {e : NoHeader} → look_in l from to ≡ Err e → on_two_wires mode room p (fields t (slice from to l)) (frame_of d c values ms) k act ≡ no_meaning
    unfolding wire_told fault_told ◌>>=◌ after
    two_none h = sym (ap (λ (x : Run machine.Wire). x >>= rest) (wire_none l from to values ms h p p t d c))

    module _ (tag mid : ℕ) (e : look_in l from to ≡ Ok (record { tag = tag; next = mid })) (x : Wire) (j : r ≡ Ok x) (v : Result Wire Fault) (w : WireAt (slice mid to l) 0 values ms v) where
      second : wire_of p (frame_of d c values ms) (operand_due p 1 (fields t (slice from to l))) ≡ wire_told p v
      second = ap (λ fs. wire_of p (frame_of d c values ms) (due read_operand (bad_operand 4 p) (drop 1 fs))) ((in_whole l from to tag mid e).first t) ∙ sym (w p p (t + (mid - from)) d c)

      pub second_told : on_two_wires mode room p (fields t (slice from to l)) (frame_of d c values ms) k act
          ≡ (wire_told p v >>= pair (the_wire x.0))
      unfolding wire_told ◌>>=◌ after
      second_told = two_told ∙ ap (λ (q : Result Wire Fault). wire_told p q >>= rest) j
          ∙ ap (λ (z : Run machine.Wire). z >>= pair (the_wire x.0)) second

      pub two_same : (y : Wire) → v ≡ Ok y → x.0 ≡ y.0 → on_two_wires mode room p (fields t (slice from to l)) (frame_of d c values ms) k act ≡ end_at 25 p
      unfolding wire_told ◌>>=◌ ◌>>◌ after apart
      two_same y i h = second_told ∙ ap (λ (q : Result Wire Fault). wire_told p q >>= pair (the_wire x.0)) i
          ∙ ap (λ (b : Bool). cond b (end_at 25 p) done >> both (the_wire x.0) (the_wire y.0)) (eq-eqb x.0 y.0 h)

      pub two_wires : (y : Wire) → v ≡ Ok y → (x.0 ≡ y.0 → ⊥)
          → on_two_wires mode room p (fields t (slice from to l)) (frame_of d c values ms) k act ≡ both (the_wire x.0) (the_wire y.0)
      unfolding wire_told ◌>>=◌ ◌>>◌ after apart
      two_wires y i h = second_told ∙ ap (λ (q : Result Wire Fault). wire_told p q >>= pair (the_wire x.0)) i
          ∙ ap (λ (b : Bool). cond b (end_at 25 p) done >> both (the_wire x.0) (the_wire y.0)) (ne_eqb x.0 y.0 h)

-- ---- on a single wire, or on two

module _ (single : Bool) (l : List ℕ) (st : State) (l' : List ℕ) (r : Result State Stop) (mode : Mode) (p : Place) (content : List ℕ) (f : Frame) (code k : ℕ) where
  pub on_single : single ≡ true → OnWire l st l' r mode p content f code k → OnWires single l st l' r mode p content f code k
  unfolding OnWires
  on_single e h = subst (λ (b : Bool). OnWires b l st l' r mode p content f code k) (sym e) h

  pub on_pair : single ≡ false → OnTwoWires l st l' r mode p content f code k → OnWires single l st l' r mode p content f code k
  unfolding OnWires
  on_pair e h = subst (λ (b : Bool). OnWires b l st l' r mode p content f code k) (sym e) h

-- the first operand has no wire
pub on_none : (single : Bool) (o : List ℕ) (st : State) (mode : Mode) (p : Place) (l : List ℕ) (from to : ℕ) (d : Direction) (c : Condition) (values : List ℤ) (ms : List Meaning) (e : Fault)
    → WireAt (slice from to l) 0 values ms (Err e) → (code k : ℕ) → OnWires single o st o (Err (stop_of e p st)) mode p (slice from to l) (frame_of d c values ms) code k
unfolding OnWires
on_none true o st mode p l from to d c values ms e u code k = λ t act acts.
    does_as o st o (Err (stop_of e p st)) _ (on_wire mode (length o) p (fields t (slice from to l)) (frame_of d c values ms) k act) (one_told mode (length o) p l from to d c values ms (Err e) u t k act) (wire_ends o st e p _)
on_none false o st mode p l from to d c values ms e u code k = λ t act acts.
    does_as o st o (Err (stop_of e p st)) _ (on_two_wires mode (length o) p (fields t (slice from to l)) (frame_of d c values ms) k act) (two_told mode (length o) p l from to d c values ms (Err e) u t k act) (wire_ends o st e p _)

-- ---- gates, which have no k

pub gate_one : (mode : Mode) (room : ℕ) (p tag : ℕ) (l : List ℕ) (f : Frame) → (tag ≡ 35 → ⊥) → gate_by mode room tag p l f ≡ on_wire mode room p (fields (p + 3) l) f 0 (written f.direction (gate_for tag))
unfolding gate_by run_gate few_halvings ◌>>◌ after
gate_one mode room p tag l f h = rw (ne_eqb tag 35 h)

pub gate_two : (mode : Mode) (room : ℕ) (p tag : ℕ) (l : List ℕ) (f : Frame) → tag ≡ 35 → gate_by mode room tag p l f ≡ on_two_wires mode room p (fields (p + 3) l) f 0 do_cx
unfolding gate_by run_cx few_halvings ◌>>◌ after
gate_two mode room p tag l f h = rw (eq-eqb tag 35 h)
