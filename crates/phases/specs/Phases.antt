-- What a phase does, by its tag and its content.
use Rattle.std.specs.Prelude.{ℕ, ◌+◌, ◌-◌, ◌≡◌, List, Bool, true, false, cond, ◌&&◌, ◌||◌, eqb, leb, ltb, ℤ, drop, Result, Ok, Err}
use Rattle.std.proofs.Math.Seq.{slice}
use Rattle.language.specs.Tree.{Place, bad_index}
use Rattle.language.specs.Read.{fields, due, operand_due, outer_index}
use Rattle.language.specs.Machine.{Run, Frame, Action, ◌>>=◌, halvings, do_phase, do_cphase, run_phase, run_cphase}
use Rattle.language.specs.Machine as machine
use Rattle.language.specs.Result.{op}
use Rattle.indexes.specs.declared.Fault.{Fault}
use Rattle.indexes.specs.Values.{fault_told}
use Rattle.operands.specs.Meanings.{the_wire}
use Rattle.records.specs.Outcomes.{op_number, ActionNumbers}
use Rattle.gates.specs.declared.Mode.{Mode}
use Rattle.gates.specs.Gates.{direction_of, on_wire, on_two_wires, gate_by}
use Rattle.phases.specs.declared.Halvings.{Halvings}
use Rattle.phases.specs.declared.Parts.{Parts}

-- a phase's k, and what is done with it
unfoldable pub halving : Place → Result Halvings Fault → (ℕ → Run (Unit {0})) → Run (Unit {0})
halving p (Ok h) next = next h.k
halving p (Err e) next = fault_told p e

-- the operands begin at the position in the answer, in the content from `from` to `to`
unfoldable pub Begins : List ℕ → (from to : ℕ) → Result Halvings Fault → Type 0
Begins l from to (Ok h) = (t : Place) → drop 1 (fields t (slice from to l)) ≡ fields (t + (h.next - from)) (slice h.next to l)
Begins l from to (Err e) = Unit {0}

pub record Halved (l : List ℕ) (from to : ℕ) (values : List ℤ) (r : Result Halvings Fault) : Type 0 where
  pub begins : Begins l from to r
  pub same : (p q t : Place) (next : ℕ → Run (Unit {0})) → halving p r next ≡ (halvings p values (due outer_index (bad_index 4 q) (fields t (slice from to l))) >>= next)

-- the ops in a direction
abbrev pub phase_op : Bool → ℕ
phase_op reversed = op (do_phase (direction_of reversed) 0 (the_wire 0))

abbrev pub cphase_op : Bool → ℕ
cphase_op reversed = op (do_cphase (direction_of reversed) 0 (the_wire 0) (the_wire 0))

-- the phase or the cphase of this tag, with this content
unfoldable pub phase_at : Mode → (room : ℕ) → (tag : ℕ) → Place → List ℕ → Frame → Run (Unit {0})
phase_at mode room tag p l f =
    let k = due outer_index (bad_index 4 p) (fields (p + 3) l) in
    cond (eqb tag 40) (run_phase mode.limit room p k (operand_due p 1 (fields (p + 3) l)) f)
    (run_cphase mode.limit room p k (operand_due p 1 (fields (p + 3) l)) (operand_due p 2 (fields (p + 3) l)) f)

-- whether a statement's tag is that of a gate or a phase
abbrev pub is_action_tag : (tag : ℕ) → Bool
is_action_tag tag = ltb tag 36 || (leb 40 tag && leb tag 41)

-- the gate or the phase of this tag
unfoldable pub action_at : Mode → (room : ℕ) → (tag : ℕ) → Place → List ℕ → Frame → Run (Unit {0})
action_at mode room tag p l f = cond (ltb tag 36) (gate_by mode room tag p l f) (phase_at mode room tag p l f)

-- the same as a record on a single wire of the fields from `at` on
pub record One (mode : Mode) (room tag : ℕ) (p : Place) (l : List ℕ) (from to : ℕ) (f : Frame) (code k at : ℕ) : Type 0 where
  pub place : Place
  pub action : machine.Wire → Action
  pub numbers : (n : ℕ) → ActionNumbers (action (the_wire n)) code n 0 k
  pub is : action_at mode room tag p (slice from to l) f ≡ on_wire mode room p (fields place (slice at to l)) f k action

-- and on two wires
pub record Two (mode : Mode) (room tag : ℕ) (p : Place) (l : List ℕ) (from to : ℕ) (f : Frame) (code k at : ℕ) : Type 0 where
  pub place : Place
  pub action : machine.Wire → machine.Wire → Action
  pub numbers : (m n : ℕ) → ActionNumbers (action (the_wire m) (the_wire n)) code m n k
  pub is : action_at mode room tag p (slice from to l) f ≡ on_two_wires mode room p (fields place (slice at to l)) f k action

-- what is written, on a single wire or on two
unfoldable pub PartedOn : (single : Bool) → Mode → (room tag : ℕ) → Place → List ℕ → (from to : ℕ) → Frame → (code k at : ℕ) → Type 0
PartedOn true mode room tag p l from to f code k at = One mode room tag p l from to f code k at
PartedOn false mode room tag p l from to f code k at = Two mode room tag p l from to f code k at

-- what the parts of a gate or a phase tell of its run
unfoldable pub Parted : Mode → (room tag : ℕ) → Place → List ℕ → (from to : ℕ) → Frame → Result Parts Fault → Type 0
Parted mode room tag p l from to f (Ok q) = PartedOn q.single mode room tag p l from to f (op_number q.op) q.k q.next
Parted mode room tag p l from to f (Err e) = action_at mode room tag p (slice from to l) f ≡ fault_told p e

-- at whatever place, and with whatever operands in scope
abbrev pub PartsOf : (tag : ℕ) → List ℕ → (from to : ℕ) → List ℤ → (reversed : Bool) → Result Parts Fault → Type 0
PartsOf tag l from to values reversed r =
    (mode : Mode) (room : ℕ) (p : Place) (f : Frame) → f.variables ≡ values → f.direction ≡ direction_of reversed → Parted mode room tag p l from to f r
