-- What the statements that hold no statements do, and the numbers of a loop.
use Rattle.std.specs.Prelude.{ℕ, ◌+◌, ◌-◌, ◌≤◌, ◌≡◌, List, Bool, true, false, cond, not, ◌&&◌, eqb, ℤ, pos, ◌+ℤ◌, ◌-ℤ◌, length, Result, Ok, Err}
use Rattle.language.specs.Limits.{deepest, furthest}
use Rattle.language.specs.Tree.{Place, Gate, gate_h, gate_t, gate_tdg}
use Rattle.language.specs.Read.{Field, fields, operand_due}
use Rattle.language.specs.Machine.{Run, Frame, Direction, forward, backward, Action, written, ◌>>=◌, ◌>>◌, wire_of, apart, few_halvings, write, start_of, rounds_of, run_gate, run_cx}
use Rattle.language.specs.Machine as machine
use Rattle.indexes.specs.Bounds.{Bounded}
use Rattle.indexes.specs.declared.Fault.{Fault}
use Rattle.indexes.specs.declared.Fault.TheVariants.{Over, Stuck as f_stuck}
use Rattle.language.specs.Result.{op}
use Rattle.fields.specs.declared.Named.{Named}
use Rattle.fields.specs.CallNumber.{is_call_tag, named_in}
use Rattle.operands.specs.Meanings.{the_wire, operands_of, frame_of}
use Rattle.operands.specs.declared.Scope.{Scope}
use Rattle.records.specs.Outcomes.{condition_of, Does, ActionNumbers, OneStep, NoStep}
use Rattle.records.specs.declared.State.{State}
use Rattle.records.specs.declared.Stop.{Stop}
use Rattle.records.specs.declared.Stop.TheVariants.{Ended, Stuck}
use Rattle.refusals.specs.declared.Reason.TheVariants.{IndexOutOfRange}
use Rattle.refusals.specs.declared.Reason.{Reason}
use Rattle.gates.specs.declared.Mode.{Mode}
use Rattle.gates.specs.declared.Repeats.{Repeats}

unfoldable pub direction_of : Bool → Direction
direction_of true = backward
direction_of false = forward

-- the gate of a tag, and its op in a direction
unfoldable pub gate_for : ℕ → Gate
gate_for tag = cond (eqb tag 32) gate_h (cond (eqb tag 33) gate_t gate_tdg)

abbrev pub code_of : ℕ → Bool → ℕ
code_of tag reversed = op (written (direction_of reversed) (gate_for tag) (the_wire 0))

abbrev pub frame_in : Mode → List ℤ → Scope → List ℕ → Frame
frame_in mode values scope regs = frame_of (direction_of mode.reversed) (condition_of mode.condition) values (operands_of scope regs)

-- how a run stops at a fault in the statement at p
unfoldable pub stop_of : Fault → Place → State → Stop
stop_of Over p st = Ended IndexOutOfRange p st
stop_of f_stuck p st = Stuck

-- a record of an action on the wire that is first of these fields; k is the action's, or 0
abbrev pub on_wire : Mode → (room : ℕ) → Place → List Field → Frame → (k : ℕ) → (machine.Wire → Action) → Run (Unit {0})
on_wire mode room p fs f k act = wire_of p f (operand_due p 0 fs) >>= λ w. (few_halvings p k >> write mode.limit room p f (act w))

-- and on the first two, which must differ
abbrev pub on_two_wires : Mode → (room : ℕ) → Place → List Field → Frame → (k : ℕ) → (machine.Wire → machine.Wire → Action) → Run (Unit {0})
on_two_wires mode room p fs f k act =
    wire_of p f (operand_due p 0 fs) >>= λ x. (wire_of p f (operand_due p 1 fs) >>= λ y. (apart p x y >> (few_halvings p k >> write mode.limit room p f (act x y))))

-- the record of each action that has this op and this k, wherever the content stands
abbrev pub OnWire : List ℕ → State → List ℕ → Result State Stop → Mode → Place → (content : List ℕ) → Frame → (code k : ℕ) → Type 0
OnWire l st l' r mode p content f code k =
    (t : Place) (act : machine.Wire → Action) → ((n : ℕ) → ActionNumbers (act (the_wire n)) code n 0 k) → Does l st l' r (on_wire mode (length l) p (fields t content) f k act)

abbrev pub OnTwoWires : List ℕ → State → List ℕ → Result State Stop → Mode → Place → (content : List ℕ) → Frame → (code k : ℕ) → Type 0
OnTwoWires l st l' r mode p content f code k =
    (t : Place) (act : machine.Wire → machine.Wire → Action) → ((m n : ℕ) → ActionNumbers (act (the_wire m) (the_wire n)) code m n k)
    → Does l st l' r (on_two_wires mode (length l) p (fields t content) f k act)

-- on a single wire, or on two
unfoldable pub OnWires : (single : Bool) → List ℕ → State → List ℕ → Result State Stop → Mode → Place → (content : List ℕ) → Frame → (code k : ℕ) → Type 0
OnWires true l st l' r mode p content f code k = OnWire l st l' r mode p content f code k
OnWires false l st l' r mode p content f code k = OnTwoWires l st l' r mode p content f code k

-- the gate of this tag, and the cx, with this content
abbrev pub gate_at : Mode → (room : ℕ) → ℕ → Place → List ℕ → Frame → Run (Unit {0})
gate_at mode room tag p l f = run_gate mode.limit room p (gate_for tag) (operand_due p 0 (fields (p + 3) l)) f

abbrev pub cx_at : Mode → (room : ℕ) → Place → List ℕ → Frame → Run (Unit {0})
cx_at mode room p l f = run_cx mode.limit room p (operand_due p 0 (fields (p + 3) l)) (operand_due p 1 (fields (p + 3) l)) f

-- the most rounds that a loop has
abbrev pub most_rounds : ℕ
most_rounds = furthest + furthest + 1

-- a for runs its body so often, from the value `start` on, and its body begins at `at`
pub record Rounds (l : List ℕ) (from to : ℕ) (values : List ℤ) (reversed : Bool) (start : ℤ) (total at : ℕ) : Type 0 where
  pub x : ℤ
  pub y : ℤ
  pub bounded : Bounded l from to values (Ok (record { low = x; high = y; next = at }))
  pub first : start ≡ start_of (direction_of reversed) x y
  pub often : total ≡ rounds_of (y -ℤ x)

-- how the body of a for runs
unfoldable pub Looped : List ℕ → (from to : ℕ) → List ℤ → Bool → Result Repeats Fault → Type 0
Looped l from to values reversed (Ok r) = Rounds l from to values reversed r.start r.total r.body
Looped l from to values reversed (Err e) = Bounded l from to values (Err e)

-- how the body of a reverse or a for runs: of a reverse once
pub record Repeated (l : List ℕ) (from to tag : ℕ) (values : List ℤ) (reversed : Bool) (r : Result Repeats Fault) : Type 0 where
  pub once : tag ≡ 37 → r ≡ Ok (record { start = pos 0; total = 1; body = from })
  pub looped : (tag ≡ 37 → ⊥) → Looped l from to values reversed r

-- the loop variable in the round i, of a loop whose first value is `start`
unfoldable pub turn_of : Bool → ℤ → ℕ → ℤ
turn_of true start i = start -ℤ pos i
turn_of false start i = start +ℤ pos i

-- a level deeper, with so many values in scope, in a direction
abbrev pub deeper_of : Mode → (many : ℕ) → Bool → Mode
deeper_of mode many reversed = record { limit = mode.limit; families_visible = mode.families_visible; levels = mode.levels - 1; variables = many; reversed = reversed; condition = mode.condition }

-- in the body of the reverse or the for with this tag
abbrev pub inner_of : Mode → (tag : ℕ) → Mode
inner_of mode tag = cond (eqb tag 37) (deeper_of mode mode.variables (not mode.reversed)) (deeper_of mode (mode.variables + 1) mode.reversed)

-- in the body of the family n, which has so many values
abbrev pub entered_of : Mode → (n many : ℕ) → Mode
entered_of mode n many = record { limit = mode.limit; families_visible = n; levels = deepest; variables = many; reversed = mode.reversed; condition = mode.condition }

-- whether a call names nothing, neither a family nor a parameter
unfoldable pub names_none : Result Named ℕ → Bool
names_none (Ok n) = false
names_none (Err k) = true

-- a call that names nothing, with this content
unfoldable pub nameless_of : (tag : ℕ) → List ℕ → Bool
nameless_of tag l = is_call_tag tag && names_none (named_in tag 0 l)

-- a statement that may be entered: not too deep, of a tag that there is, and no call that names nothing
pub record Enterable (mode : Mode) (tag : ℕ) (l : List ℕ) : Type 0 where
  pub deep : mode.levels ≡ 0 → ⊥
  pub low : 32 ≤ tag
  pub high : tag ≤ 42
  pub named : nameless_of tag l ≡ false

pub record StepTaken (mode : Mode) (tag : ℕ) (l : List ℕ) (st s : State) : Type 0 where
  pub enterable : Enterable mode tag l
  pub step : OneStep mode.limit st s

pub record NoStepLeft (mode : Mode) (tag : ℕ) (l : List ℕ) (base : Place) (st : State) (e : Reason) (p : Place) (s : State) : Type 0 where
  pub enterable : Enterable mode tag l
  pub none : NoStep mode.limit base st e p s

-- what entering a statement with this tag and this content answers
unfoldable pub Entered : Mode → (tag : ℕ) → List ℕ → Place → State → Result State Stop → Type 0
Entered mode tag l base st (Ok s) = StepTaken mode tag l st s
Entered mode tag l base st (Err (Ended e p s)) = NoStepLeft mode tag l base st e p s
Entered mode tag l base st (Err Stuck) = Enterable mode tag l → ⊥

-- the gate or the cx of this tag
unfoldable pub gate_by : Mode → (room : ℕ) → ℕ → Place → List ℕ → Frame → Run (Unit {0})
gate_by mode room tag p l f = cond (eqb tag 35) (cx_at mode room p l f) (gate_at mode room tag p l f)
