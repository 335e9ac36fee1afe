-- The frames of a run, of whatever program: how they come of one another, that bodies are run in no others, and that every run of wires in them lies inside a
-- register. The laws are stated here; proofs/Frames proves them.
use Rattle.std.specs.Prelude.{◌≡◌, List, [], ◌∷◌, ℕ, ℤ}
use Rattle.language.specs.Tree.{Place, Index, Operand, ParameterType, Argument, Statement, Top}
use Rattle.language.specs.Machine.{Meaning, Direction, forward, Condition, always, Frame, State, going, Run, Family, meanings_of, in_direction, in_round, in_condition, in_call}
use Rattle.language.specs.Machine.{Globals, nothing_yet, begin, top_frame, with_families, layout, run_reverse, run_for, run_if, run_statement, declared, act_top, run_tops, instance_run}
use Rattle.language.specs.Inside.{AllLie, registers_in, meanings_laid}

-- ---- how frames come of one another

-- the frames that a run comes to from one: turned round, in a round, under a condition, and in a call, whose operands are what its arguments stand for
pub data Leads (f : Frame) : Frame → Type 0 where
  itself : Leads f f
  turned : {g : Frame} (d : Direction) → Leads f g → Leads f (in_direction g d)
  around : {g : Frame} (z : ℤ) → Leads f g → Leads f (in_round g z)
  conditioned : {g : Frame} (c : Condition) → Leads f g → Leads f (in_condition g c)
  called : {g : Frame} {ms : List Meaning} {t : State} (p : Place) (args : List Argument) (values : List ℤ) (s : State) → meanings_of p g args s ≡ going ms t → Leads f g → Leads f (in_call g values ms)

-- the frame that an instance begins in
abbrev pub instance_frame : List ℤ → List Meaning → Frame
instance_frame values ms = record { direction = forward; condition = always; variables = values; operands = ms }

-- ---- the machine makes no others: what a body does in any other frame is never seen

abbrev pub Body : Type 0
Body = Frame → Run (Unit {0})

-- two bodies that do the same in every frame that f leads to
abbrev pub SameFrom : Frame → (b c : Body) → Type 0
SameFrom f b c = (g : Frame) → Leads f g → b g ≡ c g

-- two families that differ at most in what their bodies do in frames that f does not lead to
pub record SameFamily (f : Frame) (a b : Family) : Type 0 where
  pub variables : a.variables ≡ b.variables
  pub types : a.types ≡ b.types
  pub body : SameFrom f a.body b.body

pub data SameFamilies (f : Frame) : (fs gs : List Family) → Type 0 where
  none : SameFamilies f [] []
  more : {a b : Family} {fs gs : List Family} → SameFamily f a b → SameFamilies f fs gs → SameFamilies f (a ∷ fs) (b ∷ gs)

module _ (limit room : ℕ) where
  -- the body of a reverse, of a for and of an if
  abbrev pub ReverseLaw : Type 0
  ReverseLaw = (b c : Body) (f : Frame) → SameFrom f b c → run_reverse limit room b f ≡ run_reverse limit room c f

  abbrev pub ForLaw : Type 0
  ForLaw = (p : Place) (low high : Index) (b c : Body) (f : Frame) → SameFrom f b c → run_for limit room p low high b f ≡ run_for limit room p low high c f

  abbrev pub IfLaw : Type 0
  IfLaw = (p : Place) (value : ℕ) (bit : Operand) (b c : Body) (f : Frame) → SameFrom f b c → run_if limit room p value bit b f ≡ run_if limit room p value bit c f

  -- the bodies of the families called, from wherever in a statement, by number or through a parameter
  abbrev pub StatementLaw : Type 0
  StatementLaw = (x : Statement) (fs gs : List Family) (f : Frame) → SameFamilies f fs gs → run_statement limit room x fs f ≡ run_statement limit room x gs f

  -- and of those that these call: a family declared over families that are the same from f is the same from f
  abbrev pub DeclaredLaw : Type 0
  DeclaredLaw = (x : Top) (fs gs : List Family) (f : Frame) → SameFamilies f fs gs → SameFamilies f (declared limit room x fs) (declared limit room x gs)

  -- a top field is run in the top frame
  abbrev pub TopLaw : Type 0
  TopLaw = (x : Top) (g : Globals) (fs : List Family) → SameFamilies (top_frame g) g.families fs → act_top limit room x g ≡ act_top limit room x (with_families g fs)

-- and an instance in the frame of what is laid out
abbrev pub LaidOutLaw : Type 0
LaidOutLaw =
    (a b : Family) (values : List ℤ) → a.types ≡ b.types
    → ((ms : List Meaning) (s t : State) → layout values 0 a.types s ≡ going ms t → a.body (instance_frame values ms) ≡ b.body (instance_frame values ms))
    → instance_run a values ≡ instance_run b values

-- ---- where their runs of wires lie

-- in a whole run, of whatever program, every run of wires in scope lies inside a register declared so far
abbrev pub RunLaw : Type 0
RunLaw =
    (limit room : ℕ) (xs : List Top) (g : Globals) (s : State) → run_tops limit room xs nothing_yet begin ≡ going g s
    → (f : Frame) → Leads (top_frame g) f → AllLie (registers_in 0 xs) f.operands

-- and in an instance inside a register laid out
abbrev pub InstanceLaw : Type 0
InstanceLaw =
    (values : List ℤ) (types : List ParameterType) (ms : List Meaning) (s : State) → layout values 0 types begin ≡ going ms s
    → (f : Frame) → Leads (instance_frame values ms) f → AllLie (meanings_laid (layout values 0 types begin)) f.operands
