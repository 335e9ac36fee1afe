-- A gate that uses one wire twice: what 35 is about, and what it changes. The laws are stated here; proofs/Twice, proofs/Unchanged and proofs/Caught prove them.
use Rattle.std.specs.Prelude.{◌≡◌, ◌⊎◌, List, [], ◌∷◌, true, not, ℕ, suc, ◌≤◌, length}
use Rattle.language.specs.Limits.{longest_program, most_variables, most_loops}
use Rattle.language.specs.Tree.{Place, Refusal, Ending, Number, Index, Operand, whole, element, ParameterType}
use Rattle.language.specs.Tree.{Statement, Statements, cx, cphase, reverse, for, nil, cons}
use Rattle.language.specs.Tree.{Top, family, if, statement}
use Rattle.language.specs.Read.{read}
use Rattle.language.specs.Form.{Form}
use Rattle.language.specs.Check.{Checked, good, refused, ◌>>◌, require, all_rules, Scope, form_of, same_wire, check_statement, Declared, check_tops_by, check_tops, nothing_declared}
use Rattle.language.specs.Rules.{no_twice, under, check_program_by}
use Rattle.language.specs.Machine as M
use Rattle.language.specs.Machine.{Frame, State, Outcome, Family, run_statement}
use Rattle.language.specs.Result.{check_program, check_result, turned_down, untouched, run_outcome, instance_outcome}

-- ---- an index has one form

-- an index that has forms in two scopes has the same one
abbrev pub FormSameLaw : Type 0
FormSameLaw = (s t : Scope) (i : Index) (f g : Form) → form_of s i ≡ good f → form_of t i ≡ good g → f ≡ g

-- ---- two operands that are one wire

-- they have one number, and both are whole, or both are elements whose indexes have one form
pub data OneWire (s : Scope) : (first second : Operand) → Type 0 where
  wholes : {p q : Place} {n : ℕ} {e d : Ending} → OneWire s (whole p n e) (whole q n d)
  elements : {p q : Place} {n : ℕ} {i j : Index} {e d : Ending} (f : Form) → form_of s i ≡ good f → form_of s j ≡ good f → OneWire s (element p n i e) (element q n j d)

abbrev pub SameWireLaw : Type 0
SameWireLaw = (s : Scope) (c o : Operand) → (same_wire s c o ≡ true → OneWire s c o) × (OneWire s c o → same_wire s c o ≡ true)

-- ---- why 35 is right: such a gate never writes its record

-- the statement is a cx or a cphase at p on these operands
pub data ActsOn : Statement → Place → (control target : Operand) → Type 0 where
  by_cx : {p : Place} {c o : Operand} {e : Ending} → ActsOn (cx p c o e) p c o
  by_cphase : {p : Place} {k : Index} {c o : Operand} {e : Ending} → ActsOn (cphase p k c o e) p c o

-- a scope has no more index variables and loops than there may be
abbrev pub Bounded : Scope → Type 0
Bounded s = (s.variables ≤ most_variables) × (length s.loops ≤ most_loops)

-- one step taken, nothing written
abbrev pub stepped : State → State
stepped t = record { records = t.records; steps = suc t.steps }

-- a gate at p from t: no step is left, an index is out of range, both operands are one wire, or k or an operand has no meaning
pub data Never (p : Place) (t : State) : Outcome (Unit {0}) → Type 0 where
  no_step : Never p t (M.ended 26 p t)
  outside : Never p t (M.ended 24 p (stepped t))
  not_apart : Never p t (M.ended 25 p (stepped t))
  no_meaning : Never p t M.stuck

-- whatever it is run under, and whatever its operands mean
abbrev pub NeverRunsLaw : Type 0
NeverRunsLaw =
    (limit room : ℕ) (x : Statement) (p : Place) (c o : Operand) (s : Scope) (fs : List Family) (f : Frame) (t : State)
    → ActsOn x p c o → Bounded s → same_wire s c o ≡ true → Never p t (run_statement limit room x fs f t)

-- ---- the last test of a gate

-- 35 is the last test of a gate on two wires: what the check without it refuses there stays
abbrev pub LastTestLaw : Type 0
LastTestLaw =
    (x : Statement) (p : Place) (c o : Operand) (s : Scope) → ActsOn x p c o
    → check_statement x (under all_rules s) ≡ (check_statement x (under no_twice s) >> require 35 p (not (same_wire (under all_rules s) c o)))

-- ---- where such a gate stands

mutual
  -- the gate at p, in the statement or being it, acts on operands that are one wire in some scope; which one does not matter, since an index has one form
  pub data TwiceAt (p : Place) : Statement → Type 0 where
    here : {x : Statement} {c o : Operand} (s : Scope) → ActsOn x p c o → Bounded s → same_wire s c o ≡ true → TwiceAt p x
    in_reverse : {q : Place} {ss : Statements} → TwiceIn p ss → TwiceAt p (reverse q ss)
    in_for : {q : Place} {low high : Index} {ss : Statements} → TwiceIn p ss → TwiceAt p (for q low high ss)

  pub data TwiceIn (p : Place) : Statements → Type 0 where
    first : {x : Statement} {xs : Statements} → TwiceAt p x → TwiceIn p (cons x xs)
    later : {x : Statement} {xs : Statements} → TwiceIn p xs → TwiceIn p (cons x xs)

pub data TwiceTop (p : Place) : Top → Type 0 where
  in_family : {q : Place} {v n : Number} {types : List ParameterType} {body : Statements} → TwiceIn p body → TwiceTop p (family q v n types body)
  in_if : {q : Place} {v : ℕ} {b : Operand} {ss : Statements} → TwiceIn p ss → TwiceTop p (if q v b ss)
  in_statement : {x : Statement} → TwiceAt p x → TwiceTop p (statement x)

pub data TwiceTops (p : Place) : List Top → Type 0 where
  first : {x : Top} {xs : List Top} → TwiceTop p x → TwiceTops p (x ∷ xs)
  later : {x : Top} {xs : List Top} → TwiceTops p xs → TwiceTops p (x ∷ xs)

-- a program has such a gate at p
abbrev pub HasTwice : List ℕ → Place → Type 0
HasTwice program p = TwiceTops p (read program)

-- ---- what 35 changes

-- the answer before, and now: it stays, or becomes 35 at such a gate
pub data Only (At : Place → Type 0) {A : Type 0} (before : Checked A) : Checked A → Type 0 where
  stays : Only At before before
  becomes : {p : Place} → At p → Only At before (refused 35 p)

abbrev pub CheckOnlyLaw : Type 0
CheckOnlyLaw = (program : List ℕ) → Only (HasTwice program) (check_program_by no_twice program) (check_program program)

-- a program without such a gate has the answer that it had
abbrev pub CheckSameLaw : Type 0
CheckSameLaw = (program : List ℕ) → ((p : Place) → HasTwice program p → ⊥) → check_program program ≡ check_program_by no_twice program

-- what is accepted was accepted, with the same declared
abbrev pub AcceptedBeforeLaw : Type 0
AcceptedBeforeLaw = (program : List ℕ) (d : Declared) → check_program program ≡ good d → check_program_by no_twice program ≡ good d

-- ---- in reading order

mutual
  -- the second statement is the first, or goes on where it ends
  pub data Begins : Statement → Statement → Type 0 where
    alike : {x : Statement} → Begins x x
    reverses : {p : Place} {xs ys : Statements} → BeginsIn xs ys → Begins (reverse p xs) (reverse p ys)
    fors : {p : Place} {low high : Index} {xs ys : Statements} → BeginsIn xs ys → Begins (for p low high xs) (for p low high ys)

  pub data BeginsIn : Statements → Statements → Type 0 where
    none : {ys : Statements} → BeginsIn nil ys
    last : {x y : Statement} {ys : Statements} → Begins x y → BeginsIn (cons x nil) (cons y ys)
    next : {x : Statement} {xs ys : Statements} → BeginsIn xs ys → BeginsIn (cons x xs) (cons x ys)

pub data BeginsTop : Top → Top → Type 0 where
  alike : {x : Top} → BeginsTop x x
  families : {p : Place} {v n : Number} {types : List ParameterType} {xs ys : Statements} → BeginsIn xs ys → BeginsTop (family p v n types xs) (family p v n types ys)
  ifs : {p : Place} {v : ℕ} {b : Operand} {xs ys : Statements} → BeginsIn xs ys → BeginsTop (if p v b xs) (if p v b ys)
  statements : {x y : Statement} → Begins x y → BeginsTop (statement x) (statement y)

pub data BeginsTops : List Top → List Top → Type 0 where
  none : {ys : List Top} → BeginsTops [] ys
  last : {x y : Top} {ys : List Top} → BeginsTop x y → BeginsTops (x ∷ []) (y ∷ ys)
  next : {x : Top} {xs ys : List Top} → BeginsTops xs ys → BeginsTops (x ∷ xs) (x ∷ ys)

-- the first fault is the answer, 35 among them: whatever stands after it is hidden
abbrev pub LaterHiddenLaw : Type 0
LaterHiddenLaw = (xs ys : List Top) (d : Declared) (n : Refusal) (p : Place) → BeginsTops xs ys → check_tops xs d ≡ refused n p → check_tops ys d ≡ refused n p

-- so a fault before which there is no such gate stays
abbrev pub EarlierStaysLaw : Type 0
EarlierStaysLaw =
    (xs ys : List Top) (d : Declared) (n : Refusal) (p : Place) → BeginsTops xs ys → ((q : Place) → TwiceTops q xs → ⊥) → check_tops_by no_twice xs d ≡ refused n p
    → check_tops ys d ≡ refused n p

-- ---- every such gate is caught

-- a program that has one is not accepted, wherever the gate stands
abbrev pub CaughtLaw : Type 0
CaughtLaw = (program : List ℕ) (p : Place) → HasTwice program p → (d : Declared) → check_program program ≡ good d → ⊥

-- how it is turned down: with 35 at one of its gates, or as before
pub record TurnedDown (program : List ℕ) : Type 0 where
  pub number : Refusal
  pub place : Place
  pub is : check_program program ≡ refused number place
  pub how : ((number ≡ 35) × HasTwice program place) ⊎ (check_program_by no_twice program ≡ refused number place)

abbrev pub TwiceRefusedLaw : Type 0
TwiceRefusedLaw = (program : List ℕ) (p : Place) → HasTwice program p → TurnedDown program

-- ---- any other answer becomes 35

-- where nothing else is at fault up to such a gate, the answer is 35 at one of the gates up to there, whatever stands after it
abbrev pub BecomesLaw : Type 0
BecomesLaw =
    (xs ys : List Top) (d after : Declared) (p : Place) → BeginsTops xs ys → TwiceTops p xs → check_tops_by no_twice xs d ≡ good after
    → (q : Place) × TwiceTops q xs × (check_tops ys d ≡ refused 35 q)

-- and so answer check, run and instance, whatever they are asked for, and write nothing
pub record Answers35 (program : List ℕ) (q : Place) : Type 0 where
  pub checks : check_result program ≡ turned_down 35 q
  pub runs : (limit : ℕ) (output : List ℕ) → run_outcome program limit output ≡ untouched output 35 q
  pub instances : (family : ℕ) (sizes : List ℕ) (limit : ℕ) (output : List ℕ) → instance_outcome program family sizes limit output ≡ untouched output 35 q

abbrev pub EveryCallLaw : Type 0
EveryCallLaw =
    (program : List ℕ) (xs : List Top) (after : Declared) (p : Place) → length program ≤ longest_program → BeginsTops xs (read program) → TwiceTops p xs
    → check_tops_by no_twice xs nothing_declared ≡ good after → (q : Place) × TwiceTops q xs × Answers35 program q
