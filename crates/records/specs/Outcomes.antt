-- What the code's state, answer and output tell of a run.
use Rattle.std.specs.Prelude.{ℕ, ◌+◌, ◌*◌, ◌/◌, ◌%◌, ◌≤◌, ◌<◌, ◌≡◌, List, [], ◌∷◌, length, Result, Ok, Err}
use Rattle.language.specs.Limits.{record_size}
use Rattle.language.specs.Tree.{Place, Refusal}
use Rattle.language.specs.Machine.{Outcome, Run, Record, Action, Frame, ◌>>◌, few_halvings, write}
use Rattle.language.specs.Machine as machine
use Rattle.language.specs.Result.{op, first_number, second_number, halvings_of, written_into}
use Rattle.operands.specs.Meanings.{the_bit}
use Rattle.records.specs.declared.State.{State}
use Rattle.records.specs.declared.Stop.{Stop}
use Rattle.records.specs.declared.Stop.TheVariants.{Ended, Stuck}
use Rattle.records.specs.declared.Op.{Op}
use Rattle.records.specs.declared.Op.TheVariants.{H, T, Tdg, Cx, Measure, Reset, Phase, PhaseInverse, Cphase, CphaseInverse}
use Rattle.refusals.specs.declared.Reason.{Reason}
use Rattle.refusals.specs.declared.Reason.TheVariants.{OutOfSteps}
use Rattle.refusals.specs.Reasons.{number_of}
use Rattle.records.specs.declared.Condition.{Condition}
use Rattle.records.specs.declared.Condition.TheVariants.{Always, IsZero, IsOne}

-- how a part of a run comes out, with its output, the bytes of its records and its steps
pub data FlatOutcome : Type 0 where
  going : List ℕ → ℕ → ℕ → FlatOutcome
  ended : Refusal → Place → List ℕ → ℕ → ℕ → FlatOutcome
  stuck : FlatOutcome

unfoldable pub answer_told : List ℕ → Result State Stop → FlatOutcome
answer_told l (Ok s) = going l s.written s.steps
answer_told l (Err (Ended e p s)) = ended (number_of e) p l s.written s.steps
answer_told l (Err Stuck) = stuck

-- an outcome, with its records written into the output lent
unfoldable pub flat_outcome : {A : Type 0} → List ℕ → Outcome A → FlatOutcome
flat_outcome lent (machine.going a s) = going (written_into lent s.records) (record_size * length s.records) s.steps
flat_outcome lent (machine.ended n p s) = ended n p (written_into lent s.records) (record_size * length s.records) s.steps
flat_outcome lent machine.stuck = stuck

-- the output l holds these records over what was lent
pub record Holds (lent : List ℕ) (rs : List Record) (l : List ℕ) (st : State) : Type 0 where
  pub output : l ≡ written_into lent rs
  pub size : record_size * length rs ≡ st.written

abbrev pub state_of : List Record → State → machine.State
state_of rs st = record { records = rs; steps = st.steps }

-- The square: whatever records the output holds, the code's answer and the output after it are the run's outcome.
abbrev pub Does : {A : Type 0} → List ℕ → State → List ℕ → Result State Stop → Run A → Type 0
Does l st l' r run = (lent : List ℕ) (rs : List Record) → Holds lent rs l st → answer_told l' r ≡ flat_outcome lent (run (state_of rs st))

-- what is left to do leads to the whole
abbrev pub Leads : List ℕ → State → List ℕ → State → (rest whole : Run (Unit {0})) → Type 0
Leads l st l' st' rest whole = (x : List ℕ) (r : Result State Stop) → Does l' st' x r rest → Does l st x r whole

-- a step is taken
pub record OneStep (limit : ℕ) (st s : State) : Type 0 where
  pub left : st.steps < limit
  pub same : s.written ≡ st.written
  pub more : s.steps ≡ st.steps + 1

-- no step is left for the statement at `place`
pub record NoStep (limit : ℕ) (place : Place) (st : State) (e : Reason) (p : Place) (s : State) : Type 0 where
  pub none : limit ≤ st.steps
  pub reason : e ≡ OutOfSteps
  pub here : p ≡ place
  pub same : s ≡ st

-- what taking a step answers
unfoldable pub Stepped : (limit : ℕ) → Place → State → Result State Stop → Type 0
Stepped limit place st (Ok s) = OneStep limit st s
Stepped limit place st (Err (Ended e p s)) = NoStep limit place st e p s
Stepped limit place st (Err Stuck) = ⊥

-- the byte of an op
abbrev pub op_number : Op → ℕ
op_number H = 1
op_number T = 2
op_number Tdg = 3
op_number Cx = 4
op_number Measure = 5
op_number Reset = 6
op_number Phase = 7
op_number PhaseInverse = 8
op_number Cphase = 9
op_number CphaseInverse = 10

unfoldable pub condition_of : Condition → machine.Condition
condition_of Always = machine.always
condition_of (IsZero b) = machine.when_bit (the_bit b.0) 0
condition_of (IsOne b) = machine.when_bit (the_bit b.0) 1

abbrev pub low_of : ℕ → ℕ
low_of n = n % 256

abbrev pub high_of : ℕ → ℕ
high_of n = n / 256

-- the bytes of a record by its numbers: the first eight, then those of k
abbrev pub number_bytes : (op kind first second bit : ℕ) → (rest : List ℕ) → List ℕ
number_bytes op kind a b c rest = op ∷ kind ∷ low_of a ∷ high_of a ∷ low_of b ∷ high_of b ∷ low_of c ∷ high_of c ∷ rest

abbrev pub halving_bytes : ℕ → List ℕ
halving_bytes k = low_of k ∷ high_of k ∷ 0 ∷ 0 ∷ []

abbrev pub bytes_by : (op kind first second bit k : ℕ) → List ℕ
bytes_by op kind a b c k = number_bytes op kind a b c (halving_bytes k)

-- an action with its numbers
pub record ActionNumbers (a : Action) (code first second k : ℕ) : Type 0 where
  pub its_code : op a ≡ code
  pub its_first : first_number a ≡ first
  pub its_second : second_number a ≡ second
  pub its_halvings : halvings_of a ≡ k

-- a record of an action with these numbers is written, unless its k is too large
abbrev pub Writes : List ℕ → State → List ℕ → Result State Stop → Place → (code first second k : ℕ) → Condition → Type 0
Writes l st l' r p code first second k c =
    (limit : ℕ) (f : Frame) (a : Action) → f.condition ≡ condition_of c → ActionNumbers a code first second k
    → Does l st l' r (few_halvings p k >> write limit (length l) p f a)
