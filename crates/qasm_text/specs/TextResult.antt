-- What the calls run with text and instance with text answer: number, place, records, steps, length, the output and the text buffer.
use Rattle.std.specs.Prelude.{List, [], ◌++◌, map, cond, ℕ, zero, suc, pos, leb, length, drop}
use Rattle.std.proofs.Math.Option.{Option, none, some}
use Rattle.std.proofs.Math.ListN.{get_elem?}
use Rattle.language.specs.Read.{read}
use Rattle.language.specs.Machine.{Record, Outcome, going, ended, stuck, Family, all_declared, run_program, run_instance}
use Rattle.language.specs.Result.{Result, Answer, Conclusion, finished, got_stuck, four_bytes, run_outcome, instance_outcome}
use Rattle.language.specs.Lookup.{mapped}
use Rattle.language.specs.Sound.{qubits_declared, bits_declared, wires_laid_out}
use Rattle.qasm_text.specs.Text.{text_of}

pub record TextResult : Type 0 where
  pub number : ℕ
  pub place : ℕ
  pub records : ℕ
  pub steps : ℕ
  pub length : ℕ

-- a result, and the output and the text buffer lent as they are afterwards
pub record TextAnswer : Type 0 where
  pub result : TextResult
  pub output : List ℕ
  pub text : List ℕ

pub data TextConclusion : Type 0 where
  text_finished : TextAnswer → TextConclusion
  text_stuck : TextConclusion

-- ---- what comes of a run's answer

-- the text written into the buffer lent, whose rest stays
unfoldable pub text_into : (buffer text : List ℕ) → List ℕ
text_into buffer text = text ++ drop (length text) buffer

-- a number and a place with the counts of a run: no text
abbrev pub without_text : (number place : ℕ) → Result → TextResult
without_text number place run = record { number = number; place = place; records = run.records; steps = run.steps; length = 0 }

-- the run's output, and the buffer untouched
unfoldable pub unprinted : (number place : ℕ) → (buffer : List ℕ) → Answer → TextAnswer
unprinted number place buffer a = record { result = without_text number place a.result; output = a.output; text = buffer }

unfoldable pub fully_printed : (buffer text : List ℕ) → Answer → TextAnswer
fully_printed buffer text a = record
    { result = record { number = 0; place = 0; records = a.result.records; steps = a.result.steps; length = length text }; output = a.output; text = text_into buffer text }

-- 30, tested last
unfoldable pub printed : (buffer text : List ℕ) → Answer → TextAnswer
printed buffer text a = cond (leb (length text) (length buffer)) (fully_printed buffer text a) (unprinted 30 0 buffer a)

-- Only a run with number 0 is printed; another's number and place stay. There is no complete run without a list.
unfoldable pub by_number : (number : ℕ) → (buffer : List ℕ) → (text : Option (List ℕ)) → Answer → TextConclusion
by_number zero buffer none a = text_stuck
by_number zero buffer (some text) a = text_finished (printed buffer text a)
by_number (suc n) buffer text a = text_finished (unprinted (suc n) a.result.place buffer a)

unfoldable pub text_conclusion : Conclusion → (buffer : List ℕ) → (text : Option (List ℕ)) → TextConclusion
text_conclusion (finished a) buffer text = by_number a.result.number buffer text a
text_conclusion got_stuck buffer text = text_stuck

-- ---- the list that the machine comes to

unfoldable pub records_of : {A : Type 0} → Outcome A → Option (List Record)
records_of (going a s) = some s.records
records_of (ended n p s) = some s.records
records_of stuck = none

unfoldable pub run_records : (program : List ℕ) (limit : ℕ) (output : List ℕ) → Option (List Record)
run_records program limit output = records_of (run_program limit (length output) (read program))

unfoldable pub records_at : Option Family → (sizes : List ℕ) → Option (List Record)
records_at none sizes = none
records_at (some f) sizes = records_of (run_instance f (map pos (four_bytes sizes)))

unfoldable pub instance_records : (program : List ℕ) (family : ℕ) (sizes : List ℕ) (limit : ℕ) (output : List ℕ) → Option (List Record)
instance_records program family sizes limit output = records_at (get_elem? (all_declared limit (length output) (read program) []) family) sizes

-- ---- the two calls

-- a whole run's text: all qubits and bits declared
unfoldable pub run_text : (program : List ℕ) (limit : ℕ) (output : List ℕ) → Option (List ℕ)
run_text program limit output = mapped (text_of (qubits_declared program) (bits_declared program)) (run_records program limit output)

unfoldable pub run_text_outcome : (program : List ℕ) (limit : ℕ) (output buffer : List ℕ) → TextConclusion
run_text_outcome program limit output buffer = text_conclusion (run_outcome program limit output) buffer (run_text program limit output)

-- an instance's text: the wires laid out, and no bits
unfoldable pub instance_text : (program : List ℕ) (family : ℕ) (sizes : List ℕ) (limit : ℕ) (output : List ℕ) → Option (List ℕ)
instance_text program family sizes limit output = mapped (text_of (wires_laid_out program family sizes) 0) (instance_records program family sizes limit output)

unfoldable pub instance_text_outcome : (program : List ℕ) (family : ℕ) (sizes : List ℕ) (limit : ℕ) (output buffer : List ℕ) → TextConclusion
instance_text_outcome program family sizes limit output buffer =
    text_conclusion (instance_outcome program family sizes limit output) buffer (instance_text program family sizes limit output)
