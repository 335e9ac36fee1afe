-- What is said of every answer of the calls with text, for an accepted program: never stuck, and this.
use Rattle.std.specs.Prelude.{◌≡◌, ◌⊎◌, List, true, false, ℕ, ◌^◌, ◌≤◌, ◌<◌, length, take, drop}
use Rattle.std.proofs.Math.Option.{Option, some}
use Rattle.language.specs.Machine.{Record}
use Rattle.language.specs.Result.{Answer, Conclusion, finished, turned_down, written_into, check_result, run_outcome, instance_outcome}
use Rattle.language.specs.Sound.{qubits_declared, bits_declared, wires_laid_out, AllName, EndsWith, Sound, takes_family, Suits}
use Rattle.qasm_text.specs.Text.{text_of, enough_for}
use Rattle.qasm_text.specs.RecordsIn.{records_in}
use Rattle.qasm_text.specs.TextResult.{TextAnswer, TextConclusion, text_finished, without_text, run_records, instance_records, run_text_outcome, instance_text_outcome}

-- a list that a run's answer holds
pub record Listed (wire_count bit_count : ℕ) (lent : List ℕ) (list : List Record) (run : Answer) : Type 0 where
  pub count : length list ≡ run.result.records
  pub output : run.output ≡ written_into lent list
  pub named : AllName wire_count bit_count list
  -- and that can be read from it
  pub read : records_in run.result.records run.output ≡ some list

-- what a complete run leaves: the list that the machine came to, in the output, and its text where it fits
pub record Complete (wire_count bit_count : ℕ) (came : Option (List Record)) (lent buffer : List ℕ) (run : Answer) (a : TextAnswer) : Type 0 where
  pub list : List Record
  pub is : came ≡ some list
  pub listed : Listed wire_count bit_count lent list run
  pub printed : length (text_of wire_count bit_count list) ≤ length buffer
      → (a.result.number ≡ 0) × (a.result.length ≡ length (text_of wire_count bit_count list)) × (take a.result.length a.text ≡ text_of wire_count bit_count list)
  pub full : length buffer < length (text_of wire_count bit_count list) → a.result.number ≡ 30
  -- 0 and 30 have place 0
  pub place : a.result.place ≡ 0
  -- so long a buffer holds the text of any list of so many records
  pub enough : length (text_of wire_count bit_count list) ≤ enough_for bit_count run.result.records
  -- no text of an output below 2 ^ 60 bytes reaches 2 ^ 63
  pub small : length lent < 2 ^ 60 → length (text_of wire_count bit_count list) < 2 ^ 63

-- the answer to a run in which the machine came to this list, and which without the text comes to `called`, into the output and the text buffer lent
pub record TextSound (least limit wire_count bit_count : ℕ) (came : Option (List Record)) (called : Conclusion) (lent buffer : List ℕ) (a : TextAnswer) : Type 0 where
  -- the run behind it: its counts and its output, whatever comes of the text
  pub run : Answer
  pub is : called ≡ finished run
  pub sound : Sound least limit wire_count bit_count lent run
  pub records : a.result.records ≡ run.result.records
  pub steps : a.result.steps ≡ run.result.steps
  pub output : a.output ≡ run.output
  -- done, one of the run's own ends, or 30
  pub number : (a.result.number ≡ 0) ⊎ (a.result.number ≡ 30) ⊎ EndsWith least a.result.number
  -- a run with another number than 0 gives its own result
  pub other : 1 ≤ run.result.number → (a.result.number ≡ run.result.number) × (a.result.place ≡ run.result.place)
  -- a run with number 0 leaves its list, and the text where it fits
  pub complete : run.result.number ≡ 0 → Complete wire_count bit_count came lent buffer run a
  -- any refusal leaves the buffer, and the length is 0
  pub refused : 1 ≤ a.result.number → (a.result.length ≡ 0) × (a.text ≡ buffer)
  -- the buffer has the length lent, and its bytes past the text are the lent ones
  pub fits : a.result.length ≤ length buffer
  pub size : length a.text ≡ length buffer
  pub rest : drop a.result.length a.text ≡ drop a.result.length buffer

-- what a call comes to is such an answer, and not that the machine is stuck
pub record TextFinishes (least limit wire_count bit_count : ℕ) (came : Option (List Record)) (called : Conclusion) (lent buffer : List ℕ) (c : TextConclusion) : Type 0 where
  pub answer : TextAnswer
  pub is : c ≡ text_finished answer
  pub sound : TextSound least limit wire_count bit_count came called lent buffer answer

-- ---- the theorem, which proofs/TextSoundness proves

-- every whole run of an accepted program, under every step limit and into every output and text buffer
abbrev pub RunTextTheorem : Type 0
RunTextTheorem =
    (program : List ℕ) (limit : ℕ) (output buffer : List ℕ) → (check_result program).number ≡ 0
    → TextFinishes 24 limit (qubits_declared program) (bits_declared program) (run_records program limit output) (run_outcome program limit output) output buffer
    (run_text_outcome program limit output buffer)

-- turned down before the machine starts: nothing counted, output and buffer as lent
abbrev pub untouched_text : (number place : ℕ) → (output buffer : List ℕ) → TextAnswer
untouched_text number place output buffer = record { result = without_text number place (turned_down number place); output = output; text = buffer }

-- every instance of an accepted program, at every number of a family without family parameters, and sizes; from 23 on where the family is declared and the sizes
-- suit it; and 34 for a family with a family parameter
abbrev pub InstanceTextTheorem : Type 0
InstanceTextTheorem =
    (program : List ℕ) (family : ℕ) (sizes : List ℕ) (limit : ℕ) (output buffer : List ℕ) → (check_result program).number ≡ 0
    → (takes_family program family ≡ false
    → TextFinishes 20 limit (wires_laid_out program family sizes) 0 (instance_records program family sizes limit output) (instance_outcome program family sizes limit output) output buffer
    (instance_text_outcome program family sizes limit output buffer))
    × (Suits program family sizes
    → TextFinishes 23 limit (wires_laid_out program family sizes) 0 (instance_records program family sizes limit output) (instance_outcome program family sizes limit output) output buffer
    (instance_text_outcome program family sizes limit output buffer))
    × (takes_family program family ≡ true → instance_text_outcome program family sizes limit output buffer ≡ text_finished (untouched_text 34 0 output buffer))

-- different lists on the same wires and bits print differently, whatever the records are
abbrev pub TextInjective : Type 0
TextInjective = (wire_count bit_count : ℕ) (rs ss : List Record) → text_of wire_count bit_count rs ≡ text_of wire_count bit_count ss → rs ≡ ss
