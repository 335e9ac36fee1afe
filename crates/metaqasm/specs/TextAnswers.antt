-- What the answers of the calls that print stand for, and what is promised of them for an accepted program.
use Rattle.std.specs.Prelude.{ℕ, ◌≡◌, List, true, false, length}
use Rattle.language.specs.Read.{read}
use Rattle.language.specs.Machine.{run_program}
use Rattle.language.specs.Result.{check_result, run_outcome, instance_outcome}
use Rattle.language.specs.Sound.{qubits_declared, bits_declared, wires_laid_out, takes_family, Suits}
use Rattle.language.specs.Theorem.{Reports, InstanceAnswers}
use Rattle.qasm_text.specs.TextResult.{TextResult, TextAnswer, run_records, instance_records}
use Rattle.qasm_text.specs.TextSound.{TextSound, untouched_text}
use Rattle.metaqasm.specs.declared.MetaqasmTextResult.{MetaqasmTextResult}

-- the five numbers of a result
abbrev pub text_answered : MetaqasmTextResult → TextResult
text_answered r = record { number = r.number; place = r.place; records = r.records; steps = r.steps; length = r.length }

-- Where the check gives 0, the run behind the answer reports the machine (Answers), and the answer is that of the run, 0 with the text of the machine's list, or 30.
abbrev pub SoundRunText : (program : List ℕ) (limit : ℕ) (lent buffer : List ℕ) → TextAnswer → Type 0
SoundRunText program limit lent buffer a =
    (check_result program).number ≡ 0
    → Reports 24 limit (qubits_declared program) (bits_declared program) lent (run_program limit (length lent) (read program)) (run_outcome program limit lent)
    × TextSound 24 limit (qubits_declared program) (bits_declared program) (run_records program limit lent) (run_outcome program limit lent) lent buffer a

-- The same of an instance of a family without family parameters, with a number from 20 on; from 23 on where the family is declared and the sizes suit it. An instance
-- of a family with a family parameter gives 34, at place 0, with counts 0, and output and buffer as lent.
abbrev pub SoundInstanceText : (program : List ℕ) (family : ℕ) (sizes : List ℕ) (limit : ℕ) (lent buffer : List ℕ) → TextAnswer → Type 0
SoundInstanceText program family sizes limit lent buffer a =
    let called = instance_outcome program family sizes limit lent in
    let came = instance_records program family sizes limit lent in
    (check_result program).number ≡ 0
    → InstanceAnswers program family sizes limit lent called
    × (takes_family program family ≡ false → TextSound 20 limit (wires_laid_out program family sizes) 0 came called lent buffer a)
    × (Suits program family sizes → TextSound 23 limit (wires_laid_out program family sizes) 0 came called lent buffer a)
    × (takes_family program family ≡ true → a ≡ untouched_text 34 0 lent buffer)
