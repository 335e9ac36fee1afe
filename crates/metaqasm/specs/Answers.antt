-- What the answers of the calls from C stand for, and what is promised of them for an accepted program.
use Rattle.std.specs.Prelude.{ℕ, ◌≡◌, List, length, Ok, Err}
use Rattle.std.specs.Prelude.{Result as CodeResult}
use Rattle.language.specs.Read.{read}
use Rattle.language.specs.Machine.{run_program}
use Rattle.language.specs.Result.{Result, Answer as Reply, finished, check_result}
use Rattle.language.specs.Sound.{qubits_declared, bits_declared}
use Rattle.language.specs.Theorem.{Reports, InstanceAnswers}
use Rattle.records.specs.declared.State.{State}
use Rattle.records.specs.declared.Stop.{Stop}
use Rattle.records.specs.declared.Stop.TheVariants.{Ended, Stuck}
use Rattle.metaqasm.specs.declared.MetaqasmResult.{MetaqasmResult}

-- the four numbers of a result
abbrev pub answered : MetaqasmResult → Result
answered r = record { number = r.number; place = r.place; records = r.records; steps = r.steps }

-- an answer that a result can tell: not stuck
abbrev pub NotStuck : CodeResult State Stop → Type 0
NotStuck (Ok s) = Unit {0}
NotStuck (Err (Ended e p s)) = Unit {0}
NotStuck (Err Stuck) = ⊥

-- Where the check gives 0, the answer of a run reports the machine: 0 comes exactly where it came to the program's end, and number, place, records and steps are its own.
-- The number is 0, 24 to 27 or 32, the answer keeps to the limit and the output, and its records name only what is declared.
abbrev pub SoundRun : (program : List ℕ) (limit : ℕ) (lent : List ℕ) → Reply → Type 0
SoundRun program limit lent a =
    (check_result program).number ≡ 0 → Reports 24 limit (qubits_declared program) (bits_declared program) lent (run_program limit (length lent) (read program)) (finished a)

-- The same of an instance, with a number from 23 on, where the family is declared, has no family parameter and the sizes suit it. Any other instance is turned down with
-- 20, 34, 21 or 22, at place 0, with counts 0 and the output as lent.
abbrev pub SoundInstance : (program : List ℕ) (family : ℕ) (sizes : List ℕ) (limit : ℕ) (lent : List ℕ) → Reply → Type 0
SoundInstance program family sizes limit lent a = (check_result program).number ≡ 0 → InstanceAnswers program family sizes limit lent (finished a)
