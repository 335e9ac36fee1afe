-- THE THEOREM: an accepted program is never stuck, and every answer for it is the machine's. Here it is stated; proofs/Theorem proves it.
use Rattle.std.specs.Prelude.{◌≡◌, List, [], map, true, false, ℕ, ◌*◌, ◌≤◌, pos, length}
use Rattle.std.proofs.Math.Option.{none, some}
use Rattle.std.proofs.Math.ListN.{get_elem?}
use Rattle.language.specs.Limits.{record_size, largest_size}
use Rattle.language.specs.Read.{read}
use Rattle.language.specs.Machine.{State, Outcome, going, ended, ◌>>=◌, found, begin, has_family_type, all_declared, run_program, instance_run}
use Rattle.language.specs.Result.{Answer, Conclusion, finished, written_into, untouched, check_result, run_outcome, four_bytes, all_sizes_fit, instance_outcome}
use Rattle.language.specs.Lookup.{Declaration, family_in}
use Rattle.language.specs.Sound.{qubits_declared, bits_declared, wires_of, wires_laid_out, AllName, EndsWith, Sound, Suits}
use Rattle.language.specs.Sizes.{bytes_of_sizes, AllAtMost}

-- A call comes to `called`, where the machine, under a step limit and with the output lent, comes out as `o`. So many wires and bits are laid out, and
-- `least` is the least number that the machine may end with.
pub record Reports {A : Type 0} (least limit wire_count bit_count : ℕ) (lent : List ℕ) (o : Outcome A) (called : Conclusion) : Type 0 where
  -- the call gives an answer: the machine is not stuck
  pub answer : Answer
  pub is : called ≡ finished answer
  -- the state that the machine came to
  pub last : State
  -- The number 0, with place 0, says that the machine came to the end of the body or of the program: the list is complete.
  pub complete : answer.result.number ≡ 0 → (answer.result.place ≡ 0) × ((value : A) × (o ≡ going value last))
  -- Any other number, with its place, is the machine's own end, one from `least` to 27, or 32. Ends of crate run_laws says what they come of.
  pub cut : 1 ≤ answer.result.number
      → (o ≡ ended answer.result.number answer.result.place last) × EndsWith least answer.result.number
  -- The records and the steps are the machine's: so many are counted, and these records and no others are written, at the output's front.
  pub records : answer.result.records ≡ length last.records
  pub steps : answer.result.steps ≡ last.steps
  pub output : answer.output ≡ written_into lent last.records
  -- no more steps than the limit, and no more records than the output has room for
  pub within : last.steps ≤ limit
  pub fits : record_size * length last.records ≤ length lent
  -- each record names only wires and bits that are laid out, and no wire twice
  pub named : AllName wire_count bit_count last.records
  -- and the same read from the answer and the output's bytes alone
  pub sound : Sound least limit wire_count bit_count lent answer

-- ---- whole runs

-- every whole run of an accepted program, under every step limit and into every output: the number is 0, 24 to 27 or 32
abbrev pub RunTheorem : Type 0
RunTheorem =
    (program : List ℕ) (limit : ℕ) (output : List ℕ) → (check_result program).number ≡ 0
    → Reports 24 limit (qubits_declared program) (bits_declared program) output (run_program limit (length output) (read program))
    (run_outcome program limit output)

-- ---- instances

-- how the machine comes out for an instance: the family is looked up, laid out and run
unfoldable pub instance_at : (program : List ℕ) (family : ℕ) (sizes : List ℕ) (limit room : ℕ) → Outcome (Unit {0})
instance_at program family sizes limit room = (found (get_elem? (all_declared limit room (read program) []) family) >>= λ f. instance_run f (map pos sizes)) begin

-- an instance, its sizes given in bytes, comes to `called`: turned down before the machine starts, with nothing written, or as the machine comes out
pub record InstanceAnswers (program : List ℕ) (family : ℕ) (sizes : List ℕ) (limit : ℕ) (output : List ℕ) (called : Conclusion) : Type 0 where
  -- no such family
  pub no_family : family_in (read program) family ≡ none → called ≡ untouched output 20 0
  -- it has a family parameter
  pub takes_family : (d : Declaration) → family_in (read program) family ≡ some d → has_family_type d.types ≡ true
      → called ≡ untouched output 34 0
  -- not four bytes for each of its index variables
  pub miscounted : (d : Declaration) → family_in (read program) family ≡ some d → has_family_type d.types ≡ false → (length sizes ≡ 4 * d.variables → ⊥)
      → called ≡ untouched output 21 0
  -- a size that is too large
  pub too_large : (d : Declaration) → family_in (read program) family ≡ some d → has_family_type d.types ≡ false → length sizes ≡ 4 * d.variables → all_sizes_fit (four_bytes sizes) ≡ false
      → called ≡ untouched output 22 0
  -- any other: the number is 0, 23 to 27 or 32
  pub suited : Suits program family sizes
      → Reports 23 limit (wires_laid_out program family sizes) 0 output (instance_at program family (four_bytes sizes) limit (length output)) called

-- every instance of an accepted program, at every family number and sizes, under every step limit and into every output
abbrev pub InstanceTheorem : Type 0
InstanceTheorem =
    (program : List ℕ) (family : ℕ) (sizes : List ℕ) (limit : ℕ) (output : List ℕ) → (check_result program).number ≡ 0
    → InstanceAnswers program family sizes limit output (instance_outcome program family sizes limit output)

-- The same over sizes as numbers: every family without family parameters that an accepted program declares, at every list of as many sizes as it has index variables, each from 0 to
-- 65,535. Each such list is what some bytes say (Sizes).
abbrev pub SizesTheorem : Type 0
SizesTheorem =
    (program : List ℕ) (family : ℕ) (d : Declaration) (sizes : List ℕ) (limit : ℕ) (output : List ℕ) → (check_result program).number ≡ 0
    → family_in (read program) family ≡ some d → has_family_type d.types ≡ false → length sizes ≡ d.variables → AllAtMost largest_size sizes
    → Reports 23 limit (wires_of (some d) (map pos sizes)) 0 output (instance_at program family sizes limit (length output))
    (instance_outcome program family (bytes_of_sizes sizes) limit output)
