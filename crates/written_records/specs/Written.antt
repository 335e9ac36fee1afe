-- The list that a call writes, as the machine comes to it: none where the machine is stuck, and no record where the call is turned down.
use Rattle.std.specs.Prelude.{◌≡◌, List, [], map, cond, ℕ, pos, length}
use Rattle.std.proofs.Math.Option.{Option, none, some}
use Rattle.std.proofs.Math.ListN.{get_elem?}
use Rattle.language.specs.Read.{read}
use Rattle.language.specs.Check.{Checked, good, refused}
use Rattle.language.specs.Machine.{Record, Outcome, going, ended, stuck, Family, has_family_type, all_declared, run_program, run_instance}
use Rattle.language.specs.Result.{Answer, Conclusion, finished, got_stuck, written_into, check_program, four_bytes, by_sizes, run_outcome, instance_outcome}
use Rattle.language.specs.Sound.{AllName}
use Rattle.written_records.specs.RecordsIn.{records_in}

-- the records that the machine came to
unfoldable pub records_of : {A : Type 0} → Outcome A → Option (List Record)
records_of (going a s) = some s.records
records_of (ended n p s) = some s.records
records_of stuck = none

-- a program that is turned down writes no record
unfoldable pub records_if : {A : Type 0} → Checked A → (accepted : Option (List Record)) → Option (List Record)
records_if (good a) accepted = accepted
records_if (refused n p) accepted = some []

unfoldable pub run_records : (program : List ℕ) (limit : ℕ) (output : List ℕ) → Option (List Record)
run_records program limit output =
    let accepted = records_of (run_program limit (length output) (read program)) in
    records_if (check_program program) accepted

-- nor does an instance that is turned down for its family or sizes
unfoldable pub records_at : Option Family → (sizes : List ℕ) → Option (List Record)
records_at none sizes = some []
records_at (some f) sizes =
    cond (has_family_type f.types) (some [])
    (by_sizes f.variables sizes (records_of (run_instance f (map pos (four_bytes sizes)))) (some []) (some []))

unfoldable pub instance_records : (program : List ℕ) (family : ℕ) (sizes : List ℕ) (limit : ℕ) (output : List ℕ) → Option (List Record)
instance_records program family sizes limit output =
    let accepted = records_at (get_elem? (all_declared limit (length output) (read program) []) family) sizes in
    records_if (check_program program) accepted

-- ---- what is said of it

-- an answer that holds a list: it is counted, and written into the output lent
pub record Wrote (lent : List ℕ) (list : List Record) (a : Answer) : Type 0 where
  pub count : length list ≡ a.result.records
  pub output : a.output ≡ written_into lent list

-- there is a list exactly where there is an answer, and the answer holds it
abbrev pub Writes : (lent : List ℕ) → Option (List Record) → Conclusion → Type 0
Writes lent (some list) (finished a) = Wrote lent list a
Writes lent none (finished a) = ⊥
Writes lent (some list) got_stuck = ⊥
Writes lent none got_stuck = Unit {0}

-- a list that an answer holds, over so many wires and bits
pub record Listed (wire_count bit_count : ℕ) (lent : List ℕ) (list : List Record) (a : Answer) : Type 0 where
  pub wrote : Wrote lent list a
  pub named : AllName wire_count bit_count list
  -- and that can be read from it
  pub read : records_in a.result.records a.output ≡ some list

-- ---- the laws, which proofs/Written proves: every call writes its list

abbrev pub RunWrites : Type 0
RunWrites = (program : List ℕ) (limit : ℕ) (output : List ℕ) → Writes output (run_records program limit output) (run_outcome program limit output)

abbrev pub InstanceWrites : Type 0
InstanceWrites =
    (program : List ℕ) (family : ℕ) (sizes : List ℕ) (limit : ℕ) (output : List ℕ)
    → Writes output (instance_records program family sizes limit output) (instance_outcome program family sizes limit output)
