-- What is said of every answer of the calls with a map.
use Rattle.std.specs.Prelude.{◌≡◌, ◌↔◌, List, ℕ, ◌*◌, ◌≤◌, ◌<◌, length, take, drop}
use Rattle.std.proofs.Math.Option.{Option, some}
use Rattle.language.specs.Read.{read}
use Rattle.language.specs.Machine.{Record, run_program}
use Rattle.language.specs.Result.{Conclusion, finished, check_result}
use Rattle.language.specs.Sound.{qubits_declared, bits_declared, wires_laid_out}
use Rattle.language.specs.Theorem.{Reports, InstanceAnswers}
use Rattle.written_records.specs.Written.{run_records, instance_records, Wrote}
use Rattle.wire_map.specs.WireMap.{map_size, SomeNames, bit_of, touched_wires, ones_over}
use Rattle.wire_map.specs.Touching.{TouchedAnswer, TouchedConclusion, touched_finished, too_short, run_touching, instance_touching}

-- a map that was long enough, after a call that wrote this list
pub record Filled (list : List Record) (lent : List ℕ) (a : TouchedAnswer) : Type 0 where
  pub size : length a.map ≡ length lent
  pub rest : drop map_size a.map ≡ drop map_size lent
  -- a bit is 1 exactly where some record written names that wire, and 0 elsewhere
  pub bits : (w : ℕ) → w < 8 * map_size → (bit_of a.map w ≡ 1) ↔ SomeNames w list
  pub binary : (w : ℕ) → w < 8 * map_size → bit_of a.map w ≤ 1
  -- the number is the count of ones over the map, and of the wires named, each counted once
  pub ones : a.wires ≡ ones_over (take map_size a.map)
  pub number : a.wires ≡ length (touched_wires list)

-- the list that the machine came to is in the output, and the map has its wires, whatever the number is
pub record Touched (came : Option (List Record)) (lent lent_map : List ℕ) (a : TouchedAnswer) : Type 0 where
  pub list : List Record
  pub is : came ≡ some list
  pub wrote : Wrote lent list a.run
  pub filled : Filled list lent_map a

-- the wires on the map are below those laid out, and so no more than they
pub record LaidOut (wire_count : ℕ) (a : TouchedAnswer) : Type 0 where
  pub below : (w : ℕ) → w < 8 * map_size → bit_of a.map w ≡ 1 → w < wire_count
  pub few : a.wires ≤ wire_count

-- A map that is too short gives 39, whatever the program. Another has the wires of the list that the call writes; and where the check gives 0, this is said of the
-- answer beside the map, and the wires are laid out.
pub record SoundTouched (program : List ℕ) (came : Option (List Record)) (wire_count : ℕ) (Said : Conclusion → Type 0) (lent lent_map : List ℕ) (a : TouchedAnswer) : Type 0 where
  pub short : length lent_map < map_size → a ≡ too_short lent lent_map
  pub touched : map_size ≤ length lent_map → Touched came lent lent_map a
  pub said : map_size ≤ length lent_map → (check_result program).number ≡ 0 → Said (finished a.run)
  pub laid : map_size ≤ length lent_map → (check_result program).number ≡ 0 → LaidOut wire_count a

-- the answer of a run reports the machine, as that of the call without a map does
abbrev pub SoundRunTouched : (program : List ℕ) (limit : ℕ) (lent lent_map : List ℕ) → TouchedAnswer → Type 0
SoundRunTouched program limit lent lent_map =
    SoundTouched program (run_records program limit lent) (qubits_declared program)
    (Reports 24 limit (qubits_declared program) (bits_declared program) lent (run_program limit (length lent) (read program))) lent lent_map

-- that of an instance is turned down or reports the machine
abbrev pub SoundInstanceTouched : (program : List ℕ) (family : ℕ) (sizes : List ℕ) (limit : ℕ) (lent lent_map : List ℕ) → TouchedAnswer → Type 0
SoundInstanceTouched program family sizes limit lent lent_map =
    SoundTouched program (instance_records program family sizes limit lent) (wires_laid_out program family sizes) (InstanceAnswers program family sizes limit lent) lent lent_map

-- ---- the theorem, which proofs/TouchedSoundness proves

-- what a call comes to is an answer of which this is said, and not that the machine is stuck
pub record TouchedFinishes (Sound : TouchedAnswer → Type 0) (c : TouchedConclusion) : Type 0 where
  pub answer : TouchedAnswer
  pub is : c ≡ touched_finished answer
  pub sound : Sound answer

-- every whole run of every program, under every step limit and into every output and map
abbrev pub RunTouchedTheorem : Type 0
RunTouchedTheorem =
    (program : List ℕ) (limit : ℕ) (lent lent_map : List ℕ) → TouchedFinishes (SoundRunTouched program limit lent lent_map) (run_touching program limit lent lent_map)

-- every instance of every program
abbrev pub InstanceTouchedTheorem : Type 0
InstanceTouchedTheorem =
    (program : List ℕ) (family : ℕ) (sizes : List ℕ) (limit : ℕ) (lent lent_map : List ℕ)
    → TouchedFinishes (SoundInstanceTouched program family sizes limit lent lent_map) (instance_touching program family sizes limit lent lent_map)
