-- What the calls run and instance with a map come to: the answer, the map, and the number of wires.
use Rattle.std.specs.Prelude.{List, ◌++◌, cond, ℕ, leb, length, drop}
use Rattle.std.proofs.Math.Option.{Option, none, some}
use Rattle.language.specs.Machine.{Record}
use Rattle.language.specs.Result.{Answer, Conclusion, finished, got_stuck, turned_down, run_outcome, instance_outcome}
use Rattle.written_records.specs.Written.{run_records, instance_records}
use Rattle.wire_map.specs.WireMap.{map_size, touched_map, ones_over}

-- the answer of the call without a map, the map lent as it is afterwards, and the number of wires
pub record TouchedAnswer : Type 0 where
  pub run : Answer
  pub map : List ℕ
  pub wires : ℕ

pub data TouchedConclusion : Type 0 where
  touched_finished : TouchedAnswer → TouchedConclusion
  touched_stuck : TouchedConclusion

-- the map of a list written into the map lent, whose bytes past map_size stay
unfoldable pub map_into : (lent : List ℕ) → List Record → List ℕ
map_into lent list = touched_map list ++ drop map_size lent

-- a map that is long enough is filled, whatever the answer's number is
abbrev pub filled_map : (lent : List ℕ) → List Record → Answer → TouchedAnswer
filled_map lent list a = record { run = a; map = map_into lent list; wires = ones_over (touched_map list) }

-- there is no answer without a list
unfoldable pub with_map : (lent : List ℕ) → Option (List Record) → Conclusion → TouchedConclusion
with_map lent (some list) (finished a) = touched_finished (filled_map lent list a)
with_map lent none (finished a) = touched_stuck
with_map lent list got_stuck = touched_stuck

-- a map that is too short gives 39, with nothing written
abbrev pub too_short : (output lent : List ℕ) → TouchedAnswer
too_short output lent = record { run = record { result = turned_down 39 0; output = output }; map = lent; wires = 0 }

-- 39 comes before all else
unfoldable pub unless_short : (output lent : List ℕ) → (long : TouchedConclusion) → TouchedConclusion
unless_short output lent long = cond (leb map_size (length lent)) long (touched_finished (too_short output lent))

-- ---- the two calls

unfoldable pub run_touching : (program : List ℕ) (limit : ℕ) (output lent : List ℕ) → TouchedConclusion
run_touching program limit output lent =
    let long = with_map lent (run_records program limit output) (run_outcome program limit output) in
    unless_short output lent long

unfoldable pub instance_touching : (program : List ℕ) (family : ℕ) (sizes : List ℕ) (limit : ℕ) (output lent : List ℕ) → TouchedConclusion
instance_touching program family sizes limit output lent =
    let long = with_map lent (instance_records program family sizes limit output) (instance_outcome program family sizes limit output) in
    unless_short output lent long
