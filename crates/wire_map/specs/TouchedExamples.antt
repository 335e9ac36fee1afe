-- Computed examples of the calls with a map.
use Rattle.std.specs.Prelude.{◌≡◌, refl, List, [], ◌∷◌, ◌++◌, Bool, true, false, ◌&&◌, ℕ, eqb}
use Rattle.std.proofs.Math.Option.{Option, none, some}
use Rattle.std.specs.Int.Count as N
use Rattle.language.specs.Calls.{computed, same_bytes, same_answer, field, lit, at, bit, h, cx, phase, cphase, reverse, qreg, creg, L, size, lent}
use Rattle.language.specs.Machine.{Record}
use Rattle.wire_map.specs.WireMap.{wires_named, among, bytes_from, ones_over}
use Rattle.wire_map.specs.WireMap as W
use Rattle.written_records.specs.Written.{run_records, instance_records}
use Rattle.written_records.specs.Written as R
use Rattle.wire_map.specs.Touching.{TouchedAnswer, TouchedConclusion, touched_finished, touched_stuck, run_touching, instance_touching}
use Rattle.wire_map.specs.Touching as T

-- a call with a map, and its expected answer
pub record TouchedExample : Type 0 where
  pub conclusion : TouchedConclusion
  pub expected : TouchedAnswer

unfoldable pub touches : TouchedConclusion → TouchedAnswer → Bool
touches (touched_finished a) b = same_answer a.run b.run && same_bytes a.map b.map && eqb a.wires b.wires
touches touched_stuck b = false

unfoldable pub all_touched : List TouchedExample → Bool
all_touched [] = true
all_touched (e ∷ es) = touches e.conclusion e.expected && all_touched es

-- 39, with output and map as lent
abbrev refused_map : TouchedConclusion → (output map : List ℕ) → TouchedExample
refused_map c output map = record {
  conclusion = c;
  expected = record { run = record { result = record { number = 39; place = 0; records = 0; steps = 0 }; output = output }; map = map; wires = 0 };
}

-- h 0, cx 0 1
bell : List ℕ
bell = qreg 2 ++ h (lit 0) ++ cx (lit 0) (lit 1)

-- a family with a family parameter
takes_family : List ℕ
takes_family = field 1 (0 ∷ 1 ∷ field 18 (0 ∷ 1 ∷ field 16 []))

-- 39 before 1, 2, 20, 21, 34, and where the list would be complete
short_maps : List TouchedExample
short_maps =
    refused_map (run_touching bell 100 (lent 24) (lent 8_191)) (lent 24) (lent 8_191)
    ∷ refused_map (run_touching (lent 65_536) 100 (lent 24) []) (lent 24) []
    ∷ refused_map (run_touching (9 ∷ []) 100 (lent 24) []) (lent 24) []
    ∷ refused_map (instance_touching L 1 (size 3) 100 (lent 24) (lent 8_191)) (lent 24) (lent 8_191)
    ∷ refused_map (instance_touching L 0 [] 100 (lent 24) (lent 1)) (lent 24) (lent 1)
    ∷ refused_map (instance_touching takes_family 0 [] 100 (lent 24) []) (lent 24) []
    ∷ []

-- the first three bytes of the map of a list, and how many bits of them are 1; a whole map takes seconds to compute
unfoldable pub begins : Option (List Record) → (wires : ℕ) → (bytes : List ℕ) → Bool
begins none wires bytes = false
begins (some list) wires bytes = let first = bytes_from (among (wires_named list)) 3 0 in same_bytes first bytes && eqb (ones_over first) wires

-- what is in the map
starts : Bool
starts =
    begins (run_records bell 100 (lent 24)) 2 (3 ∷ 0 ∷ 0 ∷ [])
    -- wires 7, 8 and 17, one of them named twice
    && begins (run_records (qreg 20 ++ h (lit 7) ++ cx (lit 17) (lit 8) ++ h (lit 7)) 100 (lent 36)) 3 (128 ∷ 1 ∷ 2 ∷ [])
    -- the bit of a measure, a condition's bit and unused fields name no wire
    && begins (run_records (qreg 2 ++ creg 8 ++ field 4 (at (lit 1) ++ bit (lit 7)) ++ field 6 (1 ∷ bit (lit 5) ++ h (lit 1))) 100 (lent 36)) 1 (2 ∷ 0 ∷ 0 ∷ [])
    -- a phase names one wire, a cphase and its inverse two; k names none
    && begins (run_records (qreg 20 ++ phase (lit 5) (at (lit 1)) ++ cphase (lit 6) (at (lit 2) ++ at (lit 9))) 100 (lent 24)) 3 (6 ∷ 2 ∷ 0 ∷ [])
    && begins (run_records (qreg 20 ++ reverse (phase (lit 5) (at (lit 1)) ++ cphase (lit 6) (at (lit 2) ++ at (lit 9)))) 100 (lent 24)) 3 (6 ∷ 2 ∷ 0 ∷ [])
    -- a reset
    && begins (run_records (qreg 20 ++ field 5 (at (lit 16))) 100 (lent 12)) 1 (0 ∷ 0 ∷ 1 ∷ [])
    -- what was written before 26 and 27
    && begins (instance_records L 0 (size 3) 6 (lent 36)) 2 (3 ∷ 0 ∷ 0 ∷ [])
    && begins (instance_records L 0 (size 3) 100 (lent 23)) 1 (1 ∷ 0 ∷ 0 ∷ [])
    -- nothing where the program, the family or the sizes are turned down
    && begins (run_records (bell ++ h (lit 2)) 100 (lent 36)) 0 (0 ∷ 0 ∷ 0 ∷ [])
    && begins (instance_records L 1 (size 3) 100 (lent 36)) 0 (0 ∷ 0 ∷ 0 ∷ [])
    && begins (instance_records L 0 [] 100 (lent 36)) 0 (0 ∷ 0 ∷ 0 ∷ [])
    && begins (instance_records takes_family 0 [] 100 (lent 36)) 0 (0 ∷ 0 ∷ 0 ∷ [])

-- opens the definitions of maps, so that examples compute
touching : Unit {0}
unfolding W.named_by W.wires_named W.among W.bit_for W.bits_from W.bytes_from W.touched_map W.ones_over R.records_of R.records_if R.run_records R.records_at R.instance_records T.map_into T.with_map T.unless_short T.run_touching T.instance_touching N.ones N.ones_in
touching = tt

short_hold : all_touched short_maps ≡ true
unfolding computed touching bell takes_family short_maps touches all_touched
short_hold = refl

starts_hold : starts ≡ true
unfolding computed touching bell takes_family starts begins
starts_hold = refl
