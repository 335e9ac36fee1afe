-- Computed examples of records read back from bytes, and of the lists that calls write.
use Rattle.std.specs.Prelude.{◌≡◌, refl, List, [], ◌∷◌, ◌++◌, ℕ, take}
use Rattle.std.proofs.Math.Option.{none, some}
use Rattle.language.specs.Calls.{computed, lit, h, cx, qreg, creg, L, size, lent, one, two}
use Rattle.language.specs.Machine.{Record, do_h, do_cx, do_measure, always, when_bit}
use Rattle.language.specs.Lookup as K
use Rattle.written_records.specs.RecordsIn as R
use Rattle.written_records.specs.Written.{run_records, instance_records}
use Rattle.written_records.specs.Written as W

-- ---- records read back

-- opens the definitions that read
reading : Unit {0}
unfolding computed R.action_of R.condition_of R.record_at R.records_in K.mapped K.followed
reading = tt

-- a measure and a conditioned gate
read_back : R.records_in 2 (two 5 10 1 ++ (1 ∷ 2 ∷ 2 ∷ 0 ∷ 0 ∷ 0 ∷ 1 ∷ 0 ∷ 0 ∷ 0 ∷ 0 ∷ 0 ∷ [])) ≡ some (record { action = do_measure (record { number = 10 }) (record { number = 1 }); condition = always } ∷ record { action = do_h (record { number = 2 }); condition = when_bit (record { number = 1 }) 1 } ∷ [])
unfolding reading
read_back = refl

-- the bytes of a record whose op or condition there is not say nothing, whatever stands before them, and neither do eleven bytes
no_record : (R.records_in 1 (one 0 0) ≡ none) × (R.records_in 1 (one 11 0) ≡ none) × (R.records_in 1 (1 ∷ 3 ∷ lent 10) ≡ none) × (R.records_in 2 (one 6 0 ++ one 0 0) ≡ none) × (R.records_in 1 (take 11 (one 6 0)) ≡ none)
unfolding reading
no_record = (refl, refl, refl, refl, refl)

-- ---- lists that calls write

-- h on a wire
abbrev an_h : ℕ → Record
an_h w = record { action = do_h (record { number = w }); condition = always }

-- h 0, cx 0 1
bell : List ℕ
bell = qreg 2 ++ h (lit 0) ++ cx (lit 0) (lit 1)

-- opens the definitions of lists
listing : Unit {0}
unfolding computed W.records_of W.records_if W.run_records W.records_at W.instance_records
listing = tt

-- complete, and where the steps or the output end
whole_lists : (run_records bell 9 (lent 24) ≡ some (an_h 0 ∷ record { action = do_cx (record { number = 0 }) (record { number = 1 }); condition = always } ∷ [])) × (run_records bell 1 (lent 24) ≡ some (an_h 0 ∷ []))
    × (run_records bell 9 (lent 23) ≡ some (an_h 0 ∷ [])) × (instance_records L 0 (size 2) 9 (lent 24) ≡ some (an_h 0 ∷ an_h 1 ∷ []))
unfolding listing bell
whole_lists = (refl, refl, refl, refl)

-- no record of a call that is turned down: for the program, the family, or the sizes
no_lists : (run_records (bell ++ creg 1 ++ h (lit 2)) 9 (lent 24) ≡ some []) × (instance_records L 1 (size 2) 9 (lent 24) ≡ some []) × (instance_records L 0 [] 9 (lent 24) ≡ some [])
    × (instance_records L 0 (0 ∷ 0 ∷ 1 ∷ 0 ∷ []) 9 (lent 24) ≡ some [])
unfolding listing bell
no_lists = (refl, refl, refl, refl)
