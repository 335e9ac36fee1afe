-- Computed examples of the calls with text.
use Rattle.std.specs.Prelude.{◌≡◌, refl, List, [], ◌∷◌, ◌++◌, Bool, true, false, ◌&&◌, ℕ, eqb, length, take}
use Rattle.std.proofs.Math.Option.{none, some}
use Rattle.text_bytes.specs.Decimal.{ascii}
use Rattle.qasm_text.specs.TextResult.{TextAnswer, TextConclusion, text_finished, text_stuck, run_text_outcome, instance_text_outcome}
use Rattle.language.specs.Calls.{computed, same_bytes, field, lit, at, bit, h, t, cx, phase, cphase, reverse, qreg, creg, L, size, lent, row, one, two}
use Rattle.language.specs.Machine.{backward, do_h, do_measure, do_cphase, always, when_bit}
use Rattle.language.specs.Sound as S
use Rattle.language.specs.Lookup as K
use Rattle.text_bytes.specs.Decimal as D
use Rattle.qasm_text.specs.Text as T
use Rattle.qasm_text.specs.RecordsIn as R
use Rattle.qasm_text.specs.TextResult as X

-- what every text begins with
abbrev opening : List ℕ
opening = ascii "OPENQASM 2.0;\ninclude \"qelib1.inc\";\n"

pub record TextExample : Type 0 where
  pub conclusion : TextConclusion
  pub expected : TextAnswer

unfoldable pub same_text : TextAnswer → TextAnswer → Bool
same_text a b =
    eqb a.result.number b.result.number && eqb a.result.place b.result.place && eqb a.result.records b.result.records
    && eqb a.result.steps b.result.steps && eqb a.result.length b.result.length && same_bytes a.output b.output && same_bytes a.text b.text

unfoldable pub tells : TextConclusion → TextAnswer → Bool
tells (text_finished a) b = same_text a b
tells text_stuck b = false

unfoldable pub all_told : List TextExample → Bool
all_told [] = true
all_told (e ∷ es) = tells e.conclusion e.expected && all_told es

abbrev prints : TextConclusion → (number place records steps length : ℕ) → (output text : List ℕ) → TextExample
prints c number place records steps length output text = record
    { conclusion = c; expected = record { result = record { number = number; place = place; records = records; steps = steps; length = length }; output = output; text = text } }

-- h 0, cx 0 1
bell : List ℕ
bell = qreg 2 ++ h (lit 0) ++ cx (lit 0) (lit 1)

bell_text : List ℕ
bell_text = opening ++ ascii "qreg q[2];\nh q[0];\ncx q[0],q[1];\n"

bell_records : List ℕ
bell_records = one 1 0 ++ two 4 0 1

-- a measure, two conditioned gates and a reset, with two bits
measuring : List ℕ
measuring =
    qreg 11 ++ creg 2 ++ field 4 (at (lit 10) ++ bit (lit 1)) ++ field 6 (1 ∷ bit (lit 1) ++ h (lit 2)) ++ field 6 (0 ∷ bit (lit 0) ++ reverse (t (lit 0)))
    ++ field 5 (at (lit 0))

measuring_text : List ℕ
measuring_text =
    opening ++ ascii "qreg q[11];\ncreg c0[1];\ncreg c1[1];\n"
    ++ ascii "measure q[10] -> c1[0];\nif(c1==1) h q[2];\nif(c0==0) tdg q[0];\nreset q[0];\n"

measuring_records : List ℕ
measuring_records = two 5 10 1 ++ (1 ∷ 2 ∷ 2 ∷ 0 ∷ 0 ∷ 0 ∷ 1 ∷ 0 ∷ 0 ∷ 0 ∷ 0 ∷ 0 ∷ []) ++ (3 ∷ 1 ∷ 0 ∷ 0 ∷ 0 ∷ 0 ∷ 0 ∷ 0 ∷ 0 ∷ 0 ∷ 0 ∷ 0 ∷ []) ++ one 6 0

-- phases and their inverses: the least k, 3, and the largest
turning : List ℕ
turning =
    qreg 2 ++ phase (lit 0) (at (lit 0)) ++ reverse (phase (lit 3) (at (lit 1)) ++ cphase (lit 3) (at (lit 0) ++ at (lit 1)))
    ++ cphase (lit 63) (at (lit 1) ++ at (lit 0))

turning_text : List ℕ
turning_text =
    opening ++ ascii "qreg q[2];\nu1(2*pi/1) q[0];\ncu1(-2*pi/8) q[0],q[1];\nu1(-2*pi/8) q[1];\n"
    ++ ascii "cu1(2*pi/9223372036854775808) q[1],q[0];\n"

turning_records : List ℕ
turning_records = row 7 0 0 0 ++ row 10 0 1 3 ++ row 8 1 0 3 ++ row 9 1 0 63

text_examples : List TextExample
text_examples =
    -- into far more than the text takes, exactly as much, and one byte less
    prints (run_text_outcome bell 1_000_000 (lent 28) (lent 100)) 0 0 2 2 69 (bell_records ++ lent 4) (bell_text ++ lent 31)
    ∷ prints (run_text_outcome bell 1_000_000 (lent 24) (lent 69)) 0 0 2 2 69 bell_records bell_text
    ∷ prints (run_text_outcome bell 1_000_000 (lent 28) (lent 68)) 30 0 2 2 0 (bell_records ++ lent 4) (lent 68)
    ∷ prints (run_text_outcome measuring 100 (lent 48) (lent 150)) 0 0 4 7 146 measuring_records (measuring_text ++ lent 4)
    ∷ prints (run_text_outcome measuring 100 (lent 48) (lent 145)) 30 0 4 7 0 measuring_records (lent 145)
    ∷ prints (run_text_outcome turning 100 (lent 49) (lent 150)) 0 0 4 5 147 (turning_records ++ lent 1) (turning_text ++ lent 3)
    -- no wires: no qreg line
    ∷ prints (run_text_outcome [] 0 [] (lent 40)) 0 0 0 0 36 [] (opening ++ lent 4)
    ∷ prints (run_text_outcome (qreg 0 ++ creg 3) 0 [] (lent 72)) 0 0 0 0 72 [] (opening ++ ascii "creg c0[1];\ncreg c1[1];\ncreg c2[1];\n")
    ∷ prints (instance_text_outcome L 0 (size 0) 100 [] (lent 37)) 0 0 0 1 36 [] (opening ++ lent 1)
    -- an instance: its wires, and no bits
    ∷ prints (instance_text_outcome L 0 (size 3) 100 (lent 36) (lent 71)) 0 0 3 7 71 (one 1 0 ++ one 1 1 ++ one 1 2) (opening ++ ascii "qreg q[3];\nh q[0];\nh q[1];\nh q[2];\n")
    -- the run's own refusals come before 30
    ∷ prints (run_text_outcome bell 1 (lent 24) []) 26 17 1 1 0 (one 1 0 ++ lent 12) []
    ∷ prints (run_text_outcome bell 100 (lent 23) (lent 3)) 27 17 1 2 0 (one 1 0 ++ lent 11) (lent 3)
    ∷ prints (run_text_outcome (qreg 1 ++ phase (lit 64) (at (lit 0))) 100 (lent 12) (lent 3)) 32 5 0 1 0 (lent 12) (lent 3)
    ∷ prints (run_text_outcome (creg 1 ++ h (lit 0)) 100 (lent 8) (lent 3)) 9 8 0 0 0 (lent 8) (lent 3)
    ∷ prints (instance_text_outcome L 1 (size 3) 100 (lent 8) (lent 3)) 20 0 0 0 0 (lent 8) (lent 3)
    ∷ prints (instance_text_outcome (field 1 (0 ∷ 1 ∷ field 18 (0 ∷ 1 ∷ field 16 []))) 0 (size 3) 100 (lent 8) (lent 3)) 34 0 0 0 0 (lent 8) (lent 3)
    ∷ []

-- opens the definitions of texts, so that examples compute
printing : Unit {0}
unfolding D.ascii D.digits D.decimal T.wire_text T.bit_text T.angle_text T.action_text T.condition_text T.line T.lines T.qreg_line T.creg_line T.creg_lines T.header T.text_of X.text_into X.unprinted X.fully_printed X.printed X.by_number X.text_conclusion X.records_of X.run_records X.records_at X.instance_records X.run_text X.run_text_outcome X.instance_text X.instance_text_outcome S.qubits_of S.bits_of S.qubits_in S.bits_in S.wires_in S.wires_laid S.wires_of K.mapped K.declares K.counted K.family_in
printing = tt

examples_hold : all_told text_examples ≡ true
unfolding computed printing bell bell_text bell_records measuring measuring_text measuring_records turning turning_text turning_records text_examples same_text tells all_told
examples_hold = refl

-- the longest line, `if(c65534==1) cu1(-2*pi/9223372036854775808) q[65534],q[65533];` and a line feed, takes all that `enough_for` has for a record
longest : length (T.line (record { action = do_cphase backward 63 (record { number = 65_534 }) (record { number = 65_533 }); condition = when_bit (record { number = 65_534 }) 1 })) ≡ 64
unfolding printing
longest = refl

-- ---- records read back

-- opens the definitions that read
reading : Unit {0}
unfolding computed R.action_of R.condition_of R.record_at R.records_in K.mapped K.followed
reading = tt

-- a measure and a conditioned gate
read_back : R.records_in 2 measuring_records ≡ some (record { action = do_measure (record { number = 10 }) (record { number = 1 }); condition = always } ∷ record { action = do_h (record { number = 2 }); condition = when_bit (record { number = 1 }) 1 } ∷ [])
unfolding reading measuring_records
read_back = refl

-- the bytes of a record whose op or condition there is not say nothing, whatever stands before them, and neither do eleven bytes
no_record : (R.records_in 1 (one 0 0) ≡ none) × (R.records_in 1 (one 11 0) ≡ none) × (R.records_in 1 (1 ∷ 3 ∷ lent 10) ≡ none) × (R.records_in 2 (one 6 0 ++ one 0 0) ≡ none) × (R.records_in 1 (take 11 (one 6 0)) ≡ none)
unfolding reading
no_record = (refl, refl, refl, refl, refl)
