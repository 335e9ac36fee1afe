-- The records in an output are those written there.
use mathlib.Core.Path.{◌≡◌, refl}
use mathlib.Core.List.{List, [], ◌∷◌, ◌++◌, append_assoc}
use mathlib.Core.Bool.{true}
use mathlib.Core.Option.{some}
use Prim.Native.Nat.{ℕ, zero, suc, ◌*◌, ◌/◌, ◌%◌}
use native.Mathlib.Omega.{arith}
use lib.Dec.{leb}
use lib.ListN.{length, drop, length-append}
use borrow.Author.Tests.{le-leb}
use lib.Seq.{drop_at}
use Rattle.language.specs.Limits.{record_size}
use Rattle.language.specs.Read.{two_bytes, choose}
use Rattle.language.specs.Machine.{forward, backward, Condition, always, when_bit, Action, do_h, do_t, do_tdg, do_reset, do_cx, do_measure, do_phase, do_cphase, Record}
use Rattle.language.specs.Lookup.{mapped, followed}
use Rattle.language.specs.Result.{Answer, bytes_of, condition_byte, condition_bit, op, first_number, second_number, halvings_of, record_bytes, output_bytes, written_into}
use Rattle.language.specs.Sound.{NamesBit, AllName, Sound}
use Rattle.qasm_text.specs.RecordsIn.{action_of, condition_of, record_at, records_in}
use Rattle.language.proofs.Output.{record_size_lem}

two_bytes_lem : (n : ℕ) → two_bytes (n % 256) (n / 256) ≡ n
two_bytes_lem n = omega arith

action_back : (a : Action) → action_of (op a) (first_number a) (second_number a) (halvings_of a) ≡ some a
unfolding action_of choose op first_number second_number halvings_of
action_back (do_h w) = refl
action_back (do_t w) = refl
action_back (do_tdg w) = refl
action_back (do_reset w) = refl
action_back (do_cx x y) = refl
action_back (do_measure w b) = refl
action_back (do_phase forward k w) = refl
action_back (do_phase backward k w) = refl
action_back (do_cphase forward k x y) = refl
action_back (do_cphase backward k x y) = refl

condition_back : (b : ℕ) (c : Condition) → NamesBit b c → condition_of (condition_byte c) (condition_bit c) ≡ some c
unfolding condition_of choose condition_byte condition_bit
condition_back b always n = refl
condition_back b (when_bit x zero) n = refl
condition_back b (when_bit x (suc zero)) n = refl
condition_back b (when_bit x (suc (suc v))) n = absurd (omega arith)

record_back : (b : ℕ) (r : Record) (rest : List ℕ) → NamesBit b r.condition → record_at (record_bytes r ++ rest) 0 ≡ some r
unfolding record_at record_bytes bytes_of mapped followed
record_back b r rest n =
    rw (two_bytes_lem (first_number r.action), two_bytes_lem (second_number r.action), two_bytes_lem (condition_bit r.condition), two_bytes_lem (halvings_of r.action), action_back r.action, condition_back b r.condition n)

long_enough : (r : Record) (rest : List ℕ) → leb record_size (length (record_bytes r ++ rest)) ≡ true
long_enough r rest = le-leb record_size (length (record_bytes r ++ rest)) (omega (arith, length-append (record_bytes r) rest, record_size_lem r))

records_back : (q b : ℕ) (rs : List Record) (rest : List ℕ) → AllName q b rs → records_in (length rs) (output_bytes rs ++ rest) ≡ some rs
unfolding records_in output_bytes mapped followed
records_back q b [] rest n = refl
records_back q b (r ∷ rs) rest n =
    rw (append_assoc (record_bytes r) (output_bytes rs) rest, drop_at (record_bytes r) (output_bytes rs ++ rest) record_size (record_size_lem r), long_enough r (output_bytes rs ++ rest), record_back b r (output_bytes rs ++ rest) n.1, records_back q b rs rest n.2)

-- a list that names only what is laid out is the records in its output
pub records_written : (q b : ℕ) (lent : List ℕ) (rs : List Record) → AllName q b rs → records_in (length rs) (written_into lent rs) ≡ some rs
unfolding written_into
records_written q b lent rs n = records_back q b rs (drop (record_size * length rs) lent) n

-- so is that behind a sound answer
pub sound_read : {least limit q b : ℕ} {lent : List ℕ} {a : Answer} (s : Sound least limit q b lent a) → records_in a.result.records a.output ≡ some s.written
sound_read {q = q} {b = b} {lent = lent} s = rw (← s.count, s.output) (records_written q b lent s.written s.named)
