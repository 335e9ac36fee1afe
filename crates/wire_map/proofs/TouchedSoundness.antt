-- THE THEOREM for the calls with a map: no call is ever stuck; a map that is too short gives 39; any other has the wires of the list that is written, and the answer for
-- an accepted program reports the machine.
use mathlib.Core.Path.{◌≡◌, refl, sym, ap, subst, ◌∙◌}
use mathlib.Core.List.{List, [], ◌∷◌}
use mathlib.Core.Bool.{Bool, true, false}
use mathlib.Core.Option.{Option}
use Prim.Native.Nat.{ℕ, ◌≤◌, ◌<◌}
use native.Mathlib.Omega.{arith}
use lib.Dec.{leb}
use borrow.Author.Tests.{le-leb, lt-leb, leb-true, leb-false}
use lib.ListN.{length, drop, length-append, length-drop}
use lib.Seq.{take_at, drop_at}
use Rattle.language.specs.Read.{read}
use Rattle.language.specs.Machine.{Record, run_program}
use Rattle.language.specs.Result.{Answer, Conclusion, finished, got_stuck, turned_down, untouched, check_result, run_outcome, instance_outcome}
use Rattle.language.specs.Sound.{qubits_declared, bits_declared, wires_laid_out, AllName, Sound, Finishes, takes_family}
use Rattle.language.specs.Theorem.{Reports, InstanceAnswers}
use Rattle.language.proofs.Theorem.{run_theorem, instance_theorem}
use Rattle.language.proofs.Soundness.{run_sound, instance_sound, instance_passed, run_never_stuck, instance_never_stuck}
use Rattle.written_records.specs.AnyBytes.{records_from}
use Rattle.written_records.specs.Written.{run_records, instance_records, Wrote, Writes}
use Rattle.written_records.proofs.Written.{run_writes, instance_writes, Came, came_to, wrote_from, sound_listed}
use Rattle.wire_map.specs.WireMap.{map_size, wires_named, among, touched_map, ones_over}
use Rattle.wire_map.specs.Touching.{TouchedAnswer, TouchedConclusion, touched_finished, map_into, filled_map, with_map, too_short, unless_short, run_touching, instance_touching}
use Rattle.wire_map.specs.TouchedSound.{Filled, LaidOut, SoundTouched, TouchedFinishes, RunTouchedTheorem, InstanceTouchedTheorem}
use Rattle.wire_map.proofs.WireMaps.{some_names, named_below, map_length, map_bit, bit_is, bit_low, map_ones, map_few}

-- ---- a map that is filled

map_filled : (lent : List ℕ) (list : List Record) (a : Answer) → map_size ≤ length lent → Filled list lent (filled_map lent list a)
unfolding map_into
map_filled lent list a h = record {
  size = length-append (touched_map list) (drop map_size lent) ∙ omega (arith, map_length list, length-drop map_size lent);
  rest = drop_at (touched_map list) (drop map_size lent) map_size (map_length list);
  bits = λ w l. let e = map_bit list (drop map_size lent) w l in (λ x. (some_names w list).0 ((bit_is (among (wires_named list) w)).0 (sym e ∙ x)), λ x. e ∙ (bit_is (among (wires_named list) w)).1 ((some_names w list).1 x));
  binary = λ w l. omega (arith, map_bit list (drop map_size lent) w l, bit_low (among (wires_named list) w));
  ones = ap ones_over (sym (take_at (touched_map list) (drop map_size lent) map_size (map_length list)));
  number = map_ones list;
}

-- the wires of a list that names only what is laid out
map_laid : (q b : ℕ) (lent : List ℕ) (list : List Record) (a : Answer) → map_size ≤ length lent → AllName q b list → LaidOut q (filled_map lent list a)
map_laid q b lent list a h n = record { below = λ w l e. named_below q b list n w (((map_filled lent list a h).bits w l).0 e); few = map_few q b list n }

-- ---- what a call with a map comes to

-- a conclusion that is not stuck is an answer
record Finished (c : Conclusion) : Type 0 where
  answer : Answer
  is : c ≡ finished answer

finishes : (c : Conclusion) → (c ≡ got_stuck → ⊥) → Finished c
finishes (finished a) h = record { answer = a; is = refl }
finishes got_stuck h = absurd (h refl)

-- a call that comes to c without a map, and writes what came
module _ (lent lent_map : List ℕ) (came : Option (List Record)) (c : Conclusion) (w : Writes lent came c) where
  abbrev called : TouchedConclusion
  called = unless_short lent lent_map (with_map lent_map came c)

  -- 39, and nothing is written
  pub map_short : length lent_map < map_size → called ≡ touched_finished (too_short lent lent_map)
  unfolding unless_short
  map_short h = rw (lt-leb map_size (length lent_map) h)

  -- the answer is the one without a map, and the map is filled from the list behind it
  map_long : {a : Answer} (r : Came lent came a) → c ≡ finished a → map_size ≤ length lent_map → called ≡ touched_finished (filled_map lent_map r.list a)
  unfolding unless_short with_map
  map_long r e h = rw (le-leb map_size (length lent_map) h, e, r.is)

  -- which can be read from the answer's bytes
  pub map_read : (a : Answer) → c ≡ finished a → map_size ≤ length lent_map → called ≡ touched_finished (filled_map lent_map (records_from a.result.records a.output) a)
  map_read a e h =
      let r = came_to came e w in
      map_long r e h ∙ ap (λ (list : List Record). touched_finished (filled_map lent_map list a)) (sym (wrote_from r.wrote))

  -- what is said of it, from what holds of the answer and of its list for an accepted program
  module _ (program : List ℕ) (q b : ℕ) (Said : Conclusion → Type 0) (never : c ≡ got_stuck → ⊥) (said : (check_result program).number ≡ 0 → Said c)
      (named : (check_result program).number ≡ 0 → (a : Answer) → c ≡ finished a → (list : List Record) → Wrote lent list a → AllName q b list) where
    long_sound : (a : Answer) → c ≡ finished a → map_size ≤ length lent_map → (r : Came lent came a) → SoundTouched program came q Said lent lent_map (filled_map lent_map r.list a)
    long_sound a e h r = record {
      short = λ l. absurd (omega arith);
      touched = λ l. record { list = r.list; is = r.is; wrote = r.wrote; filled = map_filled lent_map r.list a h };
      said = λ l z. subst Said e (said z);
      laid = λ l z. map_laid q b lent_map r.list a h (named z a e r.list r.wrote);
    }

    touched_finishes : TouchedFinishes (SoundTouched program came q Said lent lent_map) called
    touched_finishes = go (leb map_size (length lent_map)) refl
      where
        go : (t : Bool) → leb map_size (length lent_map) ≡ t → TouchedFinishes (SoundTouched program came q Said lent lent_map) called
        go true t =
            let h = leb-true map_size (length lent_map) t in
            let f = finishes c never in
            let r = came_to came f.is w in
            record { answer = _; is = map_long r f.is h; sound = long_sound f.answer f.is h r }
        go false t =
            let h = leb-false map_size (length lent_map) t in record {
              answer = _;
              is = map_short h;
              sound = record { short = λ l. refl; touched = λ l. absurd (omega arith); said = λ l. absurd (omega arith); laid = λ l. absurd (omega arith) };
            }

-- an answer that a call comes to, and what is said of it
pub sound_of : {Says : TouchedAnswer → Type 0} {c : TouchedConclusion} {a : TouchedAnswer} → TouchedFinishes Says c → c ≡ touched_finished a → Says a
sound_of {Says} {c} {a} f e =
    let i : f.answer ≡ a = cc (f.is, e) in
    subst Says i f.sound

-- the list of a call that finishes soundly
finished_named : {least limit q b : ℕ} {lent : List ℕ} {c : Conclusion} → Finishes least limit q b lent c → (a : Answer) → c ≡ finished a → (list : List Record) → Wrote lent list a → AllName q b list
finished_named {least} {limit} {q} {b} {lent} f a e list w =
    let i : f.answer ≡ a = cc (f.is, e) in
    (sound_listed (subst (Sound least limit q b lent) i f.sound) w).named

-- ---- whole runs

pub run_touched_sound : RunTouchedTheorem
unfolding run_touching
run_touched_sound program limit lent lent_map =
    touched_finishes lent lent_map (run_records program limit lent) (run_outcome program limit lent) (run_writes program limit lent) program (qubits_declared program) (bits_declared program)
    (Reports 24 limit (qubits_declared program) (bits_declared program) lent (run_program limit (length lent) (read program))) (run_never_stuck program limit lent) (run_theorem program limit lent)
    (λ z. finished_named (run_sound program limit lent z))

-- ---- instances

-- an answer that is turned down holds no record
none_named : (q b n : ℕ) (lent : List ℕ) (a : Answer) → finished a ≡ untouched lent n 0 → (list : List Record) → Wrote lent list a → AllName q b list
none_named q b n lent a i [] w = tt
none_named q b n lent a i (r ∷ rs) w =
    let e : a ≡ record { result = turned_down n 0; output = lent } = cc in
    absurd (omega (arith, w.count, ap (λ (x : Answer). x.result.records) e))

pub instance_touched_sound : InstanceTouchedTheorem
unfolding instance_touching
instance_touched_sound program family sizes limit lent lent_map =
    touched_finishes lent lent_map (instance_records program family sizes limit lent) (instance_outcome program family sizes limit lent) (instance_writes program family sizes limit lent) program
    (wires_laid_out program family sizes) 0 (InstanceAnswers program family sizes limit lent) (instance_never_stuck program family sizes limit lent) (instance_theorem program family sizes limit lent)
    (λ z. go z (takes_family program family) refl)
  where
    go : (check_result program).number ≡ 0 → (t : Bool) → takes_family program family ≡ t
        → (a : Answer) → instance_outcome program family sizes limit lent ≡ finished a → (list : List Record) → Wrote lent list a → AllName (wires_laid_out program family sizes) 0 list
    go z false u = finished_named ((instance_sound program family sizes limit lent z).0 u)
    go z true u = λ a e. none_named (wires_laid_out program family sizes) 0 34 lent a (sym e ∙ instance_passed program family sizes limit lent z u)
