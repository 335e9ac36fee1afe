-- THE THEOREM for the calls with text: an accepted program's runs and instances are never stuck, and their answers are TextSound; an instance of a family with a family parameter gives 34.
use mathlib.Core.Path.{◌≡◌, refl, sym, ap, subst, ◌∙◌}
use mathlib.Core.Logic.{◌⊎◌, inl, inr}
use mathlib.Core.List.{List}
use mathlib.Core.Bool.{Bool, true, false, cond}
use mathlib.Core.Option.{Option, some}
use Prim.Native.Nat.{ℕ, zero, suc, ◌^◌, ◌≤◌, ◌<◌}
use native.Mathlib.Omega.{arith}
use lib.Dec.{leb}
use borrow.Author.Tests.{leb-true, leb-false}
use lib.ListN.{length, take, drop, length-append, length-drop}
use lib.Seq.{take-append_seam, drop-append_seam}
use Rattle.language.specs.Check.{Checked, good, refused}
use Rattle.language.specs.Machine.{Record}
use Rattle.language.specs.Result.{Answer, Conclusion, finished, check_program, verdict, check_result, run_outcome, instance_outcome}
use Rattle.language.specs.Lookup.{mapped}
use Rattle.language.specs.Sound.{qubits_declared, bits_declared, wires_laid_out, EndsWith, Sound, Finishes, takes_family}
use Rattle.qasm_text.specs.Text.{text_of, enough_for}
use Rattle.qasm_text.specs.TextResult.{TextAnswer, TextConclusion, text_finished, text_stuck, text_into, unprinted, fully_printed, printed, by_number, text_conclusion, run_records, instance_records, run_text, run_text_outcome, instance_text, instance_text_outcome}
use Rattle.qasm_text.specs.TextSound.{Listed, Complete, TextSound, TextFinishes, untouched_text, RunTextTheorem, InstanceTextTheorem}
use Rattle.qasm_text.specs.RecordsIn.{records_in}
use Rattle.language.proofs.Soundness.{run_sound, instance_sound, instance_passed, run_refused, instance_refused}
use Rattle.qasm_text.proofs.TextLength.{text_most, text_small}
use Rattle.qasm_text.proofs.TextBack.{text_injective}
use Rattle.qasm_text.proofs.CompleteRuns.{Came, run_came, instance_came}

-- ---- the buffer

pub into_size : (buffer text : List ℕ) → length text ≤ length buffer → length (text_into buffer text) ≡ length buffer
unfolding text_into
into_size buffer text h = omega (arith, length-append text (drop (length text) buffer), length-drop (length text) buffer)

into_text : (buffer text : List ℕ) → take (length text) (text_into buffer text) ≡ text
unfolding text_into
into_text buffer text = take-append_seam text (drop (length text) buffer)

into_rest : (buffer text : List ℕ) → drop (length text) (text_into buffer text) ≡ drop (length text) buffer
unfolding text_into
into_rest buffer text = drop-append_seam text (drop (length text) buffer)

-- ---- an answer printed

module _ (least limit q b : ℕ) (lent buffer : List ℕ) (run : Answer) (s : Sound least limit q b lent run) where
  end_number : (n : ℕ) → run.result.number ≡ suc n → (run.result.number ≡ 0) ⊎ EndsWith least run.result.number → EndsWith least (suc n)
  end_number n e (inl z) = absurd (omega arith)
  end_number n e (inr h) = subst (EndsWith least) e h

  other_sound : (came : Option (List Record)) (n : ℕ) → run.result.number ≡ suc n → TextSound least limit q b came (finished run) lent buffer (unprinted (suc n) run.result.place buffer run)
  unfolding unprinted
  other_sound came n e = record {
    run = run;
    is = refl;
    sound = s;
    records = refl;
    steps = refl;
    output = refl;
    number = inr (inr (end_number n e s.number));
    other = λ h. (sym e, refl);
    complete = λ z. absurd (omega arith);
    refused = λ h. (refl, refl);
    fits = omega arith;
    size = refl;
    rest = refl;
  }

  module _ (list : List Record) (l : Listed q b lent list run) (z : run.result.number ≡ 0) where
    enough_text : length (text_of q b list) ≤ enough_for b run.result.records
    enough_text = rw (← l.count) (text_most q b list s.few.0 s.few.1 l.named)

    small_text : length lent < 2 ^ 60 → length (text_of q b list) < 2 ^ 63
    small_text h = text_small q b list (length lent) s.few.0 s.few.1 l.named (omega (arith, l.count, s.fits)) h

    full_sound : length buffer < length (text_of q b list) → TextSound least limit q b (some list) (finished run) lent buffer (unprinted 30 0 buffer run)
    unfolding unprinted
    full_sound t = record {
      run = run;
      is = refl;
      sound = s;
      records = refl;
      steps = refl;
      output = refl;
      number = inr (inl refl);
      other = λ h. absurd (omega arith);
      complete = λ y. record {
        list = list;
        is = refl;
        listed = l;
        printed = λ h. absurd (omega arith);
        full = λ h. refl;
        place = refl;
        enough = enough_text;
        small = small_text;
      };
      refused = λ h. (refl, refl);
      fits = omega arith;
      size = refl;
      rest = refl;
    }

    printed_sound : length (text_of q b list) ≤ length buffer → TextSound least limit q b (some list) (finished run) lent buffer (fully_printed buffer (text_of q b list) run)
    unfolding fully_printed
    printed_sound t = record {
      run = run;
      is = refl;
      sound = s;
      records = refl;
      steps = refl;
      output = refl;
      number = inl refl;
      other = λ h. absurd (omega arith);
      complete = λ y. record {
        list = list;
        is = refl;
        listed = l;
        printed = λ h. (refl, refl, into_text buffer (text_of q b list));
        full = λ h. absurd (omega arith);
        place = refl;
        enough = enough_text;
        small = small_text;
      };
      refused = λ h. absurd (omega arith);
      fits = t;
      size = into_size buffer (text_of q b list) t;
      rest = into_rest buffer (text_of q b list);
    }

    done_sound : TextSound least limit q b (some list) (finished run) lent buffer (printed buffer (text_of q b list) run)
    unfolding printed
    done_sound = go (leb (length (text_of q b list)) (length buffer)) refl
      where
        go : (t : Bool) → leb (length (text_of q b list)) (length buffer) ≡ t → TextSound least limit q b (some list) (finished run) lent buffer (cond t (fully_printed buffer (text_of q b list) run) (unprinted 30 0 buffer run))
        go true t = printed_sound (leb-true (length (text_of q b list)) (length buffer) t)
        go false t = full_sound (leb-false (length (text_of q b list)) (length buffer) t)

-- ---- the calls

answer_finishes : (least limit q b : ℕ) (lent buffer : List ℕ) (run : Answer) → Sound least limit q b lent run → (n : ℕ) (came : Option (List Record)) → run.result.number ≡ n
    → (run.result.number ≡ 0 → Came q b lent came run) → TextFinishes least limit q b came (finished run) lent buffer (by_number n buffer (mapped (text_of q b) came) run)
unfolding by_number mapped
answer_finishes least limit q b lent buffer run s zero came e h =
    let c = h e in
    rw c.is (record { answer = _; is = refl; sound = done_sound least limit q b lent buffer run s c.list c.listed e })
answer_finishes least limit q b lent buffer run s (suc n) came e h = record { answer = _; is = refl; sound = other_sound least limit q b lent buffer run s came n e }

text_finishes : (least limit q b : ℕ) (came : Option (List Record)) (lent buffer : List ℕ) (c : Conclusion) → Finishes least limit q b lent c
    → ((a : Answer) → c ≡ finished a → a.result.number ≡ 0 → Came q b lent came a) → TextFinishes least limit q b came c lent buffer (text_conclusion c buffer (mapped (text_of q b) came))
unfolding text_conclusion
text_finishes least limit q b came lent buffer c f h =
    rw f.is (answer_finishes least limit q b lent buffer f.answer f.sound f.answer.result.number came refl (h f.answer f.is))

-- every whole run of an accepted program, at every limit, output and text buffer
pub run_text_sound : RunTextTheorem
unfolding run_text_outcome run_text
run_text_sound program limit output buffer e =
    text_finishes 24 limit (qubits_declared program) (bits_declared program) (run_records program limit output) output buffer (run_outcome program limit output)
    (run_sound program limit output e) (run_came program limit output)

-- every instance of an accepted program
pub instance_text_sound : InstanceTextTheorem
unfolding instance_text_outcome instance_text text_conclusion by_number unprinted
instance_text_sound program family sizes limit output buffer e =
    let h = instance_came program family sizes limit output in
    let i = instance_sound program family sizes limit output e in
    let q = wires_laid_out program family sizes in
    let came = instance_records program family sizes limit output in
    let c = instance_outcome program family sizes limit output in (
      λ u. text_finishes 20 limit q 0 came output buffer c (i.0 u) h,
      λ s. text_finishes 23 limit q 0 came output buffer c (i.1 s) h,
      λ u. rw (instance_passed program family sizes limit output e u),
    )

-- ---- different lists print differently

-- number 0 comes of a run with number 0 whose text fits
module _ {least limit q b : ℕ} {came : Option (List Record)} {called : Conclusion} {lent buffer : List ℕ} {a : TextAnswer} (x : TextSound least limit q b came called lent buffer a) (z : a.result.number ≡ 0) where
  run_done : x.run.result.number ≡ 0
  run_done = go x.run.result.number refl
    where
      go : (n : ℕ) → x.run.result.number ≡ n → x.run.result.number ≡ 0
      go zero e = e
      go (suc n) e = absurd (omega (arith, (x.other (omega arith)).0))

  pub list_printed : Complete q b came lent buffer x.run a
  list_printed = x.complete run_done

  printed_fits : length (text_of q b list_printed.list) ≤ length buffer
  printed_fits = go (leb (length (text_of q b list_printed.list)) (length buffer)) refl
    where
      go : (t : Bool) → leb (length (text_of q b list_printed.list)) (length buffer) ≡ t → length (text_of q b list_printed.list) ≤ length buffer
      go true t = leb-true (length (text_of q b list_printed.list)) (length buffer) t
      go false t = absurd (omega (arith, list_printed.full (leb-false (length (text_of q b list_printed.list)) (length buffer) t)))

  -- the buffer begins with the list's text
  pub text_printed : take a.result.length a.text ≡ text_of q b list_printed.list
  text_printed = (list_printed.printed printed_fits).2

-- equal texts printed over the same wires and bits are those of equal lists, and so of outputs with the same records
pub printed_injective : {least limit least' limit' q b : ℕ} {came came' : Option (List Record)} {called called' : Conclusion} {lent buffer lent' buffer' : List ℕ} {a a' : TextAnswer}
    → TextSound least limit q b came called lent buffer a → TextSound least' limit' q b came' called' lent' buffer' a' → a.result.number ≡ 0 → a'.result.number ≡ 0
    → take a.result.length a.text ≡ take a'.result.length a'.text → came ≡ came'
printed_injective {q = q} {b = b} x y z w e =
    (list_printed x z).is
    ∙ ap (λ (l : List Record). some l) (text_injective q b (list_printed x z).list (list_printed y w).list (sym (text_printed x z) ∙ e ∙ text_printed y w))
    ∙ sym (list_printed y w).is

-- ---- a program that is turned down

-- the check's number and place, nothing counted, output and buffer as lent
abbrev pub turned_down_text : (program output buffer : List ℕ) → TextAnswer
turned_down_text program output buffer = untouched_text (check_result program).number (check_result program).place output buffer

pub not_printed : (n : ℕ) (buffer : List ℕ) (text : Option (List ℕ)) (a : Answer) → 1 ≤ n → by_number n buffer text a ≡ text_finished (unprinted n a.result.place buffer a)
unfolding by_number
not_printed zero buffer text a h = absurd (omega arith)
not_printed (suc n) buffer text a h = refl

no_counts : {A : Type 0} (c : Checked A) → ((verdict c).records ≡ 0) × ((verdict c).steps ≡ 0)
unfolding verdict
no_counts (good a) = (refl, refl)
no_counts (refused n p) = (refl, refl)

refused_text : (program output buffer : List ℕ) (text : Option (List ℕ)) → 1 ≤ (check_result program).number
    → text_conclusion (finished (record { result = check_result program; output = output })) buffer text ≡ text_finished (turned_down_text program output buffer)
unfolding text_conclusion unprinted check_result
refused_text program output buffer text h =
    let c = no_counts (check_program program) in
    not_printed (check_result program).number buffer text _ h ∙ rw (c.0, c.1)

pub run_text_refused : (program : List ℕ) (limit : ℕ) (output buffer : List ℕ) → 1 ≤ (check_result program).number
    → run_text_outcome program limit output buffer ≡ text_finished (turned_down_text program output buffer)
unfolding run_text_outcome
run_text_refused program limit output buffer h = rw (run_refused program limit output h) (refused_text program output buffer (run_text program limit output) h)

pub instance_text_refused : (program : List ℕ) (family : ℕ) (sizes : List ℕ) (limit : ℕ) (output buffer : List ℕ) → 1 ≤ (check_result program).number
    → instance_text_outcome program family sizes limit output buffer ≡ text_finished (turned_down_text program output buffer)
unfolding instance_text_outcome
instance_text_refused program family sizes limit output buffer h =
    rw (instance_refused program family sizes limit output h) (refused_text program output buffer (instance_text program family sizes limit output) h)

-- ---- so no call is ever stuck, whatever the program

finished_not_stuck : (c : TextConclusion) (a : TextAnswer) → c ≡ text_finished a → c ≡ text_stuck → ⊥
finished_not_stuck c a e f = let z : ◌≡◌ {A = ℕ} 0 1 = cc in omega arith

pub run_text_never_stuck : (program : List ℕ) (limit : ℕ) (output buffer : List ℕ) → run_text_outcome program limit output buffer ≡ text_stuck → ⊥
run_text_never_stuck program limit output buffer e = go (check_result program).number refl
  where
    go : (n : ℕ) → (check_result program).number ≡ n → ⊥
    go zero c = finished_not_stuck _ _ (run_text_sound program limit output buffer c).is e
    go (suc n) c = finished_not_stuck _ _ (run_text_refused program limit output buffer (omega arith)) e

pub instance_text_never_stuck : (program : List ℕ) (family : ℕ) (sizes : List ℕ) (limit : ℕ) (output buffer : List ℕ) → instance_text_outcome program family sizes limit output buffer ≡ text_stuck → ⊥
instance_text_never_stuck program family sizes limit output buffer e = go (check_result program).number refl
  where
    go_zero : (t : Bool) → (check_result program).number ≡ 0 → takes_family program family ≡ t → ⊥
    go_zero false c u = finished_not_stuck _ _ ((instance_text_sound program family sizes limit output buffer c).0 u).is e
    go_zero true c u = finished_not_stuck _ _ ((instance_text_sound program family sizes limit output buffer c).2 u) e

    go : (n : ℕ) → (check_result program).number ≡ n → ⊥
    go zero c = go_zero (takes_family program family) c refl
    go (suc n) c = finished_not_stuck _ _ (instance_text_refused program family sizes limit output buffer (omega arith)) e

-- ---- as code has it: the run's answer, and the list read from its output

by_bytes : (q b n : ℕ) (came : Option (List Record)) (lent buffer : List ℕ) (a : Answer) → a.result.number ≡ n → (a.result.number ≡ 0 → Came q b lent came a)
    → by_number n buffer (mapped (text_of q b) came) a ≡ by_number n buffer (mapped (text_of q b) (records_in a.result.records a.output)) a
unfolding by_number
by_bytes q b zero came lent buffer a e h = let c = h e in rw (c.is, c.listed.read)
by_bytes q b (suc n) came lent buffer a e h = refl

-- the text call's answer from the run call's, for every program
pub run_text_by : (program : List ℕ) (limit : ℕ) (output buffer : List ℕ) (a : Answer) → run_outcome program limit output ≡ finished a
    → run_text_outcome program limit output buffer
    ≡ by_number a.result.number buffer (mapped (text_of (qubits_declared program) (bits_declared program)) (records_in a.result.records a.output)) a
unfolding run_text_outcome run_text text_conclusion
run_text_by program limit output buffer a e =
    rw e (by_bytes (qubits_declared program) (bits_declared program) a.result.number (run_records program limit output) output buffer a refl (run_came program limit output a e))

pub instance_text_by : (program : List ℕ) (family : ℕ) (sizes : List ℕ) (limit : ℕ) (output buffer : List ℕ) (a : Answer) → instance_outcome program family sizes limit output ≡ finished a
    → instance_text_outcome program family sizes limit output buffer
    ≡ by_number a.result.number buffer (mapped (text_of (wires_laid_out program family sizes) 0) (records_in a.result.records a.output)) a
unfolding instance_text_outcome instance_text text_conclusion
instance_text_by program family sizes limit output buffer a e =
    rw e (by_bytes (wires_laid_out program family sizes) 0 a.result.number (instance_records program family sizes limit output) output buffer a refl (instance_came program family sizes limit output a e))
