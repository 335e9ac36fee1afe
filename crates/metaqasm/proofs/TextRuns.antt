-- The calls that print, from the calls behind them: what they answer. Assumes nothing.
use Prim.Native.Nat.{ℕ, zero, suc, ◌*◌, ◌≤◌}
use native.Mathlib.Omega.{arith}
use mathlib.Core.Path.{◌≡◌, refl, sym, ap, ◌∙◌, subst}
use mathlib.Core.List.{List}
use mathlib.Core.Bool.{Bool, true, false}
use mathlib.Core.Option.{Option, none, some}
use borrow.Author.Tests.{le-leb, lt-leb, leb-true}
use lib.Dec.{leb}
use lib.ListN.{length}
use Rattle.language.specs.Limits.{record_size}
use Rattle.language.specs.Result.{Answer as Reply, Conclusion, finished, run_outcome, instance_outcome}
use Rattle.language.specs.Lookup.{mapped}
use Rattle.language.specs.Sound.{qubits_declared, bits_declared, wires_laid_out, Sound}
use Rattle.language.proofs.Theorem.{run_theorem, instance_theorem}
use Rattle.language.specs.Machine.{Record}
use Rattle.qasm_text.specs.Text.{text_of}
use Rattle.qasm_text.specs.RecordsIn.{records_in}
use Rattle.qasm_text.specs.TextResult.{TextResult, TextAnswer, TextConclusion, text_finished, without_text, unprinted, fully_printed, printed, by_number, run_text_outcome, instance_text_outcome}
use Rattle.qasm_text.specs.TextSound.{TextSound, TextFinishes}
use Rattle.qasm_text.proofs.RecordsBack.{sound_read}
use Rattle.qasm_text.proofs.TextSoundness.{not_printed, into_size, run_text_sound, instance_text_sound, run_text_by, instance_text_by}
use Rattle.std.specs.Prelude.{Option as Answered, Some, None}
use Rattle.qasm_print.specs.Prints.{Prints}
use Rattle.metaqasm.specs.TextAnswers.{SoundRunText, SoundInstanceText}

-- ---- what printing leaves, as an answer

module _ (before text after : List ℕ) (a : Reply) (r : Answered ℕ) (p : Prints before text after r) where
  pub printed_not : r ≡ None → record { result = without_text 30 0 a.result; output = a.output; text = after } ≡ printed before text a
  unfolding printed unprinted
  printed_not e =
      let h = subst (Prints before text after) e p in
      rw (lt-leb (length text) (length before) h.0, h.1)

  pub printed_fully : (n : ℕ) → r ≡ Some n
      → record { result = record { number = 0; place = 0; records = a.result.records; steps = a.result.steps; length = n }; output = a.output; text = after } ≡ printed before text a
  unfolding printed fully_printed
  printed_fully n e =
      let h = subst (Prints before text after) e p in
      rw (le-leb (length text) (length before) h.1, h.0, h.2)

-- ---- by the run's number

pub by_other : (a : Reply) (x : TextResult) (buffer : List ℕ) (text : Option (List ℕ)) → (a.result.number ≡ 0 → ⊥) → x ≡ without_text a.result.number a.result.place a.result
    → text_finished (record { result = x; output = a.output; text = buffer }) ≡ by_number a.result.number buffer text a
unfolding unprinted
by_other a x buffer text h e =
    ap (λ (y : TextResult). text_finished (record { result = y; output = a.output; text = buffer })) e ∙ sym (not_printed a.result.number buffer text a (omega (arith, h)))

-- the list of a sound answer is there to be read
pub by_done : {least limit q b : ℕ} {lent : List ℕ} (a : Reply) (buffer : List ℕ) (x : TextAnswer) → Sound least limit q b lent a → a.result.number ≡ 0
    → ((rs : List Record) → records_in a.result.records a.output ≡ some rs → x ≡ printed buffer (text_of q b rs) a)
    → text_finished x ≡ by_number a.result.number buffer (mapped (text_of q b) (records_in a.result.records a.output)) a
unfolding by_number mapped
by_done {q = q} {b = b} a buffer x s z p =
    rw (sound_read s) (ap text_finished (p s.written (sound_read s)) ∙ ap (λ (n : ℕ). by_number n buffer (some (text_of q b s.written)) a) (sym z))

-- the counts are the run's, and the text is no longer than its buffer
pub record Kept (a : Reply) (b : TextAnswer) : Type 0 where
  pub records : b.result.records ≡ a.result.records
  pub steps : b.result.steps ≡ a.result.steps
  pub output : b.output ≡ a.output
  pub fits : b.result.length ≤ length b.text

printed_keeps : (buffer text : List ℕ) (a : Reply) → Kept a (printed buffer text a)
unfolding printed unprinted fully_printed
printed_keeps buffer text a = go (leb (length text) (length buffer)) refl
  where
    go : (t : Bool) → leb (length text) (length buffer) ≡ t → Kept a (printed buffer text a)
    go true e = rw e (record { records = refl; steps = refl; output = refl; fits = let h = leb-true (length text) (length buffer) e in omega (arith, into_size buffer text h) })
    go false e = rw e (record { records = refl; steps = refl; output = refl; fits = omega arith })

same_text_lem : {x b : TextAnswer} → text_finished x ≡ text_finished b → x ≡ b
same_text_lem e = cc

by_keeps : (n : ℕ) (buffer : List ℕ) (text : Option (List ℕ)) (a : Reply) (b : TextAnswer) → text_finished b ≡ by_number n buffer text a → Kept a b
unfolding by_number unprinted
by_keeps zero buffer none a b e = absurd (let z : ◌≡◌ {A = ℕ} 0 1 = cc in omega arith)
by_keeps zero buffer (some text) a b e = subst (Kept a) (sym (same_text_lem e)) (printed_keeps buffer text a)
by_keeps (suc n) buffer text a b e = subst (Kept a) (sym (same_text_lem e)) (record { records = refl; steps = refl; output = refl; fits = omega arith })

-- a conclusion that is an answer is that answer, soundly
sound_of : {least limit q b : ℕ} {came : Option (List Record)} {called : Conclusion} {lent buffer : List ℕ} {c : TextConclusion} {x : TextAnswer} → c ≡ text_finished x → TextFinishes least limit q b came called lent buffer c
    → TextSound least limit q b came called lent buffer x
sound_of {least} {limit} {q} {b} {came} {called} {lent} {buffer} {c} {x} g f =
    let i : f.answer ≡ x = cc in
    subst (λ (y : TextAnswer). TextSound least limit q b came called lent buffer y) i f.sound

-- what holds of the answer to a call that prints, whatever the program
pub record Within (limit : ℕ) (b : TextAnswer) : Type 0 where
  pub records : record_size * b.result.records ≤ length b.output
  pub steps : b.result.steps ≤ limit
  pub fits : b.result.length ≤ length b.text

within : (limit : ℕ) (a : Reply) (b : TextAnswer) → Kept a b → record_size * a.result.records ≤ length a.output → a.result.steps ≤ limit → Within limit b
within limit a b k r s = record { records = omega (arith, k.records, ap length k.output); steps = omega (arith, k.steps); fits = k.fits }

-- ---- the calls

pub run_text_promised : (l : List ℕ) (limit : ℕ) (lent : List ℕ) (a : Reply) → run_outcome l limit lent ≡ finished a → (buffer : List ℕ) (b : TextAnswer)
    → text_finished b ≡ by_number a.result.number buffer (mapped (text_of (qubits_declared l) (bits_declared l)) (records_in a.result.records a.output)) a
    → record_size * a.result.records ≤ length a.output → a.result.steps ≤ limit
    → (run_text_outcome l limit lent buffer ≡ text_finished b) × SoundRunText l limit lent buffer b × Within limit b
run_text_promised l limit lent a e buffer b f r s =
    let g = run_text_by l limit lent buffer a e ∙ sym f in
    (g, (λ z. (run_theorem l limit lent z, sound_of g (run_text_sound l limit lent buffer z))), within limit a b (by_keeps a.result.number buffer _ a b f) r s)

pub instance_text_promised : (l : List ℕ) (k : ℕ) (sizes : List ℕ) (limit : ℕ) (lent : List ℕ) (a : Reply) → instance_outcome l k sizes limit lent ≡ finished a → (buffer : List ℕ) (b : TextAnswer)
    → text_finished b ≡ by_number a.result.number buffer (mapped (text_of (wires_laid_out l k sizes) 0) (records_in a.result.records a.output)) a
    → record_size * a.result.records ≤ length a.output → a.result.steps ≤ limit
    → (instance_text_outcome l k sizes limit lent buffer ≡ text_finished b) × SoundInstanceText l k sizes limit lent buffer b × Within limit b
instance_text_promised l k sizes limit lent a e buffer b f r s =
    let g = instance_text_by l k sizes limit lent buffer a e ∙ sym f in
    (g, (λ z. let i = instance_text_sound l k sizes limit lent buffer z in (instance_theorem l k sizes limit lent z, λ u. sound_of g (i.0 u), λ suits. sound_of g (i.1 suits), λ u. same_text_lem (sym g ∙ i.2 u))), within limit a b (by_keeps a.result.number buffer _ a b f) r s)
