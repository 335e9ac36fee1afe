-- Accepted programs run to an answer that a result can tell. Assumes nothing.
use Prim.Native.Nat.{ℕ, ◌*◌, ◌≤◌}
use native.Mathlib.Omega.{arith}
use mathlib.Core.Path.{◌≡◌, refl, sym, ap, ◌∙◌, subst}
use mathlib.Core.List.{List, []}
use mathlib.Core.Bool.{Bool, true, false}
use borrow.Author.Tests.{leb-true}
use lib.Dec.{leb}
use lib.ListN.{length, get_elem?}
use Rattle.language.specs.Limits.{longest_program, record_size}
use Rattle.language.specs.Read.{read}
use Rattle.language.specs.Check.{Checked, Declared, good, refused, require, check}
use Rattle.language.specs.Machine.{all_declared, run_program}
use Rattle.language.specs.Result.{Result, Answer as Reply, Conclusion, finished, got_stuck, conclusion_of, check_program, verdict, check_result, if_accepted, run_outcome, instance_of, instance_outcome}
use Rattle.language.specs.Sound.{qubits_declared, bits_declared, wires_laid_out, Sound, Finishes, takes_family}
use Rattle.language.proofs.Safe.{then_both, required}
use Rattle.language.proofs.Refusals.{accepted}
use Rattle.language.specs.Theorem.{Reports, InstanceAnswers}
use Rattle.language.proofs.Theorem.{run_theorem, instance_theorem, reported_sound}
use Rattle.language.proofs.Soundness.{instance_sound, instance_passed, run_refused, instance_refused, run_never_stuck, instance_never_stuck}
use Rattle.std.specs.Prelude.{Result as CodeResult, Ok, Err}
use Rattle.records.specs.declared.State.{State}
use Rattle.records.specs.declared.Stop.{Stop}
use Rattle.records.specs.declared.Stop.TheVariants.{Ended, Stuck}
use Rattle.runs.specs.Whole.{Acceptable}
use Rattle.runs.specs.Conclusions.{concluded}
use Rattle.metaqasm.specs.Answers.{NotStuck, SoundRun, SoundInstance}

-- a program whose check answers 0
module _ (l : List ℕ) (e : (check_result l).number ≡ 0) where
  good_program : check_program l ≡ good (accepted l e).0
  good_program = (accepted l e).1

  pub acceptable : Acceptable l
  unfolding check_program
  acceptable =
      let b = then_both (require 1 0 (leb (length l) longest_program)) (check (read l)) (accepted l e).0 good_program in
      record { declares = (accepted l e).0; accepted = b.1; short = leb-true (length l) longest_program (required 1 0 _ b.0) }

-- the check writes nothing and takes no step
check_counts_lem : (l : List ℕ) → ((check_result l).records ≡ 0) × ((check_result l).steps ≡ 0)
unfolding check_result verdict
check_counts_lem l = go (check_program l)
  where
    go : (c : Checked Declared) → ((verdict c).records ≡ 0) × ((verdict c).steps ≡ 0)
    go (good d) = (refl, refl)
    go (refused n p) = (refl, refl)

-- ---- the answer of the code

-- an answer that does not conclude with the machine stuck can be told
told_by : (out : List ℕ) (r : CodeResult State Stop) (c : Conclusion) → (c ≡ got_stuck → ⊥) → concluded out r ≡ c → NotStuck r
unfolding concluded
told_by out (Ok s) c h e = tt
told_by out (Err (Ended n p s)) c h e = tt
told_by out (Err Stuck) c h e = absurd (h (sym e))

-- a conclusion that is an answer is that answer, soundly
sound_of : (least limit q b : ℕ) (lent : List ℕ) (a : Reply) (c : Conclusion) → c ≡ finished a → Finishes least limit q b lent c → Sound least limit q b lent a
sound_of least limit q b lent a c g f =
    let i : f.answer ≡ a = cc in
    subst (λ (x : Reply). Sound least limit q b lent x) i f.sound

same_reply : {x y : Reply} → finished x ≡ finished y → x ≡ y
same_reply e = cc

-- what it says of the records and the steps
kept_within : (least limit q b : ℕ) (lent : List ℕ) (a : Reply) → Sound least limit q b lent a → (record_size * a.result.records ≤ length a.output) × (a.result.steps ≤ limit)
kept_within least limit q b lent a s = (omega (arith, s.fits, s.size), s.steps)

-- ---- whole runs

module _ (l : List ℕ) (limit : ℕ) (lent : List ℕ) (e : (check_result l).number ≡ 0) where
  run_is : conclusion_of lent (run_program limit (length lent) (read l)) ≡ run_outcome l limit lent
  unfolding run_outcome if_accepted
  run_is = rw (good_program l e) refl

  pub run_told : (out : List ℕ) (r : CodeResult State Stop) → concluded out r ≡ conclusion_of lent (run_program limit (length lent) (read l)) → NotStuck r
  run_told out r h = told_by out r _ (run_never_stuck l limit lent) (h ∙ run_is)

  pub run_answers : (out : List ℕ) (r : CodeResult State Stop) (x : Result) → concluded out r ≡ conclusion_of lent (run_program limit (length lent) (read l)) → concluded out r ≡ finished (record { result = x; output = out })
      → (run_outcome l limit lent ≡ finished (record { result = x; output = out })) × SoundRun l limit lent (record { result = x; output = out }) × (record_size * x.records ≤ length out)
      × (x.steps ≤ limit)
  run_answers out r x h k =
      let g = sym run_is ∙ sym h ∙ k in
      let a : Reply = record { result = x; output = out } in
      let s = subst (λ (c : Conclusion). Reports 24 limit (qubits_declared l) (bits_declared l) lent (run_program limit (length lent) (read l)) c) g (run_theorem l limit lent e) in
      let w = kept_within 24 limit (qubits_declared l) (bits_declared l) lent a (reported_sound s) in
      (g, (λ z. s), w.0, w.1)

-- ---- instances

module _ (l : List ℕ) (k : ℕ) (sizes : List ℕ) (limit : ℕ) (lent : List ℕ) (e : (check_result l).number ≡ 0) where
  abbrev asked : Conclusion
  asked = instance_of (get_elem? (all_declared limit (length lent) (read l) []) k) sizes lent

  instance_is : asked ≡ instance_outcome l k sizes limit lent
  unfolding instance_outcome if_accepted
  instance_is = rw (good_program l e) refl

  pub instance_told : (out : List ℕ) (r : CodeResult State Stop) → concluded out r ≡ instance_of (get_elem? (all_declared limit (length lent) (read l) []) k) sizes lent → NotStuck r
  instance_told out r h = told_by out r _ (instance_never_stuck l k sizes limit lent) (h ∙ instance_is)

  -- what holds of its answer
  module _ (a : Reply) (g : instance_outcome l k sizes limit lent ≡ finished a) where
    instance_promised : SoundInstance l k sizes limit lent a
    instance_promised z = subst (λ (c : Conclusion). InstanceAnswers l k sizes limit lent c) g (instance_theorem l k sizes limit lent e)

    instance_within : (record_size * a.result.records ≤ length a.output) × (a.result.steps ≤ limit)
    instance_within = go (takes_family l k) refl
      where
        go : (b : Bool) → takes_family l k ≡ b → (record_size * a.result.records ≤ length a.output) × (a.result.steps ≤ limit)
        go false u = kept_within 20 limit (wires_laid_out l k sizes) 0 lent a (sound_of 20 limit (wires_laid_out l k sizes) 0 lent a _ g ((instance_sound l k sizes limit lent e).0 u))
        go true u = let i = same_reply (sym g ∙ instance_passed l k sizes limit lent e u) in (omega (arith, ap (λ (x : Reply). x.result.records) i), omega (arith, ap (λ (x : Reply). x.result.steps) i))

  pub instance_answers : (out : List ℕ) (r : CodeResult State Stop) (x : Result) → concluded out r ≡ instance_of (get_elem? (all_declared limit (length lent) (read l) []) k) sizes lent
      → concluded out r ≡ finished (record { result = x; output = out })
      → (instance_outcome l k sizes limit lent ≡ finished (record { result = x; output = out })) × SoundInstance l k sizes limit lent (record { result = x; output = out })
      × (record_size * x.records ≤ length out) × (x.steps ≤ limit)
  instance_answers out r x h j =
      let g = sym instance_is ∙ sym h ∙ j in
      let a : Reply = record { result = x; output = out } in
      let w = instance_within a g in
      (g, instance_promised a g, w.0, w.1)

-- ---- a program that is turned down

module _ (l : List ℕ) (x : Result) (e : x ≡ check_result l) (h : x.number ≡ 0 → ⊥) where
  nonzero : 1 ≤ (check_result l).number
  nonzero = let q = ap (λ (r : Result). r.number) e in omega arith

  pub refused_run : (limit : ℕ) (lent : List ℕ) → run_outcome l limit lent ≡ finished (record { result = x; output = lent })
  refused_run limit lent = run_refused l limit lent nonzero ∙ ap (λ (r : Result). finished (record { result = r; output = lent })) (sym e)

  pub refused_instance : (k : ℕ) (sizes : List ℕ) (limit : ℕ) (lent : List ℕ) → instance_outcome l k sizes limit lent ≡ finished (record { result = x; output = lent })
  refused_instance k sizes limit lent = instance_refused l k sizes limit lent nonzero ∙ ap (λ (r : Result). finished (record { result = r; output = lent })) (sym e)

  -- the check writes nothing and takes no step
  pub refused_counts : (x.records ≡ 0) × (x.steps ≡ 0)
  refused_counts = rw e (check_counts_lem l)

  -- and a promise for accepted programs says nothing of it
  pub refused_sound : {A : Type 0} → (check_result l).number ≡ 0 → A
  refused_sound z = absurd (omega (arith, nonzero))
