-- THE THEOREM: runs and instances of an accepted program are never stuck, and their answers are Sound; an instance of a family with a family parameter gives 34.
use mathlib.Core.Path.{◌≡◌, refl}
use mathlib.Core.Logic.{◌⊎◌, inl, inr}
use mathlib.Core.List.{List, [], ◌∷◌, map}
use mathlib.Core.Bool.{Bool, true, false, cond}
use mathlib.Core.Option.{Option, none, some}
use Prim.Native.Nat.{ℕ, zero, suc, ◌*◌, ◌≤◌, ◌<◌}
use native.Mathlib.Omega.{arith}
use lib.IntN.{ℤ, pos}
use lib.Dec.{leb, eqb}
use borrow.Author.Tests.{eqb-true, eq-eqb, leb-true, leb-false}
use lib.ListN.{length, get_elem?}
use Rattle.language.specs.Limits.{record_size, longest_program, most_wires, most_bits}
use Rattle.language.specs.Tree.{Place, Refusal}
use Rattle.language.specs.Read.{read}
use Rattle.language.specs.Check.{Checked, good, refused, require, check, Declared}
use Rattle.language.specs.Machine as M
use Rattle.language.specs.Machine.{State, Outcome, found, Family, begin, layout, all_declared, run_program, run_instance}
use Rattle.language.specs.Result.{Answer, Conclusion, finished, got_stuck, output_bytes, written_into, result_of, untouched, conclusion_of, check_program, verdict, check_result, if_accepted, run_outcome, four_bytes, all_sizes_fit, instance_of, instance_outcome}
use Rattle.language.specs.Lookup.{Declaration, family_in, meaning}
use Rattle.language.specs.Sound.{qubits_declared, bits_declared, wires_laid, wires_of, wires_laid_out, EndsWith, Sound, Finishes, has_family_parameter, takes_family, Suits}
use Rattle.language.specs.Inside.{registers_in, meanings_laid}
use Rattle.language.specs.Theorem.{Reports, RunTheorem, instance_at}
use Rattle.language.proofs.FormLaws.{Naturals}
use Rattle.language.proofs.FormLaws as L
use Rattle.language.proofs.Safe.{World, last_end, Held, Safe, goes, ends, Any, then_both}
use Rattle.language.proofs.Accepted.{program_counts}
use Rattle.language.proofs.Inside.{lie_all}
use Rattle.language.proofs.Tops.{program_safe, instance_safe, layout_few}
use Rattle.language.proofs.Instances.{declared_family, family_found, family_missing, takes_family_lem}
use Rattle.language.proofs.Refusals.{accepted}
use Rattle.language.proofs.Output.{written_size, drop_written, none_written, bytes_written}

-- ---- answers

-- a state that holds, as an answer with a number
state_sound : (W : World) (lent : List ℕ) (n : Refusal) (p : Place) (s : State) → W.room ≡ length lent → (W.wires ≤ most_wires) × (W.bits ≤ most_bits) → Held W s
    → (n ≡ 0) ⊎ EndsWith W.least n → (n ≡ 0 → p ≡ 0) → (1 ≤ n → n ≤ 23 → (length s.records ≡ 0) × (s.steps ≡ 0))
    → (n ≡ 26 → s.steps ≡ W.limit) → (n ≡ 27 → length lent < record_size * suc (length s.records))
    → Sound W.least W.limit W.wires W.bits lent (record { result = result_of n p s; output = written_into lent s.records })
unfolding result_of
state_sound W lent n p s room few h number place early limited filled =
    let fits : record_size * length s.records ≤ length lent = omega (arith, h.fit) in
    record {
      number = number;
      place = place;
      steps = h.few;
      fits = fits;
      early = λ a b. ((early a b).0, (early a b).1, none_written lent s.records (early a b).0);
      limited = limited;
      filled = filled;
      size = written_size lent s.records fits;
      rest = drop_written lent s.records;
      written = s.records;
      count = refl;
      output = refl;
      named = h.named;
      few = few;
      bytes = bytes_written W.wires W.bits lent s.records h.named;
    }

ends_with : (least n : ℕ) → least ≤ n → (27 < n → n ≡ 32) → EndsWith least n
ends_with least n l k = go (leb n 27) refl
  where
    go : (b : Bool) → leb n 27 ≡ b → EndsWith least n
    go true e = inl (l, leb-true n 27 e)
    go false e = inr (k (leb-false n 27 e))

-- an outcome that is safe, and the answer that it comes to
safe_reports : {A : Type 0} (W : World) (lent : List ℕ) (o : Outcome A) → 1 ≤ W.least → W.room ≡ length lent → (W.wires ≤ most_wires) × (W.bits ≤ most_bits) → Safe W Any o → Reports W.least W.limit W.wires W.bits lent o (conclusion_of lent o)
unfolding conclusion_of result_of
safe_reports W lent o least room few (goes {a = a} {s = s} p h) = record {
  answer = _;
  is = refl;
  last = s;
  complete = λ e. (refl, (a, refl));
  cut = λ l. absurd (omega arith);
  records = refl;
  steps = refl;
  output = refl;
  within = h.few;
  fits = omega (arith, h.fit);
  named = h.named;
  sound = state_sound W lent 0 0 s room few h (inl refl) (λ e. refl) (λ a b. absurd (omega arith)) (λ e. absurd (omega arith)) (λ e. absurd (omega arith));
}
safe_reports W lent o least room few (ends {n = n} {p = p} {s = s} e h) = record {
  answer = _;
  is = refl;
  last = s;
  complete = λ z. absurd (omega (arith, e.from));
  cut = λ l. (refl, ends_with W.least n e.from e.known);
  records = refl;
  steps = refl;
  output = refl;
  within = h.few;
  fits = omega (arith, h.fit);
  named = h.named;
  sound = state_sound W lent n p s room few h (inr (ends_with W.least n e.from e.known)) (λ z. absurd (omega (arith, e.from))) (λ a b. ((e.nothing b).1, (e.nothing b).0)) (λ z. omega (arith, e.limited z, h.few)) (λ z. omega (arith, e.filled z));
}

-- the answer alone
finishes_of : {A : Type 0} {least limit q b : ℕ} {lent : List ℕ} {o : Outcome A} {c : Conclusion} → Reports least limit q b lent o c → Finishes least limit q b lent c
finishes_of r = record { answer = r.answer; is = r.is; sound = r.sound }

-- turned down before the machine starts
untouched_finishes : (least limit q b : ℕ) (lent : List ℕ) (n : Refusal) → 1 ≤ least → least ≤ n → n ≤ 23 → (q ≤ most_wires) × (b ≤ most_bits) → Finishes least limit q b lent (untouched lent n 0)
unfolding written_into output_bytes
untouched_finishes least limit q b lent n l u h few = record {
  answer = _;
  is = refl;
  sound = record {
    number = inr (inl (u, omega arith));
    place = λ e. refl;
    steps = omega arith;
    fits = omega arith;
    early = λ x y. (refl, refl, refl);
    limited = λ e. absurd (omega arith);
    filled = λ e. absurd (omega arith);
    size = refl;
    rest = refl;
    written = [];
    count = refl;
    output = refl;
    named = tt;
    few = few;
    bytes = λ i x. absurd (omega arith);
  };
}

-- fewer numbers are some of more numbers
finishes_from : {least more limit q b : ℕ} {lent : List ℕ} {c : Conclusion} → more ≤ least → Finishes least limit q b lent c → Finishes more limit q b lent c
finishes_from {least} {more} l f = let s = f.sound in
    record {
      answer = f.answer;
      is = f.is;
      sound = record {
        number = go s.number;
        place = s.place;
        steps = s.steps;
        fits = s.fits;
        early = s.early;
        limited = s.limited;
        filled = s.filled;
        size = s.size;
        rest = s.rest;
        written = s.written;
        count = s.count;
        output = s.output;
        named = s.named;
        few = s.few;
        bytes = s.bytes;
      };
    }
  where
    go : {n : ℕ} → (n ≡ 0) ⊎ EndsWith least n → (n ≡ 0) ⊎ EndsWith more n
    go (inl e) = inl e
    go (inr (inl h)) = inr (inl (omega (arith, h.0), h.1))
    go (inr (inr e)) = inr (inr e)

-- ---- whole runs

pub checked : (program : List ℕ) (d : Declared) → check_program program ≡ good d → check (read program) ≡ good d
unfolding check_program
checked program d e = (then_both (require 1 0 (leb (length program) longest_program)) (check (read program)) d e).1

run_checked : (program : List ℕ) (limit : ℕ) (output : List ℕ) (d : Declared) → check_program program ≡ good d
    → Reports 24 limit (qubits_declared program) (bits_declared program) output (run_program limit (length output) (read program)) (run_outcome program limit output)
unfolding run_outcome if_accepted
run_checked program limit output d e =
    let W : World = record { limit = limit; room = length output; wires = qubits_declared program; bits = bits_declared program; registers = registers_in 0 (read program); least = 24; most = last_end; early = omega arith; late = omega arith } in
    rw e (safe_reports W output (run_program limit (length output) (read program)) (omega arith) refl (omega (arith, program_counts (read program) d (checked program d e))) (program_safe W (omega arith) (read program) d (checked program d e) (omega arith) (omega arith) (lie_all (registers_in 0 (read program)))))

-- ---- instances

-- four bytes for each variable are as many naturals
sizes_natural : (m : ℕ) (sizes : List ℕ) → length sizes ≡ 4 * m → Naturals m (map pos (four_bytes sizes))
unfolding four_bytes
sizes_natural zero [] e = L.Naturals.end
sizes_natural zero (a ∷ rest) e = absurd (omega arith)
sizes_natural (suc m) [] e = absurd (omega arith)
sizes_natural (suc m) (a ∷ []) e = absurd (omega arith)
sizes_natural (suc m) (a ∷ b ∷ []) e = absurd (omega arith)
sizes_natural (suc m) (a ∷ b ∷ c ∷ []) e = absurd (omega arith)
sizes_natural (suc m) (a ∷ b ∷ c ∷ d ∷ rest) e = L.Naturals.also (sizes_natural m rest (omega arith))

wires_few : (o : Option Declaration) (zs : List ℤ) → wires_of o zs ≤ most_wires
unfolding wires_of
wires_few none zs = omega arith
wires_few (some D) zs = omega (arith, layout_few zs 0 D.types begin (omega arith))

module _ (program : List ℕ) (n : ℕ) (sizes : List ℕ) (limit : ℕ) (output : List ℕ) (d : Declared) (e : check (read program) ≡ good d) where
  few_laid : (wires_laid_out program n sizes ≤ most_wires) × (0 ≤ most_bits)
  few_laid = (wires_few (family_in (read program) n) (map pos (four_bytes sizes)), omega arith)

  -- an instance at sizes that were counted, of the family D
  machine_reports : (D : Declaration) (f : Family) → family_in (read program) n ≡ some D → get_elem? (all_declared limit (length output) (read program) []) n ≡ some f → f.variables ≡ D.variables → f.types ≡ D.types
      → M.has_family_type f.types ≡ false → length sizes ≡ 4 * f.variables
      → Reports 23 limit (wires_laid_out program n sizes) 0 output (run_instance f (map pos (four_bytes sizes))) (conclusion_of output (run_instance f (map pos (four_bytes sizes))))
  unfolding wires_of
  machine_reports D f i g v t u c =
      let W : World = record { limit = limit; room = length output; wires = wires_laid_out program n sizes; bits = 0; registers = meanings_laid (layout (map pos (four_bytes sizes)) 0 f.types begin); least = 23; most = last_end; early = omega arith; late = omega arith } in
      let q : wires_laid (layout (map pos (four_bytes sizes)) 0 f.types begin) ≤ wires_laid_out program n sizes = rw (i, t) (omega arith) in
      safe_reports W output (run_instance f (map pos (four_bytes sizes))) (omega arith) refl few_laid (instance_safe W (omega arith) (read program) d n f (map pos (four_bytes sizes)) e g u (sizes_natural f.variables sizes c) q (lie_all (meanings_laid (layout (map pos (four_bytes sizes)) 0 f.types begin))) (omega arith))

  -- at sizes that suit, the machine runs
  suited_reports : Suits program n sizes
      → Reports 23 limit (wires_laid_out program n sizes) 0 output (instance_at program n (four_bytes sizes) limit (length output)) (instance_of (get_elem? (all_declared limit (length output) (read program) []) n) sizes output)
  unfolding instance_of declared_family meaning instance_at found M.◌>>=◌ M.after run_instance
  suited_reports s =
      let g = family_found program n limit output s.called s.declared in
      rw (g, s.plain, eq-eqb (length sizes) (4 * s.called.variables) s.counted, s.small) (machine_reports s.called (declared_family program n limit output s.called) s.declared g refl refl s.plain s.counted)

  any_finishes : (o : Option Declaration) → family_in (read program) n ≡ o → has_family_parameter o ≡ false → Finishes 20 limit (wires_laid_out program n sizes) 0 output (instance_of (get_elem? (all_declared limit (length output) (read program) []) n) sizes output)
  unfolding instance_of declared_family meaning has_family_parameter
  any_finishes none i u = rw (family_missing program n limit output i) (untouched_finishes 20 limit (wires_laid_out program n sizes) 0 output 20 (omega arith) (omega arith) (omega arith) few_laid)
  any_finishes (some D) i u = let g = family_found program n limit output D i in rw (g, u) (go (eqb (length sizes) (4 * D.variables)) (all_sizes_fit (four_bytes sizes)) refl)
    where
      go : (b c : Bool) → eqb (length sizes) (4 * D.variables) ≡ b
          → Finishes 20 limit (wires_laid_out program n sizes) 0 output (cond b (cond c (conclusion_of output (run_instance (declared_family program n limit output D) (map pos (four_bytes sizes)))) (untouched output 22 0)) (untouched output 21 0))
      go true true h = finishes_from (omega arith) (finishes_of (machine_reports D (declared_family program n limit output D) i (family_found program n limit output D i) refl refl u (eqb-true (length sizes) (4 * D.variables) h)))
      go true false h = untouched_finishes 20 limit (wires_laid_out program n sizes) 0 output 22 (omega arith) (omega arith) (omega arith) few_laid
      go false c h = untouched_finishes 20 limit (wires_laid_out program n sizes) 0 output 21 (omega arith) (omega arith) (omega arith) few_laid

  -- of a family with a family parameter there is no instance
  family_parameter : (o : Option Declaration) → family_in (read program) n ≡ o → has_family_parameter o ≡ true → instance_of (get_elem? (all_declared limit (length output) (read program) []) n) sizes output ≡ untouched output 34 0
  unfolding has_family_parameter
  family_parameter none i u = absurd (let z : ◌≡◌ {A = ℕ} 0 1 = cc in omega arith)
  family_parameter (some D) i u = takes_family_lem program n limit output sizes D i u

-- ---- THE THEOREM

-- every whole run of an accepted program, at every limit and output
pub run_reports : RunTheorem
run_reports program limit output e = let a = accepted program e in run_checked program limit output a.0 a.1

pub run_sound : (program : List ℕ) (limit : ℕ) (output : List ℕ) → (check_result program).number ≡ 0
    → Finishes 24 limit (qubits_declared program) (bits_declared program) output (run_outcome program limit output)
run_sound program limit output e = finishes_of (run_reports program limit output e)

-- every instance of an accepted program at sizes that suit
pub instance_reports : (program : List ℕ) (family : ℕ) (sizes : List ℕ) (limit : ℕ) (output : List ℕ) → (check_result program).number ≡ 0 → Suits program family sizes
    → Reports 23 limit (wires_laid_out program family sizes) 0 output (instance_at program family (four_bytes sizes) limit (length output)) (instance_outcome program family sizes limit output)
unfolding instance_outcome if_accepted
instance_reports program family sizes limit output e s =
    let a = accepted program e in
    rw a.1 (suited_reports program family sizes limit output a.0 (checked program a.0 a.1) s)

-- every instance of an accepted program, at every number of a family without family parameters, sizes, limit and output; at sizes that suit, the number is 0, 23 to 27 or 32
pub instance_sound : (program : List ℕ) (family : ℕ) (sizes : List ℕ) (limit : ℕ) (output : List ℕ) → (check_result program).number ≡ 0
    → (takes_family program family ≡ false → Finishes 20 limit (wires_laid_out program family sizes) 0 output (instance_outcome program family sizes limit output))
    × (Suits program family sizes → Finishes 23 limit (wires_laid_out program family sizes) 0 output (instance_outcome program family sizes limit output))
unfolding instance_outcome if_accepted
instance_sound program family sizes limit output e =
    let a = accepted program e in
    (λ u. rw a.1 (any_finishes program family sizes limit output a.0 (checked program a.0 a.1) _ refl u), λ s. finishes_of (instance_reports program family sizes limit output e s))

-- and an instance of a family with a family parameter gives 34
pub instance_passed : (program : List ℕ) (family : ℕ) (sizes : List ℕ) (limit : ℕ) (output : List ℕ) → (check_result program).number ≡ 0 → takes_family program family ≡ true
    → instance_outcome program family sizes limit output ≡ untouched output 34 0
unfolding instance_outcome if_accepted
instance_passed program family sizes limit output e u =
    let a = accepted program e in
    rw a.1 (family_parameter program family sizes limit output a.0 (checked program a.0 a.1) _ refl u)

-- ---- a program that is turned down

turned_down_lem : (output : List ℕ) (c : Checked Declared) (accepted : Conclusion) → 1 ≤ (verdict c).number → if_accepted output c accepted ≡ finished (record { result = verdict c; output = output })
unfolding verdict if_accepted
turned_down_lem output (good d) accepted h = absurd (omega arith)
turned_down_lem output (refused n p) accepted h = refl

-- a run of a program that is turned down answers as the check does and leaves the output
pub run_refused : (program : List ℕ) (limit : ℕ) (output : List ℕ) → 1 ≤ (check_result program).number → run_outcome program limit output ≡ finished (record { result = check_result program; output = output })
unfolding run_outcome check_result
run_refused program limit output h = turned_down_lem output (check_program program) _ h

-- and so does an instance
pub instance_refused : (program : List ℕ) (family : ℕ) (sizes : List ℕ) (limit : ℕ) (output : List ℕ) → 1 ≤ (check_result program).number
    → instance_outcome program family sizes limit output ≡ finished (record { result = check_result program; output = output })
unfolding instance_outcome check_result
instance_refused program family sizes limit output h = turned_down_lem output (check_program program) _ h

-- ---- so no call is ever stuck, whatever the program

not_stuck : {a : Answer} {c : Conclusion} → c ≡ finished a → c ≡ got_stuck → ⊥
not_stuck f g = let z : ◌≡◌ {A = ℕ} 0 1 = cc in omega arith

pub run_never_stuck : (program : List ℕ) (limit : ℕ) (output : List ℕ) → run_outcome program limit output ≡ got_stuck → ⊥
run_never_stuck program limit output g = go (check_result program).number refl
  where
    go : (n : ℕ) → (check_result program).number ≡ n → ⊥
    go zero e = not_stuck (run_sound program limit output e).is g
    go (suc n) e = not_stuck (run_refused program limit output (omega arith)) g

pub instance_never_stuck : (program : List ℕ) (family : ℕ) (sizes : List ℕ) (limit : ℕ) (output : List ℕ) → instance_outcome program family sizes limit output ≡ got_stuck → ⊥
instance_never_stuck program family sizes limit output g = go (check_result program).number refl
  where
    go_zero : (b : Bool) → (check_result program).number ≡ 0 → takes_family program family ≡ b → ⊥
    go_zero false e u = not_stuck ((instance_sound program family sizes limit output e).0 u).is g
    go_zero true e u = not_stuck (instance_passed program family sizes limit output e u) g

    go : (n : ℕ) → (check_result program).number ≡ n → ⊥
    go zero e = go_zero (takes_family program family) e refl
    go (suc n) e = not_stuck (instance_refused program family sizes limit output (omega arith)) g
