-- A run or an instance with number 0 is one of an accepted program, and its answer holds the list that the machine came to.
use mathlib.Core.Path.{◌≡◌, refl, sym, ap, subst}
use mathlib.Core.List.{List, [], map}
use mathlib.Core.Bool.{Bool, true, false}
use mathlib.Core.Option.{Option, none, some}
use Prim.Native.Nat.{ℕ, zero, suc, ◌*◌}
use native.Mathlib.Omega.{arith}
use borrow.Author.Tests.{eqb-true, eqb-false}
use lib.IntN.{pos}
use lib.Dec.{eqb}
use lib.ListN.{length, get_elem?}
use Rattle.language.specs.Read.{read}
use Rattle.language.specs.Machine.{Record, Outcome, Family, after, ◌>>=◌, found, begin, has_family_type, all_declared, instance_run, run_instance}
use Rattle.language.specs.Result.{Answer, Conclusion, finished, turned_down, untouched, check_result, run_outcome, four_bytes, all_sizes_fit, instance_outcome}
use Rattle.language.specs.Lookup.{Declaration, family_in}
use Rattle.language.specs.Sound.{qubits_declared, bits_declared, wires_laid_out, Suits}
use Rattle.language.specs.Theorem.{Reports, instance_at, InstanceAnswers}
use Rattle.language.proofs.Soundness.{run_refused, instance_refused}
use Rattle.language.proofs.Theorem.{run_theorem, instance_theorem}
use Rattle.qasm_text.specs.TextResult.{records_of, run_records, records_at, instance_records}
use Rattle.qasm_text.specs.TextSound.{Listed}
use Rattle.qasm_text.proofs.RecordsBack.{records_written}

-- ---- the list behind an answer

-- the list that the machine came to, which the answer holds
pub record Came (q b : ℕ) (lent : List ℕ) (came : Option (List Record)) (a : Answer) : Type 0 where
  pub list : List Record
  pub is : came ≡ some list
  pub listed : Listed q b lent list a

module _ {A : Type 0} {least limit q b : ℕ} {lent : List ℕ} {o : Outcome A} {called : Conclusion} (r : Reports least limit q b lent o called) where
  reported : r.answer.result.number ≡ 0 → Came q b lent (records_of o) r.answer
  unfolding records_of
  reported z = record {
    list = r.last.records;
    is = ap records_of (r.complete z).1.1;
    listed = record {
      count = sym r.records;
      output = r.output;
      named = r.named;
      read = rw (r.records, r.output) (records_written q b lent r.last.records r.named);
    };
  }

  came_as : (a : Answer) → called ≡ finished a → a.result.number ≡ 0 → Came q b lent (records_of o) a
  came_as a e z =
      let i : r.answer ≡ a = cc (r.is, e) in
      subst (λ (x : Answer). x.result.number ≡ 0 → Came q b lent (records_of o) x) i reported z

-- ---- whole runs

module _ (program : List ℕ) (limit : ℕ) (lent : List ℕ) (a : Answer) (e : run_outcome program limit lent ≡ finished a) where
  pub run_accepted : a.result.number ≡ 0 → (check_result program).number ≡ 0
  run_accepted z = go (check_result program).number refl
    where
      go : (n : ℕ) → (check_result program).number ≡ n → (check_result program).number ≡ 0
      go zero h = h
      go (suc n) h = absurd (let x : record { result = check_result program; output = lent } ≡ a = cc (run_refused program limit lent (omega arith), e) in omega (arith, ap (λ (y : Answer). y.result.number) x))

  pub run_came : a.result.number ≡ 0 → Came (qubits_declared program) (bits_declared program) lent (run_records program limit lent) a
  unfolding run_records
  run_came z = came_as (run_theorem program limit lent (run_accepted z)) a e z

-- ---- instances

-- the list of the machine for an instance
instance_list : (o : Option Family) (sizes : List ℕ) → records_of ((found o >>= λ f. instance_run f (map pos (four_bytes sizes))) begin) ≡ records_at o sizes
unfolding records_of records_at found after ◌>>=◌ run_instance
instance_list none sizes = refl
instance_list (some f) sizes = refl

module _ (program : List ℕ) (family : ℕ) (sizes : List ℕ) (limit : ℕ) (lent : List ℕ) (a : Answer) (e : instance_outcome program family sizes limit lent ≡ finished a) where
  pub instance_accepted : a.result.number ≡ 0 → (check_result program).number ≡ 0
  instance_accepted z = go (check_result program).number refl
    where
      go : (n : ℕ) → (check_result program).number ≡ n → (check_result program).number ≡ 0
      go zero h = h
      go (suc n) h = absurd (let x : record { result = check_result program; output = lent } ≡ a = cc (instance_refused program family sizes limit lent (omega arith), e) in omega (arith, ap (λ (y : Answer). y.result.number) x))

  -- a call turned down for its family or sizes has another number
  turned_down_lem : (n : ℕ) → instance_outcome program family sizes limit lent ≡ untouched lent (suc n) 0 → a.result.number ≡ 0 → ⊥
  turned_down_lem n h z = let x : a ≡ record { result = turned_down (suc n) 0; output = lent } = cc in omega (arith, ap (λ (y : Answer). y.result.number) x)

  module _ (z : a.result.number ≡ 0) where
    answers : InstanceAnswers program family sizes limit lent (instance_outcome program family sizes limit lent)
    answers = instance_theorem program family sizes limit lent (instance_accepted z)

    -- the family is declared and the sizes suit it
    pub instance_suits : Suits program family sizes
    instance_suits = by_family (family_in (read program) family) refl
      where
        by_sizes_lem : (d : Declaration) → family_in (read program) family ≡ some d → has_family_type d.types ≡ false → (n : Bool) → eqb (length sizes) (4 * d.variables) ≡ n
            → (m : Bool) → all_sizes_fit (four_bytes sizes) ≡ m → Suits program family sizes
        by_sizes_lem d i u false c m s = absurd (turned_down_lem 20 (answers.miscounted d i u (eqb-false (length sizes) (4 * d.variables) c)) z)
        by_sizes_lem d i u true c false s = absurd (turned_down_lem 21 (answers.too_large d i u (eqb-true (length sizes) (4 * d.variables) c) s) z)
        by_sizes_lem d i u true c true s = record { called = d; declared = i; plain = u; counted = eqb-true (length sizes) (4 * d.variables) c; small = s }

        by_types : (d : Declaration) → family_in (read program) family ≡ some d → (b : Bool) → has_family_type d.types ≡ b → Suits program family sizes
        by_types d i true u = absurd (turned_down_lem 33 (answers.takes_family d i u) z)
        by_types d i false u = by_sizes_lem d i u (eqb (length sizes) (4 * d.variables)) refl (all_sizes_fit (four_bytes sizes)) refl

        by_family : (o : Option Declaration) → family_in (read program) family ≡ o → Suits program family sizes
        by_family none i = absurd (turned_down_lem 19 (answers.no_family i) z)
        by_family (some d) i = by_types d i (has_family_type d.types) refl

    pub instance_came : Came (wires_laid_out program family sizes) 0 lent (instance_records program family sizes limit lent) a
    unfolding instance_records instance_at
    instance_came = subst (λ (x : Option (List Record)). Came (wires_laid_out program family sizes) 0 lent x a) (instance_list (get_elem? (all_declared limit (length lent) (read program) []) family) sizes) (came_as (answers.suited instance_suits) a e z)
