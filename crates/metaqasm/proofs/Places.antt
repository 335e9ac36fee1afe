-- The number and place of the check's answer in four bytes each. Assumes nothing.
use mathlib.Core.Path.{◌≡◌, refl, sym, ap, ◌∙◌}
use mathlib.Core.List.{List}
use mathlib.Core.Bool.{Bool, true, false}
use Prim.Native.Nat.{ℕ, ◌≤◌}
use native.Mathlib.Omega.{arith}
use lib.Dec.{leb}
use borrow.Author.Tests.{leb-true}
use lib.ListN.{length}
use Rattle.language.specs.Limits.{longest_program}
use Rattle.language.specs.Read.{read}
use Rattle.language.specs.Check.{require, check, ◌>>◌}
use Rattle.language.specs.Result.{verdict, check_program, check_result}
use Rattle.language.proofs.Refusals.{place_within}
use Rattle.check_program.specs.Answers.{result_told}
use Rattle.std.specs.Prelude.{Result, Err}
use Rattle.refusals.specs.declared.Refusal.{Refusal}

-- the place of a check's answer
pub place_small : (p : List ℕ) → (check_result p).place ≤ longest_program
unfolding check_result check_program require ◌>>◌ verdict
place_small p = by (leb (length p) longest_program) refl
  where
    by : (b : Bool) → leb (length p) longest_program ≡ b → (verdict (require 1 0 b >> check (read p))).place ≤ longest_program
    by true e = let h = leb-true (length p) longest_program e in let k = rw e at (place_within p) in omega arith
    by false e = omega arith

pub refused_small : (r : Result (Unit {0}) Refusal) (p : List ℕ) (f : Refusal) → result_told r ≡ check_result p → r ≡ Err f → f.1 ≤ longest_program
unfolding result_told
refused_small r p f e u = let z : f.1 ≡ (check_result p).place = sym (ap (λ (x : Result (Unit {0}) Refusal). (result_told x).place) u) ∙ ap (λ r. r.place) e in let h = place_small p in omega arith
