-- The fields at the top, one after the other. Assumes nothing.
use mathlib.Core.Path.{◌≡◌, refl, sym, ap, ◌∙◌}
use mathlib.Core.List.{List, [], ◌∷◌, map}
use Prim.Native.Nat.{ℕ, zero, suc, ◌+◌, ◌*◌, ◌/◌, ◌≤◌, ◌<◌}
use native.Mathlib.Omega.{arith}
use lib.IntN.{ℤ, pos}
use lib.ListN.{length, get_or, replicate, length-replicate, get_or-replicate}
use lib.Seq.{slice, take-length}
use borrow.Author.Tests.{le-leb, lt-leb}
use Rattle.language.specs.Limits.{most_families, most_registers, longest_program}
use Rattle.check_call.specs.Calls.{FamilyRight}
use Rattle.check_declaration.specs.Types.{size_row, most_rows, FormalsIn}
use Rattle.check_declaration.proofs.Tables.{in_use_later}
use Rattle.check_declaration.proofs.Formals.{formals_later}
use Rattle.language.specs.Read.{Field, field, bad_header, fields, choose, read_family, read_register, read_top, read}
use Rattle.language.specs.Check.{Checked, ◌>>=◌, ◌>>◌, require, Declared, check_top, check_top_by, check_tops, check_tops_by, check}
use Rattle.language.specs.Tree.{qreg, creg}
use Rattle.language.specs.Result.{turned_down, verdict, check_program, check_result}
use Rattle.language.specs.Form.{in_range, all_in_range}
use Rattle.fields.specs.Header.{fields_at}
use Rattle.fields.proofs.Headers.{Wholly}
use Rattle.check_operand.specs.Tables.{size_of_row, tabulated}
use Rattle.check_statement.specs.Statements.{checked_declared}
use Rattle.std.specs.Prelude.{Result, Ok, Err}
use Rattle.refusals.specs.declared.Refusal.{Refusal}
use Rattle.check_program.specs.Declarations.{declared_in, DeclaredRight, checked_step, none_so_far, StepRight}
use Rattle.check_program.specs.declared.SoFar.{SoFar}
use Rattle.check_program.specs.Answers.{result_told}

pub kept_refused : (r : Result ℕ Refusal) (f : Refusal) (d : Declared) (families : List (List ℕ)) (kinds : List ℕ) (sizes : List (List ℤ)) → r ≡ Err f → checked_step (Err f) families kinds sizes ≡ checked_declared r d
unfolding checked_declared checked_step
kept_refused r f d families kinds sizes e = sym (ap (λ (x : Result ℕ Refusal). checked_declared x d) e)

pub kept_going : (r : Result ℕ Refusal) (n : ℕ) (t : SoFar) (families : List (List ℕ)) (kinds : List ℕ) (sizes : List (List ℤ)) → r ≡ Ok n → checked_step (Ok t) families kinds sizes ≡ checked_declared r (declared_in t families kinds sizes)
unfolding checked_declared checked_step
kept_going r n t families kinds sizes h = sym (ap (λ (x : Result ℕ Refusal). checked_declared x (declared_in t families kinds sizes)) h)

module _ (d : Declared) (at next tag : ℕ) (program : List ℕ) where
  abbrev topped : Checked Declared
  topped = check_top (read_top (field at tag (slice (at + 3) next program))) d

  pub top_family : tag ≡ 1 → check_top (read_family at (slice (at + 3) next program)) d ≡ topped
  unfolding read_top choose
  top_family e = sym (ap (λ (t : ℕ). check_top (read_top (field at t (slice (at + 3) next program))) d) e)

  pub top_qreg : tag ≡ 2 → check_top (read_register qreg at (slice (at + 3) next program)) d ≡ topped
  unfolding read_top choose
  top_qreg e = sym (ap (λ (t : ℕ). check_top (read_top (field at t (slice (at + 3) next program))) d) e)

  pub top_creg : tag ≡ 3 → check_top (read_register creg at (slice (at + 3) next program)) d ≡ topped
  unfolding read_top choose
  top_creg e = sym (ap (λ (t : ℕ). check_top (read_top (field at t (slice (at + 3) next program))) d) e)

abbrev pub tops_at : List ℕ → (at to : ℕ) → Declared → Checked Declared
tops_at p at to d = check_tops (map read_top (fields_at p at to)) d

module _ (program : List ℕ) (at to : ℕ) (d : Declared) where
  pub tops_end : fields_at program at to ≡ [] → turned_down 0 0 ≡ verdict (tops_at program at to d)
  unfolding check_tops_by verdict
  tops_end e = sym (ap (λ (fs : List Field). verdict (check_tops (map read_top fs) d)) e)

  pub tops_cut : fields_at program at to ≡ (bad_header at ∷ []) → turned_down 2 at ≡ verdict (tops_at program at to d)
  unfolding check_tops_by check_top_by read_top verdict ◌>>=◌
  tops_cut e = sym (ap (λ (fs : List Field). verdict (check_tops (map read_top fs) d)) e)

  module _ (tag next : ℕ) (w : Wholly program at to tag next) (s : Result SoFar Refusal) (families : List (List ℕ)) (kinds : List ℕ) (sizes : List (List ℤ))
      (e : checked_step s families kinds sizes ≡ check_top (read_top (field at tag (slice (at + 3) next program))) d) where
    tops_next : tops_at program at to d ≡ (checked_step s families kinds sizes >>= tops_at program next to)
    unfolding check_tops_by
    tops_next = ap (λ (fs : List Field). check_tops (map read_top fs) d) w.first ∙ ap (λ (c : Checked Declared). c >>= tops_at program next to) (sym e)

    pub tops_stop : (f : Refusal) → s ≡ Err f → result_told (Err f) ≡ verdict (tops_at program at to d)
    unfolding result_told verdict checked_step ◌>>=◌
    tops_stop f u = sym (ap verdict (tops_next ∙ ap (λ (x : Result SoFar Refusal). checked_step x families kinds sizes >>= tops_at program next to) u))

    pub tops_go : (t : SoFar) → s ≡ Ok t → tops_at program at to d ≡ tops_at program next to (declared_in t families kinds sizes)
    unfolding checked_step ◌>>=◌
    tops_go t u = tops_next ∙ ap (λ (x : Result SoFar Refusal). checked_step x families kinds sizes >>= tops_at program next to) u

pub step_holds : (bytes next : ℕ) (s : Result SoFar Refusal) (t : SoFar) (families : List (List ℕ)) (kinds : List ℕ) (sizes : List (List ℤ)) → s ≡ Ok t → StepRight bytes next s families kinds sizes → DeclaredRight bytes next t families kinds sizes
step_holds bytes next s t families kinds sizes e h = rw e at h

pub tops_all : (program : List ℕ) (families : List (List ℕ)) (kinds : List ℕ) (sizes : List (List ℤ)) → check (read program) ≡ tops_at program 0 (length program) (declared_in none_so_far families kinds sizes)
unfolding check read fields_at tabulated
tops_all program families kinds sizes = sym (ap (λ (l : List ℕ). check_tops (map read_top (fields 0 l)) (declared_in none_so_far families kinds sizes)) (take-length program))

-- what is declared before a place is declared before a later one
pub declared_later : (bytes at to : ℕ) (t : SoFar) (families : List (List ℕ)) (kinds : List ℕ) (sizes : List (List ℤ)) → at ≤ to → DeclaredRight bytes at t families kinds sizes → DeclaredRight bytes to t families kinds sizes
declared_later bytes at to t families kinds sizes k h = record {
  short = h.short;
  table = h.table;
  used = in_use_later t.rows t.rows t.registers at to kinds h.used k (omega (arith, h.used.few));
  wide = h.wide;
  long = h.long;
  families_fit = h.families_fit;
  qubits_fit = h.qubits_fit;
  bits_fit = h.bits_fit;
  least_rows = h.least_rows;
  each = h.each;
  behind = h.behind;
  rows_right = h.rows_right;
  taken = formals_later at to families kinds k h.taken;
}

-- every number of a table of zeros is 0
getD-zeros : (n j : ℕ) → ◌≡◌ {A = ℕ} (get_or (replicate n 0) j 0) 0
getD-zeros zero j = refl
getD-zeros (suc n) zero = refl
getD-zeros (suc n) (suc j) = getD-zeros n j

-- and so is every number of a row of zeros
zero_row : (n k i : ℕ) → ◌≡◌ {A = ℕ} (get_or (get_or (replicate n (replicate 3 0)) k []) i 0) 0
zero_row zero k i = refl
zero_row (suc n) zero i = getD-zeros 3 i
zero_row (suc n) (suc k) i = zero_row n k i

zero_right : (n k rows : ℕ) → FamilyRight (get_or (replicate n (replicate 3 0)) k []) rows
zero_right n k rows = record { few = omega (arith, zero_row n k 0); inside = omega (arith, zero_row n k 1, zero_row n k 2) }

zero_taken : (n at : ℕ) (kinds : List ℕ) → FormalsIn at (replicate n (replicate 3 0)) kinds
zero_taken n at kinds x =
    let k = most_families + x in
    record {
      few = omega (arith, zero_row n k 0);
      inside = omega (arith, zero_row n k 1, zero_row n k 2);
      low = λ i h. absurd (omega (arith, zero_row n k 1));
      high = λ i h. absurd (omega (arith, zero_row n k 1));
      plain = λ i h. absurd (omega (arith, zero_row n k 1));
    }

-- nothing is declared in tables of zeros that are long enough
pub zeros_hold : (bytes rows named : ℕ) → bytes ≤ longest_program → 3 * most_registers + bytes < 3 * (rows / 2) → rows ≤ most_rows → size_row bytes most_registers < named
    → DeclaredRight bytes 0 none_so_far (replicate (most_families + named) (replicate 3 0)) (replicate rows 0) (replicate named (replicate 5 (pos 0)))
unfolding in_range all_in_range size_of_row
zeros_hold bytes rows named s k w n = record {
  short = s;
  table = record {
    kinds_long = rw (length-replicate {A = ℕ} rows 0) k;
    sizes_long = omega (arith, length-replicate named (replicate 5 (pos 0)));
    size_rows = record { enough = omega arith; each = λ i h. rw (get_or-replicate named i (replicate 5 (pos 0)) [] (omega (arith, length-replicate named (replicate 5 (pos 0))))) (record { long = refl; inside = refl }) };
  };
  used = record { few = omega arith; few_registers = omega arith; named = λ j. rw (getD-zeros rows j) (omega arith) };
  wide = omega (arith, length-replicate {A = ℕ} rows 0);
  long = omega (arith, length-replicate {A = List ℕ} (most_families + named) (replicate 3 0), length-replicate named (replicate 5 (pos 0)));
  families_fit = omega arith;
  qubits_fit = omega arith;
  bits_fit = omega arith;
  least_rows = omega arith;
  each = λ k h. absurd (omega arith);
  behind = λ k h. absurd (omega arith);
  rows_right = λ k h. zero_right (most_families + named) k (length {A = ℕ} (replicate rows 0));
  taken = zero_taken (most_families + named) 0 (replicate rows 0);
}

pub program_long : (program : List ℕ) → longest_program < length program → turned_down 1 0 ≡ check_result program
unfolding check_result check_program verdict require ◌>>◌
program_long program h = sym (rw (lt-leb (length program) longest_program h))

pub program_short : (program : List ℕ) → length program ≤ longest_program → verdict (check (read program)) ≡ check_result program
unfolding check_result check_program require ◌>>◌
program_short program h = sym (rw (le-leb (length program) longest_program h))
