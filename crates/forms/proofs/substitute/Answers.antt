-- `substitute` meets its contract, by the coefficient's sign. The bounds are elements of slices of arrays, lent as they lie.
-- Assumes nothing.
use borrow.Author.Rules.{rules}
use native.Mathlib.Omega.{arith}
use mathlib.Core.Path.{◌≡◌, ap, ◌∙◌}
use mathlib.Core.Bool.{true}
use Prim.Native.Nat.{ℕ, ◌+◌, ◌<◌}
use mathlib.Core.List.{List}
use lib.IntN.{ℤ, pos}
use lib.ListN.{get_or}
use mir.Syntax.{w64}
use mir.Val.{of_z}
use Rattle.language.specs.Form.{in_range, multiple_of, sum_of, ◌then_build◌}
use Rattle.language.proofs.Integers.{range_back, range_fits, bits_zero}
use Rattle.forms.proofs.Lists.{kept_at, drop_kept, drop_flat, closed_zero, closed_less, closed_more}
use Rattle.forms.specs.Flat.{Kept, built_of}
use Rattle.forms.specs.Rows.{loop_at}
use Rattle.forms.proofs.substitute.Goals as goal

-- v's coefficient is in range

k-in : (f : List ℤ) (v : ℕ) → v < 12 → Kept f → in_range (get_or f (v + 1) (pos 0)) ≡ true
k-in f v h k = kept_at f (v + 1) (omega arith) k

pub returns-then-k-eq0 : goal.returns-then-k-eq0
unfolding built_of
returns-then-k-eq0 c =
    record {
      f_after = closed_zero c.args.f.now c.args.v (loop_at c.args.n c.args.lows.now c.args.highs.now) c.requires.kept (bits_zero (range_fits _ (k-in c.args.f.now c.args.v c.requires.v_lt_all_variables c.requires.kept)) c.if-k-eq0.true);
      kept_2 = c.requires.kept;
    }

pub add_scaled-requires-clause-kept : goal.add_scaled-requires-clause-kept
add_scaled-requires-clause-kept c =
    drop_kept c.args.f.now c.args.v c.requires.kept

pub add_scaled-requires-clause-k_value : goal.add_scaled-requires-clause-k_value
add_scaled-requires-clause-k_value c =
    let q = k-in c.args.f.now c.args.v c.requires.v_lt_all_variables c.requires.kept in search (rules, range_back)

pub returns-then-k-lt0 : goal.returns-then-k-lt0
returns-then-k-lt0 c =
    let f = c.args.f.now in
    let v = c.args.v in
    let b = loop_at c.args.n c.args.lows.now c.args.highs.now in
    let sign = rw (range_back (k-in c.args.f.now c.args.v c.requires.v_lt_all_variables c.requires.kept)) at c.if-k-lt0.true in
    record {
      f_after = c.add_scaled.ensures.f_after ∙ (λ j. multiple_of (range_back (k-in c.args.f.now c.args.v c.requires.v_lt_all_variables c.requires.kept) j) b.high then_build sum_of (drop_flat f v c.requires.kept j)) ∙ closed_less f v b c.requires.kept sign;
      kept_2 = c.add_scaled.ensures.kept_3;
    }

pub add_scaled-requires-2-clause-kept : goal.add_scaled-requires-2-clause-kept
add_scaled-requires-2-clause-kept c =
    drop_kept c.args.f.now c.args.v c.requires.kept

pub add_scaled-requires-2-clause-k_value : goal.add_scaled-requires-2-clause-k_value
add_scaled-requires-2-clause-k_value c =
    let q = k-in c.args.f.now c.args.v c.requires.v_lt_all_variables c.requires.kept in search (rules, range_back)

pub returns : goal.returns
returns c =
    let f = c.args.f.now in
    let v = c.args.v in
    let b = loop_at c.args.n c.args.lows.now c.args.highs.now in
    let sign = rw (range_back (k-in c.args.f.now c.args.v c.requires.v_lt_all_variables c.requires.kept)) at c.if-k-lt0.false in
    record {
      f_after = c.add_scaled-2.ensures.f_after ∙ (λ j. multiple_of (range_back (k-in c.args.f.now c.args.v c.requires.v_lt_all_variables c.requires.kept) j) b.low then_build sum_of (drop_flat f v c.requires.kept j)) ∙ closed_more f v b c.requires.kept (λ e. c.if-k-eq0.false (ap (of_z w64) e)) sign;
      kept_2 = c.add_scaled-2.ensures.kept_3;
    }
