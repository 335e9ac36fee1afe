-- `forms::replace_into` meets its contract. Assumes nothing.
use native.Mathlib.Omega.{arith}
use mathlib.Core.Path.{◌≡◌, ap, ◌∙◌}
use mathlib.Core.Bool.{true}
use Prim.Native.Nat.{ℕ, ◌+◌, ◌<◌}
use mathlib.Core.List.{List}
use lib.IntN.{ℤ, pos}
use lib.ListN.{get_or}
use Rattle.language.specs.Form.{in_range, multiple_of, sum_of, ◌then_build◌}
use Rattle.language.proofs.Integers.{range_back}
use Rattle.forms.proofs.Lists.{kept_at, drop_flat, closed_less, closed_more}
use Rattle.forms.specs.Flat.{Kept}
use Rattle.forms.specs.Rows.{loop_at}
use Rattle.forms.proofs.replace_into.Goals as goal

-- v's coefficient is in range

k-in : (f : List ℤ) (v : ℕ) → v < 12 → Kept f → in_range (get_or f (v + 1) (pos 0)) ≡ true
k-in f v h k = kept_at f (v + 1) (omega arith) k

pub sum_but-requires-clause-k_value : goal.sum_but-requires-clause-k_value
sum_but-requires-clause-k_value c =
    let k = k-in c.args.f.now c.args.v c.requires.v_lt_all_variables c.requires.kept in
    ap in_range (range_back k) ∙ k

pub returns-then-k-lt0 : goal.returns-then-k-lt0
returns-then-k-lt0 c =
    let f = c.args.f.now in
    let v = c.args.v in
    let b = loop_at c.args.n c.args.lows.now c.args.highs.now in
    let sign = rw (range_back (k-in c.args.f.now c.args.v c.requires.v_lt_all_variables c.requires.kept)) at c.if-k-lt0.true in
    record {
      g_after = c.sum_but.ensures.g_after ∙ (λ j. multiple_of (range_back (k-in c.args.f.now c.args.v c.requires.v_lt_all_variables c.requires.kept) j) b.high then_build sum_of (drop_flat f v c.requires.kept j)) ∙ closed_less f v b c.requires.kept sign;
      kept_2 = c.sum_but.ensures.kept_3;
    }

pub sum_but-requires-2-clause-k_value : goal.sum_but-requires-2-clause-k_value
sum_but-requires-2-clause-k_value c =
    let k = k-in c.args.f.now c.args.v c.requires.v_lt_all_variables c.requires.kept in
    ap in_range (range_back k) ∙ k

pub returns : goal.returns
returns c =
    let f = c.args.f.now in
    let v = c.args.v in
    let b = loop_at c.args.n c.args.lows.now c.args.highs.now in
    let sign = rw (range_back (k-in c.args.f.now c.args.v c.requires.v_lt_all_variables c.requires.kept)) at c.if-k-lt0.false in
    record {
      g_after = c.sum_but-2.ensures.g_after ∙ (λ j. multiple_of (range_back (k-in c.args.f.now c.args.v c.requires.v_lt_all_variables c.requires.kept) j) b.low then_build sum_of (drop_flat f v c.requires.kept j)) ∙ closed_more f v b c.requires.kept c.requires.fact sign;
      kept_2 = c.sum_but-2.ensures.kept_3;
    }
