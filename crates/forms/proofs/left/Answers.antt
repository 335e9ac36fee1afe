-- `forms::left` meets its contract. The invariant: the loops that remain are those that remain of the loops not looked at yet. Assumes nothing.
use native.Mathlib.Omega.{arith}
use mathlib.Core.Path.{◌≡◌, ap, sym, ◌∙◌}
use Prim.Native.Nat.{ℕ, ◌+◌, ◌-◌, ◌<◌}
use mathlib.Core.List.{List}
use lib.IntN.{ℤ, pos}
use lib.ListN.{get_or}
use mir.Syntax.{w64}
use mir.Val.{of_z}
use Rattle.language.proofs.Integers.{range_fits, bits_zero}
use Rattle.forms.specs.Flat.{as_form}
use Rattle.forms.specs.Rows.{loops_of}
use Rattle.forms.proofs.Lists.{kept_at}
use Rattle.forms.proofs.Laws.{passed_by, met, none_met}
use Rattle.forms.proofs.left.Goals as goal

-- the loop's number, and its variable's coefficient
here : (f : List ℤ) (m n : ℕ) → 0 < n → get_or f (m + (n - 1) + 1) (pos 0) ≡ get_or f (m + n) (pos 0)
here f m n h = ap (λ (i : ℕ). get_or f i (pos 0)) (let e : m + (n - 1) + 1 ≡ m + n = omega arith in e)

pub returns-then-f-variables-ne0-clause-f_value : goal.returns-then-f-variables-ne0-clause-f_value
returns-then-f-variables-ne0-clause-f_value c =
    let f = c.args.f.now in
    let n = c.loop-n.n in
    let h : 0 < n = omega (arith, c.loop-n-test.true) in
    let d : n ≡ n - 1 + 1 = omega arith in
    λ l u. c.loop-n.invariant l u
    ∙ met c.args.variables l u f c.requires.kept n h (λ e. c.if-f-variables-ne0.true (ap (of_z w64) (here f c.args.variables n h ∙ e)))
    ∙ ap (λ (k : ℕ). loops_of k l u) d

pub loop-n-preserved : goal.loop-n-preserved
loop-n-preserved c =
    let f = c.args.f.now in
    let n = c.loop-n.n in
    let h : 0 < n = omega (arith, c.loop-n-test.true) in
    let x = kept_at f (c.args.variables + (n - 1) + 1) (omega (arith, c.requires.loops_bound)) c.requires.kept in
    λ l u. c.loop-n.invariant l u ∙ passed_by c.args.variables l u f c.requires.kept n h (sym (here f c.args.variables n h) ∙ bits_zero (range_fits _ x) c.if-f-variables-ne0.false)

pub returns-clause-f_value : goal.returns-clause-f_value
returns-clause-f_value c =
    let e : c.loop-n.n ≡ 0 = omega arith in
    λ l u. c.loop-n.invariant l u ∙ none_met c.args.variables c.loop-n.n l u (as_form c.args.f.now) (omega arith) ∙ ap (λ (k : ℕ). loops_of k l u) e
