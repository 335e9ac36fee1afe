-- `forms::store` meets its contract. Assumes nothing.
use native.Mathlib.Omega.{arith}
use native.Mathlib.Numerals.{add-one}
use mathlib.Core.Path.{◌≡◌, sym, ap, ◌∙◌, subst}
use lib.IntN.{ℤ, pos}
use lib.ListN.{take, set, replicate, length-take}
use lib.Seq.{get_or-take}
use mir.Syntax.{w32}
use mir.Val.{to_z, of_z}
use Rattle.forms.specs.Flat.{Short}
use Rattle.language.proofs.Integers.{range_back, narrow_back, narrow_fits}
use Rattle.forms.proofs.Lists.{front, front_put, kept_at, stored, store_short}
use Rattle.forms.proofs.store.Goals as goal

pub overflow_cast-row : goal.overflow_cast-row
overflow_cast-row c =
    let q = kept_at c.args.f.now c.loop-i.i (omega arith) c.requires.kept in
    rw (range_back q) (narrow_fits _ q)

pub loop-i-preserved : goal.loop-i-preserved
loop-i-preserved c =
    let l = c.args.f.now in
    let i = c.loop-i.i in
    let q = kept_at l i (omega arith) c.requires.kept in
    let v = ap (λ (z : ℤ). to_z w32 (of_z w32 z)) (range_back q) ∙ narrow_back q ∙ sym (get_or-take 5 l i (pos 0) c.loop-i-test.true) in
    let n = c.requires.kept.long in
    (λ j. set (c.loop-i.invariant j) i (v j)) ∙ rw add-one (front_put i (take 5 l) (replicate 5 (pos 0)) (pos 0) (omega (arith, length-take 5 l)) (sym (let t = length-take 5 l in omega arith)))

pub returns-clause-short : goal.returns-clause-short
returns-clause-short c =
    let l = c.args.f.now in
    let e : c.loop-i.i ≡ 5 = omega arith in
    let f : c.loop-i.row ≡ take 5 l = c.loop-i.invariant ∙ ap (λ i. front i (take 5 l) (replicate 5 (pos 0))) e ∙ stored l c.requires.kept in
    subst Short (sym f) (store_short l c.requires.kept)
