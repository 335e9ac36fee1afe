-- The forms and the loops of the check's scopes are in scope: the laws of specs/Settled that speak of the check. Assumes nothing.
use mathlib.Core.Path.{◌≡◌, refl, subst}
use mathlib.Core.List.{List, [], ◌∷◌}
use Prim.Native.Nat.{ℕ, zero, suc, ◌+◌, ◌≤◌}
use native.Mathlib.Omega.{arith}
use borrow.Author.Tests.{ltb-true}
use lib.Dec.{ltb}
use lib.IntN.{ℤ, pos}
use lib.ListN.{get_or, length, drop, replicate, length-replicate}
use Rattle.language.specs.Tree.{Index, literal, variable, operation, bad_index}
use Rattle.language.specs.Form.{Form, Loop, constant_form, variable_form}
use Rattle.language.specs.Check.{Scope, good, form_of, require, no_leftover, check_bounds, in_loop}
use Rattle.form_laws.specs.Settled.{Scoped, inner, IndexLaw, BodyLaw}
use Rattle.language.proofs.FormLaws.{Zeros, also, Within, constant_within, variable_within}
use Rattle.language.proofs.Safe.{not_good, both, then_both, required}
use Rattle.language.proofs.Fits.{combined_sound}

form_within : (s : Scope) (i : Index) (f : Form) (zs : List ℤ) → form_of s i ≡ good f → length zs ≡ s.variables + length s.loops → Within (length zs) f
unfolding form_of
form_within s (literal q n) f zs e h = let g : constant_form (pos n) ≡ f = cc in subst (λ (x : Form). Within (length zs) x) g (constant_within (length zs) (pos n))
form_within s (variable q n en) f zs e h =
    let all = s.variables + length s.loops in
    let a = then_both (require 8 q (ltb n all)) _ f e in
    let b = then_both (no_leftover q en) _ f a.1 in
    let g : variable_form n ≡ f = cc b.1 in
    subst (λ (x : Form). Within (length zs) x) g (variable_within n (length zs) (omega (arith, h, ltb-true n all (required 8 q (ltb n all) a.0))))
form_within s (operation q o l r en) f zs e h =
    let a = both (form_of s l) _ f e in
    let b = both (form_of s r) _ f a.second in
    let c = then_both (no_leftover q en) _ f b.second in
    (combined_sound q o a.value b.value f zs c.1 (form_within s l a.value zs a.first h) (form_within s r b.value zs b.first h)).0
form_within s (bad_index n q) f zs e h = absurd (not_good e)

zeros_at : (cs : List ℤ) (n u : ℕ) → Zeros (drop n cs) → n ≤ u → get_or cs u (pos 0) ≡ pos 0
zeros_at [] n u z h = refl
zeros_at (c ∷ cs) zero zero (also e z) h = e
zeros_at (c ∷ cs) zero (suc u) (also e z) h = zeros_at cs zero u z (omega arith)
zeros_at (c ∷ cs) (suc n) zero z h = absurd (omega arith)
zeros_at (c ∷ cs) (suc n) (suc u) z h = zeros_at cs n u z (omega arith)

pub index_law : IndexLaw
index_law s i f e u h =
    let n = s.variables + length s.loops in
    let l : length (replicate n (pos 0)) ≡ n = length-replicate n (pos 0) in
    zeros_at f.coefficients (length (replicate n (pos 0))) u (form_within s i f (replicate n (pos 0)) e l).beyond (omega (arith, l))

pub body_law : BodyLaw
unfolding check_bounds in_loop
body_law s low high l e o =
    let a = both (form_of s low) _ l e in
    let b = both (form_of s high) _ l a.second in
    let g : record { low = a.value; high = b.value } ≡ l = cc b.second in
    subst (λ (x : Loop). Scoped s.variables (x ∷ s.loops)) g (inner (index_law s low a.value a.first) (index_law s high b.value b.first) o)
