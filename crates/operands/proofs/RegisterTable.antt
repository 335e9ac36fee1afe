-- One register more in the table. Assumes nothing.
use Prim.Native.Nat.{ℕ, zero, suc, ◌+◌, ◌*◌, ◌<◌}
use mathlib.Core.Path.{◌≡◌, refl, ap, ◌∙◌}
use mathlib.Core.List.{List, [], ◌∷◌, ◌++◌}
use native.Mathlib.Omega.{arith}
use lib.ListN.{length, take, set}
use Rattle.language.specs.Machine.{Meaning}
use Rattle.kinds.specs.declared.Kind.{Kind}
use Rattle.kinds.specs.Numbers.{number_of, kind_with, kind_back}
use Rattle.operands.specs.Meanings.{register_of, registers_of}

one_more_lem : (k f s n : ℕ) (l : List ℕ) → 3 * n + 2 < length l
    → registers_of (take (3 * (n + 1)) (set (set (set l (3 * n) k) (3 * n + 1) f) (3 * n + 2) s)) ≡ registers_of (take (3 * n) l) ++ (register_of (kind_with k) f s ∷ [])
unfolding registers_of
one_more_lem k f s n [] h = absurd (omega arith)
one_more_lem k f s n (a ∷ []) h = absurd (omega arith)
one_more_lem k f s n (a ∷ b ∷ []) h = absurd (omega arith)
one_more_lem k f s zero (a ∷ b ∷ c ∷ l) h = refl
one_more_lem k f s (suc n) (a ∷ b ∷ c ∷ l) h =
    let e : 3 * suc n ≡ suc (suc (suc (3 * n))) = omega arith in
    let d : 3 * (suc n + 1) ≡ suc (suc (suc (3 * (n + 1)))) = omega arith in
    let i : suc (suc (suc (3 * n))) + 1 ≡ suc (suc (suc (3 * n + 1))) = omega arith in
    let j : suc (suc (suc (3 * n))) + 2 ≡ suc (suc (suc (3 * n + 2))) = omega arith in
    rw (d, e, i, j) (ap (λ (ms : List Meaning). register_of (kind_with a) b c ∷ ms) (one_more_lem k f s n l (omega arith)))

-- of a kind, by its number
pub one_declared : (k : Kind) (x f s n : ℕ) (l : List ℕ) → x ≡ number_of k → 3 * n + 2 < length l
    → registers_of (take (3 * (n + 1)) (set (set (set l (3 * n) x) (3 * n + 1) f) (3 * n + 2) s)) ≡ registers_of (take (3 * n) l) ++ (register_of k f s ∷ [])
one_declared k x f s n l e h = one_more_lem x f s n l h ∙ ap (λ (j : Kind). registers_of (take (3 * n) l) ++ (register_of j f s ∷ [])) (ap kind_with e ∙ kind_back k)
