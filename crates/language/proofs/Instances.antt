-- An instance before the machine starts: the family that is found, and what turns the instance down.
use mathlib.Core.Path.{◌≡◌, refl, ap, ◌∙◌}
use mathlib.Core.List.{List, []}
use mathlib.Core.Bool.{true, false}
use mathlib.Core.Option.{none, some}
use Prim.Native.Nat.{ℕ, ◌*◌}
use borrow.Author.Tests.{eq-eqb, ne_eqb}
use lib.ListN.{length, take, get_elem?}
use Rattle.language.specs.Read.{read}
use Rattle.language.specs.Machine.{Family, has_family_type, all_declared}
use Rattle.language.specs.Result.{untouched, four_bytes, all_sizes_fit, instance_of}
use Rattle.language.specs.Lookup.{Declaration, family_in, mapped, meaning}
use Rattle.language.proofs.Families.{family_at_lem}

module _ (program : List ℕ) (n limit : ℕ) (output : List ℕ) where
  -- the family that the machine knows for a declaration
  unfoldable pub declared_family : Declaration → Family
  declared_family D = meaning limit (length output) (take n (all_declared limit (length output) (read program) [])) D

  pub family_found : (D : Declaration) → family_in (read program) n ≡ some D → get_elem? (all_declared limit (length output) (read program) []) n ≡ some (declared_family D)
  unfolding declared_family mapped
  family_found D i = family_at_lem limit (length output) (read program) n ∙ ap (mapped (meaning limit (length output) (take n (all_declared limit (length output) (read program) [])))) i

  pub family_missing : family_in (read program) n ≡ none → get_elem? (all_declared limit (length output) (read program) []) n ≡ none
  unfolding mapped
  family_missing i = family_at_lem limit (length output) (read program) n ∙ ap (mapped (meaning limit (length output) (take n (all_declared limit (length output) (read program) [])))) i

  module _ (sizes : List ℕ) where
    pub no_family_lem : family_in (read program) n ≡ none → instance_of (get_elem? (all_declared limit (length output) (read program) []) n) sizes output ≡ untouched output 20 0
    unfolding instance_of
    no_family_lem i = rw (family_missing i) refl

    pub takes_family_lem : (D : Declaration) → family_in (read program) n ≡ some D → has_family_type D.types ≡ true
        → instance_of (get_elem? (all_declared limit (length output) (read program) []) n) sizes output ≡ untouched output 34 0
    unfolding instance_of declared_family meaning
    takes_family_lem D i t = rw (family_found D i, t) refl

    pub miscounted : (D : Declaration) → family_in (read program) n ≡ some D → has_family_type D.types ≡ false → (length sizes ≡ 4 * D.variables → ⊥)
        → instance_of (get_elem? (all_declared limit (length output) (read program) []) n) sizes output ≡ untouched output 21 0
    unfolding instance_of declared_family meaning
    miscounted D i t h = rw (family_found D i, t, ne_eqb (length sizes) (4 * D.variables) h) refl

    pub too_large_lem : (D : Declaration) → family_in (read program) n ≡ some D → has_family_type D.types ≡ false → length sizes ≡ 4 * D.variables → all_sizes_fit (four_bytes sizes) ≡ false
        → instance_of (get_elem? (all_declared limit (length output) (read program) []) n) sizes output ≡ untouched output 22 0
    unfolding instance_of declared_family meaning
    too_large_lem D i t h k = rw (family_found D i, t, eq-eqb (length sizes) (4 * D.variables) h, k) refl
