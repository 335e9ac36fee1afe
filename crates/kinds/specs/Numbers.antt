-- The numbers of kinds.
use Rattle.std.specs.Prelude.{◌≡◌, refl, cond, ℕ, eqb}
use Rattle.kinds.specs.declared.Kind.{Kind}
use Rattle.kinds.specs.declared.Kind.TheVariants.{Qubit, Quantum, Classical, Family}

unfoldable pub number_of : Kind → ℕ
number_of Qubit = 0
number_of Quantum = 1
number_of Classical = 2
number_of Family = 3

unfoldable pub kind_with : ℕ → Kind
kind_with n = cond (eqb n 0) Qubit (cond (eqb n 1) Quantum (cond (eqb n 2) Classical Family))

-- each kind is that of its number
pub kind_back : (k : Kind) → kind_with (number_of k) ≡ k
unfolding number_of kind_with
kind_back Qubit = refl
kind_back Quantum = refl
kind_back Classical = refl
kind_back Family = refl
