-- Equal forms: each test is true of what is equal, and of nothing else. The laws are stated here; proofs/Equal proves them.
use Rattle.std.specs.Prelude.{◌≡◌, List, true, ℤ}
use Rattle.language.specs.Form.{Form, same_number, same_numbers, same_form}

abbrev pub SameNumberLaw : Type 0
SameNumberLaw = (x y : ℤ) → same_number x y ≡ true → x ≡ y

abbrev pub NumberItselfLaw : Type 0
NumberItselfLaw = (x : ℤ) → same_number x x ≡ true

abbrev pub SameNumbersLaw : Type 0
SameNumbersLaw = (xs ys : List ℤ) → same_numbers xs ys ≡ true → xs ≡ ys

abbrev pub NumbersItselfLaw : Type 0
NumbersItselfLaw = (xs : List ℤ) → same_numbers xs xs ≡ true

abbrev pub SameFormLaw : Type 0
SameFormLaw = (f g : Form) → same_form f g ≡ true → f ≡ g

abbrev pub FormItselfLaw : Type 0
FormItselfLaw = (f : Form) → same_form f f ≡ true
