-- Equal forms: the laws of specs/Equal. Assumes nothing.
use mathlib.Core.Path.{◌≡◌, refl, ap}
use mathlib.Core.List.{List, [], ◌∷◌}
use Prim.Native.Nat.{ℕ}
use native.Mathlib.Omega.{arith}
use lib.IntN.{ℤ, pos, negsuc}
use borrow.Author.Tests.{eqb-true, eq-eqb}
use Rattle.language.specs.Form.{Form, same_number, same_numbers, same_form}
use Rattle.form_laws.specs.Equal.{SameNumberLaw, NumberItselfLaw, SameNumbersLaw, NumbersItselfLaw, SameFormLaw, FormItselfLaw}
use Rattle.language.proofs.Integers.{and_both}
use Rattle.language.proofs.Safe.{and_is}

pub same_number_lem : SameNumberLaw
unfolding same_number
same_number_lem (pos m) (pos n) e = ap pos (eqb-true m n e)
same_number_lem (pos m) (negsuc n) e = absurd (let z : ◌≡◌ {A = ℕ} 0 1 = cc in omega arith)
same_number_lem (negsuc m) (pos n) e = absurd (let z : ◌≡◌ {A = ℕ} 0 1 = cc in omega arith)
same_number_lem (negsuc m) (negsuc n) e = ap negsuc (eqb-true m n e)

pub number_itself : NumberItselfLaw
unfolding same_number
number_itself (pos n) = eq-eqb n n refl
number_itself (negsuc n) = eq-eqb n n refl

pub same_numbers_lem : SameNumbersLaw
unfolding same_numbers
same_numbers_lem [] [] e = refl
same_numbers_lem [] (y ∷ ys) e = absurd (let z : ◌≡◌ {A = ℕ} 0 1 = cc in omega arith)
same_numbers_lem (x ∷ xs) [] e = absurd (let z : ◌≡◌ {A = ℕ} 0 1 = cc in omega arith)
same_numbers_lem (x ∷ xs) (y ∷ ys) e =
    let b = and_both (same_number x y) (same_numbers xs ys) e in
    cc (same_number_lem x y b.0, same_numbers_lem xs ys b.1)

pub numbers_itself : NumbersItselfLaw
unfolding same_numbers
numbers_itself [] = refl
numbers_itself (x ∷ xs) = and_is (number_itself x) (numbers_itself xs)

form_is : {c d : ℤ} {cs ds : List ℤ} → c ≡ d → cs ≡ ds → ◌≡◌ {A = Form} (record { constant = c; coefficients = cs }) (record { constant = d; coefficients = ds })
form_is p q = cc

pub same_form_lem : SameFormLaw
unfolding same_form
same_form_lem f g e =
    let b = and_both (same_number f.constant g.constant) (same_numbers f.coefficients g.coefficients) e in
    form_is (same_number_lem f.constant g.constant b.0) (same_numbers_lem f.coefficients g.coefficients b.1)

pub form_itself : FormItselfLaw
unfolding same_form
form_itself f = and_is (number_itself f.constant) (numbers_itself f.coefficients)
