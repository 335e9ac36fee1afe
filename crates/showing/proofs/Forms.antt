-- Forms in range one after another, the number of loop variables gone through, and what is answered. Assumes nothing.
use mathlib.Core.Path.{◌≡◌, refl, ap}
use mathlib.Core.List.{List, [], ◌∷◌}
use mathlib.Core.Bool.{Bool, true, false, ◌&&◌}
use Prim.Native.Nat.{ℕ, zero, suc, ◌+◌, ◌≤◌, ◌<◌}
use native.Mathlib.Omega.{arith}
use borrow.Author.Tests.{le-leb, lt-leb}
use lib.IntN.{ℤ}
use lib.ListN.{length, get_or}
use Rattle.language.specs.Limits.{all_variables}
use Rattle.language.specs.Form.{built, all_in_range, showing}
use Rattle.form_laws.specs.Settled.{gone_through}
use Rattle.form_laws.specs.Trials.{trials_made}
use Rattle.forms.specs.Flat.{as_form}
use Rattle.forms.specs.Rows.{Rows, loops_of}
use Rattle.forms.proofs.Laws.{and_no}
use Rattle.showing.specs.Answers.{forms_in_range, are_forms, number_of, no_forms, answer}

-- ---- forms one after another

pub too_few : (n : ℕ) (l : List (List ℤ)) → length l < n → forms_in_range n l ≡ false
unfolding forms_in_range
too_few zero l h = absurd (omega arith)
too_few (suc n) [] h = refl
too_few (suc n) (f ∷ l) h = and_no (all_in_range f) (too_few n l (omega arith))

-- a form out of range
pub one_out : (n i : ℕ) (l : List (List ℤ)) → i < n → all_in_range (get_or l i []) ≡ false → forms_in_range n l ≡ false
unfolding forms_in_range
one_out zero i l h e = absurd (omega arith)
one_out (suc n) i [] h e = refl
one_out (suc n) zero (f ∷ l) h e = ap (λ (t : Bool). t && forms_in_range n l) e
one_out (suc n) (suc i) (f ∷ l) h e = and_no (all_in_range f) (one_out n i l (omega arith) e)

pub all_in : (n : ℕ) (l : List (List ℤ)) → Rows l n → forms_in_range n l ≡ true
unfolding forms_in_range
all_in zero l r = refl
all_in (suc n) [] r = absurd (let e = r.enough in omega arith)
all_in (suc n) (f ∷ l) r =
    let e = r.enough in
    rw ((r.each 0 (omega arith)).inside, all_in n l (record { enough = omega arith; each = λ i h. r.each (suc i) (omega arith) }))

-- ---- the arguments, in the order in which they are tested

module _ (v n : ℕ) (f : List ℤ) (l h : List (List ℤ)) where
  pub too_many_lem : all_variables < v + n → are_forms v n f l h ≡ false
  unfolding are_forms
  too_many_lem p = rw (lt-leb (v + n) all_variables p)

  module _ (few : v + n ≤ all_variables) where
    pub form_out : all_in_range f ≡ false → are_forms v n f l h ≡ false
    unfolding are_forms
    form_out e = rw (le-leb (v + n) all_variables few, e)

    pub low_out : all_in_range f ≡ true → forms_in_range n l ≡ false → are_forms v n f l h ≡ false
    unfolding are_forms
    low_out e g = rw (le-leb (v + n) all_variables few, e, g)

    pub up_to_high : all_in_range f ≡ true → forms_in_range n l ≡ true → are_forms v n f l h ≡ forms_in_range n h
    unfolding are_forms
    up_to_high e g = rw (le-leb (v + n) all_variables few, e, g)

  pub no_forms_lem : are_forms v n f l h ≡ false → answer v n f l h ≡ record { number = no_forms; through = 0; trials = 0 }
  unfolding answer
  no_forms_lem e = rw e

  pub forms_given : are_forms v n f l h ≡ true → {a b c : ℕ} → a ≡ number_of (showing v (loops_of n l h) (built (as_form f))) → b ≡ gone_through v (loops_of n l h) (built (as_form f)) → c ≡ trials_made v (loops_of n l h) (built (as_form f)) → answer v n f l h ≡ record { number = a; through = b; trials = c }
  unfolding answer
  forms_given e p q r = rw (e, p, q, r)
