-- What is shown, and which kinds fit. Assumes nothing.
use mathlib.Core.Path.{◌≡◌, refl, sym, ap, ◌∙◌}
use mathlib.Core.List.{List}
use Prim.Native.Nat.{ℕ}
use lib.IntN.{ℤ}
use Rattle.std.specs.Prelude.{Result, Ok, Err}
use Rattle.language.specs.Form.{Form, Built, built, out_of_range, difference_of, ◌then_build◌}
use Rattle.language.specs.Check.{good, refused, Formal, Kind, must_show, whole_fits, element_size}
use Rattle.kinds.specs.declared.Kind.TheVariants.{Qubit, Quantum, Classical, Family}
use Rattle.forms.specs.Flat.{as_form, built_of}
use Rattle.forms.specs.declared.OutOfRange.{OutOfRange}
use Rattle.check_operand.specs.Tables.{Known, kind_in}
use Rattle.check_operand.specs.Operands.{wanted_of}
use Rattle.check_operand.specs.declared.Wanted.{Wanted}
use Rattle.check_operand.specs.declared.Wanted.TheVariants.{Wire, Bit, Register, Family as Passed}
use Rattle.kinds.specs.declared.Kind as K
use Rattle.language.specs.Check as C

-- what is built where a difference was refused, or made
pub not_made : (l : List ℤ) {t : Result (Unit {0}) OutOfRange} {b : Built} {o : OutOfRange} → built_of t l ≡ b → t ≡ Err o → b ≡ out_of_range
unfolding built_of
not_made l e q = sym e ∙ ap (λ (t : Result (Unit {0}) OutOfRange). built_of t l) q

pub is_made : (l : List ℤ) {t : Result (Unit {0}) OutOfRange} {b : Built} {u : Unit {0}} → built_of t l ≡ b → t ≡ Ok u → b ≡ built (as_form l)
unfolding built_of
is_made l e q = sym e ∙ ap (λ (t : Result (Unit {0}) OutOfRange). built_of t l) q

-- what is built from what may be refused
module _ (next : Form → Built) where
  pub then_not : {b : Built} → b ≡ out_of_range → (b then_build next) ≡ out_of_range
  unfolding ◌then_build◌
  then_not e = ap (λ (b : Built). b then_build next) e

  pub then_made : {b : Built} (f : Form) → b ≡ built f → (b then_build next) ≡ next f
  unfolding ◌then_build◌
  then_made f e = ap (λ (b : Built). b then_build next) e

-- an operand of the kind k taken whole
module _ (p : ℕ) (s : C.Scope) (f : Form) (l : List ℤ) (known : Known) (g : Formal) where
  pub wire_bad : (k : K.Kind) → (k ≡ Qubit → ⊥) → refused 9 p ≡ whole_fits p s (wanted_of known Wire l) (kind_in k f g)
  unfolding wanted_of whole_fits kind_in
  wire_bad Qubit h = absurd (h refl)
  wire_bad Quantum h = refl
  wire_bad Classical h = refl
  wire_bad Family h = refl

  pub register_good : (t : Result (Unit {0}) OutOfRange) → must_show p s (built_of t l then_build difference_of f) ≡ whole_fits p s (wanted_of known (Register t) l) (kind_in Quantum f g)
  unfolding wanted_of whole_fits kind_in
  register_good t = refl

  pub register_bad : (t : Result (Unit {0}) OutOfRange) (k : K.Kind) → (k ≡ Quantum → ⊥) → refused 9 p ≡ whole_fits p s (wanted_of known (Register t) l) (kind_in k f g)
  unfolding wanted_of whole_fits kind_in
  register_bad t Qubit h = refl
  register_bad t Quantum h = absurd (h refl)
  register_bad t Classical h = refl
  register_bad t Family h = refl

  pub other_bad : (w : Wanted) (k : Kind) → (w ≡ Wire → ⊥) → ((t : Result (Unit {0}) OutOfRange) → w ≡ Register t → ⊥) → refused 9 p ≡ whole_fits p s (wanted_of known w l) k
  unfolding wanted_of whole_fits
  other_bad Wire k h q = absurd (h refl)
  other_bad Bit k h q = refl
  other_bad (Register t) k h q = absurd (q t refl)
  other_bad (Passed x) k h q = refl

-- the kind k of an operand whose element is due
module _ (p : ℕ) (f : Form) (l : List ℤ) (known : Known) (g : Formal) where
  pub element_no_wire : (k : K.Kind) → (k ≡ Quantum → ⊥) → refused 9 p ≡ element_size p (wanted_of known Wire l) (kind_in k f g)
  unfolding wanted_of element_size kind_in
  element_no_wire Qubit h = refl
  element_no_wire Quantum h = absurd (h refl)
  element_no_wire Classical h = refl
  element_no_wire Family h = refl

  pub element_no_bit : (k : K.Kind) → (k ≡ Classical → ⊥) → refused 9 p ≡ element_size p (wanted_of known Bit l) (kind_in k f g)
  unfolding wanted_of element_size kind_in
  element_no_bit Qubit h = refl
  element_no_bit Quantum h = refl
  element_no_bit Classical h = absurd (h refl)
  element_no_bit Family h = refl

  pub element_other : (w : Wanted) (k : Kind) → (w ≡ Wire → ⊥) → (w ≡ Bit → ⊥) → refused 9 p ≡ element_size p (wanted_of known w l) k
  unfolding wanted_of element_size
  element_other Wire k h q = absurd (h refl)
  element_other Bit k h q = absurd (q refl)
  element_other (Register t) k h q = refl
  element_other (Passed x) k h q = refl
