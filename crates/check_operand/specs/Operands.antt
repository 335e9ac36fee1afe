-- What an operand is due to be, and what the answers on operands stand for.
use Rattle.std.specs.Prelude.{◌≡◌, List, Bool, ◌&&◌, ◌||◌, ℕ, ◌+◌, ◌<◌, ℤ, eqb, length, get_or, drop, OnOk, Result, Ok, Err}
use Rattle.language.specs.Form.{Form, same_form}
use Rattle.language.specs.Tree.{Ending, Operand, whole, element, slice, passed, bad_operand}
use Rattle.language.specs.Check.{Checked, good, refused, ◌>>◌, by_showing, form_of, check_one_wire, check_two, check_wires}
use Rattle.language.specs.Read.{Field, ending, operand_due}
use Rattle.forms.specs.Flat.{Kept, as_form, built_of, shown_of}
use Rattle.forms.specs.declared.Unshown.{Unshown}
use Rattle.refusals.specs.Reasons.{number_of}
use Rattle.refusals.specs.declared.Refusal.{Refusal}
use Rattle.check_operand.specs.declared.Wanted.{Wanted}
use Rattle.check_operand.specs.declared.Wanted.TheVariants.{Wire, Bit, Register, Family}
use Rattle.check_operand.specs.Tables.{Known}
use Rattle.language.specs.Check as C

-- what an operand is due to be; the size of a register due is in a form beside it
unfoldable pub wanted_of : Known → Wanted → List ℤ → C.Due
wanted_of k Wire l = C.wire
wanted_of k Bit l = C.bit
wanted_of k (Register t) l = C.register (built_of t l)
wanted_of k (Family x) l = C.fitting (k.formals x)

-- what the answer on the kind of an operand whose element is due stands for: its size
unfoldable pub checked_size : Result ℕ Refusal → Form → Checked Form
checked_size (Ok n) f = good f
checked_size (Err e) f = refused (number_of e.0) e.1

-- what a verdict for the field at p, with a form beside it, stands for
unfoldable pub shown_form : ℕ → Result (Unit {0}) Unshown → List ℤ → Checked Form
shown_form p v l = by_showing p (shown_of v) >> good (as_form l)

-- the form beside it is right, if it was built
abbrev pub SizeRight : Wanted → List ℤ → Type 0
SizeRight Wire l = Unit {0}
SizeRight Bit l = Unit {0}
SizeRight (Register t) l = OnOk t (Kept l)
SizeRight (Family x) l = Unit {0}

-- an operand that is not a family
abbrev pub NoFamily : Operand → Type 0
NoFamily (whole p n e) = Unit {0}
NoFamily (element p n i e) = Unit {0}
NoFamily (slice p n i j e) = Unit {0}
NoFamily (passed p n e) = ⊥
NoFamily (bad_operand n p) = Unit {0}

-- a family that is passed where one is due is answered elsewhere
abbrev pub Answerable : Wanted → Operand → Type 0
Answerable Wire o = Unit {0}
Answerable Bit o = Unit {0}
Answerable (Register t) o = Unit {0}
Answerable (Family x) o = NoFamily o

-- a wire, which is due to be the only field in the field at p
abbrev pub one_wire : C.Scope → ℕ → List Field → Checked (Unit {0})
one_wire s p fs = check_one_wire p s (operand_due p 0 fs) (ending (drop 1 fs))

-- a wire and another operand, and nothing after them; two wires are not one
abbrev pub checked_two : ℕ → C.Scope → C.Due → (first second : Operand) → Ending → Checked (Unit {0})
checked_two p s C.wire w o e = check_wires p s w o e
checked_two p s C.bit w o e = check_two p s C.bit w o e
checked_two p s (C.register i) w o e = check_two p s (C.register i) w o e
checked_two p s (C.fitting g) w o e = check_two p s (C.fitting g) w o e

-- they are due to be the only fields in the field at p
abbrev pub two_operands : C.Scope → C.Due → ℕ → List Field → Checked (Unit {0})
two_operands s d p fs = checked_two p s d (operand_due p 0 fs) (operand_due p 1 fs) (ending (drop 2 fs))

-- ---- the forms of indexes, which are left beside the answers

-- the form of an element's index
abbrev pub FormOf : C.Scope → Operand → List ℤ → Type 0
FormOf s (whole p n e) l = Unit {0}
FormOf s (element p n i e) l = (form_of s i ≡ good (as_form l)) × Kept l
FormOf s (slice p n i j e) l = Unit {0}
FormOf s (passed p n e) l = Unit {0}
FormOf s (bad_operand n p) l = Unit {0}

-- it is beside the answer on an operand that is right
abbrev pub Leaves : C.Scope → Operand → Result ℕ Refusal → List ℤ → Type 0
Leaves s o (Ok n) l = FormOf s o l
Leaves s o (Err e) l = Unit {0}

-- ---- one wire twice, by the bytes at two places and the forms beside them

-- the bytes are there, and the form, unless the operand is whole
pub record Comparable (program : List ℕ) (at : ℕ) (l : List ℤ) : Type 0 where
  pub there : at + 3 < length program
  pub kept : (get_or program at 0 ≡ 48 → ⊥) → Kept l

-- the same tag and number, and equal forms, unless the operands are whole
unfoldable pub same_by : List ℕ → (first second : ℕ) → List ℤ → List ℤ → Bool
same_by program first second l m =
    eqb (get_or program first 0) (get_or program second 0)
    && eqb (get_or program (first + 3) 0) (get_or program (second + 3) 0)
    && (eqb (get_or program first 0) 48 || same_form (as_form l) (as_form m))
