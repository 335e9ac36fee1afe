-- What the trials by a loop's range change in the check's answers: 12 and no other. The laws are stated here; proofs/Later proves them.
use Rattle.std.specs.Prelude.{◌≡◌, List, ℕ}
use Rattle.language.specs.Tree.{Place, Refusal, Top}
use Rattle.language.specs.Form.{Built}
use Rattle.language.specs.Check.{Checked, good, refused, Scope, by_showing, must_show, Declared, check_tops_by, check_tops}
use Rattle.language.specs.Rules.{no_ranges, check_program_by}
use Rattle.language.specs.Result.{Result, verdict, check_result}
use Rattle.form_laws.specs.Settled.{settling}

-- what the plain rule has a part checked to, and what it is checked to: the same, but anything may come in the place of 12
pub data Later {A : Type 0} : (plain wide : Checked A) → Type 0 where
  both_good : {a : A} → Later (good a) (good a)
  both_refused : {n : Refusal} {p : Place} → Later (refused n p) (refused n p)
  any_for12 : {p : Place} {c : Checked A} → Later (refused 12 p) c

-- of one showing, by the scan that ends early
abbrev pub ShowingLaw : Type 0
ShowingLaw = (p : Place) (s : Scope) (e : Built) → Later (by_showing p (settling s.variables s.loops e).answer) (must_show p s e)

-- of top fields
abbrev pub TwelveLaw : Type 0
TwelveLaw = (tops : List Top) (d : Declared) → Later (check_tops_by no_ranges tops d) (check_tops tops d)

-- so what the plain rule accepts up to any point is accepted: what comes in the place of 12 does not come before it
abbrev pub UpToLaw : Type 0
UpToLaw = (tops : List Top) (d after : Declared) → check_tops_by no_ranges tops d ≡ good after → check_tops tops d ≡ good after

-- what the check of a program's bytes would answer by the plain rule
abbrev pub plain_result : (program : List ℕ) → Result
plain_result program = verdict (check_program_by no_ranges program)

-- an answer of the plain rule other than 12 stays, acceptance among them
abbrev pub StaysLaw : Type 0
StaysLaw = (program : List ℕ) → ((plain_result program).number ≡ 12 → ⊥) → check_result program ≡ plain_result program
