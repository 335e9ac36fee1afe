-- The plain rule's showing that ends as soon as its form is settled, and the number of loop variables that it goes through. Its laws are stated here; proofs/Settled and proofs/Scoped prove them.
use Rattle.std.specs.Prelude.{◌≡◌, ◌↔◌, List, [], ◌∷◌, Bool, true, false, cond, not, ◌&&◌, ℕ, zero, suc, ◌+◌, ◌≤◌, ◌<◌, ℤ, pos, get_or, length, drop}
use Rattle.language.specs.Tree.{Index}
use Rattle.language.specs.Form.{Form, Built, built, out_of_range, ◌then_build◌, is_zero, Loop, closed, closed_all, Showing, showing_of, plainly}
use Rattle.language.specs.Check.{Scope, good, form_of, check_bounds, in_loop}

-- the coefficient of the variable v
abbrev pub coefficient : ℕ → Form → ℤ
coefficient v f = get_or f.coefficients v (pos 0)

-- f with the variable of l replaced; ls are the loops outside l
abbrev pub replaced : (m : ℕ) → Loop → List Loop → Form → Built
replaced m l ls f = closed (m + length ls) l f (coefficient (m + length ls) f)

-- no variable of these loops has a coefficient other than 0
unfoldable pub settled : (m : ℕ) → List Loop → Form → Bool
settled m [] f = true
settled m (l ∷ ls) f = is_zero (coefficient (m + length ls) f) && settled m ls f

-- What a scan gives: the form in which loop variables are replaced, and how many it went through.
pub record Scan : Type 0 where
  pub form : Built
  pub through : ℕ

abbrev pub ended : Form → Scan
ended f = record { form = built f; through = 0 }

abbrev pub one_more : Scan → Scan
one_more s = record { form = s.form; through = suc s.through }

-- one loop variable is gone through, then the scan of the loops outside it; a number out of range ends it there
unfoldable pub then_scan : Built → (Form → Scan) → Scan
then_scan (built f) next = one_more (next f)
then_scan out_of_range next = record { form = out_of_range; through = 1 }

-- from the highest loop variable down, ending as soon as the form is settled
unfoldable pub scan : (m : ℕ) → List Loop → Form → Scan
scan m [] f = ended f
scan m (l ∷ ls) f = cond (settled m (l ∷ ls) f) (ended f) (then_scan (replaced m l ls f) (scan m ls))

-- What trying to show e ≥ 0 gives, and the number of loop variables gone through.
pub record Settling : Type 0 where
  pub answer : Showing
  pub through : ℕ

abbrev pub settling_of : Scan → Settling
settling_of s = record { answer = showing_of s.form; through = s.through }

-- "Shown e ≥ 0" by the plain rule, by the scan that ends early
unfoldable pub settling : (m : ℕ) → List Loop → Built → Settling
settling m ls (built f) = settling_of (scan m ls f)
settling m ls out_of_range = settling_of (record { form = out_of_range; through = 0 })

-- ---- the number, of the scan that goes on to the end

unfoldable pub if_built : Built → (Form → List Bool) → List Bool
if_built (built f) next = next f
if_built out_of_range next = []

-- of each loop variable that it comes to, from the highest down: whether its term is replaced
unfoldable pub replacements : (m : ℕ) → List Loop → Form → List Bool
replacements m [] f = []
replacements m (l ∷ ls) f = not (is_zero (coefficient (m + length ls) f)) ∷ if_built (replaced m l ls f) (replacements m ls)

unfoldable pub none_true : List Bool → Bool
none_true [] = true
none_true (b ∷ bs) = not b && none_true bs

-- how many from the first to the last that is true, 0 if none is
unfoldable pub to_last : List Bool → ℕ
to_last [] = 0
to_last (b ∷ bs) = cond (none_true (b ∷ bs)) 0 (suc (to_last bs))

-- how many loop variables there are down to the last one that is replaced, counted from the highest; 0 where none is replaced
unfoldable pub gone_through : (m : ℕ) → List Loop → Built → ℕ
gone_through m ls (built f) = to_last (replacements m ls f)
gone_through m ls out_of_range = 0

-- ---- the laws

-- both scans agree: in the answer, a number out of range on the way included, and in the number of variables gone through
abbrev pub AgreeLaw : Type 0
AgreeLaw = (m : ℕ) (ls : List Loop) (e : Built) → settling m ls e ≡ record { answer = plainly m ls e; through = gone_through m ls e }

-- k is the number from the first to the last that is true
pub record Last (bs : List Bool) (k : ℕ) : Type 0 where
  pub last : (j : ℕ) → k ≡ suc j → get_or bs j false ≡ true
  pub below : (j : ℕ) → k ≤ j → get_or bs j false ≡ false

-- the term of the last variable gone through is replaced, and none below it is
abbrev pub LastLaw : Type 0
LastLaw = (m : ℕ) (ls : List Loop) (f : Form) → Last (replacements m ls f) (scan m ls f).through

-- the form after the k highest loop variables
unfoldable pub closed_to : (k : ℕ) → (m : ℕ) → List Loop → Form → Built
closed_to zero m ls f = built f
closed_to (suc k) m [] f = built f
closed_to (suc k) m (l ∷ ls) f = replaced m l ls f then_build closed_to k m ls

-- after k loop variables the form is settled, which is as it stays, and not sooner
pub record SettledAfter (m : ℕ) (ls : List Loop) (f : Form) (k : ℕ) : Type 0 where
  pub final : closed_to k m ls f ≡ closed_all m ls f
  pub settled_then : (g : Form) → closed_to k m ls f ≡ built g → settled m (drop k ls) g ≡ true
  pub not_sooner : (j : ℕ) (g : Form) → j < k → closed_to j m ls f ≡ built g → settled m (drop j ls) g ≡ false

-- the scan ends as soon as the form is settled
abbrev pub EndLaw : Type 0
EndLaw = (m : ℕ) (ls : List Loop) (f : Form) → SettledAfter m ls f (scan m ls f).through

-- the loops that are left: the highest one whose variable has a coefficient other than 0, and those outside it
unfoldable pub remaining : (m : ℕ) → List Loop → Form → List Loop
remaining m [] f = []
remaining m (l ∷ ls) f = cond (is_zero (coefficient (m + length ls) f)) (remaining m ls f) (l ∷ ls)

-- so many variables are passed over before a scan
unfoldable pub after : ℕ → Scan → Scan
after zero s = s
after (suc k) s = one_more (after k s)

-- the scan of these loops, after the variables passed over
unfoldable pub onward : (m : ℕ) → (passed : ℕ) → List Loop → Form → Scan
onward m passed [] f = ended f
onward m passed (l ∷ ls) f = after passed (then_scan (replaced m l ls f) (scan m ls))

-- where to look: the scan, and so too the scan after a replacement, goes on at the highest variable left whose coefficient is not 0, and ends where there is none
abbrev pub NextLaw : Type 0
NextLaw = (m : ℕ) (ls : List Loop) (f : Form) (passed : ℕ) → passed + length (remaining m ls f) ≡ length ls → scan m ls f ≡ onward m passed (remaining m ls f) f

-- f has variables below v only
abbrev pub Below : ℕ → Form → Type 0
Below v f = (u : ℕ) → v ≤ u → coefficient u f ≡ pos 0

-- the low and the high form of each loop have variables from outside it only
pub data Scoped (m : ℕ) : List Loop → Type 0 where
  none : Scoped m []
  inner : {l : Loop} {ls : List Loop} → Below (m + length ls) l.low → Below (m + length ls) l.high → Scoped m ls → Scoped m (l ∷ ls)

-- in scope, the variables gone through are gone: the form is settled when no loop variable at all has a coefficient other than 0
abbrev pub ScopeLaw : Type 0
ScopeLaw = (k m : ℕ) (ls : List Loop) (f g : Form) → Scoped m ls → Below (m + length ls) f → closed_to k m ls f ≡ built g → (settled m (drop k ls) g ≡ true) ↔ Below m g

-- the form that an index means has variables in scope only
abbrev pub IndexLaw : Type 0
IndexLaw = (s : Scope) (i : Index) (f : Form) → form_of s i ≡ good f → Below (s.variables + length s.loops) f

-- and in a loop's body the loops are in scope where those around it are: no loop is open where a family's body or the program begins
abbrev pub BodyLaw : Type 0
BodyLaw = (s : Scope) (low high : Index) (l : Loop) → check_bounds s low high ≡ good l → Scoped s.variables s.loops → Scoped s.variables (in_loop s l).loops
