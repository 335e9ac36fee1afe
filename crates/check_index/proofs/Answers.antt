-- What an answer says of what was read, and of what follows it. Assumes nothing.
use mathlib.Core.Path.{◌≡◌, refl, sym, ap, ◌∙◌}
use mathlib.Core.List.{List, [], ◌∷◌}
use Prim.Native.Nat.{ℕ, zero, suc, ◌+◌, ◌≤◌, ◌<◌}
use native.Mathlib.Omega.{arith}
use native.Mathlib.Numerals.{add-one}
use lib.IntN.{ℤ}
use lib.ListN.{length, drop}
use Rattle.language.specs.Tree.{ended, leftover}
use Rattle.language.specs.Read.{Field, ending}
use Rattle.language.specs.Form.{Form}
use Rattle.language.specs.Check.{Checked, good, refused, ◌>>=◌, ◌>>◌, no_leftover}
use Rattle.fields.specs.Header.{fields_at}
use Rattle.fields.proofs.Headers.{Wholly, View, ends, cuts, goes, view, fields_end}
use Rattle.forms.specs.Flat.{Kept, as_form}
use Rattle.check_index.specs.Answers.{checked_form, FormEndsAt, FormPasses, PastField, checked_part, EndsAt, Passes, Beyond, PassesCount}
use Rattle.std.specs.Prelude.{Result, Ok, Err}
use Rattle.refusals.specs.declared.Refusal.{Refusal}

pub checked_then : {B : Type 0} (r : Result ℕ Refusal) (l : List ℤ) (m : ℕ) (next : Form → Checked B) → r ≡ Ok m → (checked_form r l >>= next) ≡ next (as_form l)
unfolding checked_form ◌>>=◌
checked_then r l m next e = ap (λ (x : Result ℕ Refusal). checked_form x l >>= next) e

pub checked_stop : (r : Result ℕ Refusal) (l k : List ℤ) (next : Form → Checked Form) {e : Refusal} → r ≡ Err e → checked_form (Err e) k ≡ (checked_form r l >>= next)
unfolding checked_form ◌>>=◌
checked_stop r l k next h = sym (ap (λ (x : Result ℕ Refusal). checked_form x l >>= next) h)

pub passed : (program : List ℕ) (at to tag next : ℕ) → Wholly program at to tag next → PastField program at to next
passed program at to tag next w = record { rest = ap (drop 1) w.first; low = w.low; high = w.high }

pub form_ends_passes : (program : List ℕ) (at to tag next : ℕ) (r : Result ℕ Refusal) (l : List ℤ) → Wholly program at to tag next → FormEndsAt next r l → FormPasses program at to r l
form_ends_passes program at to tag next (Ok m) l w e = rw e.0 (passed program at to tag next w, e.1)
form_ends_passes program at to tag next (Err q) l w e = tt

pub drop_two : {A : Type 0} (l : List A) → drop 2 l ≡ drop 1 (drop 1 l)
drop_two [] = refl
drop_two (x ∷ []) = refl
drop_two (x ∷ y ∷ l) = refl

pub more_left : (program : List ℕ) (at to : ℕ) → at < to → to ≤ length program → ending (fields_at program at to) ≡ leftover
unfolding ending
more_left program at to h k = by (view program at to k)
  where
    by : View program at to → ending (fields_at program at to) ≡ leftover
    by (ends e q) = absurd (omega arith)
    by (cuts e) = ap ending e
    by (goes tag next w) = ap ending w.first

pub none_left : (program : List ℕ) (at to : ℕ) → to ≤ at → ending (fields_at program at to) ≡ ended
unfolding ending
none_left program at to h = ap ending (fields_end program at to h)

pub form_passes_upto : (program : List ℕ) (at to : ℕ) (r : Result ℕ Refusal) (l : List ℤ) (m : ℕ) → r ≡ Ok m → FormPasses program at to r l → PastField program at to m × Kept l
form_passes_upto program at to r l m e h = rw e at h

pub then_upto : {B : Type 0} (r : Result ℕ Refusal) (m : ℕ) (next : Checked B) → r ≡ Ok m → (checked_part r >> next) ≡ next
unfolding checked_part ◌>>◌
then_upto r m next e = ap (λ (x : Result ℕ Refusal). checked_part x >> next) e

pub then_stops : (r : Result ℕ Refusal) (next : Checked (Unit {0})) {e : Refusal} → r ≡ Err e → checked_part (Err e) ≡ (checked_part r >> next)
unfolding checked_part ◌>>◌
then_stops r next h = sym (ap (λ (x : Result ℕ Refusal). checked_part x >> next) h)

pub ends_passes : (program : List ℕ) (at to tag next : ℕ) (r : Result ℕ Refusal) → Wholly program at to tag next → EndsAt next r → Passes program at to r
ends_passes program at to tag next (Ok n) w e = rw e (passed program at to tag next w)
ends_passes program at to tag next (Err q) w e = tt

pub form_stops : (r : Result ℕ Refusal) (l : List ℤ) (next : Form → Checked (Unit {0})) {e : Refusal} → r ≡ Err e → checked_part (Err e) ≡ (checked_form r l >>= next)
unfolding checked_form checked_part ◌>>=◌
form_stops r l next h = sym (ap (λ (x : Result ℕ Refusal). checked_form x l >>= next) h)

module _ {B : Type 0} (r : Result ℕ Refusal) (x : Checked (Unit {0})) (e : checked_part r ≡ x) where
  pub part_goes : (m : ℕ) (next : Checked B) → r ≡ Ok m → (x >> next) ≡ next
  part_goes m next u = ap (λ (c : Checked (Unit {0})). c >> next) (sym e) ∙ then_upto r m next u

pub part_stops : (r : Result ℕ Refusal) (x next : Checked (Unit {0})) → checked_part r ≡ x → {e : Refusal} → r ≡ Err e → checked_part (Err e) ≡ (x >> next)
part_stops r x next e h = then_stops r next h ∙ ap (λ (c : Checked (Unit {0})). c >> next) e

pub passes_upto : (program : List ℕ) (at to : ℕ) (r : Result ℕ Refusal) (m : ℕ) → r ≡ Ok m → Passes program at to r → PastField program at to m
passes_upto program at to r m e h = rw e at h

pub left_some : (program : List ℕ) (at from to end : ℕ) → PastField program from to end → end < to → to ≤ length program → no_leftover at (ending (drop 1 (fields_at program from to))) ≡ refused 4 at
unfolding no_leftover
left_some program at from to end v h k = ap (λ (fs : List Field). no_leftover at (ending fs)) v.rest ∙ ap (no_leftover at) (more_left program end to h k)

pub left_none : (program : List ℕ) (at from to end : ℕ) → PastField program from to end → to ≤ end → no_leftover at (ending (drop 1 (fields_at program from to))) ≡ good tt
unfolding no_leftover
left_none program at from to end v h = ap (λ (fs : List Field). no_leftover at (ending fs)) v.rest ∙ ap (no_leftover at) (none_left program end to h)

pub beyond_none : (program : List ℕ) (at to : ℕ) → Beyond program at to 0 at
beyond_none program at to = record { rest = refl; low = omega arith }

pub beyond_more : (program : List ℕ) (at to i mid next : ℕ) → Beyond program at to i mid → PastField program mid to next → Beyond program at to (i + 1) next
beyond_more program at to i mid next b v =
    let h = b.low in
    let k = v.low in
    record { rest = by (fields_at program at to) i ∙ ap (drop 1) b.rest ∙ v.rest; low = omega arith }
  where
    more : {A : Type 0} (l : List A) (i : ℕ) → drop (suc i) l ≡ drop 1 (drop i l)
    more l zero = refl
    more [] (suc i) = refl
    more (x ∷ l) (suc i) = more l i

    by : {A : Type 0} (l : List A) (i : ℕ) → drop (i + 1) l ≡ drop 1 (drop i l)
    by l i = rw add-one (more l i)

pub count_upto : (program : List ℕ) (at to n : ℕ) (r : Result ℕ Refusal) (m : ℕ) → r ≡ Ok m → PassesCount program at to n r → Beyond program at to n m
count_upto program at to n r m e h = rw e at h
