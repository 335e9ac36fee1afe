-- Laws of lists for loops that overwrite a list in place from the front, and of the definitions of `specs/`, entry by entry.
--     front i new old   the first i of `new`, and what is left of `old` past them: what such a loop has after i turns
--     rest-...          the answer to "are all in range" is the answer for what is left, so long as each one passed is
-- Assumes nothing.
use mathlib.Core.Path.{◌≡◌, refl, sym, ap, ◌∙◌}
use mathlib.Core.List.{List, [], ◌∷◌, ◌++◌, map}
use mathlib.Core.Bool.{Bool, true, false, cond, ◌&&◌}
use Prim.Native.Nat.{ℕ, zero, suc, ◌+◌, ◌≤◌, ◌<◌}
use native.Mathlib.Numerals.{add-one}
use native.Mathlib.Omega.{arith}
use lib.IntN.{ℤ, pos, negsuc, ◌+ℤ◌, ◌-ℤ◌}
use lib.Signed.{le_z, lt_z}
use lib.ListN.{length, get_or, take, drop, set, replicate, length-set, length-take, length-append, get_or-append}
use lib.Seq.{take_all}
use Rattle.std.proofs.lemmas.List.{take-append-le}
use Rattle.std.specs.Prelude.{Result, Ok, Err, IsErr, OnOk, is_err}
use Rattle.language.specs.Form.{Built, built, out_of_range, Loop, closed, showing_of, in_range, all_in_range, zipped, build, sum_of, difference_of, multiple_of, ◌then_build◌, without, none_negative, is_zero, all_zero, same_numbers, same_form}
use Rattle.forms.specs.declared.OutOfRange.{OutOfRange}
use Rattle.forms.specs.Flat.{Kept, Short, widened, as_form, built_of, showing_by}
use mir.Syntax.{w32, w64}
use mir.Val.{to_z, of_z}
use Rattle.language.proofs.Integers.{clash, lt_true, widen_back}
use Rattle.std.specs.Bool.{Decides}
use Rattle.std.specs.List.{list_all}
use Rattle.form_laws.proofs.Equal.{same_numbers_lem, numbers_itself}

module _ {A : Type 0} where
  abbrev pub front : ℕ → List A → List A → List A
  front i new old = take i new ++ drop i old

  pub front_read : (i : ℕ) (new old : List A) (d : A) → i ≤ length new → get_or (front i new old) i d ≡ get_or old i d
  front_read zero new old d h = refl
  front_read (suc i) [] old d h = absurd (omega arith)
  front_read (suc i) (n ∷ new) [] d h = past i new d
    where
      past : (i : ℕ) (new : List A) (d : A) → get_or (take i new ++ []) i d ≡ d
      past zero [] d = refl
      past zero (n ∷ new) d = refl
      past (suc i) [] d = refl
      past (suc i) (n ∷ new) d = past i new d
  front_read (suc i) (n ∷ new) (o ∷ old) d h = front_read i new old d (omega arith)

  pub front_put : (i : ℕ) (new old : List A) (d : A) → i < length new → length old ≡ length new → set (front i new old) i (get_or new i d) ≡ front (suc i) new old
  front_put i [] old d h e = absurd (omega arith)
  front_put i (n ∷ new) [] d h e = absurd (omega arith)
  front_put zero (n ∷ new) (o ∷ old) d h e = refl
  front_put (suc i) (n ∷ new) (o ∷ old) d h e = ap (λ (l : List A). n ∷ l) (front_put i new old d (omega arith) (omega arith))

  pub front_all : (i : ℕ) (new old : List A) → length new ≡ i → length old ≡ i → front i new old ≡ new
  front_all zero [] [] h k = refl
  front_all zero (n ∷ new) old h k = absurd (omega arith)
  front_all zero [] (o ∷ old) h k = absurd (omega arith)
  front_all (suc i) [] old h k = absurd (omega arith)
  front_all (suc i) (n ∷ new) [] h k = absurd (omega arith)
  front_all (suc i) (n ∷ new) (o ∷ old) h k = ap (λ (l : List A). n ∷ l) (front_all i new old (omega arith) (omega arith))

-- ---- entry by entry

pub length_zipped : (f : ℤ → ℤ → ℤ) (xs ys : List ℤ) → length xs ≡ length ys → length (zipped f xs ys) ≡ length xs
unfolding zipped
length_zipped f [] ys e = refl
length_zipped f (x ∷ xs) [] e = absurd (omega arith)
length_zipped f (x ∷ xs) (y ∷ ys) e = ap suc (length_zipped f xs ys (omega arith))

pub zipped_at : (f : ℤ → ℤ → ℤ) (xs ys : List ℤ) (i : ℕ) (d : ℤ) → i < length xs → i < length ys → get_or (zipped f xs ys) i d ≡ f (get_or xs i d) (get_or ys i d)
unfolding zipped
zipped_at f [] ys i d h k = absurd (omega arith)
zipped_at f (x ∷ xs) [] i d h k = absurd (omega arith)
zipped_at f (x ∷ xs) (y ∷ ys) zero d h k = refl
zipped_at f (x ∷ xs) (y ∷ ys) (suc i) d h k = zipped_at f xs ys i d (omega arith) (omega arith)

-- a function of one number, as one of two
pub zipped_map : (g : ℤ → ℤ) (xs : List ℤ) → zipped (λ x y. g x) xs xs ≡ map g xs
unfolding zipped
zipped_map g [] = refl
zipped_map g (x ∷ xs) = ap (λ (l : List ℤ). g x ∷ l) (zipped_map g xs)

-- ---- a test of every entry

-- `all` is: every entry passes p
pub record EachOf (p : ℤ → Bool) (all : List ℤ → Bool) : Type 0 where
  pub none : all [] ≡ true
  pub more : (x : ℤ) (xs : List ℤ) → all (x ∷ xs) ≡ (p x && all xs)

pub ranges : EachOf in_range all_in_range
unfolding all_in_range
ranges = record { none = refl; more = λ x xs. refl }

pub zeros : EachOf is_zero all_zero
unfolding all_zero
zeros = record { none = refl; more = λ x xs. refl }

pub signs : EachOf (le_z (pos 0)) none_negative
unfolding none_negative
signs = record { none = refl; more = λ x xs. refl }

pub both : (s t : Bool) → (s && t) ≡ true → (s ≡ true) × (t ≡ true)
both true t e = (refl, e)
both false t e = absurd (clash (sym e))

-- std's test of every item is the same
pub all_listed : {p : ℤ → Bool} {all : List ℤ → Bool} (r : EachOf p all) (xs : List ℤ) → list_all p xs ≡ all xs
all_listed r [] = sym r.none
all_listed {p} r (x ∷ xs) = ap (λ (t : Bool). p x && t) (all_listed r xs) ∙ sym (r.more x xs)

-- the answer for a list is the answer for what is left of it, so long as each entry passed is right; false at the first that is not; and true at the end
module _ {p : ℤ → Bool} {all : List ℤ → Bool} (r : EachOf p all) where
  pub rest_good : (xs : List ℤ) (i : ℕ) → i < length xs → p (get_or xs i (pos 0)) ≡ true → all (drop i xs) ≡ all (drop (suc i) xs)
  rest_good [] i h e = absurd (omega arith)
  rest_good (x ∷ xs) zero h e = r.more x xs ∙ ap (λ (t : Bool). t && all xs) e
  rest_good (x ∷ xs) (suc i) h e = rest_good xs i (omega arith) e

  pub rest_bad : (xs : List ℤ) (i : ℕ) → i < length xs → p (get_or xs i (pos 0)) ≡ false → all (drop i xs) ≡ false
  rest_bad [] i h e = absurd (omega arith)
  rest_bad (x ∷ xs) zero h e = r.more x xs ∙ ap (λ (t : Bool). t && all xs) e
  rest_bad (x ∷ xs) (suc i) h e = rest_bad xs i (omega arith) e

  pub rest_none : (xs : List ℤ) (i : ℕ) → length xs ≤ i → all (drop i xs) ≡ true
  rest_none [] zero h = r.none
  rest_none [] (suc i) h = r.none
  rest_none (x ∷ xs) zero h = absurd (omega arith)
  rest_none (x ∷ xs) (suc i) h = rest_none xs i (omega arith)

  pub each_at : (xs : List ℤ) (i : ℕ) → i < length xs → all xs ≡ true → p (get_or xs i (pos 0)) ≡ true
  each_at [] i h e = absurd (omega arith)
  each_at (x ∷ xs) zero h e = (both (p x) (all xs) (sym (r.more x xs) ∙ e)).0
  each_at (x ∷ xs) (suc i) h e = each_at xs i (omega arith) (both (p x) (all xs) (sym (r.more x xs) ∙ e)).1

pub zero_yes : {z : ℤ} → z ≡ pos 0 → is_zero z ≡ true
unfolding is_zero
zero_yes e = ap is_zero e

pub zero_no : {z : ℤ} → (z ≡ pos 0 → ⊥) → is_zero z ≡ false
unfolding is_zero
zero_no {z = pos zero} h = absurd (h refl)
zero_no {z = pos (suc n)} h = refl
zero_no {z = negsuc n} h = refl

-- ---- a test whether two lists are the same

pub numbers_decide : (xs ys : List ℤ) → Decides (same_numbers xs ys) (xs ≡ ys)
numbers_decide xs ys = (same_numbers_lem xs ys, λ e. ap (same_numbers xs) (sym e) ∙ numbers_itself xs)

pub same_flat : (f g : List ℤ) → Kept f → Kept g → same_numbers f g ≡ same_form (as_form f) (as_form g)
unfolding as_form same_form same_numbers
same_flat [] g h k = absurd (let l = h.long in omega arith)
same_flat (x ∷ f) [] h k = absurd (let l = k.long in omega arith)
same_flat (x ∷ f) (y ∷ g) h k = refl

-- ---- a loop that puts `op` of two lists' entries in place of the first, and stops at one out of range

-- what holds of f after i turns: its first i numbers come of f₀ and g, and the others stand as they stood in r
pub record Passed (op : ℤ → ℤ → ℤ) (f₀ g r f : List ℤ) (i : ℕ) : Type 0 where
  pub bound : i ≤ 13
  pub shape : f ≡ front i (zipped op f₀ g) r
  pub answer : all_in_range (zipped op f₀ g) ≡ all_in_range (drop i (zipped op f₀ g))

module _ {op : ℤ → ℤ → ℤ} {f₀ g r f : List ℤ} {i : ℕ} (p : Passed op f₀ g r f i) (kf : Kept f₀) (kg : Kept g) where
  new_long : length (zipped op f₀ g) ≡ 13
  new_long = length_zipped op f₀ g (kf.long ∙ sym kg.long) ∙ kf.long

  -- what is read there is what stood there
  pub stands : i < 13 → get_or f i (pos 0) ≡ get_or r i (pos 0)
  stands h =
      let l = new_long in
      ap (λ (l : List ℤ). get_or l i (pos 0)) p.shape ∙ front_read i (zipped op f₀ g) r (pos 0) (omega arith)

  module _ (k : length r ≡ 13) where
    module _ (h : i < 13) {z : ℤ} (e : z ≡ op (get_or f₀ i (pos 0)) (get_or g i (pos 0))) where
      new_at : z ≡ get_or (zipped op f₀ g) i (pos 0)
      new_at = let l = kf.long in let m = kg.long in e ∙ sym (zipped_at op f₀ g i (pos 0) (omega arith) (omega arith))

      pub again : in_range z ≡ true → Passed op f₀ g r (set f i z) (i + 1)
      again q =
          let l = new_long in
          rw add-one (record {
            bound = omega arith;
            shape = rw (p.shape, new_at) (front_put i (zipped op f₀ g) r (pos 0) (omega arith) (k ∙ sym l));
            answer = p.answer ∙ rest_good ranges (zipped op f₀ g) i (omega arith) (ap in_range (sym new_at) ∙ q);
          })

      pub stopped : in_range z ≡ false → all_in_range (zipped op f₀ g) ≡ false
      stopped q = let l = new_long in p.answer ∙ rest_bad ranges (zipped op f₀ g) i (omega arith) (ap in_range (sym new_at) ∙ q)

    pub ended : 13 ≤ i → (f ≡ zipped op f₀ g) × (all_in_range (zipped op f₀ g) ≡ true)
    ended h =
        let l = new_long in
        let b = p.bound in
        let e : i ≡ 13 = omega arith in
        (p.shape ∙ front_all i (zipped op f₀ g) r (l ∙ sym e) (k ∙ sym e), p.answer ∙ rest_none ranges (zipped op f₀ g) i (omega arith))

    pub ended_kept : 13 ≤ i → Kept f
    ended_kept h = record { long = ap length (ended h).0 ∙ new_long; inside = ap all_in_range (ended h).0 ∙ (ended h).1 }

-- ---- what an answer tells of the form beside it

pub when_built : {r : Result (Unit {0}) OutOfRange} {u : Unit {0}} (l : List ℤ) {b : Built} → r ≡ Ok u → built_of r l ≡ b → built (as_form l) ≡ b
unfolding built_of
when_built l e h = ap (λ (r : Result (Unit {0}) OutOfRange). built_of r l) (sym e) ∙ h

pub when_out : {r : Result (Unit {0}) OutOfRange} {x : OutOfRange} (l : List ℤ) {b : Built} → r ≡ Err x → built_of r l ≡ b → out_of_range ≡ b
unfolding built_of
when_out l e h = ap (λ (r : Result (Unit {0}) OutOfRange). built_of r l) (sym e) ∙ h

-- the same, after a test by `is_err`
pub built_when : (r : Result (Unit {0}) OutOfRange) (l : List ℤ) {b : Built} → is_err r ≡ false → built_of r l ≡ b → built (as_form l) ≡ b
built_when (Ok u) l e h = when_built l refl h
built_when (Err x) l e h = absurd (clash e)

pub out_when : (r : Result (Unit {0}) OutOfRange) (l : List ℤ) {b : Built} → is_err r ≡ true → built_of r l ≡ b → out_of_range ≡ b
out_when (Ok u) l e h = absurd (clash (sym e))
out_when (Err x) l e h = when_out l refl h

pub kept_when : (r : Result (Unit {0}) OutOfRange) {P : Type 0} → is_err r ≡ false → OnOk r P → P
kept_when (Ok u) e h = h
kept_when (Err x) e h = absurd (clash e)

-- what the exit of a `?` returns
pub not_built : (r : Result (Unit {0}) OutOfRange) (l : List ℤ) → IsErr r → built_of r l ≡ out_of_range
unfolding built_of
not_built (Ok u) l e = absurd (clash (sym e))
not_built (Err x) l e = refl

-- a form that stands where a test came out true
abbrev pub tested : Bool → List ℤ → Built
tested t l = cond t (built (as_form l)) out_of_range

-- ---- the definitions, of lists

pub sum_flat : (f g : List ℤ) → Kept f → Kept g → tested (all_in_range (zipped ◌+ℤ◌ f g)) (zipped ◌+ℤ◌ f g) ≡ sum_of (as_form f) (as_form g)
unfolding sum_of build as_form all_in_range zipped
sum_flat [] g h k = absurd (let l = h.long in omega arith)
sum_flat (x ∷ f) [] h k = absurd (let l = k.long in omega arith)
sum_flat (x ∷ f) (y ∷ g) h k = refl

pub difference_flat : (f g : List ℤ) → Kept f → Kept g → tested (all_in_range (zipped ◌-ℤ◌ f g)) (zipped ◌-ℤ◌ f g) ≡ difference_of (as_form f) (as_form g)
unfolding difference_of build as_form all_in_range zipped
difference_flat [] g h k = absurd (let l = h.long in omega arith)
difference_flat (x ∷ f) [] h k = absurd (let l = k.long in omega arith)
difference_flat (x ∷ f) (y ∷ g) h k = refl

pub plain_flat : (f : List ℤ) → Kept f → showing_by (none_negative f) ≡ showing_of (built (as_form f))
unfolding showing_of as_form none_negative
plain_flat [] h = absurd (let l = h.long in omega arith)
plain_flat (x ∷ f) h = refl

pub constant_flat : (f : List ℤ) → Kept f → all_zero (drop 1 f) ≡ all_zero (as_form f).coefficients
unfolding as_form
constant_flat [] h = absurd (let l = h.long in omega arith)
constant_flat (x ∷ f) h = refl

-- ---- a term dropped, and replaced

all_set : (n : ℕ) (l : List ℤ) (z : ℤ) → in_range z ≡ true → all_in_range l ≡ true → all_in_range (set l n z) ≡ true
all_set n [] z q e = e
all_set zero (x ∷ l) z q e = ranges.more z l ∙ rw (q, (both (in_range x) (all_in_range l) (sym (ranges.more x l) ∙ e)).1)
all_set (suc n) (x ∷ l) z q e =
    let b = both (in_range x) (all_in_range l) (sym (ranges.more x l) ∙ e) in
    ranges.more x (set l n z) ∙ rw (b.0, all_set n l z q b.1)

pub set_kept : (f : List ℤ) (i : ℕ) (z : ℤ) → in_range z ≡ true → Kept f → Kept (set f i z)
set_kept f i z q k = record { long = length-set f i z ∙ k.long; inside = all_set i f z q k.inside }

pub drop_kept : (f : List ℤ) (v : ℕ) → Kept f → Kept (set f (v + 1) (pos 0))
unfolding in_range
drop_kept f v k = set_kept f (v + 1) (pos 0) refl k

pub drop_flat : (f : List ℤ) (v : ℕ) → Kept f → as_form (set f (v + 1) (pos 0)) ≡ without v (as_form f)
unfolding as_form
drop_flat [] v k = absurd (let l = k.long in omega arith)
drop_flat (x ∷ f) v k = rw add-one

pub term_flat : (f : List ℤ) (v : ℕ) → Kept f → get_or (as_form f).coefficients v (pos 0) ≡ get_or f (v + 1) (pos 0)
unfolding as_form
term_flat [] v k = absurd (let l = k.long in omega arith)
term_flat (x ∷ f) v k = rw add-one

module _ (f : List ℤ) (v : ℕ) (b : Loop) (k : Kept f) where
  -- the definition at v's coefficient
  abbrev pub closing : Built
  closing = closed v b (as_form f) (get_or (as_form f).coefficients v (pos 0))

  pub closed_zero : get_or f (v + 1) (pos 0) ≡ pos 0 → built (as_form f) ≡ closing
  unfolding closed
  closed_zero e = sym (ap (closed v b (as_form f)) (term_flat f v k ∙ e))

  pub closed_less : lt_z (get_or f (v + 1) (pos 0)) (pos 0) ≡ true → (multiple_of (get_or f (v + 1) (pos 0)) b.high then_build sum_of (without v (as_form f))) ≡ closing
  unfolding closed
  closed_less e = sym (ap (closed v b (as_form f)) (term_flat f v k) ∙ by (get_or f (v + 1) (pos 0)) e)
    where
      by : (z : ℤ) → lt_z z (pos 0) ≡ true → closed v b (as_form f) z ≡ (multiple_of z b.high then_build sum_of (without v (as_form f)))
      by (pos n) e = let h = lt_true (pos n) (pos 0) e in absurd (omega arith)
      by (negsuc n) e = refl

  pub closed_more : (get_or f (v + 1) (pos 0) ≡ pos 0 → ⊥) → lt_z (get_or f (v + 1) (pos 0)) (pos 0) ≡ false → (multiple_of (get_or f (v + 1) (pos 0)) b.low then_build sum_of (without v (as_form f))) ≡ closing
  unfolding closed
  closed_more z e = sym (ap (closed v b (as_form f)) (term_flat f v k) ∙ by (get_or f (v + 1) (pos 0)) z e)
    where
      by : (z : ℤ) → (z ≡ pos 0 → ⊥) → lt_z z (pos 0) ≡ false → closed v b (as_form f) z ≡ (multiple_of z b.low then_build sum_of (without v (as_form f)))
      by (pos zero) q e = absurd (q refl)
      by (pos (suc n)) q e = refl
      by (negsuc n) q e = absurd (clash e)

pub head_flat : (f : List ℤ) → Kept f → (as_form f).constant ≡ get_or f 0 (pos 0)
unfolding as_form
head_flat [] k = absurd (let l = k.long in omega arith)
head_flat (x ∷ f) k = refl

pub rest_long : (f : List ℤ) → Kept f → length (as_form f).coefficients ≡ 12
unfolding as_form
rest_long [] k = absurd (let l = k.long in omega arith)
rest_long (x ∷ f) k = let l = k.long in omega arith

pub kept_at : (f : List ℤ) (i : ℕ) → i < 13 → Kept f → in_range (get_or f i (pos 0)) ≡ true
kept_at f i h k = each_at ranges f i (let l = k.long in omega arith) k.inside

-- ---- rows of five numbers

both_true : (a b c : Bool) → (b ≡ true → c ≡ true) → (a && b) ≡ true → (a && c) ≡ true
both_true true b c f e = f e
both_true false b c f e = absurd (clash (sym e))

widened_range : (l : List ℤ) → all_in_range l ≡ true → all_in_range (widened l) ≡ true
unfolding in_range all_in_range
widened_range [] e = refl
widened_range (z ∷ l) e = both_true (in_range z) (all_in_range l) (all_in_range (widened l)) (widened_range l) e

pub short_kept : (l : List ℤ) → Short l → Kept (widened l)
short_kept l s = record { long = (let n = s.long in omega (arith, length-append l (replicate 8 (pos 0)))); inside = widened_range l s.inside }

pub short_at : (l : List ℤ) (i : ℕ) → i < 5 → Short l → get_or (widened l) i (pos 0) ≡ get_or l i (pos 0)
short_at l i h s = let n = s.long in get_or-append l (replicate 8 (pos 0)) (pos 0) i (omega arith)

pub short_range : (l : List ℤ) (i : ℕ) → i < 5 → Short l → in_range (get_or l i (pos 0)) ≡ true
short_range l i h s = ap in_range (sym (short_at l i h s)) ∙ kept_at (widened l) i (omega arith) (short_kept l s)

-- a number of a row, widened
pub widen_read : {r z : ℤ} → r ≡ to_z w32 (of_z w32 z) → in_range z ≡ true → to_z w64 (of_z w64 r) ≡ z
widen_read e q = ap (λ (z : ℤ). to_z w64 (of_z w64 z)) e ∙ widen_back q

take_range : (n : ℕ) (l : List ℤ) → all_in_range l ≡ true → all_in_range (take n l) ≡ true
unfolding all_in_range
take_range zero l e = refl
take_range (suc n) [] e = refl
take_range (suc n) (z ∷ l) e = both_true (in_range z) (all_in_range l) (all_in_range (take n l)) (take_range n l) e

-- a row that is loaded: its numbers over a form that is 0
pub loaded : (l : List ℤ) → Short l → front 5 (widened l) (replicate 13 (pos 0)) ≡ widened l
loaded l s = let n = s.long in ap (λ (x : List ℤ). x ++ replicate 8 (pos 0)) (take-append-le 5 l (replicate 8 (pos 0)) (omega arith) ∙ take_all 5 l (omega arith))

-- a row that is stored: the first numbers of the form
module _ (l : List ℤ) (k : Kept l) where
  pub stored : front 5 (take 5 l) (replicate 5 (pos 0)) ≡ take 5 l
  stored = let n = k.long in front_all 5 (take 5 l) (replicate 5 (pos 0)) (omega (arith, length-take 5 l)) refl

  pub store_short : Short (take 5 l)
  store_short = record { long = (let n = k.long in omega (arith, length-take 5 l)); inside = take_range 5 l k.inside }
