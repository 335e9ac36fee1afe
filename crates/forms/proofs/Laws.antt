-- The sums, differences, multiples and showings of forms as lists. Assumes nothing.
use mathlib.Core.Path.{◌≡◌, refl, sym, ap, ◌∙◌, subst}
use mathlib.Core.List.{List, [], ◌∷◌, map}
use mathlib.Core.Bool.{Bool, true, false, cond, ◌&&◌, ◌||◌}
use Prim.Native.Nat.{ℕ, zero, suc, ◌+◌, ◌-◌, ◌<◌, ◌≤◌}
use native.Mathlib.Omega.{arith}
use lib.IntN.{ℤ, pos, negsuc, ◌+ℤ◌, ◌-ℤ◌, ◌*ℤ◌, +ℤ_idl, +ℤ_idr, *ℤ-zero}
use native.Mathlib.Numerals.{add-one}
use lib.ListN.{length, get_or, set, take, drop, replicate, length-map, length-take, drop_of_length-le, get_or-map}
use lib.Seq.{drop-cons, get_or-take, length-take-le, set-get_or}
use Rattle.language.specs.Form.{Form, Built, built, out_of_range, is_zero, closed, Loop, beyond_range, Showing, plainly, less_range, is_shown, trial, by_trial, or_tried, showing, showing_of, in_range, all_in_range, zipped, build, sum_of, difference_of, multiple_of, ◌then_build◌, constant_form, terms_put_in}
use Rattle.form_laws.specs.Settled.{coefficient, Scan, ended, one_more, then_scan, scan, remaining, after, onward, Settling, settling, gone_through}
use Rattle.form_laws.specs.Trials.{trials_for, trials_made}
use Rattle.form_laws.proofs.Settled.{next_law, agree_law, gone_most}
use Rattle.form_laws.proofs.Trials.{for_most, trials_most}
use Rattle.std.specs.Prelude.{Result, Ok, Err, OnOk, is_ok}
use Rattle.forms.specs.declared.OutOfRange.{OutOfRange}
use Rattle.forms.specs.Flat.{Kept, as_form, built_of}
use Rattle.language.proofs.Integers.{integers, plus, minus, times}
use Rattle.forms.proofs.Lists.{tested, sum_flat, difference_flat, ranges, rest_good, rest_bad, rest_none, Passed, again, stopped, ended_kept, both, zero_yes, zero_no, term_flat, rest_long, set_kept}
use Rattle.forms.proofs.Lists as L
use Rattle.forms.specs.Rows.{Rows, loop_at, loops_of, forms_of}

-- adding a multiple of 0 changes nothing
pub zero_added : (x k : ℤ) {y : ℤ} → in_range x ≡ true → y ≡ pos 0 → (true ≡ (in_range (k *ℤ y) && in_range (x +ℤ k *ℤ y))) × (x +ℤ k *ℤ y ≡ x)
unfolding in_range
zero_added x k {y} h e =
    let p : k *ℤ y ≡ pos 0 = ap (λ (z : ℤ). k *ℤ z) e ∙ *ℤ-zero k in
    let s : x +ℤ k *ℤ y ≡ x = ap (λ (z : ℤ). x +ℤ z) p ∙ +ℤ_idr x in
    (sym ((λ j. in_range (p j) && in_range (s j)) ∙ h), s)

pub nothing_added : (f : List ℤ) (i : ℕ) (k : ℤ) {y : ℤ} → in_range (get_or f i (pos 0)) ≡ true → y ≡ pos 0 → (true ≡ (in_range (k *ℤ y) && in_range (get_or f i (pos 0) +ℤ k *ℤ y))) × (f ≡ set f i (get_or f i (pos 0) +ℤ k *ℤ y))
nothing_added f i k h e =
    let z = zero_added (get_or f i (pos 0)) k h e in
    (z.0, sym (ap (λ (z : ℤ). set f i z) z.1 ∙ set-get_or f i (pos 0)))

pub map_at : (h : ℤ → ℤ) (l : List ℤ) (i : ℕ) (d : ℤ) → i < length l → get_or (map h l) i d ≡ h (get_or l i d)
map_at h [] i d p = absurd (omega arith)
map_at h (x ∷ l) zero d p = refl
map_at h (x ∷ l) (suc i) d p = map_at h l i d (omega arith)

zipped_after : (k : ℤ) (f g : List ℤ) → zipped ◌+ℤ◌ f (map (λ z. k *ℤ z) g) ≡ zipped (λ x y. x +ℤ k *ℤ y) f g
unfolding zipped
zipped_after k [] g = refl
zipped_after k (x ∷ f) [] = refl
zipped_after k (x ∷ f) (y ∷ g) = ap (λ (l : List ℤ). (x +ℤ k *ℤ y) ∷ l) (zipped_after k f g)

scaled_map : (k : ℤ) (g : List ℤ) → Kept g → multiple_of k (as_form g) ≡ tested (all_in_range (map (λ z. k *ℤ z) g)) (map (λ z. k *ℤ z) g)
unfolding multiple_of build as_form all_in_range
scaled_map k [] h = absurd (let l = h.long in omega arith)
scaled_map k (x ∷ g) h = refl

pub both_flat : (k : ℤ) (f g : List ℤ) → Kept f → Kept g → tested (all_in_range (map (λ z. k *ℤ z) g) && all_in_range (zipped (λ x y. x +ℤ k *ℤ y) f g)) (zipped (λ x y. x +ℤ k *ℤ y) f g) ≡ (multiple_of k (as_form g) then_build sum_of (as_form f))
unfolding ◌then_build◌
both_flat k f g kf kg = by (all_in_range (map (λ z. k *ℤ z) g)) refl ∙ sym (ap (λ (b : Built). b then_build sum_of (as_form f)) (scaled_map k g kg))
  where
    by : (t : Bool) → all_in_range (map (λ z. k *ℤ z) g) ≡ t → tested (t && all_in_range (zipped (λ x y. x +ℤ k *ℤ y) f g)) (zipped (λ x y. x +ℤ k *ℤ y) f g) ≡ (tested t (map (λ z. k *ℤ z) g) then_build sum_of (as_form f))
    by true e = rw (← (zipped_after k f g)) (sum_flat f (map (λ z. k *ℤ z) g) kf (record { long = length-map g (λ z. k *ℤ z) ∙ kg.long; inside = e }))
    by false e = refl

-- the one loop at k = 1 and at k = -1 is the sum and the difference
zipped_same : (op q : ℤ → ℤ → ℤ) → ((x y : ℤ) → op x y ≡ q x y) → (f g : List ℤ) → zipped op f g ≡ zipped q f g
unfolding zipped
zipped_same op q e [] g = refl
zipped_same op q e (x ∷ f) [] = refl
zipped_same op q e (x ∷ f) (y ∷ g) = λ j. e x y j ∷ zipped_same op q e f g j

all_map : (h : ℤ → ℤ) → ((z : ℤ) → in_range z ≡ true → in_range (h z) ≡ true) → (l : List ℤ) → all_in_range l ≡ true → all_in_range (map h l) ≡ true
all_map h p [] e = ranges.none
all_map h p (x ∷ l) e =
    let b = both (in_range x) (all_in_range l) (sym (ranges.more x l) ∙ e) in
    ranges.more (h x) (map h l) ∙ rw (p x b.0, all_map h p l b.1)

unit_flat : (k : ℤ) (op : ℤ → ℤ → ℤ) → ((x y : ℤ) → x +ℤ k *ℤ y ≡ op x y) → ((z : ℤ) → in_range z ≡ true → in_range (k *ℤ z) ≡ true) → (f g : List ℤ) → Kept f → Kept g → (multiple_of k (as_form g) then_build sum_of (as_form f)) ≡ tested (all_in_range (zipped op f g)) (zipped op f g)
unit_flat k op e p f g kf kg =
    sym (both_flat k f g kf kg) ∙ rw (all_map (λ z. k *ℤ z) p g kg.inside, zipped_same (λ x y. x +ℤ k *ℤ y) op e f g)

pub sum_as : (f g : List ℤ) → Kept f → Kept g → (multiple_of (pos 1) (as_form g) then_build sum_of (as_form f)) ≡ sum_of (as_form f) (as_form g)
sum_as f g kf kg =
    unit_flat (pos 1) ◌+ℤ◌ (λ x y. omega (integers, times (pos 1) y, plus x (pos 1 *ℤ y), plus x y)) (λ z h. omega (integers, times (pos 1) z)) f g kf kg ∙ sum_flat f g kf kg

pub difference_as : (f g : List ℤ) → Kept f → Kept g → (multiple_of (negsuc 0) (as_form g) then_build sum_of (as_form f)) ≡ difference_of (as_form f) (as_form g)
difference_as f g kf kg =
    unit_flat (negsuc 0) ◌-ℤ◌ (λ x y. omega (integers, times (negsuc 0) y, plus x (negsuc 0 *ℤ y), minus x y)) (λ z h. omega (integers, times (negsuc 0) z)) f g kf kg ∙ difference_flat f g kf kg

pub and_no : (s : Bool) {t : Bool} → t ≡ false → (s && t) ≡ false
and_no true e = e
and_no false e = refl

pub both_no : (s t a b : Bool) → (s && t) ≡ false → (s ≡ false → a ≡ false) → (t ≡ false → b ≡ false) → (a && b) ≡ false
both_no true t a b e f g = and_no a (g e)
both_no false t a b e f g = ap (λ (u : Bool). u && b) (f refl)

-- ---- f + k · h, put number by number over what stands in r

pub record Scaling (k : ℤ) (f h r g : List ℤ) (i : ℕ) : Type 0 where
  pub sums : Passed (λ x y. x +ℤ k *ℤ y) f h r g i
  pub products : all_in_range (map (λ z. k *ℤ z) h) ≡ all_in_range (drop i (map (λ z. k *ℤ z) h))

module _ {k : ℤ} {f h r g : List ℤ} {i : ℕ} (s : Scaling k f h r g i) (kf : Kept f) (kh : Kept h) (lr : length r ≡ 13) where
  product_at_lem : i < 13 → get_or (map (λ z. k *ℤ z) h) i (pos 0) ≡ k *ℤ get_or h i (pos 0)
  product_at_lem p = let l = kh.long in map_at (λ z. k *ℤ z) h i (pos 0) (omega arith)

  products_long : length (map (λ z. k *ℤ z) h) ≡ 13
  products_long = length-map h (λ z. k *ℤ z) ∙ kh.long

  pub scaling_again : i < 13 → (in_range (k *ℤ get_or h i (pos 0)) && in_range (get_or f i (pos 0) +ℤ k *ℤ get_or h i (pos 0))) ≡ true → Scaling k f h r (set g i (get_or f i (pos 0) +ℤ k *ℤ get_or h i (pos 0))) (i + 1)
  scaling_again p e =
      let y = both _ _ e in
      let l = products_long in
      record {
        sums = again s.sums kf kh lr p refl y.1;
        products = s.products ∙ rw add-one (rest_good ranges (map (λ z. k *ℤ z) h) i (omega arith) (ap in_range (product_at_lem p) ∙ y.0));
      }

  pub scaling_stopped : i < 13 → (in_range (k *ℤ get_or h i (pos 0)) && in_range (get_or f i (pos 0) +ℤ k *ℤ get_or h i (pos 0))) ≡ false → out_of_range ≡ (multiple_of k (as_form h) then_build sum_of (as_form f))
  scaling_stopped p e =
      let l = products_long in
      let bad =
      both_no _ _ (all_in_range (map (λ z. k *ℤ z) h)) (all_in_range (zipped (λ x y. x +ℤ k *ℤ y) f h)) e
      (λ q. s.products ∙ rest_bad ranges (map (λ z. k *ℤ z) h) i (omega arith) (ap in_range (product_at_lem p) ∙ q))
      (λ q. stopped s.sums kf kh lr p refl q) in
      sym (ap (λ (t : Bool). tested t (zipped (λ x y. x +ℤ k *ℤ y) f h)) bad) ∙ both_flat k f h kf kh

  pub scaling_ended : 13 ≤ i → (built (as_form g) ≡ (multiple_of k (as_form h) then_build sum_of (as_form f))) × Kept g
  scaling_ended p =
      let l = products_long in
      let e = L.ended s.sums kf kh lr p in
      let all = s.products ∙ rest_none ranges (map (λ z. k *ℤ z) h) i (omega arith) in
      ((λ j. tested (sym (λ i. all i && e.1 i) j) (e.0 j)) ∙ both_flat k f h kf kh, ended_kept s.sums kf kh lr p)

-- ---- the showing, a loop at a time

pub fewer : {l : List (List ℤ)} {m n : ℕ} → Rows l n → m ≤ n → Rows l m
fewer r h = let e = r.enough in record { enough = omega arith; each = λ i p. r.each i (omega arith) }

pub length_loops : (n : ℕ) (l h : List (List ℤ)) → length (loops_of n l h) ≡ n
unfolding loops_of
length_loops zero l h = refl
length_loops (suc n) l h = ap suc (length_loops n l h)

-- no more loop variables are gone through than there are
pub gone_few : (m n : ℕ) (l h : List (List ℤ)) (e : Built) {k : ℕ} → k ≡ gone_through m (loops_of n l h) e → k ≤ n
gone_few m n l h e p = omega (arith, gone_most m (loops_of n l h) e, length_loops n l h)

-- and no more trials are made
pub trials_few : (m n : ℕ) (l h : List (List ℤ)) (e : Built) {k : ℕ} → k ≡ trials_made m (loops_of n l h) e → k ≤ n
trials_few m n l h e p = omega (arith, trials_most m (loops_of n l h) e, length_loops n l h)

pub show_outside : (m : ℕ) (ls : List Loop) → showing m ls out_of_range ≡ beyond_range
unfolding showing or_tried plainly ◌then_build◌ showing_of
show_outside m ls = refl

-- the next loop is passed over where its variable's coefficient is 0, and else it is the first that remains
module _ (m n : ℕ) (l h : List (List ℤ)) (f : Form) where
  here_at : m + length (loops_of n l h) ≡ m + n
  here_at = ap (λ (k : ℕ). m + k) (length_loops n l h)

  look : {b : Bool} → is_zero (coefficient (m + n) f) ≡ b → remaining m (loops_of (suc n) l h) f ≡ cond b (remaining m (loops_of n l h) f) (loops_of (suc n) l h)
  unfolding remaining loops_of
  look e = ap (λ (b : Bool). cond b (remaining m (loops_of n l h) f) (loops_of (suc n) l h)) (ap (λ (v : ℕ). is_zero (coefficient v f)) here_at ∙ e)

-- the loop of the form's list at n, the highest that is not looked at yet
module _ (m : ℕ) (l h : List (List ℤ)) (f : List ℤ) (k : Kept f) where
  term_at : (n : ℕ) → coefficient (m + n) (as_form f) ≡ get_or f (m + suc n) (pos 0)
  term_at n = term_flat f (m + n) k ∙ ap (λ (i : ℕ). get_or f i (pos 0)) (let e : m + n + 1 ≡ m + suc n = omega arith in e)

  pub passed_by : (n : ℕ) → 0 < n → get_or f (m + n) (pos 0) ≡ pos 0 → remaining m (loops_of n l h) (as_form f) ≡ remaining m (loops_of (n - 1) l h) (as_form f)
  passed_by zero p e = absurd (omega arith)
  passed_by (suc n) p e =
      let d : n ≡ suc n - 1 = omega arith in
      look m n l h (as_form f) (zero_yes (term_at n ∙ e)) ∙ ap (λ (i : ℕ). remaining m (loops_of i l h) (as_form f)) d

  pub met : (n : ℕ) → 0 < n → (get_or f (m + n) (pos 0) ≡ pos 0 → ⊥) → remaining m (loops_of n l h) (as_form f) ≡ loops_of n l h
  met zero p e = absurd (omega arith)
  met (suc n) p e = look m n l h (as_form f) (zero_no (λ q. e (sym (term_at n) ∙ q)))

pub none_met : (m n : ℕ) (l h : List (List ℤ)) (f : Form) → n ≤ 0 → remaining m (loops_of n l h) f ≡ loops_of n l h
unfolding remaining loops_of
none_met m zero l h f p = refl
none_met m (suc n) l h f p = absurd (omega arith)

after_more : (k : ℕ) (s : Scan) → after k (one_more s) ≡ after (suc k) s
unfolding after
after_more zero s = refl
after_more (suc k) s = ap one_more (after_more k s)

after_after : (j k : ℕ) (s : Scan) → after j (after k s) ≡ after (j + k) s
unfolding after
after_after zero k s = ap (λ (i : ℕ). after i s) (let e : k ≡ 0 + k = omega arith in e)
after_after (suc j) k s = ap one_more (after_after j k s) ∙ ap (λ (i : ℕ). after i s) (let e : suc (j + k) ≡ suc j + k = omega arith in e)

abbrev ending : Built → ℕ → Scan
ending b k = record { form = b; through = k }

after_is : (k : ℕ) (s : Scan) → after k s ≡ record { form = s.form; through = k + s.through }
unfolding after
after_is zero s = ap (λ (i : ℕ). ending s.form i) (let e : s.through ≡ 0 + s.through = omega arith in e)
after_is (suc k) s = ap one_more (after_is k s) ∙ ap (λ (i : ℕ). ending s.form i) (let e : suc (k + s.through) ≡ suc k + s.through = omega arith in e)

-- what a scan's end tells of the showing by the plain rule
pub told : (m : ℕ) (ls : List Loop) (f : Form) (s : Scan) → scan m ls f ≡ s → (showing_of s.form ≡ plainly m ls (built f)) × (s.through ≡ gone_through m ls (built f))
unfolding settling
told m ls f s e =
    let a = agree_law m ls (built f) in
    (ap (λ (t : Scan). showing_of t.form) (sym e) ∙ ap (λ (t : Settling). t.answer) a, ap (λ (t : Scan). t.through) (sym e) ∙ ap (λ (t : Settling). t.through) a)

-- and of the showing from which another scan goes on, after k loop variables
pub told_after : (m : ℕ) (ls ls' : List Loop) (f g : Form) (k : ℕ) → scan m ls f ≡ after k (scan m ls' g) → (plainly m ls' (built g) ≡ plainly m ls (built f)) × (k + gone_through m ls' (built g) ≡ gone_through m ls (built f))
told_after m ls ls' f g k e =
    let t = told m ls' g (scan m ls' g) refl in
    let s = told m ls f _ (e ∙ after_is k (scan m ls' g)) in
    (sym t.0 ∙ s.0, ap (λ (i : ℕ). k + i) (sym t.1) ∙ s.1)

pub none_after : (loops : ℕ) (s : Scan) → s ≡ after (loops - loops) s
unfolding after
none_after loops s = ap (λ (k : ℕ). after k s) (let e : 0 ≡ loops - loops = omega arith in e)

-- the scan of f₀ over the loops, which comes to f with n of them left
module _ (m loops n : ℕ) (l h : List (List ℤ)) (f₀ f : Form) (le : n ≤ loops) (e : scan m (loops_of loops l h) f₀ ≡ after (loops - n) (scan m (loops_of n l h) f)) where
  scan_next : (j : ℕ) → suc j ≤ n → remaining m (loops_of n l h) f ≡ loops_of (suc j) l h
      → scan m (loops_of loops l h) f₀ ≡ after (loops - suc j) (then_scan (closed (m + j) (loop_at j l h) f (coefficient (m + j) f)) (scan m (loops_of j l h)))
  unfolding onward loops_of
  scan_next j k r =
      let p : n - suc j + length (remaining m (loops_of n l h) f) ≡ length (loops_of n l h) = omega (arith, ap length r, length_loops (suc j) l h, length_loops n l h) in
      let q : loops - n + (n - suc j) ≡ loops - suc j = omega arith in
      e
      ∙ ap (after (loops - n)) (next_law m (loops_of n l h) f (n - suc j) p ∙ ap (λ (ls : List Loop). onward m (n - suc j) ls f) r)
      ∙ after_after (loops - n) (n - suc j) _
      ∙ ap (λ (i : ℕ). after i (then_scan (closed (m + length (loops_of j l h)) (loop_at j l h) f (coefficient (m + length (loops_of j l h)) f)) (scan m (loops_of j l h)))) q
      ∙ ap (λ (v : ℕ). after (loops - suc j) (then_scan (closed v (loop_at j l h) f (coefficient v f)) (scan m (loops_of j l h)))) (here_at m j l h f)

  -- a variable is replaced, and the scan goes on with the loops outside it
  pub scan_on : (k : ℕ) (g : Form) → 0 < k → k ≤ n → remaining m (loops_of n l h) f ≡ loops_of k l h → built g ≡ closed (m + (k - 1)) (loop_at (k - 1) l h) f (coefficient (m + (k - 1)) f)
      → scan m (loops_of loops l h) f₀ ≡ after (loops - (k - 1)) (scan m (loops_of (k - 1) l h) g)
  unfolding then_scan
  scan_on zero g z q r b = absurd (omega arith)
  scan_on (suc j) g z q r b =
      let d : suc j - 1 ≡ j = omega arith in
      let w : suc (loops - suc j) ≡ loops - j = omega arith in
      let c : built g ≡ closed (m + j) (loop_at j l h) f (coefficient (m + j) f) = b ∙ ap (λ (i : ℕ). closed (m + i) (loop_at i l h) f (coefficient (m + i) f)) d in
      scan_next j q r
      ∙ ap (λ (t : Built). after (loops - suc j) (then_scan t (scan m (loops_of j l h)))) (sym c)
      ∙ after_more (loops - suc j) (scan m (loops_of j l h) g)
      ∙ ap (λ (i : ℕ). after i (scan m (loops_of j l h) g)) w
      ∙ ap (λ (i : ℕ). after (loops - i) (scan m (loops_of i l h) g)) (sym d)

  -- a number is out of range where a variable is replaced
  pub scan_out : (k : ℕ) → 0 < k → k ≤ n → remaining m (loops_of n l h) f ≡ loops_of k l h → out_of_range ≡ closed (m + (k - 1)) (loop_at (k - 1) l h) f (coefficient (m + (k - 1)) f)
      → scan m (loops_of loops l h) f₀ ≡ record { form = out_of_range; through = loops - (k - 1) }
  unfolding then_scan
  scan_out zero z q r b = absurd (omega arith)
  scan_out (suc j) z q r b =
      let d : suc j - 1 ≡ j = omega arith in
      let c : out_of_range ≡ closed (m + j) (loop_at j l h) f (coefficient (m + j) f) = b ∙ ap (λ (i : ℕ). closed (m + i) (loop_at i l h) f (coefficient (m + i) f)) d in
      let w : loops - suc j + 1 ≡ loops - (suc j - 1) = omega arith in
      scan_next j q r ∙ ap (λ (t : Built). after (loops - suc j) (then_scan t (scan m (loops_of j l h)))) (sym c) ∙ after_is (loops - suc j) _ ∙ ap (λ (i : ℕ). ending out_of_range i) w

  -- no variable is left
  pub scan_end : remaining m (loops_of n l h) f ≡ loops_of 0 l h → scan m (loops_of loops l h) f₀ ≡ record { form = built f; through = loops - n }
  unfolding onward loops_of
  scan_end r =
      let p : n + length (remaining m (loops_of n l h) f) ≡ length (loops_of n l h) = omega (arith, ap length r, length_loops n l h) in
      let w : loops - n + 0 ≡ loops - n = omega arith in
      e
      ∙ ap (after (loops - n)) (next_law m (loops_of n l h) f n p ∙ ap (λ (ls : List Loop). onward m n ls f) r)
      ∙ after_is (loops - n) (ended f)
      ∙ ap (λ (i : ℕ). ending (built f) i) w

-- ---- the trials, from the innermost loop out

-- the trial for one loop, where e − (high − low) is built, and where it is not
module _ (m : ℕ) (ls : List Loop) (l : Loop) (f : Form) where
  pub trial_made : {g : Form} {x : Showing} → built g ≡ less_range l f → x ≡ plainly m ls (built g) → is_shown x ≡ trial m ls l (built f)
  unfolding trial ◌then_build◌
  trial_made e q = ap is_shown (q ∙ ap (plainly m ls) e)

  pub trial_out : out_of_range ≡ less_range l f → false ≡ trial m ls l (built f)
  unfolding trial plainly is_shown showing_of ◌then_build◌
  trial_out e = ap (λ (b : Built). is_shown (plainly m ls b)) e

-- the trials for the outermost loops, so many: of none; where the innermost of them shows e, and where it does not
module _ (m : ℕ) (ls : List Loop) (l h : List (List ℤ)) (e : Built) where
  pub tried_none : (n : ℕ) → n ≡ 0 → (false ≡ by_trial m ls (loops_of n l h) e) × (0 ≡ trials_for m ls (loops_of n l h) e)
  unfolding by_trial trials_for loops_of
  tried_none n q = (sym (ap (λ (k : ℕ). by_trial m ls (loops_of k l h) e) q), sym (ap (λ (k : ℕ). trials_for m ls (loops_of k l h) e) q))

  innermost : (n : ℕ) → 0 < n → (b : Bool) → trial m ls (loop_at (n - 1) l h) e ≡ b → ((b || by_trial m ls (loops_of (n - 1) l h) e) ≡ by_trial m ls (loops_of n l h) e) × (suc (cond b 0 (trials_for m ls (loops_of (n - 1) l h) e)) ≡ trials_for m ls (loops_of n l h) e)
  unfolding by_trial trials_for loops_of
  innermost zero p b t = absurd (omega arith)
  innermost (suc j) p b t =
      let d : suc j - 1 ≡ j = omega arith in
      let q : trial m ls (loop_at j l h) e ≡ b = ap (λ (i : ℕ). trial m ls (loop_at i l h) e) (sym d) ∙ t in (
        ap (λ (i : ℕ). b || by_trial m ls (loops_of i l h) e) d ∙ ap (λ (x : Bool). x || by_trial m ls (loops_of j l h) e) (sym q),
        ap (λ (i : ℕ). suc (cond b 0 (trials_for m ls (loops_of i l h) e))) d ∙ ap (λ (x : Bool). suc (cond x 0 (trials_for m ls (loops_of j l h) e))) (sym q),
      )

  module _ (n : ℕ) (p : 0 < n) where
    pub tried_hit : trial m ls (loop_at (n - 1) l h) e ≡ true → (true ≡ by_trial m ls (loops_of n l h) e) × (1 ≡ trials_for m ls (loops_of n l h) e)
    tried_hit q = innermost n p true q

    pub tried_miss : trial m ls (loop_at (n - 1) l h) e ≡ false → {b : Bool} {k : ℕ} → b ≡ by_trial m ls (loops_of (n - 1) l h) e → k ≡ trials_for m ls (loops_of (n - 1) l h) e → (b ≡ by_trial m ls (loops_of n l h) e) × (k + 1 ≡ trials_for m ls (loops_of n l h) e)
    tried_miss q u v = let i = innermost n p false q in (u ∙ i.0, ap (λ (k : ℕ). k + 1) v ∙ rw add-one i.1)

  -- no more trials are made than there are of these loops
  pub tried_few : (n : ℕ) {k : ℕ} → k ≡ trials_for m ls (loops_of n l h) e → k ≤ n
  tried_few n q = omega (arith, for_most m ls (loops_of n l h) e, length_loops n l h)

-- ---- forms that are set

pub zeros_kept : Kept (replicate 13 (pos 0))
unfolding in_range all_in_range
zeros_kept = record { long = refl; inside = refl }

zipped_zeros : (n : ℕ) (l : List ℤ) → length l ≡ n → zipped ◌+ℤ◌ (replicate n (pos 0)) l ≡ l
unfolding zipped
zipped_zeros zero [] e = refl
zipped_zeros zero (x ∷ l) e = absurd (omega arith)
zipped_zeros (suc n) [] e = absurd (omega arith)
zipped_zeros (suc n) (x ∷ l) e = λ j. +ℤ_idl x j ∷ zipped_zeros n l (omega arith) j

-- what a multiple of a form is, added to the form 0
pub multiple_alone : (k : ℤ) (z g : List ℤ) → Kept g → as_form z ≡ constant_form (pos 0) → (multiple_of k (as_form g) then_build sum_of (as_form z)) ≡ multiple_of k (as_form g)
unfolding ◌then_build◌ as_form
multiple_alone k z g kg e =
    ap (λ (f : Form). multiple_of k (as_form g) then_build sum_of f) e
    ∙ ap (λ (b : Built). b then_build sum_of (constant_form (pos 0))) (scaled_map k g kg)
    ∙ by (all_in_range (map (λ z. k *ℤ z) g)) refl
    ∙ sym (scaled_map k g kg)
  where
    by : (t : Bool) → all_in_range (map (λ z. k *ℤ z) g) ≡ t → (tested t (map (λ z. k *ℤ z) g) then_build sum_of (constant_form (pos 0))) ≡ tested t (map (λ z. k *ℤ z) g)
    by true e =
        let m : Kept (map (λ z. k *ℤ z) g) = record { long = length-map g (λ z. k *ℤ z) ∙ kg.long; inside = e } in
        sym (sum_flat (replicate 13 (pos 0)) (map (λ z. k *ℤ z) g) zeros_kept m)
        ∙ rw (zipped_zeros 13 (map (λ z. k *ℤ z) g) m.long, e)
    by false e = refl

-- ---- a number added to the constant alone

zipped_none : (op : ℤ → ℤ → ℤ) → ((x : ℤ) → op x (pos 0) ≡ x) → (n : ℕ) (cs : List ℤ) → length cs ≡ n → zipped op cs (replicate n (pos 0)) ≡ cs
unfolding zipped
zipped_none op e zero [] h = refl
zipped_none op e zero (c ∷ cs) h = absurd (omega arith)
zipped_none op e (suc n) [] h = absurd (omega arith)
zipped_none op e (suc n) (c ∷ cs) h = λ j. e c j ∷ zipped_none op e n cs (omega arith) j

and_yes : (s : Bool) {t : Bool} → t ≡ true → s ≡ (s && t)
and_yes true e = sym e
and_yes false e = refl

plus_flat : (f : List ℤ) (z : ℤ) → Kept f → tested (in_range (get_or f 0 (pos 0) +ℤ z)) (set f 0 (get_or f 0 (pos 0) +ℤ z)) ≡ sum_of (as_form f) (constant_form z)
unfolding sum_of build as_form
plus_flat [] z k = absurd (let l = k.long in omega arith)
plus_flat (x ∷ f) z k =
    let l = k.long in
    let r = both (in_range x) (all_in_range f) (sym (ranges.more x f) ∙ k.inside) in
    rw (zipped_none ◌+ℤ◌ +ℤ_idr 12 f (omega arith)) (ap (λ (t : Bool). tested t ((x +ℤ z) ∷ f)) (and_yes (in_range (x +ℤ z)) r.1))

-- y is z, as the machine reads it
module _ (f : List ℤ) {y z : ℤ} (e : y ≡ z) (k : Kept f) (q : in_range z ≡ true) where
  once : pos 1 *ℤ y ≡ z
  once = ap (λ (x : ℤ). pos 1 *ℤ x) e ∙ omega (integers, times (pos 1) z)

  pub constant_added : (g : List ℤ) (r : Result (Unit {0}) OutOfRange) → is_ok r ≡ (in_range (pos 1 *ℤ y) && in_range (get_or f 0 (pos 0) +ℤ pos 1 *ℤ y)) → OnOk r (g ≡ set f 0 (get_or f 0 (pos 0) +ℤ pos 1 *ℤ y)) → (built_of r g ≡ sum_of (as_form f) (constant_form z)) × OnOk r (Kept g)
  unfolding built_of
  constant_added g r p h = by r (p ∙ (λ j. in_range (once j) && in_range (get_or f 0 (pos 0) +ℤ once j)) ∙ ap (λ (b : Bool). b && in_range (get_or f 0 (pos 0) +ℤ z)) q) h
    where
      by : (r : Result (Unit {0}) OutOfRange) → is_ok r ≡ in_range (get_or f 0 (pos 0) +ℤ z) → OnOk r (g ≡ set f 0 (get_or f 0 (pos 0) +ℤ pos 1 *ℤ y)) → (built_of r g ≡ sum_of (as_form f) (constant_form z)) × OnOk r (Kept g)
      by (Ok u) p h = let e = h ∙ ap (λ (x : ℤ). set f 0 (get_or f 0 (pos 0) +ℤ x)) once in ((λ j. tested (p j) (e j)) ∙ plus_flat f z k, subst Kept (sym e) (set_kept f 0 (get_or f 0 (pos 0) +ℤ z) (sym p) k))
      by (Err e) p h = (ap (λ (b : Bool). tested b (set f 0 (get_or f 0 (pos 0) +ℤ z))) p ∙ plus_flat f z k, tt)

-- taking 1 away is adding -1
pub one_less : (f : List ℤ) → Kept f → sum_of (as_form f) (constant_form (negsuc 0)) ≡ difference_of (as_form f) (constant_form (pos 1))
unfolding sum_of difference_of
one_less f k =
    let z = (as_form f).constant in
    let e : z +ℤ negsuc 0 ≡ z -ℤ pos 1 = omega (integers, plus z (negsuc 0), minus z (pos 1)) in
    let same : (op : ℤ → ℤ → ℤ) → ((x : ℤ) → op x (pos 0) ≡ x) → zipped op (as_form f).coefficients (replicate 12 (pos 0)) ≡ (as_form f).coefficients = λ op q. zipped_none op q 12 (as_form f).coefficients (rest_long f k) in
    λ j. build (e j) ((same ◌+ℤ◌ +ℤ_idr ∙ sym (same ◌-ℤ◌ (λ x. omega (integers, minus x (pos 0))))) j)

-- ---- a call's forms put in, a variable at a time

pub put_step : (m j : ℕ) (cs : List ℤ) (l : List (List ℤ)) (acc : Form) → j < m → m ≤ length l → m ≤ length cs
    → terms_put_in (drop j cs) (drop j (forms_of m l)) acc ≡ ((multiple_of (get_or cs j (pos 0)) (as_form (get_or l j [])) then_build sum_of acc) then_build terms_put_in (drop (j + 1) cs) (drop (j + 1) (forms_of m l)))
unfolding terms_put_in
put_step m j cs l acc h k n =
    let e = drop-cons cs j (pos 0) (omega arith) in
    let q : j < length (forms_of m l) = (let a = length-map (take m l) as_form in let b = length-take-le m l k in omega arith) in
    let d = drop-cons (forms_of m l) j (as_form []) q in
    let g : get_or (forms_of m l) j (as_form []) ≡ as_form (get_or l j []) = get_or-map as_form (take m l) j [] ∙ ap as_form (get_or-take m l j [] h) in
    rw (e, d, g, add-one)

put_none : (cs : List ℤ) (acc : Form) → terms_put_in cs [] acc ≡ built acc
unfolding terms_put_in
put_none [] acc = refl
put_none (c ∷ cs) acc = refl

pub put_end : (m j : ℕ) (cs : List ℤ) (l : List (List ℤ)) (acc : Form) → m ≤ j → terms_put_in (drop j cs) (drop j (forms_of m l)) acc ≡ built acc
put_end m j cs l acc h =
    let e : drop j (forms_of m l) ≡ [] = drop_of_length-le (forms_of m l) {i = j} (omega (arith, length-map (take m l) as_form, length-take m l)) in
    rw e (put_none (drop j cs) acc)
