-- The plain rule's showing that ends as soon as its form is settled: the laws of specs/Settled. Assumes nothing.
use mathlib.Core.Path.{◌≡◌, refl, sym, ap, ap₂, ◌∙◌, subst}
use mathlib.Core.List.{List, [], ◌∷◌, map}
use mathlib.Core.Bool.{Bool, true, false, cond, not, ◌&&◌}
use Prim.Native.Nat.{ℕ, zero, suc, ◌+◌, ◌≤◌, ◌<◌}
use native.Mathlib.Omega.{arith}
use native.Mathlib.Decide.{dec_le}
use lib.IntN.{ℤ, pos, negsuc, ◌+ℤ◌, ◌*ℤ◌, *ℤ-zero}
use lib.ListN.{get_or, set, length, drop}
use Rattle.language.specs.Form.{Form, Built, built, out_of_range, build, zipped, sum_of, multiple_of, ◌then_build◌, is_zero, Loop, without, closed, closed_all, plainly}
use Rattle.form_laws.specs.Settled.{coefficient, replaced, settled, Scan, ended, one_more, then_scan, scan, settling_of, settling, if_built, replacements, none_true, to_last, gone_through, AgreeLaw, Last, LastLaw, closed_to, SettledAfter, EndLaw, remaining, after, onward, NextLaw, Below, Scoped, inner, ScopeLaw}
use Rattle.language.proofs.Integers.{and_both}
use Rattle.language.proofs.FormLaws.{then_built, build_is}

-- ---- both scans agree

-- of one variable whose coefficient is c
module _ (m : ℕ) (l : Loop) (ls : List Loop) (f : Form) where
  settled_here : (settled m ls f ≡ true → closed_all m ls f ≡ built f) → (c : ℤ) → (is_zero c && settled m ls f) ≡ true → (closed (m + length ls) l f c then_build closed_all m ls) ≡ built f
  unfolding is_zero closed ◌then_build◌
  settled_here rest (pos zero) e = rest e
  settled_here rest (pos (suc n)) e = absurd (let z : ◌≡◌ {A = ℕ} 0 1 = cc in omega arith)
  settled_here rest (negsuc n) e = absurd (let z : ◌≡◌ {A = ℕ} 0 1 = cc in omega arith)

  none_here : none_true (replacements m ls f) ≡ settled m ls f → (c : ℤ) → (not (not (is_zero c)) && none_true (if_built (closed (m + length ls) l f c) (replacements m ls))) ≡ (is_zero c && settled m ls f)
  unfolding is_zero closed if_built
  none_here rest (pos zero) = rest
  none_here rest (pos (suc n)) = refl
  none_here rest (negsuc n) = refl

-- of a settled form nothing is replaced
settled_stays : (m : ℕ) (ls : List Loop) (f : Form) → settled m ls f ≡ true → closed_all m ls f ≡ built f
unfolding settled closed_all
settled_stays m [] f e = refl
settled_stays m (l ∷ ls) f e = settled_here m l ls f (settled_stays m ls f) (coefficient (m + length ls) f) e

none_replaced : (m : ℕ) (ls : List Loop) (f : Form) → none_true (replacements m ls f) ≡ settled m ls f
unfolding settled none_true replacements
none_replaced m [] f = refl
none_replaced m (l ∷ ls) f = none_here m l ls f (none_replaced m ls f) (coefficient (m + length ls) f)

-- the scan that goes on to the end, with its number
abbrev plain_scan : (m : ℕ) → List Loop → Form → Scan
plain_scan m ls f = record { form = closed_all m ls f; through = to_last (replacements m ls f) }

plain_further : (m : ℕ) (ls : List Loop) → ((g : Form) → scan m ls g ≡ plain_scan m ls g) → (b : Built)
    → then_scan b (scan m ls) ≡ record { form = b then_build closed_all m ls; through = suc (to_last (if_built b (replacements m ls))) }
unfolding then_scan ◌then_build◌ if_built to_last
plain_further m ls rest (built g) = ap one_more (rest g)
plain_further m ls rest out_of_range = refl

scan_plain : (m : ℕ) (ls : List Loop) (f : Form) → scan m ls f ≡ plain_scan m ls f
unfolding scan closed_all replacements to_last
scan_plain m [] f = refl
scan_plain m (l ∷ ls) f =
    go (scan_plain m ls) (settled m (l ∷ ls) f) refl
    ∙ ap (λ (b : Bool). result (cond b 0 (suc (to_last (if_built (replaced m l ls f) (replacements m ls)))))) (sym (none_replaced m (l ∷ ls) f))
  where
    result : ℕ → Scan
    result n = record { form = closed_all m (l ∷ ls) f; through = n }

    unreplaced : Built → Scan
    unreplaced b = record { form = b; through = 0 }

    go : ((g : Form) → scan m ls g ≡ plain_scan m ls g) → (b : Bool) → settled m (l ∷ ls) f ≡ b → cond b (ended f) (then_scan (replaced m l ls f) (scan m ls)) ≡ result (cond b 0 (suc (to_last (if_built (replaced m l ls f) (replacements m ls)))))
    go rest true e = ap unreplaced (sym (settled_stays m (l ∷ ls) f e))
    go rest false e = plain_further m ls rest (replaced m l ls f)

pub agree_law : AgreeLaw
unfolding settling plainly gone_through ◌then_build◌
agree_law m ls (built f) = ap settling_of (scan_plain m ls f)
agree_law m ls out_of_range = refl

-- ---- the number

none_at : (bs : List Bool) (j : ℕ) → none_true bs ≡ true → get_or bs j false ≡ false
unfolding none_true
none_at [] j e = refl
none_at (true ∷ bs) j e = absurd (let z : ◌≡◌ {A = ℕ} 0 1 = cc in omega arith)
none_at (false ∷ bs) zero e = refl
none_at (false ∷ bs) (suc j) e = none_at bs j e

some_left : (bs : List Bool) → none_true bs ≡ false → (k : ℕ) × (to_last bs ≡ suc k)
unfolding none_true to_last
some_left [] e = absurd (let z : ◌≡◌ {A = ℕ} 0 1 = cc in omega arith)
some_left (true ∷ bs) e = (to_last bs, refl)
some_left (false ∷ bs) e = (to_last bs, ap (λ (b : Bool). cond b 0 (suc (to_last bs))) e)

last_here : (b : Bool) (bs : List Bool) → none_true (b ∷ bs) ≡ false → Last bs (to_last bs) → (j : ℕ) → to_last bs ≡ j → get_or (b ∷ bs) j false ≡ true
unfolding none_true
last_here true bs e r zero q = refl
last_here true bs e r (suc j) q = r.last j q
last_here false bs e r zero q = let s = some_left bs e in absurd (omega (arith, s.1))
last_here false bs e r (suc j) q = r.last j q

below_here : (b : Bool) (bs : List Bool) → Last bs (to_last bs) → (j : ℕ) → suc (to_last bs) ≤ j → get_or (b ∷ bs) j false ≡ false
below_here b bs r zero h = absurd (omega arith)
below_here b bs r (suc j) h = r.below j (omega arith)

to_last_lem : (bs : List Bool) → Last bs (to_last bs)
unfolding to_last none_true
to_last_lem [] = record { last = λ j e. absurd (omega arith); below = λ j h. refl }
to_last_lem (b ∷ bs) = go (to_last_lem bs) (none_true (b ∷ bs)) refl
  where
    go : Last bs (to_last bs) → (n : Bool) → none_true (b ∷ bs) ≡ n → Last (b ∷ bs) (cond n 0 (suc (to_last bs)))
    go r true e = record { last = λ j q. absurd (omega arith); below = λ j h. none_at (b ∷ bs) j e }
    go r false e = record { last = λ j q. last_here b bs e r j (omega arith); below = λ j h. below_here b bs r j h }

pub last_law : LastLaw
last_law m ls f = subst (λ (k : ℕ). Last (replacements m ls f) k) (sym (ap (λ (s : Scan). s.through) (scan_plain m ls f))) (to_last_lem (replacements m ls f))

not_before : (bs : List Bool) (j k : ℕ) → Last bs j → Last bs k → j < k → ⊥
not_before bs j zero p q h = omega arith
not_before bs j (suc i) p q h = let z : ◌≡◌ {A = ℕ} 0 1 = cc (p.below i (omega arith), q.last i refl) in omega arith

-- only one number is such, so the count does not depend on how it is written down
pub last_alone : (bs : List Bool) (j k : ℕ) → Last bs j → Last bs k → j ≡ k
last_alone bs j k p q = omega (arith, not_before bs j k p q, not_before bs k j q p)

last_most : (bs : List Bool) → to_last bs ≤ length bs
unfolding to_last
last_most [] = omega arith
last_most (b ∷ bs) = by (none_true (b ∷ bs)) (last_most bs)
  where
    by : (t : Bool) → to_last bs ≤ length bs → cond t 0 (suc (to_last bs)) ≤ suc (length bs)
    by true h = omega arith
    by false h = omega arith

one_further : (b : Built) (next : Form → List Bool) (n : ℕ) → ((f : Form) → length (next f) ≤ n) → suc (length (if_built b next)) ≤ suc n
unfolding if_built
one_further (built f) next n h = omega (arith, h f)
one_further out_of_range next n h = omega arith

replaced_most : (m : ℕ) (ls : List Loop) (f : Form) → length (replacements m ls f) ≤ length ls
unfolding replacements
replaced_most m [] f = omega arith
replaced_most m (l ∷ ls) f = one_further (replaced m l ls f) (replacements m ls) (length ls) (replaced_most m ls)

-- no more loop variables are gone through than there are
pub gone_most : (m : ℕ) (ls : List Loop) (e : Built) → gone_through m ls e ≤ length ls
unfolding gone_through
gone_most m ls (built f) = omega (arith, last_most (replacements m ls f), replaced_most m ls f)
gone_most m ls out_of_range = omega arith

-- ---- where the scan ends

module _ (m : ℕ) (l : Loop) (ls : List Loop) (f : Form) where
  same_form_lem : (b : Bool) (g : Form) → settled m (l ∷ ls) f ≡ b → built f ≡ built g → settled m (l ∷ ls) g ≡ b
  same_form_lem b g e q = let p : f ≡ g = cc in subst (λ (h : Form). settled m (l ∷ ls) h ≡ b) p e

  next : {b : Built} (then : Form → Built) → replaced m l ls f ≡ b → (replaced m l ls f then_build then) ≡ (b then_build then)
  next then e = ap (λ (x : Built). x then_build then) e

  ends_further : ((g : Form) → SettledAfter m ls g (scan m ls g).through) → settled m (l ∷ ls) f ≡ false → (b : Built) → replaced m l ls f ≡ b → SettledAfter m (l ∷ ls) f (then_scan b (scan m ls)).through
  unfolding then_scan closed_to closed_all ◌then_build◌
  ends_further r n (built h) e = record {
    final = next (closed_to (scan m ls h).through m ls) e ∙ (r h).final ∙ sym (next (closed_all m ls) e);
    settled_then = λ g q. (r h).settled_then g (sym (next (closed_to (scan m ls h).through m ls) e) ∙ q);
    not_sooner = before;
  }
    where
      before : (j : ℕ) (g : Form) → j < suc (scan m ls h).through → closed_to j m (l ∷ ls) f ≡ built g → settled m (drop j (l ∷ ls)) g ≡ false
      before zero g lt q = same_form_lem false g n q
      before (suc j) g lt q = (r h).not_sooner j g (omega arith) (sym (next (closed_to j m ls) e) ∙ q)
  ends_further r n out_of_range e = record {
    final = next (closed_to 0 m ls) e ∙ sym (next (closed_all m ls) e);
    settled_then = λ g q. absurd (let z : ◌≡◌ {A = ℕ} 0 1 = cc in omega arith);
    not_sooner = before;
  }
    where
      before : (j : ℕ) (g : Form) → j < 1 → closed_to j m (l ∷ ls) f ≡ built g → settled m (drop j (l ∷ ls)) g ≡ false
      before zero g lt q = same_form_lem false g n q
      before (suc j) g lt q = absurd (omega arith)

pub end_law : EndLaw
unfolding scan closed_to closed_all settled
end_law m [] f = record { final = refl; settled_then = λ g q. refl; not_sooner = λ j g lt q. absurd (omega arith) }
end_law m (l ∷ ls) f = go (end_law m ls) (settled m (l ∷ ls) f) refl
  where
    go : ((g : Form) → SettledAfter m ls g (scan m ls g).through) → (b : Bool) → settled m (l ∷ ls) f ≡ b → SettledAfter m (l ∷ ls) f (cond b (ended f) (then_scan (replaced m l ls f) (scan m ls))).through
    go r true e = record { final = sym (settled_stays m (l ∷ ls) f e); settled_then = λ g q. same_form_lem m l ls f true g e q; not_sooner = λ j g lt q. absurd (omega arith) }
    go r false e = ends_further m l ls f r e (replaced m l ls f) refl

-- ---- where to look

zero_is : (z : ℤ) → is_zero z ≡ true → z ≡ pos 0
unfolding is_zero
zero_is (pos zero) e = refl
zero_is (pos (suc n)) e = absurd (let z : ◌≡◌ {A = ℕ} 0 1 = cc in omega arith)
zero_is (negsuc n) e = absurd (let z : ◌≡◌ {A = ℕ} 0 1 = cc in omega arith)

remaining_length : (m : ℕ) (ls : List Loop) (f : Form) → length (remaining m ls f) ≤ length ls
unfolding remaining
remaining_length m [] f = omega arith
remaining_length m (l ∷ ls) f = go (remaining_length m ls f) (is_zero (coefficient (m + length ls) f))
  where
    go : length (remaining m ls f) ≤ length ls → (b : Bool) → length (cond b (remaining m ls f) (l ∷ ls)) ≤ suc (length ls)
    go h true = omega arith
    go h false = omega arith

-- settled: no loop remains
is_none : List Loop → Bool
is_none [] = true
is_none (l ∷ ls) = false

none_remains : (m : ℕ) (ls : List Loop) (f : Form) → settled m ls f ≡ is_none (remaining m ls f)
unfolding settled remaining is_none
none_remains m [] f = refl
none_remains m (l ∷ ls) f = go (none_remains m ls f) (is_zero (coefficient (m + length ls) f))
  where
    go : settled m ls f ≡ is_none (remaining m ls f) → (b : Bool) → (b && settled m ls f) ≡ is_none (cond b (remaining m ls f) (l ∷ ls))
    go r true = r
    go r false = refl

module _ (m : ℕ) (l : Loop) (ls : List Loop) (f : Form) where
  -- a variable that is passed over
  passed_over : (rs : List Loop) (p : ℕ) → suc p + length rs ≡ suc (length ls) → scan m ls f ≡ onward m p rs f → cond (is_none rs) (ended f) (one_more (scan m ls f)) ≡ onward m (suc p) rs f
  unfolding onward after is_none
  passed_over [] p h e = refl
  passed_over (r ∷ rs) p h e = ap one_more e

  next_further : ((p : ℕ) → p + length (remaining m ls f) ≡ length ls → scan m ls f ≡ onward m p (remaining m ls f) f) → (p : ℕ) → p + length (remaining m ls f) ≡ suc (length ls) → cond (is_none (remaining m ls f)) (ended f) (one_more (scan m ls f)) ≡ onward m p (remaining m ls f) f
  next_further rest zero h = absurd (omega (arith, remaining_length m ls f))
  next_further rest (suc p) h = passed_over (remaining m ls f) p h (rest p (omega arith))

  -- a variable that is replaced, with none passed over
  at_once : (c : ℤ) (p : ℕ) → 0 ≡ p → coefficient (m + length ls) f ≡ c → then_scan (closed (m + length ls) l f c) (scan m ls) ≡ after p (then_scan (replaced m l ls f) (scan m ls))
  unfolding after
  at_once c p z q = ap (λ (x : ℤ). then_scan (closed (m + length ls) l f x) (scan m ls)) (sym q) ∙ ap (λ (k : ℕ). after k (then_scan (replaced m l ls f) (scan m ls))) z

  next_here : ((p : ℕ) → p + length (remaining m ls f) ≡ length ls → scan m ls f ≡ onward m p (remaining m ls f) f) → (c : ℤ) (p : ℕ) → p + length (cond (is_zero c) (remaining m ls f) (l ∷ ls)) ≡ suc (length ls)
      → coefficient (m + length ls) f ≡ c → cond (is_zero c && settled m ls f) (ended f) (then_scan (closed (m + length ls) l f c) (scan m ls)) ≡ onward m p (cond (is_zero c) (remaining m ls f) (l ∷ ls)) f
  unfolding is_zero closed then_scan onward after
  next_here rest (pos zero) p h q = ap (λ (b : Bool). cond b (ended f) (one_more (scan m ls f))) (none_remains m ls f) ∙ next_further rest p h
  next_here rest (pos (suc n)) p h q = at_once (pos (suc n)) p (omega arith) q
  next_here rest (negsuc n) p h q = at_once (negsuc n) p (omega arith) q

pub next_law : NextLaw
unfolding scan remaining settled onward
next_law m [] f p h = refl
next_law m (l ∷ ls) f p h = next_here m l ls f (next_law m ls f) (coefficient (m + length ls) f) p h refl

-- ---- in scope

zipped_zero : (xs ys : List ℤ) (u : ℕ) → get_or xs u (pos 0) ≡ pos 0 → get_or ys u (pos 0) ≡ pos 0 → get_or (zipped ◌+ℤ◌ xs ys) u (pos 0) ≡ pos 0
unfolding zipped
zipped_zero [] ys u a b = refl
zipped_zero (x ∷ xs) [] u a b = refl
zipped_zero (x ∷ xs) (y ∷ ys) zero a b = ap₂ ◌+ℤ◌ a b
zipped_zero (x ∷ xs) (y ∷ ys) (suc u) a b = zipped_zero xs ys u a b

map_zero : (c : ℤ) (xs : List ℤ) (u : ℕ) → get_or xs u (pos 0) ≡ pos 0 → get_or (map (λ z. c *ℤ z) xs) u (pos 0) ≡ pos 0
map_zero c [] u a = refl
map_zero c (x ∷ xs) zero a = cc (*ℤ-zero c)
map_zero c (x ∷ xs) (suc u) a = map_zero c xs u a

-- v's own entry is taken out, and the others above it are 0
set_zero : (xs : List ℤ) (v u : ℕ) → v ≤ u → (suc v ≤ u → get_or xs u (pos 0) ≡ pos 0) → get_or (set xs v (pos 0)) u (pos 0) ≡ pos 0
set_zero [] v u h a = refl
set_zero (x ∷ xs) zero zero h a = refl
set_zero (x ∷ xs) zero (suc u) h a = a (omega arith)
set_zero (x ∷ xs) (suc v) zero h a = absurd (omega arith)
set_zero (x ∷ xs) (suc v) (suc u) h a = set_zero xs v u (omega arith) (λ k. a (omega arith))

build_coefficients : (z : ℤ) (zs : List ℤ) (g : Form) → build z zs ≡ built g → zs ≡ g.coefficients
build_coefficients z zs g e = ap (λ (h : Form). h.coefficients) (build_is z zs g e)

module _ (v : ℕ) (f g : Form) (b : Below (suc v) f) where
  put_below : (h : Form) (c : ℤ) → (multiple_of c h then_build sum_of (without v f)) ≡ built g → Below v h → Below v g
  unfolding sum_of multiple_of
  put_below h c e w u le =
      let t = then_built (multiple_of c h) (sum_of (without v f)) g e in
      let k = build_coefficients _ _ t.0 t.1 in
      let s = build_coefficients _ _ g t.2 in
      subst (λ (zs : List ℤ). get_or zs u (pos 0) ≡ pos 0) s
      (zipped_zero (set f.coefficients v (pos 0)) t.0.coefficients u (set_zero f.coefficients v u le (b u))
      (subst (λ (zs : List ℤ). get_or zs u (pos 0) ≡ pos 0) k (map_zero c h.coefficients u (w u le))))

  kept_below : coefficient v f ≡ pos 0 → built f ≡ built g → (u : ℕ) → v ≤ u → Dec (suc v ≤ u) → coefficient u g ≡ pos 0
  kept_below z e u le (yes h) = let p : f ≡ g = cc in subst (λ (x : Form). coefficient u x ≡ pos 0) p (b u h)
  kept_below z e u le (no h) =
      let p : f ≡ g = cc in
      let q : v ≡ u = omega (arith, h) in
      subst (λ (x : Form). coefficient u x ≡ pos 0) p (subst (λ (x : ℕ). coefficient x f ≡ pos 0) q z)

  closed_below : (l : Loop) (c : ℤ) → coefficient v f ≡ c → closed v l f c ≡ built g → Below v l.low → Below v l.high → Below v g
  unfolding closed
  closed_below l (pos zero) q e x y u le = kept_below q e u le (dec_le (suc v) u)
  closed_below l (pos (suc n)) q e x y u le = put_below l.low (pos (suc n)) e x u le
  closed_below l (negsuc n) q e x y u le = put_below l.high (negsuc n) e y u le

below_same : (v : ℕ) (f g : Form) → built f ≡ built g → Below v f → Below v g
below_same v f g e b u le = let p : f ≡ g = cc in subst (λ (x : Form). coefficient u x ≡ pos 0) p (b u le)

-- after k loop variables the form has none of them
gone_below : (k m : ℕ) (ls : List Loop) (f g : Form) → Scoped m ls → Below (m + length ls) f → closed_to k m ls f ≡ built g → Below (m + length (drop k ls)) g
unfolding closed_to
gone_below zero m ls f g s b e = below_same (m + length ls) f g e b
gone_below (suc k) m [] f g s b e = below_same (m + 0) f g e b
gone_below (suc k) m (l ∷ ls) f g (inner x y s) b e =
    let t = then_built (replaced m l ls f) (closed_to k m ls) g e in
    gone_below k m ls t.0 g s (closed_below (m + length ls) f t.0 (λ u le. b u (omega arith)) l (coefficient (m + length ls) f) refl t.1 x y) t.2

settled_at : (m : ℕ) (ls : List Loop) (f : Form) (u : ℕ) → settled m ls f ≡ true → m ≤ u → u < m + length ls → coefficient u f ≡ pos 0
unfolding settled
settled_at m [] f u e a b = absurd (omega arith)
settled_at m (l ∷ ls) f u e a b = go (and_both (is_zero (coefficient (m + length ls) f)) (settled m ls f) e) (settled_at m ls f u) (dec_le (suc u) (m + length ls))
  where
    go : (is_zero (coefficient (m + length ls) f) ≡ true) × (settled m ls f ≡ true) → (settled m ls f ≡ true → m ≤ u → u < m + length ls → coefficient u f ≡ pos 0) → Dec (u < m + length ls) → coefficient u f ≡ pos 0
    go z r (yes h) = r z.1 a h
    go z r (no h) = let q : m + length ls ≡ u = omega (arith, h) in subst (λ (x : ℕ). coefficient x f ≡ pos 0) q (zero_is (coefficient (m + length ls) f) z.0)

settled_of : (m : ℕ) (ls : List Loop) (f : Form) → Below m f → settled m ls f ≡ true
unfolding settled is_zero
settled_of m [] f b = refl
settled_of m (l ∷ ls) f b = ap₂ ◌&&◌ (ap is_zero (b (m + length ls) (omega arith))) (settled_of m ls f b)

all_gone : (m : ℕ) (ls : List Loop) (g : Form) → Below (m + length ls) g → settled m ls g ≡ true → (u : ℕ) → m ≤ u → Dec (u < m + length ls) → coefficient u g ≡ pos 0
all_gone m ls g b e u le (yes h) = settled_at m ls g u e le h
all_gone m ls g b e u le (no h) = b u (omega (arith, h))

pub scope_law : ScopeLaw
scope_law k m ls f g s b e = (
  λ t u le. all_gone m (drop k ls) g (gone_below k m ls f g s b e) t u le (dec_le (suc u) (m + length (drop k ls))),
  λ w. settled_of m (drop k ls) g w,
)
