-- The map of wires: its bits, and how many are 1.
use mathlib.Core.Path.{◌≡◌, refl, sym, ap, ◌∙◌}
use mathlib.Core.Logic.{◌⊎◌, inl, inr, ◌↔◌}
use mathlib.Core.List.{List, [], ◌∷◌, ◌++◌}
use mathlib.Core.Bool.{Bool, true, false, cond, ◌||◌}
use Prim.Native.Nat.{ℕ, zero, suc, ◌+◌, ◌-◌, ◌*◌, ◌/◌, ◌%◌, ◌^◌, ◌≤◌, ◌<◌}
use native.Mathlib.Omega.{arith}
use native.Mathlib.Nat.{pow-suc, mul_comm, div-div-eq-div-mul, add-zero, zero-add}
use lib.Dec.{eqb}
use lib.Count.{ones, ones_step}
use borrow.Author.Tests.{eqb-true, eqb-false, eq-eqb, ne_eqb}
use lib.ListN.{length, get_or, get_or-append}
use Rattle.language.specs.Machine.{Action, do_h, do_t, do_tdg, do_reset, do_cx, do_measure, do_phase, do_cphase, Record}
use Rattle.language.specs.Sound.{Names, AllName}
use Rattle.wire_map.specs.WireMap.{map_size, named_by, wires_named, among, bit_for, bits_from, bytes_from, touched_map, ones_over, NamesWire, SomeNames, bit_of, listed, touched_wires}

-- ---- bits

pub bit_rest : (b : Bool) (x : ℕ) → ((bit_for b + 2 * x) / 2 ≡ x) × ((bit_for b + 2 * x) % 2 ≡ bit_for b)
unfolding bit_for
bit_rest true x = omega arith
bit_rest false x = omega arith

pub half_power : (x j : ℕ) → x / 2 ^ suc j ≡ x / 2 / 2 ^ j
half_power x j = ap (λ (k : ℕ). x / k) (pow-suc 2 j ∙ mul_comm (2 ^ j) 2) ∙ sym (div-div-eq-div-mul x 2 (2 ^ j))

bits_at : (on : ℕ → Bool) (n w j : ℕ) → j < n → bits_from on n w / 2 ^ j % 2 ≡ bit_for (on (w + j))
unfolding bits_from
bits_at on zero w j h = absurd (omega arith)
bits_at on (suc n) w zero h = rw add-zero (omega (arith, (bit_rest (on w) (bits_from on n (suc w))).1))
bits_at on (suc n) w (suc j) h =
    let x = bits_from on n (suc w) in
    let e : w + suc j ≡ suc w + j = omega arith in
    ap (λ (k : ℕ). k % 2) (half_power (bit_for (on w) + 2 * x) j ∙ ap (λ (k : ℕ). k / 2 ^ j) (bit_rest (on w) x).0) ∙ bits_at on n (suc w) j (omega arith) ∙ ap (λ (k : ℕ). bit_for (on k)) (sym e)

bytes_length : (on : ℕ → Bool) (n w : ℕ) → length (bytes_from on n w) ≡ n
unfolding bytes_from
bytes_length on zero w = refl
bytes_length on (suc n) w = ap suc (bytes_length on n (w + 8))

bytes_at : (on : ℕ → Bool) (n w a : ℕ) → a < n → get_or (bytes_from on n w) a 0 ≡ bits_from on 8 (w + 8 * a)
unfolding bytes_from
bytes_at on zero w a h = absurd (omega arith)
bytes_at on (suc n) w zero h = ap (bits_from on 8) (omega arith)
bytes_at on (suc n) w (suc a) h = bytes_at on n (w + 8) a (omega arith) ∙ ap (bits_from on 8) (omega arith)

-- ---- how many

listed_length : (on : ℕ → Bool) (n w : ℕ) → length (listed on (suc n) w) ≡ bit_for (on w) + length (listed on n (suc w))
unfolding listed bit_for
listed_length on n w = go (on w)
  where
    go : (b : Bool) → length (cond b (w ∷ listed on n (suc w)) (listed on n (suc w))) ≡ bit_for b + length (listed on n (suc w))
    go true = omega arith
    go false = omega arith

-- the ones of a number are the wires on
bits_ones : (on : ℕ → Bool) (n w : ℕ) → ones (bits_from on n w) ≡ length (listed on n w)
unfolding bits_from listed ones
bits_ones on zero w = refl
bits_ones on (suc n) w =
    let x = bits_from on n (suc w) in
    ones_step (bit_for (on w) + 2 * x) ∙ rw ((bit_rest (on w) x).0, (bit_rest (on w) x).1, bits_ones on n (suc w)) (sym (listed_length on n w))

listed_more : (on : ℕ → Bool) (a b w : ℕ) → length (listed on (a + b) w) ≡ length (listed on a w) + length (listed on b (w + a))
unfolding listed
listed_more on zero b w = rw (zero-add b, add-zero w) (omega arith)
listed_more on (suc a) b w =
    let e : suc a + b ≡ suc (a + b) = omega arith in
    let k : w + suc a ≡ suc w + a = omega arith in
    rw (e, k) (listed_length on (a + b) w ∙ omega (arith, listed_length on a w, listed_more on a b (suc w)))

-- and so are those of a map
bytes_ones : (on : ℕ → Bool) (n w : ℕ) → ones_over (bytes_from on n w) ≡ length (listed on (8 * n) w)
unfolding bytes_from ones_over listed
bytes_ones on zero w = refl
bytes_ones on (suc n) w =
    let e : 8 * suc n ≡ 8 + 8 * n = omega arith in
    rw e (omega (arith, bits_ones on 8 w, bytes_ones on n (w + 8), listed_more on 8 (8 * n) w))

-- wires below k are at most k
listed_few : (on : ℕ → Bool) (n w k : ℕ) → ((v : ℕ) → on v ≡ true → v < k) → length (listed on n w) ≤ k - w
unfolding listed
listed_few on zero w k h = omega arith
listed_few on (suc n) w k h = go (on w) (h w) (listed_few on n (suc w) k h)
  where
    go : (b : Bool) → (b ≡ true → w < k) → length (listed on n (suc w)) ≤ k - suc w → length (cond b (w ∷ listed on n (suc w)) (listed on n (suc w))) ≤ k - w
    go true e l = omega (arith, e refl)
    go false e l = omega arith

-- and never more than were looked at
listed_most : (on : ℕ → Bool) (n w : ℕ) → length (listed on n w) ≤ n
unfolding listed
listed_most on zero w = omega arith
listed_most on (suc n) w = go (on w) (listed_most on n (suc w))
  where
    go : (b : Bool) → length (listed on n (suc w)) ≤ n → length (cond b (w ∷ listed on n (suc w)) (listed on n (suc w))) ≤ suc n
    go true l = omega arith
    go false l = omega arith

-- ---- which wires are listed

-- rising from w on, so that none stands twice
pub data Rising : ℕ → List ℕ → Type 0 where
  end : {w : ℕ} → Rising w []
  next : {w v : ℕ} {vs : List ℕ} → w ≤ v → Rising (suc v) vs → Rising w (v ∷ vs)

rising_from : {w v : ℕ} {vs : List ℕ} → w ≤ v → Rising v vs → Rising w vs
rising_from h end = end
rising_from {w} h (next {v = x} l r) = next {w = w} {v = x} (omega arith) r

listed_rises : (on : ℕ → Bool) (n w : ℕ) → Rising w (listed on n w)
unfolding listed
listed_rises on zero w = end
listed_rises on (suc n) w = go (on w) (listed_rises on n (suc w))
  where
    go : (b : Bool) → Rising (suc w) (listed on n (suc w)) → Rising w (cond b (w ∷ listed on n (suc w)) (listed on n (suc w)))
    go true r = next {w = w} {v = w} (omega arith) r
    go false r = rising_from (omega arith) r

past : {v w : ℕ} {vs : List ℕ} → Rising w vs → v < w → among vs v ≡ false
unfolding among
past end h = refl
past {v} (next {v = x} l r) h = rw (ne_eqb x v (λ e. omega arith)) (past r (omega arith))

-- a wire is listed exactly when it is on
listed_among : (on : ℕ → Bool) (n w v : ℕ) → w ≤ v → v < w + n → among (listed on n w) v ≡ on v
unfolding listed among
listed_among on zero w v l h = absurd (omega arith)
listed_among on (suc n) w v l h = go (eqb w v) refl (λ m. listed_among on n (suc w) v m (omega arith))
  where
    here : (b : Bool) → w ≡ v → among (cond b (w ∷ listed on n (suc w)) (listed on n (suc w))) v ≡ b
    here true e = rw (eq-eqb w v e) refl
    here false e = past (listed_rises on n (suc w)) (omega arith)

    there : (b : Bool) → eqb w v ≡ false → among (listed on n (suc w)) v ≡ on v → among (cond b (w ∷ listed on n (suc w)) (listed on n (suc w))) v ≡ on v
    there true e k = rw e k
    there false e k = k

    go : (c : Bool) → eqb w v ≡ c → (suc w ≤ v → among (listed on n (suc w)) v ≡ on v) → among (listed on (suc n) w) v ≡ on v
    go true e k = here (on w) (eqb-true w v e) ∙ ap on (eqb-true w v e)
    go false e k = there (on w) e (k (differ (eqb-false w v e)))
      where
        differ : (w ≡ v → ⊥) → suc w ≤ v
        differ f = omega arith

-- ---- the records' wires

or_left : (a b : Bool) → a ≡ true → (a || b) ≡ true
or_left a b e = rw e

or_right : (a b : Bool) → b ≡ true → (a || b) ≡ true
or_right true b e = refl
or_right false b e = e

or_either : (a b : Bool) → (a || b) ≡ true → (a ≡ true) ⊎ (b ≡ true)
or_either true b e = inl refl
or_either false b e = inr e

or_is : {A B : Type 0} (a b : Bool) → (a ≡ true) ↔ A → (b ≡ true) ↔ B → ((a || b) ≡ true) ↔ (A ⊎ B)
or_is {A} {B} a b f g = (λ e. to (or_either a b e), λ e. back e)
  where
    to : (a ≡ true) ⊎ (b ≡ true) → A ⊎ B
    to (inl e) = inl (f.0 e)
    to (inr e) = inr (g.0 e)

    back : A ⊎ B → (a || b) ≡ true
    back (inl x) = or_left a b (f.1 x)
    back (inr y) = or_right a b (g.1 y)

pub among_joined : (ns ms : List ℕ) (w : ℕ) → among (ns ++ ms) w ≡ (among ns w || among ms w)
unfolding among
among_joined [] ms w = refl
among_joined (n ∷ ns) ms w = go (eqb n w) (among_joined ns ms w)
  where
    go : (b : Bool) → among (ns ++ ms) w ≡ (among ns w || among ms w) → (b || among (ns ++ ms) w) ≡ ((b || among ns w) || among ms w)
    go true e = refl
    go false e = e

single : (n w : ℕ) → (among (n ∷ []) w ≡ true) ↔ (n ≡ w)
unfolding among
single n w = (λ e. go (or_either (eqb n w) false e), λ e. or_left (eqb n w) false (eq-eqb n w e))
  where
    go : (eqb n w ≡ true) ⊎ (false ≡ true) → n ≡ w
    go (inl e) = eqb-true n w e
    go (inr e) = absurd (let z : ◌≡◌ {A = ℕ} 0 1 = cc in omega arith)

action_names : (w : ℕ) (a : Action) → (among (named_by a) w ≡ true) ↔ NamesWire w a
unfolding named_by
action_names w (do_h x) = single x.number w
action_names w (do_t x) = single x.number w
action_names w (do_tdg x) = single x.number w
action_names w (do_reset x) = single x.number w
action_names w (do_cx x y) = rw (among_joined (x.number ∷ []) (y.number ∷ []) w) (or_is (among (x.number ∷ []) w) (among (y.number ∷ []) w) (single x.number w) (single y.number w))
action_names w (do_measure x b) = single x.number w
action_names w (do_phase d k x) = single x.number w
action_names w (do_cphase d k x y) = rw (among_joined (x.number ∷ []) (y.number ∷ []) w) (or_is (among (x.number ∷ []) w) (among (y.number ∷ []) w) (single x.number w) (single y.number w))

-- a wire is among those named exactly when some record names it
pub some_names : (w : ℕ) (rs : List Record) → (among (wires_named rs) w ≡ true) ↔ SomeNames w rs
unfolding wires_named among
some_names w [] = (λ e. absurd (let z : ◌≡◌ {A = ℕ} 0 1 = cc in omega arith), λ e. absurd e)
some_names w (r ∷ rs) = rw (among_joined (named_by r.action) (wires_named rs) w) (or_is (among (named_by r.action) w) (among (wires_named rs) w) (action_names w r.action) (some_names w rs))

-- the wires that the records name lie below those laid out
pub named_below : (q b : ℕ) (rs : List Record) → AllName q b rs → (w : ℕ) → SomeNames w rs → w < q
named_below q b [] n w s = absurd s
named_below q b (r ∷ rs) n w (inl s) = action_below r.action n.0 s
  where
    action_below : (a : Action) → Names q b a → NamesWire w a → w < q
    action_below (do_h x) n e = rw (← e) n
    action_below (do_t x) n e = rw (← e) n
    action_below (do_tdg x) n e = rw (← e) n
    action_below (do_reset x) n e = rw (← e) n
    action_below (do_cx x y) n (inl e) = rw (← e) n.0
    action_below (do_cx x y) n (inr e) = rw (← e) n.1.0
    action_below (do_measure x c) n e = rw (← e) n.0
    action_below (do_phase d k x) n e = rw (← e) n.1
    action_below (do_cphase d k x y) n (inl e) = rw (← e) n.1
    action_below (do_cphase d k x y) n (inr e) = rw (← e) n.2.0
named_below q b (r ∷ rs) n w (inr s) = named_below q b rs n.2 w s

-- ---- the map of a list of records

pub map_length : (rs : List Record) → length (touched_map rs) ≡ map_size
unfolding touched_map
map_length rs = bytes_length (among (wires_named rs)) map_size 0

pub map_bit : (rs : List Record) (rest : List ℕ) (w : ℕ) → w < 8 * map_size → bit_of (touched_map rs ++ rest) w ≡ bit_for (among (wires_named rs) w)
unfolding touched_map
map_bit rs rest w h =
    let on = among (wires_named rs) in
    let a : w / 8 < map_size = omega arith in
    let e : 0 + 8 * (w / 8) + w % 8 ≡ w = omega arith in
    rw (get_or-append (bytes_from on map_size 0) rest 0 (w / 8) (omega (arith, bytes_length on map_size 0)), bytes_at on map_size 0 (w / 8) a)
    (bits_at on 8 (0 + 8 * (w / 8)) (w % 8) (omega arith) ∙ ap (λ (v : ℕ). bit_for (on v)) e)

pub bit_is : (b : Bool) → (bit_for b ≡ 1) ↔ (b ≡ true)
unfolding bit_for
bit_is true = (λ e. refl, λ e. refl)
bit_is false = (λ e. absurd (omega arith), λ e. absurd (let z : ◌≡◌ {A = ℕ} 0 1 = cc in omega arith))

pub bit_low : (b : Bool) → bit_for b ≤ 1
unfolding bit_for
bit_low true = omega arith
bit_low false = omega arith

-- the wires listed are those that the records name, none twice
pub touched_rises : (rs : List Record) → Rising 0 (touched_wires rs)
unfolding touched_wires
touched_rises rs = listed_rises (among (wires_named rs)) (8 * map_size) 0

pub touched_named : (rs : List Record) (w : ℕ) → w < 8 * map_size → (among (touched_wires rs) w ≡ true) ↔ SomeNames w rs
unfolding touched_wires
touched_named rs w h = rw (listed_among (among (wires_named rs)) (8 * map_size) 0 w (omega arith) (omega arith)) (some_names w rs)

-- the ones of a map are the wires that the records name
pub map_ones : (rs : List Record) → ones_over (touched_map rs) ≡ length (touched_wires rs)
unfolding touched_map touched_wires
map_ones rs = bytes_ones (among (wires_named rs)) map_size 0

-- and no more than are laid out
pub map_few : (q b : ℕ) (rs : List Record) → AllName q b rs → ones_over (touched_map rs) ≤ q
unfolding touched_map
map_few q b rs n =
    omega (arith, bytes_ones (among (wires_named rs)) map_size 0, listed_few (among (wires_named rs)) (8 * map_size) 0 q (λ v e. named_below q b rs n v ((some_names v rs).0 e)))

-- nor than a map has bits
pub map_most : (rs : List Record) → ones_over (touched_map rs) ≤ 8 * map_size
unfolding touched_map
map_most rs = omega (arith, bytes_ones (among (wires_named rs)) map_size 0, listed_most (among (wires_named rs)) (8 * map_size) 0)
