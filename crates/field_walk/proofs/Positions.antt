-- Positions in a list. Assumes nothing.
use mathlib.Core.Path.{◌≡◌, refl, sym, ap, ◌∙◌, subst}
use mathlib.Core.List.{List, [], ◌∷◌, ◌++◌}
use mathlib.Core.Bool.{Bool, true, false}
use Prim.Native.Nat.{ℕ, zero, suc, ◌+◌, ◌-◌, ◌≤◌, ◌<◌}
use native.Mathlib.Omega.{arith}
use borrow.Author.Tests.{leb-true, le-leb}
use lib.ListN.{length, get_or, set, take, drop, length-take, length-drop, length-append, take-append-drop}
use lib.Seq.{slice, take-length, take-take, drop-drop, slice_empty, length-slice, get_or-set_same, get_or-set_other}
use Rattle.language.specs.Read.{Field, field, bad_header, fields, fields_after, two_bytes}
use Rattle.language.proofs.ReadLaws.{fields_next}
use Rattle.language.proofs.Integers.{clash}
use Rattle.language.proofs.Runs.{Skips}
use Rattle.language.proofs.Runs as R
use Rattle.fields.specs.declared.Header.{Header}
use Rattle.fields.specs.declared.NoHeader.{NoHeader}
use Rattle.fields.specs.Header.{fields_at, header_of}
use Rattle.fields.specs.Count.{Counted, Many, Broken, more, counted, span}
use Rattle.fields.proofs.Parts as P
use Rattle.fields.proofs.Parts.{look, when_part, part_is, next_found, stands}
use Rattle.fields.proofs.Counts.{plus, plus_none, skips, span_all}
use Rattle.fields.proofs.Headers.{slice_none}
use Rattle.field_walk.specs.declared.Held.{Held}
use Rattle.std.specs.Prelude.{Option, Some, None, IsSome, Result, Ok}
use Rattle.field_walk.specs.Walks.{most_kept, is_broken, broken_in, Unbroken, FieldBegins, FieldEnds, PositionsKept, Linked, LastKept, Lasts, Walking, Starting, whole_of}

-- ---- whole fields at the beginning of a list

-- the first n bytes are whole fields
pub record Passes (l : List ℕ) (n : ℕ) : Type 0 where
  pub many : ℕ
  pub skips : Skips many l n

drop_append : (n : ℕ) (x y : List ℕ) → n ≤ length x → drop n (x ++ y) ≡ drop n x ++ y
drop_append zero x y h = refl
drop_append (suc n) [] y h = absurd (omega arith)
drop_append (suc n) (a ∷ x) y h = drop_append n x y (omega arith)

skips_more : {k n : ℕ} {x : List ℕ} (y : List ℕ) → Skips k x n → Skips k (x ++ y) n
skips_more y R.none = R.none
skips_more y (R.next {k = k} {n = n} {low = low} {high = high} {bytes = bytes} fits s) =
    let size = two_bytes low high in
    let h = leb-true size (length bytes) fits in
    R.next (le-leb size (length (bytes ++ y)) (omega (arith, length-append bytes y))) (subst (λ (z : List ℕ). Skips k z n) (sym (drop_append size bytes y h)) (skips_more y s))

more_plus : (k : ℕ) (c : Counted) → more (plus k c) ≡ plus (suc k) c
unfolding plus more
more_plus k (Many n) = ap Many {x = suc (k + n)} {y = suc k + n} (omega arith)
more_plus k Broken = refl

counted_split : {k n : ℕ} {l : List ℕ} (q : ℕ) → Skips k l n → counted (fields q l) ≡ plus k (counted (fields (q + n) (drop n l)))
unfolding counted
counted_split {l = l} q R.none = let e : q + 0 ≡ q = omega arith in rw e (sym (plus_none (counted (fields q l))))
counted_split q (R.next {k = k} {n = n} {tag = tag} {low = low} {high = high} {bytes = bytes} fits s) =
    let size = two_bytes low high in
    let e : q + 3 + size + n ≡ q + suc (suc (suc (size + n))) = omega arith in
    ap counted (fields_next q tag low high bytes fits)
    ∙ ap more (counted_split (q + 3 + size) s)
    ∙ more_plus k _
    ∙ rw (drop-drop n size bytes, e)

same_broken : (k : ℕ) (c : Counted) → is_broken (plus k c) ≡ is_broken c
unfolding plus is_broken
same_broken k (Many n) = refl
same_broken k Broken = refl

-- what follows whole fields decides whether a header is bad
pub broken_rest : (l : List ℕ) (n : ℕ) → Passes l n → is_broken (counted (fields 0 l)) ≡ is_broken (counted (fields (0 + n) (drop n l)))
broken_rest l n s = ap is_broken (counted_split 0 s.skips) ∙ same_broken s.many _

pub passes : (l : List ℕ) (n : ℕ) → n ≤ length l → Unbroken (take n l) → Passes l n
unfolding is_broken
passes l n h u = go (counted (fields 0 (take n l))) refl u
  where
    go : (c : Counted) → counted (fields 0 (take n l)) ≡ c → is_broken c ≡ false → Passes l n
    go (Many k) e u =
        let z : span k (fields 0 (take n l)) ≡ n = span_all k (take n l) e ∙ length-take n l ∙ omega arith in
        let s : Skips k (take n l) n = subst (λ (i : ℕ). Skips k (take n l) i) z (skips k 0 (take n l) (rw e (omega arith))) in
        record { many = k; skips = subst (λ (x : List ℕ). Skips k x n) (take-append-drop n l) (skips_more (drop n l) s) }
    go Broken e u = absurd (clash u)

-- ---- a field in a list

-- a whole field of this tag from `at` to `next`, in the bytes that end at `to`
pub record In (bytes : List ℕ) (at to tag next : ℕ) : Type 0 where
  pub first : (t : ℕ) → fields t (slice at to bytes) ≡ (field t tag (take (next - (at + 3)) (drop (at + 3) bytes)) ∷ fields (t + (next - at)) (slice next to bytes))
  pub alone : (t : ℕ) → fields t (slice at next bytes) ≡ (field t tag (take (next - (at + 3)) (drop (at + 3) bytes)) ∷ [])
  pub low : at + 3 ≤ next
  pub high : next ≤ to

header_in : (bytes : List ℕ) (at to : ℕ) → look (take to bytes) at ≡ header_of at (fields_at bytes at to)
unfolding fields_at
header_in bytes at to = ap (λ (x : List ℕ). header_of at (fields at (drop at x))) (take-length (take to bytes))

pub when_in : (bytes : List ℕ) (at to tag next : ℕ) → header_of at (fields_at bytes at to) ≡ Ok (record { tag = tag; next = next }) → In bytes at to tag next
when_in bytes at to tag next e =
    let w = when_part (take to bytes) at tag next (header_in bytes at to ∙ e) in
    let h : next ≤ to = omega (arith, w.high, length-take to bytes) in
    let c : take (next - (at + 3)) (drop (at + 3) (take to bytes)) ≡ take (next - (at + 3)) (drop (at + 3) bytes) =
    sym (part_is (take to bytes) (at + 3) next w.low) ∙ ap (drop (at + 3)) (take-take next to bytes h) ∙ part_is bytes (at + 3) next w.low in
    record {
      first = λ t. w.first t ∙ ap (λ (x : List ℕ). field t tag x ∷ fields (t + (next - at)) (slice next to bytes)) c;
      alone = λ t. ap (λ (x : List ℕ). fields t (drop at x)) (sym (take-take next to bytes h)) ∙ w.alone t ∙ ap (λ (x : List ℕ). field t tag x ∷ []) c;
      low = w.low;
      high = h;
    }

pub cut_in : (bytes : List ℕ) (at to : ℕ) → at < to → to ≤ length bytes → ((h : Header) → header_of at (fields_at bytes at to) ≡ Ok h → ⊥) → (t : ℕ) → fields t (slice at to bytes) ≡ (bad_header t ∷ [])
cut_in bytes at to h w k = go (look (take to bytes) at) (sym (header_in bytes at to)) (stands (take to bytes) at)
  where
    go : (x : Result Header NoHeader) → header_of at (fields_at bytes at to) ≡ x → P.HeaderIs (take to bytes) at x → (t : ℕ) → fields t (slice at to bytes) ≡ (bad_header t ∷ [])
    go x e (P.ends g i) = absurd (omega (arith, length-take to bytes))
    go x e (P.cuts g) = g
    go x e (P.goes {tag = tag} {next = next} v) = absurd (k (record { tag = tag; next = next }) e)

-- ---- positions

pub slice_part : (bytes : List ℕ) (from at to : ℕ) → from ≤ at → at ≤ to → slice from at bytes ≡ take (at - from) (slice from to bytes)
slice_part bytes from at to h k =
    part_is bytes from at h ∙ sym (ap (take (at - from)) (part_is bytes from to (omega arith)) ∙ take-take (at - from) (to - from) (drop from bytes) (omega arith))

pub slice_rest : (bytes : List ℕ) (from at to : ℕ) → from ≤ at → drop (at - from) (slice from to bytes) ≡ slice at to bytes
slice_rest bytes from at to h = let e : from + (at - from) ≡ at = omega arith in drop-drop (at - from) from (take to bytes) ∙ ap (λ (n : ℕ). drop n (take to bytes)) e

pub begins_passes : (bytes : List ℕ) (from at to : ℕ) → FieldBegins bytes from at → at ≤ to → to ≤ length bytes → Passes (slice from to bytes) (at - from)
begins_passes bytes from at to b h w = passes (slice from to bytes) (at - from) (omega (arith, length-slice from to bytes w)) (rw (sym (slice_part bytes from at to b.0 h)) b.1)

-- whether a header is bad is said by what follows a position
broken_past : (bytes : List ℕ) (from at to : ℕ) → FieldBegins bytes from at → at ≤ to → to ≤ length bytes
    → is_broken (counted (fields 0 (slice from to bytes))) ≡ is_broken (counted (fields (0 + (at - from)) (slice at to bytes)))
broken_past bytes from at to b h w =
    broken_rest (slice from to bytes) (at - from) (begins_passes bytes from at to b h w) ∙ ap (λ (x : List ℕ). is_broken (counted (fields (0 + (at - from)) x))) (slice_rest bytes from at to b.0)

pub begins_self : (bytes : List ℕ) (from : ℕ) → FieldBegins bytes from from
unfolding is_broken counted fields_after
begins_self bytes from = (omega arith, rw (slice_empty from bytes))

pub begins_next : (bytes : List ℕ) (from at to tag next : ℕ) → FieldBegins bytes from at → In bytes at to tag next → to ≤ length bytes → FieldBegins bytes from next
unfolding is_broken counted more
begins_next bytes from at to tag next b i w = (
  omega (arith, b.0, i.low),
  broken_past bytes from at next b (omega (arith, i.low)) (omega (arith, i.high)) ∙ ap (λ (fs : List Field). is_broken (counted fs)) (i.alone (0 + (at - from))),
)

pub stops_broken : (bytes : List ℕ) (from at to : ℕ) → FieldBegins bytes from at → at < to → to ≤ length bytes → ((h : Header) → header_of at (fields_at bytes at to) ≡ Ok h → ⊥)
    → is_broken (counted (fields 0 (slice from to bytes))) ≡ true
unfolding is_broken counted
stops_broken bytes from at to b h w k = broken_past bytes from at to b (omega arith) w ∙ ap (λ (fs : List Field). is_broken (counted fs)) (cut_in bytes at to h w k (0 + (at - from)))

-- ---- kept positions

module _ (bytes : List ℕ) (from : ℕ) where
  pub kept_set : (cuts : List ℕ) (d i c to : ℕ) → d ≤ i → PositionsKept bytes from cuts d to → PositionsKept bytes from (set cuts i c) d to
  unfolding PositionsKept
  kept_set cuts zero i c to h k = k
  kept_set cuts (suc d) i c to h k = rw (get_or-set_other cuts i d c 0 (λ e. omega arith)) (k.0, k.1, kept_set cuts d i c (get_or cuts d 0) (omega arith) k.2)

  pub kept_up : (cuts : List ℕ) (d to more : ℕ) → 1 ≤ d → to ≤ more → PositionsKept bytes from cuts d to → PositionsKept bytes from cuts d more
  unfolding PositionsKept
  kept_up cuts zero to more s h k = absurd (omega arith)
  kept_up cuts (suc d) to more s h k = (omega (arith, k.0), k.1, k.2)

  -- one more
  pub kept_push : (cuts : List ℕ) (d c to : ℕ) → d < length cuts → FieldBegins bytes from c → c < to → PositionsKept bytes from cuts d c → PositionsKept bytes from (set cuts d c) (d + 1) to
  unfolding PositionsKept
  kept_push cuts d c to l b h k = let e : d + 1 ≡ suc d = omega arith in rw (e, get_or-set_same cuts d c 0 l) (h, b, kept_set cuts d d c c (omega arith) k)

  -- the last one in place of another
  pub kept_swap : (cuts : List ℕ) (d c to : ℕ) → 1 < d → d ≤ length cuts → FieldBegins bytes from c → c < to → PositionsKept bytes from cuts d (suc c) → PositionsKept bytes from (set cuts (d - 1) c) d to
  unfolding PositionsKept
  kept_swap cuts zero c to n l b h k = absurd (omega arith)
  kept_swap cuts (suc d) c to n l b h k =
      let e : d ≡ suc d - 1 = omega arith in
      subst (λ (n : ℕ). PositionsKept bytes from (set cuts n c) (suc d) to) e
      (rw (get_or-set_same cuts d c 0 (omega arith)) (h, b, kept_set cuts d d c c (omega arith) (kept_up cuts d (get_or cuts d 0) c (omega arith) (omega (arith, k.0)) k.2)))

  pub kept_below : (cuts : List ℕ) (d c : ℕ) → 1 ≤ d → (get_or cuts (d - 1) 0 ≡ c → ⊥) → PositionsKept bytes from cuts d (suc c) → PositionsKept bytes from cuts d c
  unfolding PositionsKept
  kept_below cuts zero c s n k = absurd (omega arith)
  kept_below cuts (suc d) c s n k = let e : suc d - 1 ≡ d = omega arith in let m : get_or cuts d 0 ≡ c → ⊥ = rw e at n in (omega (arith, k.0, m), k.1, k.2)

  pub kept_some : (cuts : List ℕ) (d to : ℕ) → from < to → PositionsKept bytes from cuts d to → 1 ≤ d
  unfolding PositionsKept
  kept_some cuts zero to h k = absurd (omega arith)
  kept_some cuts (suc d) to h k = omega arith

  -- the last one
  pub record Top (cuts : List ℕ) (d to : ℕ) : Type 0 where
    pub below : get_or cuts (d - 1) 0 < to
    pub begins : FieldBegins bytes from (get_or cuts (d - 1) 0)
    pub kept : PositionsKept bytes from cuts (d - 1) (get_or cuts (d - 1) 0)
    pub again : PositionsKept bytes from cuts d (suc (get_or cuts (d - 1) 0))

  pub top_is : (cuts : List ℕ) (d to : ℕ) → 1 ≤ d → PositionsKept bytes from cuts d to → Top cuts d to
  unfolding PositionsKept
  top_is cuts zero to s k = absurd (omega arith)
  top_is cuts (suc d) to s k = let e : suc d - 1 ≡ d = omega arith in record { below = rw e k.0; begins = rw e k.1; kept = rw e k.2; again = rw e (omega arith, k.1, k.2) }

  pub kept_first : (cuts : List ℕ) (to : ℕ) → from < to → 0 < length cuts → PositionsKept bytes from (set cuts 0 from) 1 to
  unfolding PositionsKept
  kept_first cuts to h l = rw (get_or-set_same cuts 0 from 0 l) (h, begins_self bytes from, refl)

-- ---- positions of all fields

-- a field ends where it does, however far its header is read
pub ends_there : (bytes : List ℕ) (at to tag next : ℕ) → header_of at (fields_at bytes at to) ≡ Ok (record { tag = tag; next = next }) → FieldEnds bytes at next
unfolding fields_at header_of
ends_there bytes at to tag next e =
    let i = when_in bytes at to tag next e in
    let n : length (take (next - (at + 3)) (drop (at + 3) bytes)) ≡ next - (at + 3) = size bytes at to tag next e in
    let whole : ℕ → Result Header NoHeader = λ n. Ok (record { tag = tag; next = n }) in
    record { tag = tag; is = ap (header_of at) (i.alone at) ∙ ap whole {x = at + 3 + length (take (next - (at + 3)) (drop (at + 3) bytes))} {y = next} (omega (arith, n, i.low)) }
  where
    size : (bytes : List ℕ) (at to tag next : ℕ) → header_of at (fields_at bytes at to) ≡ Ok (record { tag = tag; next = next }) → length (take (next - (at + 3)) (drop (at + 3) bytes)) ≡ next - (at + 3)
    size bytes at to tag next e =
        let w = when_part (take to bytes) at tag next (header_in bytes at to ∙ e) in
        simp (length-take, length-drop) (omega (arith, w.high, length-take to bytes))

module _ (bytes : List ℕ) where
  pub linked_none : (cuts : List ℕ) (sure d to : ℕ) → d ≤ sure → Linked bytes cuts sure d to
  unfolding Linked
  linked_none cuts sure zero to h = tt
  linked_none cuts sure (suc d) to h = ((λ k. absurd (omega arith)), linked_none cuts sure d (get_or cuts d 0) (omega arith))

  pub linked_set : (cuts : List ℕ) (sure d i c to : ℕ) → d ≤ i → Linked bytes cuts sure d to → Linked bytes (set cuts i c) sure d to
  unfolding Linked
  linked_set cuts sure zero i c to h k = k
  linked_set cuts sure (suc d) i c to h k = rw (get_or-set_other cuts i d c 0 (λ e. omega arith)) (k.0, linked_set cuts sure d i c (get_or cuts d 0) (omega arith) k.1)

  -- the last field's position above those that are linked
  pub linked_more : (cuts : List ℕ) (sure d at to : ℕ) → 1 ≤ d → get_or cuts (d - 1) 0 ≡ at → FieldEnds bytes at to → Linked bytes cuts sure (d - 1) at → Linked bytes cuts sure d to
  unfolding Linked
  linked_more cuts sure zero at to s e x k = absurd (omega arith)
  linked_more cuts sure (suc d) at to s e x k =
      let z : suc d - 1 ≡ d = omega arith in
      let y : get_or cuts d 0 ≡ at = rw z at e in
      let l : Linked bytes cuts sure d at = rw z at k in
      rw y ((λ h. x), l)

  pub record Linking (cuts : List ℕ) (sure d to : ℕ) : Type 0 where
    pub ends : FieldEnds bytes (get_or cuts (d - 1) 0) to
    pub linked : Linked bytes cuts sure (d - 1) (get_or cuts (d - 1) 0)

  pub linked_top : (cuts : List ℕ) (sure d to : ℕ) → sure < d → Linked bytes cuts sure d to → Linking cuts sure d to
  unfolding Linked
  linked_top cuts sure zero to h k = absurd (omega arith)
  linked_top cuts sure (suc d) to h k = let e : suc d - 1 ≡ d = omega arith in record { ends = rw e (k.0 (omega arith)); linked = rw e k.1 }

-- ---- a walk

module _ (bytes : List ℕ) (from to : ℕ) (cuts : List ℕ) (w : to ≤ length bytes) where
  pub begin_forward : (reversed : Bool) (h : Held) → reversed ≡ false → Starting bytes from to reversed cuts (Some h)
  unfolding Starting Walking whole_of
  begin_forward reversed h e = rw e (record { within = w })

  pub begin_empty : (reversed : Bool) → reversed ≡ true → from ≤ to → to ≤ from → Starting bytes from to reversed cuts (Some (record { depth = 0; sure = 0 }))
  unfolding Starting Walking whole_of PositionsKept Linked is_broken counted fields_after
  begin_empty reversed e h k = let s : to ≡ from = omega arith in rw e (record { within = w; end = rw (slice_none from to bytes k); few = omega arith; kept = s; linked = tt })

  pub begin_last : (reversed : Bool) (r : Option Held) → reversed ≡ true → Lasts bytes from to cuts r → Starting bytes from to reversed cuts r
  unfolding Starting broken_in Walking whole_of Lasts
  begin_last reversed None e l = rw e l
  begin_last reversed (Some h) e l = rw e (record { within = w; end = l.end; few = l.few; kept = l.kept; linked = l.linked })

-- a search that has found the last field
module _ (bytes : List ℕ) (from to : ℕ) (cuts : List ℕ) where
  pub record Found (r u : ℕ) : Type 0 where
    pub some : 1 ≤ r
    pub few : r ≤ most_kept
    pub top : Top bytes from cuts r to
    pub linking : Linking bytes cuts u r to

  pub lasts_found : (r : Option Held) (h : Held) → Lasts bytes from to cuts r → r ≡ Some h → Found h.depth h.sure
  unfolding Lasts
  lasts_found r h s e =
      let l : LastKept bytes from to cuts h.depth h.sure = rw e at s in
      record { some = omega (arith, l.some); few = l.few; top = top_is bytes from cuts h.depth to (omega (arith, l.some)) l.kept; linking = linked_top bytes cuts h.sure h.depth to l.some l.linked }

  -- whole fields have a last one
  pub lasts_some : (r : Option Held) → Unbroken (slice from to bytes) → Lasts bytes from to cuts r → IsSome r
  unfolding Lasts
  lasts_some None b l = absurd (clash (sym l ∙ b))
  lasts_some (Some h) b l = refl
