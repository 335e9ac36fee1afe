-- The search for the last field of a list, step by step, and its answers. Assumes nothing.
use mathlib.Core.Path.{◌≡◌, refl, sym}
use mathlib.Core.List.{List}
use mathlib.Core.Bool.{Bool, true, false}
use Prim.Native.Nat.{ℕ, suc, ◌+◌, ◌-◌, ◌≤◌, ◌<◌}
use native.Mathlib.Omega.{arith}
use lib.ListN.{length, length-set, get_or, set}
use lib.Seq.{get_or-set_same}
use Rattle.language.proofs.Integers.{clash}
use Rattle.std.specs.Prelude.{None, Ok}
use Rattle.fields.specs.declared.Header.{Header}
use Rattle.fields.specs.Header.{fields_at, header_of}
use Rattle.field_walk.specs.Walks.{most_kept, FieldBegins, FieldEnds, PositionsKept, Linked, LastKept, Lasts, Searching}
use Rattle.field_walk.proofs.Positions.{when_in, begins_next, stops_broken, kept_set, kept_up, kept_push, kept_swap, kept_below, kept_some, top_is, ends_there, linked_none, linked_set, linked_more}

-- ---- the search ends at the last field

module _ (bytes : List ℕ) (from to : ℕ) (w : to ≤ length bytes) where
  lasts_some : (cuts : List ℕ) (d sure at : ℕ) → d ≤ most_kept → sure < d → FieldBegins bytes from at → FieldEnds bytes at to → PositionsKept bytes from cuts d to → Linked bytes cuts sure d to
      → LastKept bytes from to cuts d sure
  lasts_some cuts d sure at f u b x k l = record { few = f; end = (begins_next bytes from at to x.tag to b (when_in bytes at to x.tag to x.is) w).1; some = u; kept = k; linked = l }

  -- where only the last one is sure
  lasts_one : (cuts : List ℕ) (d sure at : ℕ) → d ≡ sure + 1 → d ≤ most_kept → get_or cuts sure 0 ≡ at → FieldBegins bytes from at → FieldEnds bytes at to → PositionsKept bytes from cuts d to → LastKept bytes from to cuts d sure
  lasts_one cuts d sure at s f e b x k =
      let z : d - 1 ≡ sure = omega arith in
      lasts_some cuts d sure at f (omega arith) b x k (linked_more bytes cuts sure d at to (omega arith) (rw z e) x (rw z (linked_none bytes cuts sure sure at (omega arith))))

  module _ (cuts : List ℕ) (at d first : ℕ) (all : Bool) (f : d ≤ most_kept) (s : Searching bytes from cuts at d first all) (x : FieldEnds bytes at to) where
    before_end : at < to
    before_end = omega (arith, (when_in bytes at to x.tag to x.is).low)

    kept_to : PositionsKept bytes from cuts d to
    kept_to = kept_up bytes from cuts d (suc at) to (omega (arith, s.some)) before_end s.kept

    -- all positions are kept
    pub last_of_all : all ≡ true → LastKept bytes from to cuts d first
    last_of_all e = let one : 1 ≤ d = omega (arith, s.some) in lasts_some cuts d first at f s.some s.begins x kept_to (linked_more bytes cuts first d at to one (s.top e) x (s.linked e))

    -- its position is kept already
    pub last_already : get_or cuts (d - 1) 0 ≡ at → LastKept bytes from to cuts d (d - 1)
    last_already e = lasts_one cuts d (d - 1) at (omega (arith, s.some)) f e s.begins x kept_to

    -- its position is kept above the others
    pub last_above : d < most_kept → length cuts ≡ most_kept → (get_or cuts (d - 1) 0 ≡ at → ⊥) → LastKept bytes from to (set cuts d at) (d + 1) d
    last_above h l n =
        let k = kept_below bytes from cuts d at (omega (arith, s.some)) n s.kept in
        let m : d < length cuts = omega (arith, h, l) in
        lasts_one (set cuts d at) (d + 1) d at refl (omega arith) (get_or-set_same cuts d at 0 m) s.begins x (kept_push bytes from cuts d at to m s.begins before_end k)

    -- its position is kept in place of another
    pub last_instead : most_kept ≤ d → length cuts ≡ most_kept → LastKept bytes from to (set cuts (d - 1) at) d (d - 1)
    last_instead h l =
        let m : d ≤ length cuts = omega (arith, f, l) in
        let two : 1 < d = omega (arith, h) in
        lasts_one (set cuts (d - 1) at) d (d - 1) at (omega arith) f (get_or-set_same cuts (d - 1) at 0 (omega arith)) s.begins x (kept_swap bytes from cuts d at to two m s.begins before_end s.kept)

-- a field that ends where the list does
pub ends_last : {bytes : List ℕ} {at to tag next : ℕ} → header_of at (fields_at bytes at to) ≡ Ok (record { tag = tag; next = next }) → next ≡ to → FieldEnds bytes at to
ends_last {bytes = bytes} {at = at} {to = to} {tag = tag} {next = next} e n = rw n at (ends_there bytes at to tag next e)

-- ---- the search goes on

-- what holds at each field on the way: the positions that were kept when the search began, `depth` of them, still are
pub record Search (bytes : List ℕ) (from to : ℕ) (cuts : List ℕ) (at d depth : ℕ) (all : Bool) : Type 0 where
  pub searching : Searching bytes from cuts at d (depth - 1) all
  pub old : PositionsKept bytes from cuts depth (suc at)
  pub below : at < to
  pub some : 1 ≤ depth
  pub few : d ≤ most_kept
  pub room : length cuts ≡ most_kept

pub search_begins : (bytes : List ℕ) (from to : ℕ) (cuts : List ℕ) (depth : ℕ) → from < to → depth ≤ most_kept → length cuts ≡ most_kept → PositionsKept bytes from cuts depth to → Search bytes from to cuts (get_or cuts (depth - 1) 0) depth depth true
search_begins bytes from to cuts depth h f l k =
    let s = kept_some bytes from cuts depth to h k in
    let t = top_is bytes from cuts depth to s k in
    record {
      searching = record { begins = t.begins; kept = t.again; some = omega arith; top = λ z. refl; linked = λ z. linked_none bytes cuts (depth - 1) (depth - 1) _ (omega arith) };
      old = t.again;
      below = t.below;
      some = s;
      few = f;
      room = l;
    }

module _ {bytes : List ℕ} {from to : ℕ} {cuts : List ℕ} {at d depth : ℕ} {all : Bool} (s : Search bytes from to cuts at d depth all) (w : to ≤ length bytes) where
  -- a header is bad
  pub search_stops : ((h : Header) → header_of at (fields_at bytes at to) ≡ Ok h → ⊥) → Lasts bytes from to cuts None
  unfolding Lasts
  search_stops k = stops_broken bytes from at to s.searching.begins s.below w k

  module _ {tag next : ℕ} (e : header_of at (fields_at bytes at to) ≡ Ok (record { tag = tag; next = next })) (n : next ≡ to → ⊥) where
    past : at < next
    past = omega (arith, (when_in bytes at to tag next e).low)

    begins : FieldBegins bytes from next
    begins = begins_next bytes from at to tag next s.searching.begins (when_in bytes at to tag next e) w

    pub next_below : next < to
    next_below = omega (arith, (when_in bytes at to tag next e).high, n)

    pub nearer : to - next < to - at
    nearer = omega (arith, past, next_below)

    kept_on : (more : ℕ) → at < more → PositionsKept bytes from cuts d more
    kept_on more h = kept_up bytes from cuts d (suc at) more (omega (arith, s.searching.some)) h s.searching.kept

    old_on : (more : ℕ) → at < more → PositionsKept bytes from cuts depth more
    old_on more h = kept_up bytes from cuts depth (suc at) more s.some h s.old

    -- the next position is not kept
    pub search_on : Search bytes from to cuts next d depth false
    search_on =
        record {
          searching = record { begins = begins; kept = kept_on (suc next) (omega (arith, past)); some = s.searching.some; top = λ z. absurd (clash (sym z)); linked = λ z. absurd (clash (sym z)) };
          old = old_on (suc next) (omega (arith, past));
          below = next_below;
          some = s.some;
          few = s.few;
          room = s.room;
        }

    -- it is kept above the others
    pub search_push : d < most_kept → Search bytes from to (set cuts d next) next (d + 1) depth all
    search_push h =
        let l : d < length cuts = omega (arith, h, s.room) in
        let z : d + 1 - 1 ≡ d = omega arith in
        let m : depth ≤ d = omega (arith, s.some, s.searching.some) in
        record {
          searching = record {
            begins = begins;
            kept = kept_push bytes from cuts d next (suc next) l begins (omega arith) (kept_on next past);
            some = omega (arith, s.searching.some);
            top = λ q. rw z (get_or-set_same cuts d next 0 l);
            linked = λ q. rw z (linked_set bytes cuts (depth - 1) d d next next (omega arith) (linked_more bytes cuts (depth - 1) d at next (omega (arith, s.searching.some)) (s.searching.top q) (ends_there bytes at to tag next e) (s.searching.linked q)));
          };
          old = kept_set bytes from cuts depth d next (suc next) m (old_on (suc next) (omega (arith, past)));
          below = next_below;
          some = s.some;
          few = omega arith;
          room = simp length-set s.room;
        }

    -- it is kept above those that were kept when the search began
    pub search_anew : depth < most_kept → Search bytes from to (set cuts depth next) next (depth + 1) depth false
    search_anew h =
        let l : depth < length cuts = omega (arith, h, s.room) in
        record {
          searching = record {
            begins = begins;
            kept = kept_push bytes from cuts depth next (suc next) l begins (omega arith) (old_on next past);
            some = omega arith;
            top = λ z. absurd (clash (sym z));
            linked = λ z. absurd (clash (sym z));
          };
          old = kept_set bytes from cuts depth depth next (suc next) (omega arith) (old_on (suc next) (omega (arith, past)));
          below = next_below;
          some = s.some;
          few = omega arith;
          room = simp length-set s.room;
        }
