-- A walk over the fields of a list, the bytes from `from` to `to` of p, forward or backward.
use Rattle.std.specs.Prelude.{◌≡◌, List, Bool, true, false, ◌&&◌, ℕ, zero, suc, ◌-◌, ◌≤◌, ◌<◌, length, get_or, Option, Some, None, Ok}
use Rattle.std.proofs.Math.Seq.{slice}
use Rattle.language.specs.Read.{fields}
use Rattle.fields.specs.Header.{fields_at, header_of}
use Rattle.fields.specs.Count.{Counted, Many, Broken, counted}
use Rattle.field_walk.specs.declared.Walk.{Walk}
use Rattle.field_walk.specs.declared.Held.{Held}

-- how many positions are kept at most
abbrev pub most_kept : ℕ
most_kept = 24

unfoldable pub is_broken : Counted → Bool
is_broken (Many k) = false
is_broken Broken = true

-- a list that is walked backward and has a bad header
unfoldable pub broken_in : List ℕ → Bool → Bool
broken_in l reversed = reversed && is_broken (counted (fields 0 l))

-- bytes that are whole fields
abbrev pub Unbroken : List ℕ → Type 0
Unbroken l = is_broken (counted (fields 0 l)) ≡ false

-- in the list from `from` on, a field begins at n, or the list ends there
abbrev pub FieldBegins : List ℕ → (from n : ℕ) → Type 0
FieldBegins bytes from n = (from ≤ n) × Unbroken (slice from n bytes)

-- the field at `here` ends at `to`
pub record FieldEnds (bytes : List ℕ) (here to : ℕ) : Type 0 where
  pub tag : ℕ
  pub is : header_of here (fields_at bytes here to) ≡ Ok (record { tag = tag; next = to })

-- the first `depth` positions are beginnings of fields, each below the next, the last below `to`; the first is `from`, and
-- where none is kept nothing is left
unfoldable pub PositionsKept : List ℕ → (from : ℕ) → (cuts : List ℕ) → (depth to : ℕ) → Type 0
PositionsKept bytes from cuts zero to = to ≡ from
PositionsKept bytes from cuts (suc d) to = (get_or cuts d 0 < to) × FieldBegins bytes from (get_or cuts d 0) × PositionsKept bytes from cuts d (get_or cuts d 0)

-- of the positions from the one numbered `sure` on, each is where a field begins that ends at the next one, or at `to`
unfoldable pub Linked : List ℕ → (cuts : List ℕ) → (sure depth to : ℕ) → Type 0
Linked bytes cuts sure zero to = Unit {0}
Linked bytes cuts sure (suc d) to = (sure ≤ d → FieldEnds bytes (get_or cuts d 0) to) × Linked bytes cuts sure d (get_or cuts d 0)

-- some positions are kept, the last field's above
pub record LastKept (bytes : List ℕ) (from to : ℕ) (cuts : List ℕ) (depth sure : ℕ) : Type 0 where
  pub few : depth ≤ most_kept
  pub end : Unbroken (slice from to bytes)
  pub some : sure < depth
  pub kept : PositionsKept bytes from cuts depth to
  pub linked : Linked bytes cuts sure depth to

-- what a search for the last field answers: no positions, as a header is bad, or some
unfoldable pub Lasts : List ℕ → (from to : ℕ) → (cuts : List ℕ) → Option Held → Type 0
Lasts bytes from to cuts None = is_broken (counted (fields 0 (slice from to bytes))) ≡ true
Lasts bytes from to cuts (Some h) = LastKept bytes from to cuts h.depth h.sure

-- a search is at the field at `at`, with d positions kept; where `all`, they are all fields' from the one numbered `first` on
pub record Searching (bytes : List ℕ) (from : ℕ) (cuts : List ℕ) (at d first : ℕ) (all : Bool) : Type 0 where
  pub begins : FieldBegins bytes from at
  pub kept : PositionsKept bytes from cuts d (suc at)
  pub some : first < d
  pub top : all ≡ true → get_or cuts (d - 1) 0 ≡ at
  pub linked : all ≡ true → Linked bytes cuts first (d - 1) at

-- where the field that a search is at is the last one, these positions are its answer
abbrev pub KeepsLast : (before : List ℕ) → (at d first : ℕ) → (all : Bool) → (cuts : List ℕ) → (depth sure : ℕ) → Type 0
KeepsLast before at d first all cuts depth sure =
    (bytes : List ℕ) (from to : ℕ) → to ≤ length bytes → Searching bytes from before at d first all → FieldEnds bytes at to → LastKept bytes from to cuts depth sure

-- what is left, walked forward, ends within the bytes
pub record Forward (bytes : List ℕ) (w : Walk) : Type 0 where
  pub within : w.to ≤ length bytes

-- what is left, walked backward, is whole fields, and positions in it are kept
pub record Backward (bytes : List ℕ) (w : Walk) (cuts : List ℕ) : Type 0 where
  pub within : w.to ≤ length bytes
  pub end : Unbroken (slice w.at w.to bytes)
  pub few : w.depth ≤ most_kept
  pub kept : PositionsKept bytes w.at cuts w.depth w.to
  pub linked : Linked bytes cuts w.sure w.depth w.to

unfoldable pub Walking : List ℕ → Bool → Walk → (cuts : List ℕ) → Type 0
Walking bytes true w cuts = Backward bytes w cuts
Walking bytes false w cuts = Forward bytes w

-- the last field of what is left begins at `here`, and positions before it are kept
pub record LastField (bytes : List ℕ) (w : Walk) (cuts : List ℕ) : Type 0 where
  pub within : w.to ≤ length bytes
  pub ends : FieldEnds bytes w.here w.to
  pub begins : FieldBegins bytes w.at w.here
  pub few : w.depth ≤ most_kept
  pub kept : PositionsKept bytes w.at cuts w.depth w.here
  pub linked : Linked bytes cuts w.sure w.depth w.here

-- the first field of what is left begins at `here`
pub record FirstField (bytes : List ℕ) (w : Walk) : Type 0 where
  pub within : w.to ≤ length bytes
  pub begins : w.here ≡ w.at

-- where the next field begins
unfoldable pub NextField : List ℕ → Bool → Walk → (cuts : List ℕ) → Type 0
NextField bytes true w cuts = LastField bytes w cuts
NextField bytes false w cuts = FirstField bytes w

-- the next field of what is left is found
pub record Sought (bytes : List ℕ) (reversed : Bool) (w r : Walk) (cuts : List ℕ) : Type 0 where
  pub same_at : r.at ≡ w.at
  pub same_to : r.to ≡ w.to
  pub next : NextField bytes reversed r cuts

unfoldable pub passed_of : Walk → Bool → ℕ → Walk
passed_of w true end = record { at = w.at; to = w.here; here = w.here; depth = w.depth; sure = w.sure }
passed_of w false end = record { at = end; to = w.to; here = w.here; depth = w.depth; sure = w.sure }

unfoldable pub whole_of : (from to depth sure : ℕ) → Walk
whole_of from to depth sure = record { at = from; to = to; here = from; depth = depth; sure = sure }

-- a walk of the list from `from` to `to` begins
unfoldable pub Starting : List ℕ → (from to : ℕ) → (reversed : Bool) → (cuts : List ℕ) → Option Held → Type 0
Starting bytes from to reversed cuts (Some h) = Walking bytes reversed (whole_of from to h.depth h.sure) cuts
Starting bytes from to reversed cuts None = broken_in (slice from to bytes) reversed ≡ true
