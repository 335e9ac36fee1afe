-- Bytes put into a buffer.
use Rattle.std.specs.Prelude.{◌≡◌, List, ℕ, ◌+◌, ◌≤◌, length}
use Rattle.std.proofs.lemmas.List.Edits.{sets}

-- the buffer has room for these bytes from a position on
pub record Room (buffer : List ℕ) (from : ℕ) (bytes : List ℕ) : Type 0 where
  pub fits : from + length bytes ≤ length buffer

-- bytes were put into a buffer from a position on; `to` is the position past them
pub record Puts (before : List ℕ) (from : ℕ) (bytes after : List ℕ) (to : ℕ) : Type 0 where
  pub stored : after ≡ sets before from bytes
  pub past : to ≡ from + length bytes
