-- What measuring a text answers.
use Rattle.std.specs.Prelude.{◌≡◌, ℕ, ◌≤◌, ◌<◌, Option, Some, None}

-- a length that was measured, and a bound of it
pub record Measured (length most r : ℕ) : Type 0 where
  pub same : r ≡ length
  pub bound : r ≤ most

-- whether so many bytes fit into the room
abbrev pub Measures : (room length : ℕ) → Option ℕ → Type 0
Measures room length (Some n) = (n ≡ length) × (length ≤ room)
Measures room length None = room < length
