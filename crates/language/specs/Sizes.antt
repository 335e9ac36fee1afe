-- Sizes of an instance as numbers, and the bytes that say them.
use Rattle.std.specs.Prelude.{◌≡◌, List, [], ◌∷◌, true, ℕ, ◌*◌, ◌/◌, ◌%◌, ◌≤◌, length}
use Rattle.language.specs.Limits.{largest_size}
use Rattle.language.specs.Result.{bytes_of, four_bytes, all_sizes_fit}

-- four bytes for each size, low byte first
unfoldable pub bytes_of_sizes : List ℕ → List ℕ
bytes_of_sizes [] = []
bytes_of_sizes (n ∷ ns) = bytes_of (n % 65536) (bytes_of (n / 65536) (bytes_of_sizes ns))

abbrev pub AllAtMost : ℕ → List ℕ → Type 0
AllAtMost most [] = Unit {0}
AllAtMost most (n ∷ ns) = (n ≤ most) × AllAtMost most ns

-- bytes that say these sizes, none of which is too large
pub record Say (bytes sizes : List ℕ) : Type 0 where
  pub each : AllAtMost 255 bytes
  pub count : length bytes ≡ 4 * length sizes
  pub say : four_bytes bytes ≡ sizes
  pub small : all_sizes_fit (four_bytes bytes) ≡ true

-- every list of sizes that are not too large is said by bytes
abbrev pub EverySizeSaid : Type 0
EverySizeSaid = (sizes : List ℕ) → AllAtMost largest_size sizes → Say (bytes_of_sizes sizes) sizes
