-- Every list of sizes is said by bytes.
use mathlib.Core.Path.{◌≡◌, refl, ap₂}
use mathlib.Core.List.{List, [], ◌∷◌}
use mathlib.Core.Bool.{true}
use Prim.Native.Nat.{ℕ, ◌*◌}
use native.Mathlib.Omega.{arith}
use borrow.Author.Tests.{le-leb}
use lib.ListN.{length}
use Rattle.language.specs.Limits.{largest_size}
use Rattle.language.specs.Result.{bytes_of, four_bytes, all_sizes_fit}
use Rattle.language.specs.Sizes.{bytes_of_sizes, AllAtMost, EverySizeSaid}
use Rattle.language.proofs.Safe.{and_is}

bytes_each : (sizes : List ℕ) → AllAtMost largest_size sizes → AllAtMost 255 (bytes_of_sizes sizes)
unfolding bytes_of_sizes bytes_of
bytes_each [] h = tt
bytes_each (n ∷ ns) h = let few = h.0 in (omega arith, (omega arith, (omega arith, (omega arith, bytes_each ns h.1))))

bytes_count : (sizes : List ℕ) → length (bytes_of_sizes sizes) ≡ 4 * length sizes
unfolding bytes_of_sizes bytes_of
bytes_count [] = refl
bytes_count (n ∷ ns) = omega (arith, bytes_count ns)

bytes_say : (sizes : List ℕ) → four_bytes (bytes_of_sizes sizes) ≡ sizes
unfolding bytes_of_sizes bytes_of four_bytes
bytes_say [] = refl
bytes_say (n ∷ ns) = ap₂ ◌∷◌ (omega arith) (bytes_say ns)

sizes_fit_lem : (sizes : List ℕ) → AllAtMost largest_size sizes → all_sizes_fit sizes ≡ true
unfolding all_sizes_fit
sizes_fit_lem [] h = refl
sizes_fit_lem (n ∷ ns) h = and_is (le-leb n largest_size h.0) (sizes_fit_lem ns h.1)

pub every_size_said : EverySizeSaid
every_size_said sizes h = record { each = bytes_each sizes h; count = bytes_count sizes; say = bytes_say sizes; small = rw (bytes_say sizes) (sizes_fit_lem sizes h) }
