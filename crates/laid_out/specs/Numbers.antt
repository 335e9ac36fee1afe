-- The numbers laid out, as the code finds them.
use Rattle.std.specs.Prelude.{◌≡◌, List, map, ℕ, pos, Ok}
use Rattle.std.proofs.Math.Option.{some}
use Rattle.language.specs.Tree.{Number, number, missing}
use Rattle.language.specs.Result.{four_bytes}
use Rattle.language.specs.Sound.{qubits_declared, bits_declared, wires_of, wires_laid_out, Suits}
use Rattle.layout.specs.Sizes.{sizes_tested}
use Rattle.calls.specs.Families.{declared_at}
use Rattle.laid_out.specs.declared.Locations.{Locations}

-- the size that a register's content says, 0 where it says none
unfoldable pub size_said : Number → ℕ
size_said (number n) = n
size_said missing = 0

-- all qubits and all bits of a program
pub record Counts (program : List ℕ) (r : Locations) : Type 0 where
  pub qubits : r.qubits ≡ qubits_declared program
  pub bits : r.bits ≡ bits_declared program

-- the wires of an instance of the family at `at`, where the sizes fit it
abbrev pub WiresAt : (program : List ℕ) (at : ℕ) (sizes : List ℕ) (r : ℕ) → Type 0
WiresAt program at sizes r = sizes_tested (declared_at program at).variables sizes ≡ Ok tt → r ≡ wires_of (some (declared_at program at)) (map pos (four_bytes sizes))

-- the wires of an instance, where the family is declared and the sizes suit it
abbrev pub WireCount : (program : List ℕ) (family : ℕ) (sizes : List ℕ) (r : ℕ) → Type 0
WireCount program family sizes r = Suits program family sizes → r ≡ wires_laid_out program family sizes
