-- Records read back from an output's bytes: none where the output ends before the last of them, or where the bytes of one say nothing.
use Rattle.std.specs.Prelude.{List, [], ◌∷◌, cond, ℕ, zero, suc, ◌+◌, leb, length, drop, get_or}
use Rattle.std.proofs.Math.Option.{Option, none, some}
use Rattle.language.specs.Limits.{record_size}
use Rattle.language.specs.Read.{two_bytes, choose}
use Rattle.language.specs.Machine.{forward, backward, Wire, Bit, Condition, always, when_bit, Action, do_h, do_t, do_tdg, do_reset, do_cx, do_measure, do_phase, do_cphase, Record}
use Rattle.language.specs.Lookup.{mapped, followed}

-- an operation by its number, with its own numbers
unfoldable pub action_of : (op first second k : ℕ) → Option Action
action_of op first second k =
    let w : Wire = record { number = first } in
    let x : Wire = record { number = second } in
    choose op
    ((1, some (do_h w)) ∷ (2, some (do_t w)) ∷ (3, some (do_tdg w)) ∷ (4, some (do_cx w x)) ∷ (5, some (do_measure w (record { number = second }))) ∷ (6, some (do_reset w))
    ∷ (7, some (do_phase forward k w)) ∷ (8, some (do_phase backward k w)) ∷ (9, some (do_cphase forward k w x)) ∷ (10, some (do_cphase backward k w x)) ∷ [])
    none

-- a condition by its byte
unfoldable pub condition_of : (byte bit : ℕ) → Option Condition
condition_of byte bit =
    let b : Bit = record { number = bit } in
    choose byte ((0, some always) ∷ (1, some (when_bit b 0)) ∷ (2, some (when_bit b 1)) ∷ []) none

-- the two-byte number at a position
abbrev pub number_at : List ℕ → (at : ℕ) → ℕ
number_at bytes at = two_bytes (get_or bytes at 0) (get_or bytes (at + 1) 0)

-- the record whose twelve bytes stand from a position on
unfoldable pub record_at : List ℕ → (at : ℕ) → Option Record
record_at output at =
    followed (action_of (get_or output at 0) (number_at output (at + 2)) (number_at output (at + 4)) (number_at output (at + 8)))
    (λ a. mapped (λ c. record { action = a; condition = c }) (condition_of (get_or output (at + 1) 0) (number_at output (at + 6))))

-- the first so many records
unfoldable pub records_in : (count : ℕ) → List ℕ → Option (List Record)
records_in zero output = some []
records_in (suc n) output =
    cond (leb record_size (length output)) (followed (record_at output 0) (λ r. mapped (λ rs. r ∷ rs) (records_in n (drop record_size output)))) none
