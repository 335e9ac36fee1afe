-- What code makes of an output's bytes, whatever they are. Where they are records, it is those (proofs/Records).
use Rattle.std.specs.Prelude.{List, [], ◌∷◌, ℕ, zero, suc, ◌+◌, ◌*◌, ◌≤◌, ◌<◌, drop, get_or}
use Rattle.std.proofs.Math.Option
use Rattle.language.specs.Limits.{record_size, most_halvings}
use Rattle.language.specs.Read.{two_bytes}
use Rattle.language.specs.Machine.{Condition, always, when_bit, Action, do_reset, Record}
use Rattle.qasm_text.specs.RecordsIn.{action_of, number_at}

-- a reset where there is no such operation
unfoldable pub action_from : (op first second k : ℕ) → Action
action_from op first second k = Option.get_or (action_of op first second k) (do_reset (record { number = first }))

-- a bit's value, one less than the byte, wherever that is not 0
unfoldable pub condition_from : (byte bit : ℕ) → Condition
condition_from zero bit = always
condition_from (suc value) bit = when_bit (record { number = bit }) value

unfoldable pub record_from : List ℕ → (at : ℕ) → Record
record_from output at = record {
  action = action_from (get_or output at 0) (number_at output (at + 2)) (number_at output (at + 4)) (number_at output (at + 8));
  condition = condition_from (get_or output (at + 1) 0) (number_at output (at + 6));
}

unfoldable pub records_from : (count : ℕ) → List ℕ → List Record
records_from zero output = []
records_from (suc n) output = record_from output 0 ∷ records_from n (drop record_size output)

-- no record has a k that is too large: what code that prints them requires, and what the bytes of every run have
abbrev pub FewHalvings : (records : ℕ) → (output : List ℕ) → Type 0
FewHalvings records output = (i : ℕ) → i < records → two_bytes (get_or output (record_size * i + 8) 0) (get_or output (record_size * i + 9) 0) ≤ most_halvings
