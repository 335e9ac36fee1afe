-- What the answers of the check stand for.
use Rattle.language.specs.Result.{Result, turned_down}
use Rattle.std.specs.Prelude.{Result as Answer, Ok, Err}
use Rattle.refusals.specs.Reasons.{number_of}
use Rattle.refusals.specs.declared.Refusal.{Refusal}

-- the number and place for each answer
unfoldable pub result_told : Answer (Unit {0}) Refusal → Result
result_told (Ok u) = turned_down 0 0
result_told (Err e) = turned_down (number_of e.0) e.1
