-- What a call's answer and its output come to.
use Rattle.std.specs.Prelude.{ℕ, ◌/◌, List, Ok, Err}
use Rattle.std.specs.Prelude.{Result as CodeResult}
use Rattle.language.specs.Limits.{record_size}
use Rattle.language.specs.Tree.{Place, Refusal}
use Rattle.language.specs.Result.{Result, Conclusion, finished, got_stuck}
use Rattle.records.specs.declared.State.{State}
use Rattle.records.specs.declared.Stop.{Stop}
use Rattle.records.specs.declared.Stop.TheVariants.{Ended, Stuck}
use Rattle.refusals.specs.Reasons.{number_of}

-- the result of a state, in which so many bytes of records are written
abbrev pub result_in : Refusal → Place → State → Result
result_in n p s = record { number = n; place = p; records = s.written / record_size; steps = s.steps }

unfoldable pub concluded : (output : List ℕ) → CodeResult State Stop → Conclusion
concluded output (Ok s) = finished (record { result = result_in 0 0 s; output = output })
concluded output (Err (Ended e p s)) = finished (record { result = result_in (number_of e) p s; output = output })
concluded output (Err Stuck) = got_stuck
