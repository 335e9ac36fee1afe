-- The calls' tags, and the code's answer on the number that a call names.
use Rattle.std.specs.Prelude.{List, Bool, cond, ◌||◌, ℕ, ◌+◌, eqb, Result, Ok, Err}
use Rattle.language.specs.Tree.{Statement, call, call_parameter}
use Rattle.language.specs.Read.{Reader, Calling, CallNumber, names, unnamed, one_byte_number, two_byte_number, call_by}
use Rattle.fields.specs.declared.Named.{Named}
use Rattle.refusals.specs.declared.Reason.{Reason}
use Rattle.refusals.specs.Reasons.{number_of}

-- whether a statement's tag is a call's
abbrev pub is_call_tag : (tag : ℕ) → Bool
is_call_tag tag = eqb tag 36 || (eqb tag 39 || eqb tag 42)

-- the number at the start of the content of a call with this tag
abbrev pub number_in : (tag : ℕ) → List ℕ → CallNumber
number_in tag content = cond (eqb tag 39) (two_byte_number content) (one_byte_number content)

-- what a call with this tag calls: a parameter or a family
abbrev pub calling_by : (tag : ℕ) → Calling
calling_by tag = cond (eqb tag 42) call_parameter call

-- how the content of a call with this tag is read
abbrev pub call_reader : (tag : ℕ) → Reader Statement
call_reader tag p content = call_by (calling_by tag) p (number_in tag content)

-- an answer with the number of its reason
unfoldable pub numbered : Result Named Reason → Result Named ℕ
numbered (Ok n) = Ok n
numbered (Err e) = Err (number_of e)

-- what a number at the start of content that stands at `from` names, with the position past it; or the number of a reason
unfoldable pub named_at : (from : ℕ) → CallNumber → Result Named ℕ
named_at from (names n width rest) = Ok (record { number = n; next = from + width })
named_at from (unnamed k) = Err k

-- what the call with this tag and this content names
abbrev pub named_in : (tag from : ℕ) → List ℕ → Result Named ℕ
named_in tag from content = named_at from (number_in tag content)
