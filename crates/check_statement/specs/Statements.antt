-- What the code's answers on statements stand for.
use Rattle.std.specs.Prelude.{◌≡◌, List, ℕ, Result, Ok, Err}
use Rattle.language.specs.Tree.{Statement, reverse, bad_statement, gate_h}
use Rattle.language.specs.Read.{Field, field, Reader, of_fields, gate_of, cx_of, phase_of, cphase_of, statement_by, statements_by, for_of}
use Rattle.language.specs.Check.{Checked, good, refused, check_statement, Declared}
use Rattle.fields.specs.CallNumber.{call_reader}
use Rattle.check_statement.specs.declared.StatementTag.{StatementTag}
use Rattle.check_statement.specs.declared.StatementTag.TheVariants.{Gate, Cx, Phase, Cphase, Call, Reverse, For, Other}
use Rattle.refusals.specs.Reasons.{number_of}
use Rattle.refusals.specs.declared.Refusal.{Refusal}
use Rattle.language.specs.Check as C

-- how the content of a statement is read, by what its tag says; the check asks the same of every gate
abbrev pub statement_reader : (Field → Statement) → (tag : ℕ) → StatementTag → Reader Statement
statement_reader part tag Gate = of_fields (gate_of gate_h)
statement_reader part tag Cx = of_fields cx_of
statement_reader part tag Phase = of_fields phase_of
statement_reader part tag Cphase = of_fields cphase_of
statement_reader part tag Call = call_reader tag
statement_reader part tag Reverse = of_fields (λ p fs. reverse p (statements_by part fs))
statement_reader part tag For = of_fields (for_of part)
statement_reader part tag Other = λ p content. bad_statement 3 p

-- what a tag says of a statement: the check of it is that of a statement read so
abbrev pub StatementSays : ℕ → StatementTag → Type 0
StatementSays tag k = (part : Field → Statement) (p : ℕ) (content : List ℕ) (s : C.Scope) → check_statement (statement_by part (field p tag content)) s ≡ check_statement (statement_reader part tag k p content) s

-- what the answer on a top field that declares nothing stands for
unfoldable pub checked_declared : Result ℕ Refusal → Declared → Checked Declared
checked_declared (Ok n) d = good d
checked_declared (Err e) d = refused (number_of e.0) e.1
