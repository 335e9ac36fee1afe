-- The scope of the definitions that all tables stand for.
use Rattle.check_operand.specs.Scopes.{scope_at}
use Rattle.std.specs.Prelude.{ℕ}
use Rattle.language.specs.Check.{Signature}
use Rattle.check_operand.specs.Tables.{Formals, Known}
use Rattle.check_call.specs.Calls.{formal_at, signature_at, known_in}
use Rattle.check_call.specs.declared.scope.FullScope.{FullScope}
use Rattle.language.specs.Check as C

-- what is known of families in it
abbrev pub known_of : FullScope → Known
known_of s = known_in s.families.now s.scope.kinds.now s.scope.sizes.now

abbrev pub scope_full : FullScope → C.Scope
scope_full s = scope_at (known_of s) s.scope

-- what its family parameters take, and its families
abbrev pub formals_of : FullScope → Formals
formals_of s = formal_at s.families.now s.scope.kinds.now s.scope.sizes.now

abbrev pub signatures_of : FullScope → ℕ → Signature
signatures_of s = signature_at s.families.now s.scope.kinds.now s.scope.sizes.now
