-- `check_call::family_call` meets its contract. Assumes nothing.
use mathlib.Core.Path.{ap, ◌∙◌}
use mathlib.Core.Option.{some}
use Prim.Native.Nat.{ℕ}
use native.Mathlib.Nat.{zero-add}
use Rattle.fields.specs.Header.{fields_at}
use Rattle.check_index.specs.Answers.{checked_part}
use Rattle.check_operand.proofs.Tables.{row_get, row_none}
use Rattle.check_call.specs.Scopes.{signatures_of, scope_full}
use Rattle.check_call.proofs.Calls.{call_beyond, call_found}
use Rattle.check_call.proofs.family_call.Goals as goal

pub returns-then-full-n : goal.returns-then-full-n
unfolding checked_part
returns-then-full-n c =
    let a = c.args in
    let full = a.full.now in
    call_beyond (scope_full full) a.at a.n (fields_at a.program.now a.from a.next) (row_none (signatures_of full) full.scope.visible.families 0 a.n c.if-full-n.true)

pub returns : goal.returns
returns c =
    let a = c.args in
    let full = a.full.now in
    c.call_fits.ensures ∙ call_found (scope_full full) a.at a.n (fields_at a.program.now a.from a.next) (signatures_of full a.n) (row_get (signatures_of full) full.scope.visible.families 0 a.n c.if-full-n.false ∙ ap (λ (k : ℕ). some (signatures_of full k)) (zero-add a.n))
