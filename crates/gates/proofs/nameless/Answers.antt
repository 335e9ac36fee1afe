-- `gates::nameless` meets its contract. Assumes nothing.
use mathlib.Core.Path.{sym, ◌∙◌}
use lib.Seq.{slice}
use Rattle.gates.proofs.CallNames.{nameless_other, nameless_err}
use Rattle.gates.proofs.nameless.Goals as goal

pub returns-then-is_call : goal.returns-then-is_call
returns-then-is_call c =
    let a = c.args in
    c.is_err.ensures.value ∙ nameless_err a.tag (slice a.from a.to a.bytes.now) (sym c.is_call.ensures ∙ c.if-is_call.true) a.from _ c.called_number.ensures

pub returns-else-is_call : goal.returns-else-is_call
returns-else-is_call c =
    let a = c.args in
    c.if-is_call.false ∙ sym (nameless_other a.tag (slice a.from a.to a.bytes.now) (sym c.is_call.ensures ∙ c.if-is_call.false))
