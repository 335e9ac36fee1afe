-- `calls::family_takes` meets its contract. Assumes nothing.
use mathlib.Core.Path.{◌∙◌, sym}
use Rattle.calls.proofs.Types.{family_sizes, family_count, family_types}
use Rattle.calls.proofs.family_takes.Goals as goal

pub returns-then-k-from : goal.returns-then-k-from
returns-then-k-from c =
    let a = c.args in
    family_sizes a.program.now a.at a.k a.n a.given.now (λ e. c.if-k-from.true (e ∙ sym c.from.ensures))

pub returns-then-n-from : goal.returns-then-n-from
returns-then-n-from c =
    let a = c.args in
    family_count a.program.now a.at a.k a.n a.given.now c.requires c.told-given (λ e. c.if-n-from.true (e ∙ sym c.from-2.ensures))

pub returns : goal.returns
returns c =
    let a = c.args in
    family_types a.program.now a.at a.k a.n a.given.now c.requires c.told-given (c.if-k-from.false ∙ c.from.ensures) (c.if-n-from.false ∙ c.from-2.ensures) c.types_take.result (rw c.past-to.ensures at c.types_take.ensures)
