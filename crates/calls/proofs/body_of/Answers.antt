-- `calls::body_of` meets its contract. Assumes nothing.
use mathlib.Core.Path.{sym}
use Rattle.fields.specs.Table.{past_of}
use Rattle.fields.proofs.Parts.{part_is}
use Rattle.calls.proofs.body_of.Goals as goal

pub returns : goal.returns
returns c =
    let a = c.args in
    rw c.past-to.ensures (sym (part_is a.program.now a.start (past_of a.program.now a.at) c.requires.body_from.high))
