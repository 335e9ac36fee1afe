-- `fields::with_tag` meets its contract. Assumes nothing.
use mathlib.Core.Path.{sym, ap, ◌∙◌}
use native.Mathlib.Omega.{arith}
use Rattle.fields.specs.Header.{header_of, tagged_in}
use Rattle.fields.proofs.Headers.{fields_end, tag_other, tag_same}
use Rattle.fields.proofs.with_tag.Goals as goal

pub returns-then-to-at : goal.returns-then-to-at
unfolding header_of tagged_in
returns-then-to-at c =
    let a = c.args in
    sym (rw (fields_end a.program.now a.at a.to c.if-to-at.true))

pub returns-then-program-at : goal.returns-then-program-at
returns-then-program-at c =
    let a = c.args in
    sym (tag_other a.program.now a.at a.to a.tag (omega arith) c.if-program-at.true)

pub returns-in-Ok : goal.returns-in-Ok
returns-in-Ok c =
    let a = c.args in
    let h = c.in-Ok.header in
    sym (tag_same a.program.now a.at a.to a.tag h.tag h.next (omega arith) c.if-program-at.false (sym c.header_at.ensures ∙ c.in-Ok.is))

pub returns-in-Err : goal.returns-in-Err
unfolding tagged_in
returns-in-Err c =
    sym (ap (tagged_in c.args.tag) (sym c.header_at.ensures ∙ c.in-Err.is))
