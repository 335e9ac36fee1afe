-- `check_operand::same_wire` meets its contract. Assumes nothing.
use mathlib.Core.Path.{sym, ◌∙◌}
use Rattle.check_operand.proofs.Wires.{other_tags, other_numbers, both_whole, by_forms}
use Rattle.check_operand.proofs.same_wire.Goals as goal

pub returns-then-tag-program : goal.returns-then-tag-program
returns-then-tag-program c =
    let a = c.args in
    sym (other_tags a.program.now a.first a.second a.f.now a.g.now c.if-tag-program.true)

pub returns-then-number-program : goal.returns-then-number-program
returns-then-number-program c =
    let a = c.args in
    sym (other_numbers a.program.now a.first a.second a.f.now a.g.now c.if-number-program.true)

pub returns-then-tag-eq-WHOLE : goal.returns-then-tag-eq-WHOLE
returns-then-tag-eq-WHOLE c =
    let a = c.args in
    sym (both_whole a.program.now a.first a.second a.f.now a.g.now c.if-tag-program.false c.if-number-program.false c.if-tag-eq-WHOLE.true)

pub returns : goal.returns
returns c =
    let a = c.args in
    c.same.ensures ∙ sym (by_forms a.program.now a.first a.second a.f.now a.g.now c.if-tag-program.false c.if-number-program.false c.if-tag-eq-WHOLE.false)
