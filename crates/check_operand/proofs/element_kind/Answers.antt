-- `check_operand::element_kind` meets its contract. Assumes nothing.
use mathlib.Core.Path.{refl, sym, ap, ◌∙◌}
use Rattle.language.specs.Check.{element_size}
use Rattle.check_operand.specs.Tables.{kind_in}
use Rattle.check_operand.specs.Operands.{wanted_of, checked_size}
use Rattle.check_operand.specs.declared.Wanted.{Wanted}
use Rattle.check_operand.proofs.OperandKinds.{element_no_wire, element_no_bit, element_other}
use Rattle.check_operand.proofs.element_kind.Goals as goal

pub returns-in-Wire-Quantum-clause-f_value : goal.returns-in-Wire-Quantum-clause-f_value
unfolding checked_size element_size wanted_of kind_in
returns-in-Wire-Quantum-clause-f_value c = λ f l k g. rw (c.in-Wire-Quantum.is-0, c.in-Wire-Quantum.is-1) refl

pub returns-in-Wire-Quantum-2-clause-f_value : goal.returns-in-Wire-Quantum-2-clause-f_value
unfolding checked_size element_size wanted_of kind_in
returns-in-Wire-Quantum-2-clause-f_value c = λ f l k g. rw (c.in-Wire-Quantum.is-0, c.in-Wire-Quantum.is-1) refl

pub returns-in_default-clause-f_value : goal.returns-in_default-clause-f_value
unfolding checked_size
returns-in_default-clause-f_value c =
    let a = c.args in
    λ f l k g. element_no_wire a.at f l k g a.kind c.in_default.not-Quantum-1 ∙ ap (λ (w : Wanted). element_size a.at (wanted_of k w l) (kind_in a.kind f g)) (sym c.in_default.is-0)

pub returns-in_default-2-clause-f_value : goal.returns-in_default-2-clause-f_value
unfolding checked_size
returns-in_default-2-clause-f_value c =
    let a = c.args in
    λ f l k g. element_no_bit a.at f l k g a.kind c.in_default.not-Classical-1 ∙ ap (λ (w : Wanted). element_size a.at (wanted_of k w l) (kind_in a.kind f g)) (sym c.in_default.is-0)

pub returns-in_default-3-clause-f_value : goal.returns-in_default-3-clause-f_value
unfolding checked_size
returns-in_default-3-clause-f_value c =
    let a = c.args in
    λ f l k g. element_other a.at f l k g a.wanted (kind_in a.kind f g) c.in_default.not-Wire-0 c.in_default.not-Bit-0
