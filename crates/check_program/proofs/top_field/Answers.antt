-- `check_program::top_field` meets its contract. Assumes nothing.
use mathlib.Core.Path.{◌∙◌}
use Rattle.check_program.specs.Declarations.{declared_in}
use Rattle.check_program.proofs.TopFields.{top_family, top_qreg, top_creg}
use Rattle.check_program.proofs.top_field.Goals as goal

pub returns-in-1 : goal.returns-in-1
returns-in-1 c =
    let a = c.args in
    let d = declared_in a.t a.families.now a.kinds.now a.sizes.now in
    record {
      sizes_after = c.family.ensures.sizes_after ∙ top_family d a.at a.next a.tag a.program.now c.in-1.is;
      step_right = c.family.ensures.step_right;
    }

pub returns-in-2 : goal.returns-in-2
returns-in-2 c =
    let a = c.args in
    let d = declared_in a.t a.families.now a.kinds.now a.sizes.now in
    record {
      sizes_after = c.quantum_register.ensures.sizes_after ∙ top_qreg d a.at a.next a.tag a.program.now c.in-2.is;
      step_right = c.quantum_register.ensures.step_right;
    }

pub returns-in-3 : goal.returns-in-3
returns-in-3 c =
    let a = c.args in
    let d = declared_in a.t a.families.now a.kinds.now a.sizes.now in
    record {
      sizes_after = c.classical_register.ensures.sizes_after ∙ top_creg d a.at a.next a.tag a.program.now c.in-3.is;
      step_right = c.classical_register.ensures.step_right;
    }
