-- `check_program::quantum_register` meets its contract. Assumes nothing.
use Prim.Native.Nat.{◌+◌}
use native.Mathlib.Omega.{arith}
use lib.ListN.{length}
use lib.Seq.{slice}
use Rattle.language.specs.Limits.{most_wires}
use Rattle.kinds.specs.declared.Kind.TheVariants.{Quantum}
use Rattle.check_program.proofs.Registers.{qreg_stops, qreg_goes, register_row, holds_register}
use Rattle.refusals.proofs.Handed.{handed}
use Rattle.check_program.proofs.quantum_register.Goals as goal

pub returns-in_err-size : goal.returns-in_err-size
returns-in_err-size c =
    let a = c.args in
    let bytes = length a.program.now in
    let content = slice (a.at + 3) a.next a.program.now in
    let kinds = c.register.new.kinds in
    let sizes = c.register.new.sizes in
    rw (handed c.from_residual.result c.from_residual.ensures.1) (record {
      sizes_after = qreg_stops a.t a.families.now a.kinds.now a.sizes.now a.at content c.register.result _ kinds sizes c.in_err-size.was c.register.ensures.result_value;
      step_right = tt;
    })

pub returns : goal.returns
returns c =
    let a = c.args in
    let bytes = length a.program.now in
    let content = slice (a.at + 3) a.next a.program.now in
    let kinds = c.register.new.kinds in
    let sizes = c.register.new.sizes in
    let n = c.in_ok-size.size in
    let u = c.in_ok-size.was in
    let w = register_row a.t a.families.now a.kinds.now a.sizes.now bytes a.next a.at content c.register.result n u c.requires.declared_right Quantum a.t.registers a.t.qubits most_wires kinds sizes c.register.ensures.register_set in
    let room = w.room in
    let fits = w.fits in
    record {
      sizes_after = qreg_goes a.t a.families.now a.kinds.now a.sizes.now bytes a.next a.at content c.register.result n u c.requires.declared_right w c.register.ensures.result_value;
      step_right = holds_register bytes a.at a.next a.t a.families.now n Quantum a.t.qubits most_wires c.requires.declared_right w (a.t.qubits + n) a.t.bits (omega (arith, c.requires.at_bound.0)) fits c.requires.declared_right.bits_fit;
    }
