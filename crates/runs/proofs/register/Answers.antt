-- `runs::register` meets its contract. Assumes nothing.
use Prim.Native.Nat.{◌*◌}
use mathlib.Core.Path.{ap, ◌∙◌}
use mathlib.Core.List.{[], ◌∷◌, ◌++◌}
use native.Mathlib.Omega.{arith}
use lib.ListN.{take}
use Rattle.language.specs.Machine.{Meaning}
use Rattle.operands.specs.Meanings.{registers_of}
use Rattle.runs.proofs.Declarations.{quantum_fits, classical_fits, quantum_more, classical_more, quantum_row, classical_row}
use Rattle.runs.proofs.register.Goals as goal

pub overflow_cast-first : goal.overflow_cast-first
overflow_cast-first c =
    let a = c.args in
    omega (arith, quantum_fits a.quantum a.t a.content.now c.requires c.two_bytes-n.result c.two_bytes-n.ensures.0 c.if-quantum.true, c.two_bytes-n.ensures.1)

pub overflow_add-qubits : goal.overflow_add-qubits
overflow_add-qubits c =
    let a = c.args in
    omega (arith, quantum_fits a.quantum a.t a.content.now c.requires c.two_bytes-n.result c.two_bytes-n.ensures.0 c.if-quantum.true, c.two_bytes-n.ensures.1)

pub returns-then-quantum : goal.returns-then-quantum
returns-then-quantum c =
    let a = c.args in
    record {
      value = quantum_more a.quantum a.t a.content.now c.requires c.two_bytes-n.result c.two_bytes-n.ensures.0 c.if-quantum.true;
      regs_after = c.declare.ensures ∙ ap (λ (m : Meaning). registers_of (take (3 * a.t.registers) a.regs.now) ++ (m ∷ [])) (quantum_row a.quantum a.t a.content.now c.requires c.two_bytes-n.result c.two_bytes-n.ensures.0 c.if-quantum.true);
    }

pub overflow_cast-first-2 : goal.overflow_cast-first-2
overflow_cast-first-2 c =
    let a = c.args in
    omega (arith, classical_fits a.quantum a.t a.content.now c.requires c.two_bytes-n.result c.two_bytes-n.ensures.0 c.if-quantum.false, c.two_bytes-n.ensures.1)

pub overflow_add-bits : goal.overflow_add-bits
overflow_add-bits c =
    let a = c.args in
    omega (arith, classical_fits a.quantum a.t a.content.now c.requires c.two_bytes-n.result c.two_bytes-n.ensures.0 c.if-quantum.false, c.two_bytes-n.ensures.1)

pub returns : goal.returns
returns c =
    let a = c.args in
    record {
      value = classical_more a.quantum a.t a.content.now c.requires c.two_bytes-n.result c.two_bytes-n.ensures.0 c.if-quantum.false;
      regs_after = c.declare-2.ensures ∙ ap (λ (m : Meaning). registers_of (take (3 * a.t.registers) a.regs.now) ++ (m ∷ [])) (classical_row a.quantum a.t a.content.now c.requires c.two_bytes-n.result c.two_bytes-n.ensures.0 c.if-quantum.false);
    }
