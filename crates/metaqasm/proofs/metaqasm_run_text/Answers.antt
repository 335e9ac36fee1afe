-- `metaqasm::metaqasm_run_text` meets its contract. Assumes nothing.
use native.Mathlib.Omega.{arith}
use Rattle.language.specs.Result.{Answer as Reply}
use Rattle.language.proofs.Theorem.{reported_sound}
use Rattle.qasm_text.proofs.CompleteRuns.{run_accepted}
use Rattle.metaqasm.specs.Answers.{answered}
use Rattle.metaqasm.specs.TextAnswers.{text_answered}
use Rattle.metaqasm.proofs.AcceptedRuns.{acceptable}
use Rattle.metaqasm.proofs.TextRuns.{by_other, by_done, run_text_promised}
use Rattle.metaqasm.proofs.metaqasm_run_text.Goals as goal

pub returns-then-run-ne0 : goal.returns-then-run-ne0
returns-then-run-ne0 c =
    let a = c.args in
    let l = a.program.now in
    let out = c.metaqasm_run-run.new.output in
    let run : Reply = record { result = answered c.metaqasm_run-run.result; output = out } in
    let t = run_text_promised l a.limit a.output.now run c.metaqasm_run-run.ensures.outcome a.text.now _ (by_other run (text_answered c.unprinted.result) a.text.now _ c.if-run-ne0.true c.unprinted.ensures) c.metaqasm_run-run.ensures.records_in_bounds c.metaqasm_run-run.ensures.steps_le_limit in
    record {
      outcome = t.0;
      sound = t.1;
      records_in_bounds = t.2.records;
      steps_le_limit = t.2.steps;
      length_in_bounds = t.2.fits;
    }

pub declared-declared-requires : goal.declared-declared-requires
declared-declared-requires c =
    let a = c.args in
    let l = a.program.now in
    let out = c.metaqasm_run-run.new.output in
    let run : Reply = record { result = answered c.metaqasm_run-run.result; output = out } in
    (acceptable l (run_accepted l a.limit a.output.now run c.metaqasm_run-run.ensures.outcome c.if-run-ne0.false)).short

pub printed-requires : goal.printed-requires
printed-requires c =
    let a = c.args in
    let l = a.program.now in
    let out = c.metaqasm_run-run.new.output in
    let run : Reply = record { result = answered c.metaqasm_run-run.result; output = out } in
    let sound = reported_sound (c.metaqasm_run-run.ensures.sound (run_accepted l a.limit a.output.now run c.metaqasm_run-run.ensures.outcome c.if-run-ne0.false)) in
    let few = sound.few in
    let q = c.declared-declared.ensures.qubits in
    let b = c.declared-declared.ensures.bits in
    record {
      records_in_bounds = c.metaqasm_run-run.ensures.records_in_bounds;
      few_halvings = (λ i h. (sound.bytes i h).halvings);
      wires_le_most_wires = (omega (arith, few.0, few.1), omega (arith, few.0, few.1));
    }

pub returns : goal.returns
returns c =
    let a = c.args in
    let l = a.program.now in
    let out = c.metaqasm_run-run.new.output in
    let run : Reply = record { result = answered c.metaqasm_run-run.result; output = out } in
    let e = rw (c.declared-declared.ensures.qubits, c.declared-declared.ensures.bits) at c.printed.ensures in
    let sound = reported_sound (c.metaqasm_run-run.ensures.sound (run_accepted l a.limit a.output.now run c.metaqasm_run-run.ensures.outcome c.if-run-ne0.false)) in
    let t = run_text_promised l a.limit a.output.now run c.metaqasm_run-run.ensures.outcome a.text.now _ (by_done run a.text.now _ sound c.if-run-ne0.false e) c.metaqasm_run-run.ensures.records_in_bounds c.metaqasm_run-run.ensures.steps_le_limit in
    record {
      outcome = t.0;
      sound = t.1;
      records_in_bounds = t.2.records;
      steps_le_limit = t.2.steps;
      length_in_bounds = t.2.fits;
    }
