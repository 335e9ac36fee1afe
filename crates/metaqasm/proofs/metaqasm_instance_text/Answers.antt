-- `metaqasm::metaqasm_instance_text` meets its contract. Assumes nothing.
use Rattle.language.specs.Result.{Answer as Reply}
use Rattle.language.proofs.Theorem.{reported_sound}
use Rattle.qasm_text.proofs.CompleteRuns.{instance_accepted, instance_suits}
use Rattle.metaqasm.specs.Answers.{answered}
use Rattle.metaqasm.specs.TextAnswers.{text_answered}
use Rattle.metaqasm.proofs.AcceptedRuns.{acceptable}
use Rattle.metaqasm.proofs.TextRuns.{by_other, by_done, instance_text_promised}
use Rattle.metaqasm.proofs.metaqasm_instance_text.Goals as goal

pub returns-then-run-ne0 : goal.returns-then-run-ne0
returns-then-run-ne0 c =
    let a = c.args in
    let l = a.program.now in
    let out = c.metaqasm_instance-run.new.output in
    let run : Reply = record { result = answered c.metaqasm_instance-run.result; output = out } in
    let t = instance_text_promised l a.family a.sizes.now a.limit a.output.now run c.metaqasm_instance-run.ensures.outcome a.text.now _ (by_other run (text_answered c.unprinted.result) a.text.now _ c.if-run-ne0.true c.unprinted.ensures) c.metaqasm_instance-run.ensures.records_in_bounds c.metaqasm_instance-run.ensures.steps_le_limit in
    record {
      outcome = t.0;
      sound = t.1;
      records_in_bounds = t.2.records;
      steps_le_limit = t.2.steps;
      length_in_bounds = t.2.fits;
    }

pub wires-wires-requires : goal.wires-wires-requires
wires-wires-requires c =
    let a = c.args in
    let l = a.program.now in
    let out = c.metaqasm_instance-run.new.output in
    let run : Reply = record { result = answered c.metaqasm_instance-run.result; output = out } in
    acceptable l (instance_accepted l a.family a.sizes.now a.limit a.output.now run c.metaqasm_instance-run.ensures.outcome c.if-run-ne0.false)

pub printed-requires : goal.printed-requires
printed-requires c =
    let a = c.args in
    let l = a.program.now in
    let out = c.metaqasm_instance-run.new.output in
    let run : Reply = record { result = answered c.metaqasm_instance-run.result; output = out } in
    let suits = instance_suits l a.family a.sizes.now a.limit a.output.now run c.metaqasm_instance-run.ensures.outcome c.if-run-ne0.false in
    let sound = reported_sound ((c.metaqasm_instance-run.ensures.sound (instance_accepted l a.family a.sizes.now a.limit a.output.now run c.metaqasm_instance-run.ensures.outcome c.if-run-ne0.false)).suited suits) in
    let few = sound.few in
    let w = (rw c.wide.ensures at c.wires-wires.ensures) suits in
    record {
      records_in_bounds = c.metaqasm_instance-run.ensures.records_in_bounds;
      few_halvings = (λ i h. (sound.bytes i h).halvings);
      wires_le_most_wires = (rw w few.0, few.1);
    }

pub returns : goal.returns
returns c =
    let a = c.args in
    let l = a.program.now in
    let out = c.metaqasm_instance-run.new.output in
    let run : Reply = record { result = answered c.metaqasm_instance-run.result; output = out } in
    let suits = instance_suits l a.family a.sizes.now a.limit a.output.now run c.metaqasm_instance-run.ensures.outcome c.if-run-ne0.false in
    let sound = reported_sound ((c.metaqasm_instance-run.ensures.sound (instance_accepted l a.family a.sizes.now a.limit a.output.now run c.metaqasm_instance-run.ensures.outcome c.if-run-ne0.false)).suited suits) in
    let w = (rw c.wide.ensures at c.wires-wires.ensures) suits in
    let e = rw w at c.printed.ensures in
    let t = instance_text_promised l a.family a.sizes.now a.limit a.output.now run c.metaqasm_instance-run.ensures.outcome a.text.now _ (by_done run a.text.now _ sound c.if-run-ne0.false e) c.metaqasm_instance-run.ensures.records_in_bounds c.metaqasm_instance-run.ensures.steps_le_limit in
    record {
      outcome = t.0;
      sound = t.1;
      records_in_bounds = t.2.records;
      steps_le_limit = t.2.steps;
      length_in_bounds = t.2.fits;
    }
