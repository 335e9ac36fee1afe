-- `metaqasm::printed` meets its contract. Assumes nothing.
use mathlib.Core.Path.{ap, ◌∙◌}
use Rattle.qasm_text.specs.Text.{text_of}
use Rattle.qasm_text.specs.TextResult.{TextResult}
use Rattle.metaqasm.specs.Answers.{answered}
use Rattle.metaqasm.proofs.TextRuns.{printed_not, printed_fully}
use Rattle.metaqasm.proofs.printed.Goals as goal

pub returns-in-None : goal.returns-in-None
returns-in-None c =
    let a = c.args in
    let out = a.output.now in
    let after = c.print.new.text in
    λ rs e. ap (λ (x : TextResult). record { result = x; output = out; text = after }) c.unprinted.ensures
    ∙ printed_not a.text.now (text_of a.wires a.bits rs) after (record { result = answered a.run; output = out }) c.print.result (c.print.ensures rs e) c.in-None.is

pub returns-in-Some : goal.returns-in-Some
returns-in-Some c =
    let a = c.args in
    let out = a.output.now in
    let after = c.print.new.text in
    λ rs e. printed_fully a.text.now (text_of a.wires a.bits rs) after (record { result = answered a.run; output = out }) c.print.result (c.print.ensures rs e) _ c.in-Some.is
