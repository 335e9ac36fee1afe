-- `line` meets its contract: the condition, the operation on its numbers, and a line end. Assumes nothing.
use mathlib.Core.Path.{refl}
use mathlib.Core.List.{◌++◌}
use native.Mathlib.Omega.{arith}
use lib.ListN.{get_or}
use Rattle.text_bytes.specs.Decimal.{ascii}
use Rattle.list_text.specs.Lines.{line_text, condition_text, gate_text}
use Rattle.list_text.proofs.Texts.{word_put, then}
use Rattle.list_text.proofs.line.Goals as goal

pub returns : goal.returns
unfolding line_text ascii
returns c =
    let b = c.args.bytes.now in
    then _ _ (then _ 122 c.condition-at.ensures c.gate-end.ensures refl (omega arith)) (word_put c.put.ensures (omega arith))
    (λ j. condition_text (get_or b 1 0) (c.two_bytes.ensures j) ++ gate_text (get_or b 0 0) (c.two_bytes-first.ensures j) (c.two_bytes-second.ensures j) (c.two_bytes-2.ensures j) ++ ascii "\n")
    (omega arith)
