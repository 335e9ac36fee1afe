-- `last_line` meets its contract: `end`, four numbers, and a line end. Assumes nothing.
use mathlib.Core.Path.{refl}
use native.Mathlib.Omega.{arith}
use Rattle.text_bytes.specs.Decimal.{ascii}
use Rattle.list_text.specs.Lines.{end_text}
use Rattle.list_text.proofs.Texts.{word_put, then}
use Prim.Native.Nat.{◌≤◌}
use Rattle.io.proofs.Counting.{prefix_len_of_le}
use Rattle.list_text.proofs.last_line.Goals as goal

pub returns : goal.returns
unfolding end_text ascii
returns c =
    let p = then _ 112 (then _ 92 (then _ 71 c.paired-placed.ensures c.number-recorded.ensures refl (omega arith)) c.number-stepped.ensures refl (omega arith)) (word_put c.put.ensures (omega arith)) refl (omega arith) in
    let b : c.put.result ≤ 112 = p.bound in
    record {
      text = p.text;
      room = prefix_len_of_le c.put.result c.put.new.text (omega arith);
    }
