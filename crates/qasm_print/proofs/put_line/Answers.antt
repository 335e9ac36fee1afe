-- `qasm_print::put_line` meets its contract. Assumes nothing.
use borrow.Author.Rules.{rules}
use Prim.Native.Nat.{◌+◌}
use lib.ListN.{get_or}
use Rattle.text_bytes.specs.Decimal.{ascii}
use Rattle.qasm_text.specs.Text.{action_text, line}
use Rattle.qasm_text.specs.RecordsIn.{number_at}
use Rattle.qasm_length.specs.AnyBytes.{action_from, record_from}
use Rattle.text_bytes.proofs.Pieces.{room_first, room_next, puts_both}
use Rattle.qasm_print.proofs.put_line.Goals as goal

pub put_condition-condition-requires : goal.put_condition-condition-requires
unfolding line record_from ascii
put_condition-condition-requires c =
    let out = c.args.output.now in
    let at = c.args.at in
    rw c.number_at-bit.ensures (room_first (action_text (action_from (get_or out at 0) (number_at out (at + 2)) (number_at out (at + 4)) (number_at out (at + 8)))) (room_first (ascii ";\n") c.requires.room))

pub put_action-action-requires : goal.put_action-action-requires
unfolding line record_from ascii
put_action-action-requires c =
    record {
      k_le_most_halvings = search rules;
      room = rw (c.number_at-first.ensures, c.number_at-second.ensures, c.number_at-k.ensures) (room_next (room_first (ascii ";\n") c.requires.room) (rw c.number_at-bit.ensures at c.put_condition-condition.ensures));
    }

pub put-requires : goal.put-requires
unfolding line record_from ascii
put-requires c =
    room_next c.requires.room (puts_both (rw c.number_at-bit.ensures at c.put_condition-condition.ensures) (rw (c.number_at-first.ensures, c.number_at-second.ensures, c.number_at-k.ensures) at c.put_action-action.ensures))

pub returns : goal.returns
unfolding line record_from ascii
returns c =
    puts_both (puts_both (rw c.number_at-bit.ensures at c.put_condition-condition.ensures) (rw (c.number_at-first.ensures, c.number_at-second.ensures, c.number_at-k.ensures) at c.put_action-action.ensures)) c.put.ensures
