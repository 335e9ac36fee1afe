-- `qasm_print::put_condition` meets its contract. Assumes nothing.
use Prim.Native.Nat.{◌-◌}
use Rattle.text_bytes.specs.Decimal.{ascii, decimal}
use Rattle.qasm_text.specs.Text.{bit_text, condition_text}
use Rattle.qasm_length.specs.AnyBytes.{condition_from}
use Rattle.text_bytes.proofs.Pieces.{room_first, room_next, puts_none, puts_both}
use Rattle.qasm_length.proofs.Records.{condition_some}
use Rattle.qasm_print.proofs.put_condition.Goals as goal

pub returns-then-kind-eq0 : goal.returns-then-kind-eq0
unfolding condition_text condition_from
returns-then-kind-eq0 c =
    rw c.if-kind-eq0.true (puts_none c.args.text.now c.args.from)

pub put-word-requires : goal.put-word-requires
unfolding condition_text ascii
put-word-requires c =
    let r = rw (condition_some c.args.kind c.args.bit c.if-kind-eq0.false) at c.requires in
    room_first (bit_text (record { number = c.args.bit })) (room_first (ascii "==") (room_first (decimal (c.args.kind - 1)) (room_first (ascii ") ") r)))

pub put_bit-name-requires : goal.put_bit-name-requires
unfolding condition_text ascii
put_bit-name-requires c =
    let r = rw (condition_some c.args.kind c.args.bit c.if-kind-eq0.false) at c.requires in
    room_next (room_first (ascii "==") (room_first (decimal (c.args.kind - 1)) (room_first (ascii ") ") r))) c.put-word.ensures

pub put-equals-requires : goal.put-equals-requires
unfolding condition_text ascii
put-equals-requires c =
    let r = rw (condition_some c.args.kind c.args.bit c.if-kind-eq0.false) at c.requires in
    room_next (room_first (decimal (c.args.kind - 1)) (room_first (ascii ") ") r)) (puts_both c.put-word.ensures c.put_bit-name.ensures)

pub put_number-end-requires : goal.put_number-end-requires
unfolding condition_text ascii
put_number-end-requires c =
    let r = rw (condition_some c.args.kind c.args.bit c.if-kind-eq0.false) at c.requires in
    rw c.from-value.ensures (room_next (room_first (ascii ") ") r) (puts_both (puts_both c.put-word.ensures c.put_bit-name.ensures) c.put-equals.ensures))

pub put-requires : goal.put-requires
unfolding condition_text ascii
put-requires c =
    let r = rw (condition_some c.args.kind c.args.bit c.if-kind-eq0.false) at c.requires in
    room_next r (puts_both (puts_both (puts_both c.put-word.ensures c.put_bit-name.ensures) c.put-equals.ensures) (rw c.from-value.ensures at c.put_number-end.ensures))

pub returns : goal.returns
unfolding condition_text ascii
returns c =
    rw (condition_some c.args.kind c.args.bit c.if-kind-eq0.false) (puts_both (puts_both (puts_both (puts_both c.put-word.ensures c.put_bit-name.ensures) c.put-equals.ensures) (rw c.from-value.ensures at c.put_number-end.ensures)) c.put.ensures)
