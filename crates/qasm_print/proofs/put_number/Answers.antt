-- `qasm_print::put_number` meets its contract. Assumes nothing.
use Prim.Native.Nat.{◌/◌, ◌%◌}
use native.Mathlib.Omega.{arith}
use Rattle.qasm_print.specs.Prints.{two_digits}
use Rattle.text_bytes.proofs.Pieces.{room_first, room_next, puts_both}
use Rattle.qasm_print.proofs.TwoDigits.{decimal_two, decimal_hundreds}
use Rattle.qasm_print.proofs.put_number.Goals as goal

pub put_pair-requires-clause-room : goal.put_pair-requires-clause-room
put_pair-requires-clause-room c =
    rw (decimal_two c.args.n (omega arith) (omega arith)) at c.requires

pub returns-then-n-lt100 : goal.returns-then-n-lt100
returns-then-n-lt100 c =
    rw (decimal_two c.args.n (omega arith) (omega arith)) c.put_pair.ensures

pub put_digit-at-requires-clause-room : goal.put_digit-at-requires-clause-room
put_digit-at-requires-clause-room c =
    let r = rw (decimal_hundreds c.args.n (omega arith)) at c.requires in
    room_first (two_digits (c.args.n % 100)) r

pub put_pair-requires-then-n-lt1000-clause-room : goal.put_pair-requires-then-n-lt1000-clause-room
put_pair-requires-then-n-lt1000-clause-room c =
    let r = rw (decimal_hundreds c.args.n (omega arith)) at c.requires in
    room_next r c.put_digit-at.ensures

pub returns-then-n-lt1000 : goal.returns-then-n-lt1000
returns-then-n-lt1000 c =
    rw (decimal_hundreds c.args.n (omega arith)) (puts_both c.put_digit-at.ensures c.put_pair-then-n-lt1000.ensures)

pub put_pair-at-requires-clause-room : goal.put_pair-at-requires-clause-room
put_pair-at-requires-clause-room c =
    let r = rw (decimal_hundreds c.args.n (omega arith), decimal_two (c.args.n / 100) (omega arith) (omega arith)) at c.requires in
    room_first (two_digits (c.args.n % 100)) r

pub put_pair-requires-then-n-lt10000-clause-room : goal.put_pair-requires-then-n-lt10000-clause-room
put_pair-requires-then-n-lt10000-clause-room c =
    let r = rw (decimal_hundreds c.args.n (omega arith), decimal_two (c.args.n / 100) (omega arith) (omega arith)) at c.requires in
    room_next r c.put_pair-at.ensures

pub returns-then-n-lt10000 : goal.returns-then-n-lt10000
returns-then-n-lt10000 c =
    rw (decimal_hundreds c.args.n (omega arith), decimal_two (c.args.n / 100) (omega arith) (omega arith)) (puts_both c.put_pair-at.ensures c.put_pair-then-n-lt10000.ensures)

pub put_digit-first-requires-clause-room : goal.put_digit-first-requires-clause-room
put_digit-first-requires-clause-room c =
    let r = rw (decimal_hundreds c.args.n (omega arith), decimal_hundreds (c.args.n / 100) (omega arith)) at c.requires in
    room_first (two_digits (c.args.n / 100 % 100)) (room_first (two_digits (c.args.n % 100)) r)

pub put_pair-at-requires-2-clause-room : goal.put_pair-at-requires-2-clause-room
put_pair-at-requires-2-clause-room c =
    let r = rw (decimal_hundreds c.args.n (omega arith), decimal_hundreds (c.args.n / 100) (omega arith)) at c.requires in
    room_next (room_first (two_digits (c.args.n % 100)) r) c.put_digit-first.ensures

pub put_pair-requires-2-clause-room : goal.put_pair-requires-2-clause-room
put_pair-requires-2-clause-room c =
    let r = rw (decimal_hundreds c.args.n (omega arith), decimal_hundreds (c.args.n / 100) (omega arith)) at c.requires in
    room_next r (puts_both c.put_digit-first.ensures c.put_pair-at-2.ensures)

pub returns : goal.returns
returns c =
    rw (decimal_hundreds c.args.n (omega arith), decimal_hundreds (c.args.n / 100) (omega arith)) (puts_both (puts_both c.put_digit-first.ensures c.put_pair-at-2.ensures) c.put_pair-2.ensures)
