-- `check_declaration::register_size` meets its contract. Assumes nothing.
use mathlib.Core.Path.{◌≡◌, ap, ◌∙◌}
use Prim.Native.Nat.{◌+◌}
use native.Mathlib.Omega.{arith}
use lib.ListN.{get_or}
use lib.Seq.{slice, length-slice}
use Rattle.language.specs.Read.{two_bytes}
use Rattle.language.specs.Check.{good}
use Rattle.fields.proofs.Headers.{slice_none}
use Rattle.check_declaration.specs.Registers.{checked_register}
use Rattle.check_declaration.proofs.Registers.{size_bytes, size_many_registers, size_short, size_past, size_left, size_good}
use Rattle.check_declaration.proofs.register_size.Goals as goal

pub returns-then-count-ge-MOST_REGISTERS : goal.returns-then-count-ge-MOST_REGISTERS
unfolding checked_register
returns-then-count-ge-MOST_REGISTERS c =
    let a = c.args in
    size_many_registers a.at a.count a.total a.most (slice (a.at + 3) a.next a.program.now) c.if-count-ge-MOST_REGISTERS.true

pub returns-then-next-from-lt2 : goal.returns-then-next-from-lt2
unfolding checked_register
returns-then-next-from-lt2 c =
    let a = c.args in
    let long = length-slice (a.at + 3) a.next a.program.now c.requires.at_bound.1 in
    size_short a.at a.count a.total a.most (slice (a.at + 3) a.next a.program.now) c.if-count-ge-MOST_REGISTERS.false (omega arith)

pub returns-then-most-total : goal.returns-then-most-total
unfolding checked_register
returns-then-most-total c =
    let a = c.args in
    let program = a.program.now in
    let from = a.at + 3 in
    let x = get_or program from 0 in
    let y = get_or program (from + 1) 0 in
    let more = slice (from + 1 + 1) a.next program in
    let e = size_bytes program from a.next (omega arith) c.requires.at_bound.1 in
    let n : c.two_bytes-n.result ≡ two_bytes x y = c.two_bytes-n.ensures.0 in
    let t = c.if-most-total.true in
    size_past a.at a.count a.total a.most (slice from a.next program) c.if-count-ge-MOST_REGISTERS.false x y more e (rw n at t)

pub returns-then-next-from-ne2 : goal.returns-then-next-from-ne2
unfolding checked_register
returns-then-next-from-ne2 c =
    let a = c.args in
    let program = a.program.now in
    let from = a.at + 3 in
    let x = get_or program from 0 in
    let y = get_or program (from + 1) 0 in
    let more = slice (from + 1 + 1) a.next program in
    let e = size_bytes program from a.next (omega arith) c.requires.at_bound.1 in
    let n : c.two_bytes-n.result ≡ two_bytes x y = c.two_bytes-n.ensures.0 in
    let t = c.if-most-total.false in
    let len = length-slice (from + 1 + 1) a.next program c.requires.at_bound.1 in
    let z = c.if-next-from-ne2.true in
    size_left a.at a.count a.total a.most (slice from a.next program) c.if-count-ge-MOST_REGISTERS.false x y more e (rw n at t) (λ q. z (omega arith))

pub returns : goal.returns
unfolding checked_register
returns c =
    let a = c.args in
    let program = a.program.now in
    let from = a.at + 3 in
    let x = get_or program from 0 in
    let y = get_or program (from + 1) 0 in
    let more = slice (from + 1 + 1) a.next program in
    let e = size_bytes program from a.next (omega arith) c.requires.at_bound.1 in
    let n : c.two_bytes-n.result ≡ two_bytes x y = c.two_bytes-n.ensures.0 in
    let t = c.if-most-total.false in
    let len = length-slice (from + 1 + 1) a.next program c.requires.at_bound.1 in
    let z = c.if-next-from-ne2.false in
    ap good n ∙ size_good a.at a.count a.total a.most (slice from a.next program) c.if-count-ge-MOST_REGISTERS.false x y more e (rw n at t) (slice_none (from + 1 + 1) a.next program (omega arith))
