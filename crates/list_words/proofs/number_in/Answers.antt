-- `number_in` meets its contract. Assumes nothing.
use Prim.Native.Nat.{◌+◌, ◌*◌, ◌-◌}
use mathlib.Core.Path.{◌≡◌, sym, ◌∙◌}
use native.Mathlib.Omega.{arith}
use lib.ListN.{get_or}
use borrow.Author.Tests.{eqb-true, eqb-false}
use Rattle.list_words.proofs.WordLaws.{no_byte, no_digit, too_large_lem, reading_next, reading_done}
use Rattle.list_words.proofs.number_in.Goals as goal

pub returns-then-is_empty : goal.returns-then-is_empty
returns-then-is_empty c =
    no_byte c.args.word.now (eqb-true _ _ (sym c.if-is_empty.ensures))

pub returns-then-not-is_ascii_digit : goal.returns-then-not-is_ascii_digit
returns-then-not-is_ascii_digit c =
    no_digit c.args.word.now c.loop-byte.byte-index c.loop-byte.n c.loop-byte.invariant (omega arith) c.if-not-is_ascii_digit.ensures.cases

pub returns-in_err-checked_mul : goal.returns-in_err-checked_mul
returns-in_err-checked_mul c =
    c.from_residual.ensures ∙ too_large_lem c.args.word.now c.loop-byte.byte-index c.loop-byte.n c.loop-byte.invariant (omega arith) (omega (arith, c.in_err-checked_mul.ensures))

pub returns-in_err-n : goal.returns-in_err-n
returns-in_err-n c =
    let m = c.in_ok-checked_mul.ensures in
    c.from_residual-in_err-n.ensures ∙ too_large_lem c.args.word.now c.loop-byte.byte-index c.loop-byte.n c.loop-byte.invariant (omega arith) (omega (arith, c.in_err-n.ensures))

pub loop-byte-preserved : goal.loop-byte-preserved
loop-byte-preserved c =
    let w = c.args.word.now in
    let i = c.loop-byte.byte-index in
    let n = c.loop-byte.n in
    let m = c.in_ok-checked_mul.ensures in
    let d = c.if-not-is_ascii_digit.ensures.cases in
    let s = c.in_ok-n.ensures in
    let e : c.in_ok-n.n ≡ 10 * n + (get_or w i 0 - 48) = omega arith in
    rw e (reading_next w i n c.loop-byte.invariant (omega arith) (omega arith) (omega arith) (omega arith))

pub returns : goal.returns
returns c =
    reading_done c.args.word.now c.loop-byte.byte-index c.loop-byte.n c.loop-byte.invariant (omega arith) (eqb-false _ _ (sym c.if-is_empty.ensures))
