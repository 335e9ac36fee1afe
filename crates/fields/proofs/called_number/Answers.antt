-- `fields::called_number` meets its contract. Assumes nothing.
use mathlib.Core.Path.{sym, ◌∙◌}
use native.Mathlib.Omega.{arith}
use Rattle.fields.specs.CallNumber.{numbered}
use Rattle.fields.proofs.CallNumbers.{long_cut, long_small, long_names, short_cut, short_names}
use Rattle.fields.proofs.called_number.Goals as goal

pub returns-then-size-lt2 : goal.returns-then-size-lt2
unfolding numbered
returns-then-size-lt2 c =
    let a = c.args in
    sym (long_cut a.tag a.from a.to a.bytes.now c.requires.from_le_to c.requires.to_in_bounds c.if-tag-eq-LONG_CALL.true c.if-size-lt2.true)

pub returns-then-number-lt-BYTE_FAMILIES : goal.returns-then-number-lt-BYTE_FAMILIES
unfolding numbered
returns-then-number-lt-BYTE_FAMILIES c =
    let a = c.args in
    sym (long_small a.tag a.from a.to a.bytes.now c.requires.from_le_to c.requires.to_in_bounds c.if-tag-eq-LONG_CALL.true (omega arith) (omega arith))

pub returns-then-tag-eq-LONG_CALL : goal.returns-then-tag-eq-LONG_CALL
unfolding numbered
returns-then-tag-eq-LONG_CALL c =
    let a = c.args in
    sym (long_names a.tag a.from a.to a.bytes.now c.requires.from_le_to c.requires.to_in_bounds c.if-tag-eq-LONG_CALL.true (omega arith) (omega arith) ∙ rw c.two_bytes-number.ensures.0)

pub returns-then-size-eq0 : goal.returns-then-size-eq0
unfolding numbered
returns-then-size-eq0 c =
    let a = c.args in
    sym (short_cut a.tag a.from a.to a.bytes.now c.requires.from_le_to c.requires.to_in_bounds c.if-tag-eq-LONG_CALL.false c.if-size-eq0.true)

pub returns : goal.returns
unfolding numbered
returns c =
    let a = c.args in
    sym (short_names a.tag a.from a.to a.bytes.now c.requires.from_le_to c.requires.to_in_bounds c.if-tag-eq-LONG_CALL.false (omega arith) ∙ rw c.from.ensures)
