-- `check_declaration::two_counts` meets its contract. Assumes nothing.
use Prim.Native.Nat.{◌+◌}
use native.Mathlib.Omega.{arith}
use lib.Seq.{slice}
use Rattle.fields.proofs.Headers.{slice_none}
use Rattle.check_declaration.specs.Families.{checked_counts}
use Rattle.check_declaration.proofs.Families.{first_byte, second_byte, counts_none, counts_over, counts_one, counts_zero, counts_above, counts_good}
use Rattle.check_declaration.proofs.two_counts.Goals as goal

pub returns-then-next-from-clause-result_value : goal.returns-then-next-from-clause-result_value
unfolding checked_counts
returns-then-next-from-clause-result_value c =
    let a = c.args in
    counts_none a.at (slice (a.at + 3) a.next a.program.now) (slice_none (a.at + 3) a.next a.program.now c.if-next-from.true)

pub returns-then-m-gt-MOST_VARIABLES-clause-result_value : goal.returns-then-m-gt-MOST_VARIABLES-clause-result_value
unfolding checked_counts
returns-then-m-gt-MOST_VARIABLES-clause-result_value c =
    let a = c.args in
    let program = a.program.now in
    let m = c.from-m.result in
    let e = first_byte program a.at a.next c.requires.1 m c.if-next-from.false c.from-m.ensures in
    counts_over a.at (slice (a.at + 3) a.next program) m (slice (a.at + 4) a.next program) e c.if-m-gt-MOST_VARIABLES.true

pub returns-then-next-second-clause-result_value : goal.returns-then-next-second-clause-result_value
unfolding checked_counts
returns-then-next-second-clause-result_value c =
    let a = c.args in
    let program = a.program.now in
    let m = c.from-m.result in
    let more = slice (a.at + 4) a.next program in
    let e = first_byte program a.at a.next c.requires.1 m c.if-next-from.false c.from-m.ensures in
    counts_one a.at (slice (a.at + 3) a.next program) m more e c.if-m-gt-MOST_VARIABLES.false (slice_none (a.at + 4) a.next program c.if-next-second.true)

pub returns-then-n-eq0-clause-result_value : goal.returns-then-n-eq0-clause-result_value
unfolding checked_counts
returns-then-n-eq0-clause-result_value c =
    let a = c.args in
    let program = a.program.now in
    let m = c.from-m.result in
    let n = c.from-n.result in
    let e = first_byte program a.at a.next c.requires.1 m c.if-next-from.false c.from-m.ensures in
    let z = second_byte program a.at a.next c.requires.1 n c.if-next-second.false c.from-n.ensures in
    counts_zero a.at (slice (a.at + 3) a.next program) m (slice (a.at + 4) a.next program) e c.if-m-gt-MOST_VARIABLES.false n (slice (a.at + 5) a.next program) z c.if-n-eq0.true

pub returns-then-n-gt-MOST_PARAMETERS-clause-result_value : goal.returns-then-n-gt-MOST_PARAMETERS-clause-result_value
unfolding checked_counts
returns-then-n-gt-MOST_PARAMETERS-clause-result_value c =
    let a = c.args in
    let program = a.program.now in
    let m = c.from-m.result in
    let n = c.from-n.result in
    let e = first_byte program a.at a.next c.requires.1 m c.if-next-from.false c.from-m.ensures in
    let z = second_byte program a.at a.next c.requires.1 n c.if-next-second.false c.from-n.ensures in
    counts_above a.at (slice (a.at + 3) a.next program) m (slice (a.at + 4) a.next program) e c.if-m-gt-MOST_VARIABLES.false n (slice (a.at + 5) a.next program) z c.if-n-eq0.false c.if-n-gt-MOST_PARAMETERS.true

pub returns : goal.returns
unfolding checked_counts
returns c =
    let a = c.args in
    let program = a.program.now in
    let m = c.from-m.result in
    let n = c.from-n.result in
    let e = first_byte program a.at a.next c.requires.1 m c.if-next-from.false c.from-m.ensures in
    let z = second_byte program a.at a.next c.requires.1 n c.if-next-second.false c.from-n.ensures in
    let u = c.if-next-second.false in
    let some = c.if-n-eq0.false in
    record {
      result_value = counts_good a.at (slice (a.at + 3) a.next program) m (slice (a.at + 4) a.next program) e c.if-m-gt-MOST_VARIABLES.false n (slice (a.at + 5) a.next program) z c.if-n-eq0.false c.if-n-gt-MOST_PARAMETERS.false;
      both_right = (c.if-m-gt-MOST_VARIABLES.false, omega arith, c.if-n-gt-MOST_PARAMETERS.false, omega arith);
    }
