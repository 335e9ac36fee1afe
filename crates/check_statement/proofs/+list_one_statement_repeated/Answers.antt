-- The cycle of calls meets its contracts. Assumes nothing.
use Prim.Native.Nat.{◌+◌, ◌<◌}
use mathlib.Core.Path.{◌≡◌, sym, ◌∙◌, ap}
use native.Mathlib.Omega.{arith}
use mathlib.Core.List.{List, ◌∷◌}
use lib.ListN.{length, take, set}
use lib.Seq.{slice}
use Rattle.std.specs.Prelude.{Err}
use Rattle.language.specs.Form.{Loop}
use Rattle.language.specs.Read.{read_statement, statements_by, gate_of, cx_of}
use Rattle.language.specs.Check.{check_statements, check_statement, in_loop}
use Rattle.refusals.proofs.Handed.{handed}
use Rattle.refusals.specs.Reasons.{number_of}
use Rattle.fields.specs.Header.{fields_at}
use Rattle.fields.proofs.Headers.{when_whole, when_end, when_cut}
use Rattle.forms.specs.Flat.{as_form}
use Rattle.forms.specs.Rows.{loops_of}
use Rattle.check_index.specs.Answers.{checked_part}
use Rattle.check_index.proofs.Answers.{part_stops, part_goes}
use Rattle.check_index.proofs.TwoBounds.{bounds_upto}
use Rattle.check_operand.specs.Tables.{tabulated, kinds_at, scope_with}
use Rattle.check_operand.proofs.Tables.{length_loops, bounds_same, rows_set}
use Rattle.check_call.specs.Scopes.{known_of, scope_full}
use Rattle.check_statement.proofs.Loops.{for_many, for_stops, for_good, loops_more, rows_taken, loops_taken}
use Rattle.check_statement.proofs.Statements.{stated, list_end, list_cut, list_next, statement_deep, statement_acts}
use Rattle.check_statement.specs.declared.StatementTag.TheVariants.{Gate, Cx, Phase, Cphase, Call, Reverse, For}
use Rattle.check_statement.specs.declared.StatementTag.TheVariants as S
use Rattle.check_statement.proofs.+list_one_statement_repeated.Goals as goal

pub list-returns-in-Err-End : goal.list-returns-in-Err-End
unfolding checked_part
list-returns-in-Err-End t c =
    let a = c.args in
    let at = c.loop-header.at in
    list_end a.levels a.program.now at a.to (scope_full a.full.now) (when_end a.program.now at a.to c.requires.to_in_bounds (sym c.header_at.ensures ∙ c.in-Err-End.is ∙ ap Err c.in-Err-End.field-0-is)) ∙ sym c.loop-header.invariant

pub list-returns-in-Err-Cut : goal.list-returns-in-Err-Cut
unfolding checked_part
list-returns-in-Err-Cut t c =
    let a = c.args in
    let at = c.loop-header.at in
    list_cut a.levels a.program.now at a.to (scope_full a.full.now) (when_cut a.program.now at a.to c.requires.to_in_bounds (sym c.header_at.ensures ∙ c.in-Err-Cut.is ∙ ap Err c.in-Err-Cut.field-0-is)) ∙ sym c.loop-header.invariant

pub list-one_statement-requires : goal.list-one_statement-requires
list-one_statement-requires t c =
    let a = c.args in
    let w = when_whole a.program.now c.loop-header.at a.to c.in-Ok.header.tag c.in-Ok.header.next c.requires.to_in_bounds (sym c.header_at.ensures ∙ c.in-Ok.is) in
    (omega (arith, c.decreases), (w.low, omega (arith, w.high, c.requires.to_in_bounds)))

pub list-returns-in_err-one_statement-in-Ok : goal.list-returns-in_err-one_statement-in-Ok
list-returns-in_err-one_statement-in-Ok t c =
    let a = c.args in
    let program = a.program.now in
    let s = scope_full a.full.now in
    let at = c.loop-header.at in
    let tag = c.in-Ok.header.tag in
    let next = c.in-Ok.header.next in
    let w = when_whole program at a.to tag next c.requires.to_in_bounds (sym c.header_at.ensures ∙ c.in-Ok.is) in
    let rest = check_statements (statements_by (read_statement a.levels) (fields_at program next a.to)) s in
    rw (handed c.from_residual.result c.from_residual.ensures.1) (part_stops c.one_statement.result (stated a.levels at tag next program s) rest c.one_statement.ensures c.in_err-one_statement-in-Ok.was ∙ sym (list_next a.levels program at a.to s tag next w) ∙ sym c.loop-header.invariant)

pub list-loop-header-smaller : goal.list-loop-header-smaller
list-loop-header-smaller t c =
    let a = c.args in
    let w = when_whole a.program.now c.loop-header.at a.to c.in-Ok.header.tag c.in-Ok.header.next c.requires.to_in_bounds (sym c.header_at.ensures ∙ c.in-Ok.is) in
    omega (arith, w.low, w.high)

pub list-loop-header-preserved : goal.list-loop-header-preserved
list-loop-header-preserved t c =
    let a = c.args in
    let program = a.program.now in
    let s = scope_full a.full.now in
    let at = c.loop-header.at in
    let tag = c.in-Ok.header.tag in
    let next = c.in-Ok.header.next in
    let w = when_whole program at a.to tag next c.requires.to_in_bounds (sym c.header_at.ensures ∙ c.in-Ok.is) in
    let rest = check_statements (statements_by (read_statement a.levels) (fields_at program next a.to)) s in
    c.loop-header.invariant ∙ list_next a.levels program at a.to s tag next w ∙ part_goes c.one_statement.result (stated a.levels at tag next program s) c.one_statement.ensures _ rest c.in_ok-one_statement-in-Ok.was

pub one_statement-returns-then-levels-eq0 : goal.one_statement-returns-then-levels-eq0
unfolding checked_part
one_statement-returns-then-levels-eq0 t c =
    let a = c.args in
    let program = a.program.now in
    statement_deep a.levels a.at a.tag a.next program (scope_full a.full.now) (number_of c.too_deep.result) (c.too_deep.ensures a.at (slice (a.at + 3) a.next program)) c.if-levels-eq0.true

pub one_statement-returns-in-Gate : goal.one_statement-returns-in-Gate
unfolding check_statement gate_of fields_at
one_statement-returns-in-Gate t c =
    let a = c.args in
    c.one_wire.ensures.result_value (known_of a.full.now) ∙ statement_acts a.levels a.at a.tag a.next a.program.now (scope_full a.full.now) Gate c.if-levels-eq0.false c.statement_tag.result c.statement_tag.ensures c.in-Gate.is

pub one_statement-returns-in-Cx : goal.one_statement-returns-in-Cx
unfolding check_statement cx_of fields_at
one_statement-returns-in-Cx t c =
    let a = c.args in
    c.two_wires.ensures (known_of a.full.now) ∙ statement_acts a.levels a.at a.tag a.next a.program.now (scope_full a.full.now) Cx c.if-levels-eq0.false c.statement_tag.result c.statement_tag.ensures c.in-Cx.is

pub one_statement-returns-in-Phase : goal.one_statement-returns-in-Phase
unfolding fields_at
one_statement-returns-in-Phase t c =
    let a = c.args in
    c.phase.ensures (known_of a.full.now) ∙ statement_acts a.levels a.at a.tag a.next a.program.now (scope_full a.full.now) Phase c.if-levels-eq0.false c.statement_tag.result c.statement_tag.ensures c.in-Phase.is

pub one_statement-returns-in-Cphase : goal.one_statement-returns-in-Cphase
unfolding fields_at
one_statement-returns-in-Cphase t c =
    let a = c.args in
    c.cphase.ensures (known_of a.full.now) ∙ statement_acts a.levels a.at a.tag a.next a.program.now (scope_full a.full.now) Cphase c.if-levels-eq0.false c.statement_tag.result c.statement_tag.ensures c.in-Cphase.is

pub one_statement-returns-in-Call : goal.one_statement-returns-in-Call
one_statement-returns-in-Call t c =
    let a = c.args in
    c.call.ensures ∙ statement_acts a.levels a.at a.tag a.next a.program.now (scope_full a.full.now) Call c.if-levels-eq0.false c.statement_tag.result c.statement_tag.ensures c.in-Call.is

pub one_statement-returns-in-Reverse : goal.one_statement-returns-in-Reverse
unfolding check_statement fields_at
one_statement-returns-in-Reverse t c =
    let a = c.args in
    c.list.ensures ∙ statement_acts a.levels a.at a.tag a.next a.program.now (scope_full a.full.now) Reverse c.if-levels-eq0.false c.statement_tag.result c.statement_tag.ensures c.in-Reverse.is

pub one_statement-returns-in-For : goal.one_statement-returns-in-For
unfolding fields_at
one_statement-returns-in-For t c =
    let a = c.args in
    c.repeated.ensures ∙ statement_acts a.levels a.at a.tag a.next a.program.now (scope_full a.full.now) For c.if-levels-eq0.false c.statement_tag.result c.statement_tag.ensures c.in-For.is

pub one_statement-returns-in-Other : goal.one_statement-returns-in-Other
unfolding checked_part check_statement
one_statement-returns-in-Other t c =
    let a = c.args in
    statement_acts a.levels a.at a.tag a.next a.program.now (scope_full a.full.now) S.Other c.if-levels-eq0.false c.statement_tag.result c.statement_tag.ensures c.in-Other.is

pub repeated-returns-then-n-ge-MOST_LOOPS : goal.repeated-returns-then-n-ge-MOST_LOOPS
unfolding checked_part
repeated-returns-then-n-ge-MOST_LOOPS t c =
    let a = c.args in
    let scope = a.full.now.scope in
    let long = length_loops scope.visible.loops scope.lows.now scope.highs.now in
    for_many (read_statement a.levels) (scope_full a.full.now) a.program.now a.at (a.at + 3) a.next (let z = c.if-n-ge-MOST_LOOPS.true in omega arith)

pub repeated-returns-in_err-from : goal.repeated-returns-in_err-from
repeated-returns-in_err-from t c =
    let a = c.args in
    let scope = a.full.now.scope in
    let v = scope.visible in
    let known = known_of a.full.now in
    let program = a.program.now in
    let lows = scope.lows.now in
    let highs = scope.highs.now in
    let fs = tabulated known.declared v.families 0 in
    let ks = kinds_at known.formals v.count v.first scope.kinds.now scope.sizes.now in
    let long = length_loops v.loops lows highs in
    let e = c.two_indexes.ensures.high_after ∙ bounds_same fs ks v.variables v.loops lows highs a.at (fields_at program (a.at + 3) a.next) in
    let few : length (loops_of v.loops lows highs) < 8 = (let z = c.if-n-ge-MOST_LOOPS.false in omega arith) in
    rw (handed c.from_residual.result c.from_residual.ensures.1) (for_stops (read_statement a.levels) (scope_full a.full.now) program a.at (a.at + 3) a.next few c.two_indexes.result c.two_indexes.new.low c.two_indexes.new.high e c.in_err-from.was)

pub repeated-invariant_of-scope : goal.repeated-invariant_of-scope
repeated-invariant_of-scope t c =
    let a = c.args in
    let scope = a.full.now.scope in
    let n = scope.visible.loops in
    let l = c.two_indexes.new.low in
    let h = c.two_indexes.new.high in
    let v = bounds_upto a.program.now (a.at + 3) a.next c.two_indexes.result l h c.in_ok-from.from c.in_ok-from.was c.two_indexes.ensures.bounds_pass in
    let r = scope.right in
    let z = c.if-n-ge-MOST_LOOPS.false in
    record {
      right = record { few = r.few; nested = omega arith; kind_rows = r.kind_rows; size_rows = r.size_rows; named = r.named; low_rows = rw c.most_bounds-around_low.ensures (rows_set (take 8 scope.lows.now) 8 n l (rows_taken 8 scope.lows.now r.low_rows) v.1); high_rows = rw c.most_bounds-around_high.ensures (rows_set (take 8 scope.highs.now) 8 n h (rows_taken 8 scope.highs.now r.high_rows) v.2) };
    }

pub repeated-returns : goal.repeated-returns
unfolding in_loop
repeated-returns t c =
    let a = c.args in
    let scope = a.full.now.scope in
    let v = scope.visible in
    let known = known_of a.full.now in
    let program = a.program.now in
    let lows = scope.lows.now in
    let highs = scope.highs.now in
    let fs = tabulated known.declared v.families 0 in
    let ks = kinds_at known.formals v.count v.first scope.kinds.now scope.sizes.now in
    let long = length_loops v.loops lows highs in
    let l = c.two_indexes.new.low in
    let h = c.two_indexes.new.high in
    let e = c.two_indexes.ensures.high_after ∙ bounds_same fs ks v.variables v.loops lows highs a.at (fields_at program (a.at + 3) a.next) in
    let few : length (loops_of v.loops lows highs) < 8 = (let z = c.if-n-ge-MOST_LOOPS.false in omega arith) in
    let mid = c.in_ok-from.from in
    let b = bounds_upto program (a.at + 3) a.next c.two_indexes.result l h mid c.in_ok-from.was c.two_indexes.ensures.bounds_pass in
    let z = c.if-n-ge-MOST_LOOPS.false in
    let x = (rows_taken 8 lows scope.right.low_rows).enough in
    let y = (rows_taken 8 highs scope.right.high_rows).enough in
    let more : loops_of (v.loops + 1) (set c.most_bounds-around_low.result.now v.loops l) (set c.most_bounds-around_high.result.now v.loops h) ≡ (record { low = as_form l; high = as_form h } ∷ loops_of v.loops lows highs) =
    rw (c.most_bounds-around_low.ensures, c.most_bounds-around_high.ensures) (loops_more v.loops (take 8 lows) (take 8 highs) l h (omega arith) (omega arith)
    ∙ ap (λ (ls : List Loop). record { low = as_form l; high = as_form h } ∷ ls) (loops_taken v.loops 8 lows highs (omega arith))) in
    c.list.ensures
    ∙ ap (λ (ls : List Loop). check_statements (statements_by (read_statement a.levels) (fields_at program mid a.next)) (scope_with fs ks v.variables ls)) more
    ∙ for_good (read_statement a.levels) (scope_full a.full.now) program a.at (a.at + 3) a.next few c.two_indexes.result l h e mid c.in_ok-from.was b.0
