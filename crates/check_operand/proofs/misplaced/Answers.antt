-- `check_operand::misplaced` meets its contract. Assumes nothing.
use mathlib.Core.Path.{◌∙◌}
use Prim.Native.Nat.{◌+◌}
use native.Mathlib.Omega.{arith}
use lib.ListN.{get_or}
use lib.Seq.{length-slice}
use Rattle.language.specs.Read.{two_bytes}
use Rattle.fields.proofs.Headers.{slice_none}
use Rattle.check_index.specs.Answers.{checked_part}
use Rattle.check_operand.specs.Tables.{tabulated, scope_with}
use Rattle.check_operand.specs.Operands.{wanted_of}
use Rattle.check_operand.proofs.Tables.{row_get, row_none}
use Rattle.check_operand.proofs.Passed.{two_first, passed_cut, passed_beyond, passed_long, passed_good, unwanted}
use Rattle.check_operand.proofs.misplaced.Goals as goal

pub returns-then-next-from-lt2-clause-result_value : goal.returns-then-next-from-lt2-clause-result_value
unfolding checked_part
returns-then-next-from-lt2-clause-result_value c =
    let a = c.args in
    let h = length-slice (a.at + 3) a.next a.program.now c.requires.at_bound.1 in
    λ k l ks m ls. passed_cut (scope_with (tabulated k.declared a.scope.now.visible.families 0) ks m ls) (wanted_of k a.wanted l) a.at _ (omega arith)

pub returns-then-scope-n-clause-result_value : goal.returns-then-scope-n-clause-result_value
unfolding checked_part
returns-then-scope-n-clause-result_value c =
    let a = c.args in
    let e = two_first (a.at + 3) a.next a.program.now (omega arith) c.requires.at_bound.1 in
    let v = c.two_bytes-n.ensures.0 in
    λ k l ks m ls. passed_beyond (scope_with (tabulated k.declared a.scope.now.visible.families 0) ks m ls) (wanted_of k a.wanted l) a.at _ _ _ _ e (row_none k.declared a.scope.now.visible.families 0 _ (omega arith))

pub returns-then-next-from-ne2-clause-result_value : goal.returns-then-next-from-ne2-clause-result_value
unfolding checked_part
returns-then-next-from-ne2-clause-result_value c =
    let a = c.args in
    let from = a.at + 3 in
    let e = two_first from a.next a.program.now (omega arith) c.requires.at_bound.1 in
    let v = c.two_bytes-n.ensures.0 in
    let n = two_bytes (get_or a.program.now from 0) (get_or a.program.now (from + 1) 0) in
    let h = length-slice (from + 2) a.next a.program.now c.requires.at_bound.1 in
    λ k l ks m ls. passed_long (scope_with (tabulated k.declared a.scope.now.visible.families 0) ks m ls) (wanted_of k a.wanted l) a.at _ _ _ _ e (k.declared (0 + n)) (row_get k.declared a.scope.now.visible.families 0 n (omega arith)) (λ z. absurd (omega arith))

pub returns-clause-result_value : goal.returns-clause-result_value
unfolding checked_part
returns-clause-result_value c =
    let a = c.args in
    let from = a.at + 3 in
    let e = two_first from a.next a.program.now (omega arith) c.requires.at_bound.1 in
    let v = c.two_bytes-n.ensures.0 in
    let n = two_bytes (get_or a.program.now from 0) (get_or a.program.now (from + 1) 0) in
    λ k l ks m ls. unwanted k a.wanted l a.at _ _ _ _ e c.requires.answerable (k.declared (0 + n))
    ∙ passed_good (scope_with (tabulated k.declared a.scope.now.visible.families 0) ks m ls) (wanted_of k a.wanted l) a.at _ _ _ _ e (k.declared (0 + n)) (row_get k.declared a.scope.now.visible.families 0 n (omega arith)) (slice_none (from + 2) a.next a.program.now (omega arith))
