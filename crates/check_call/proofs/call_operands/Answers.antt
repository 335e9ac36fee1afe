-- `check_call::call_operands` meets its contract. Assumes nothing.
use mathlib.Core.Path.{sym, ap, ◌∙◌}
use mathlib.Core.List.{List, map}
use Prim.Native.Nat.{ℕ, suc}
use native.Mathlib.Omega.{arith}
use native.Mathlib.Numerals.{add-one}
use lib.ListN.{drop}
use Rattle.language.specs.Read.{Field, read_argument}
use Rattle.language.specs.Check.{call_operands}
use Rattle.refusals.proofs.Handed.{handed}
use Rattle.forms.specs.Rows.{forms_of}
use Rattle.check_index.specs.Answers.{checked_part}
use Rattle.check_index.proofs.Answers.{part_goes, part_stops, passes_upto}
use Rattle.check_operand.specs.Tables.{kind_at, tabulated}
use Rattle.check_call.specs.Scopes.{formals_of, scope_full}
use Rattle.check_call.proofs.Calls.{next_operand, last_operand, more_than_operands}
use Rattle.check_call.proofs.call_operands.Goals as goal

pub returns-in_err-from : goal.returns-in_err-from
returns-in_err-from c =
    let a = c.args in
    let full = a.full.now in
    let i = c.loop-j in
    let row = λ (x : ℕ). kind_at (formals_of full) x full.scope.kinds.now full.scope.sizes.now in
    rw (handed c.from_residual.result c.from_residual.ensures.1) (record {
      result_value = part_stops c.call_operand.result _ _ c.call_operand.ensures.result_value c.in_err-from.was
          ∙ sym (next_operand (scope_full full) a.parent a.before (forms_of a.m a.forms.now) row a.count a.first i.j a.program.now i.from a.to c.loop-j-test.true c.requires.to_in_bounds)
          ∙ sym i.invariant.1;
      ends_at = tt;
    })

pub loop-j-preserved : goal.loop-j-preserved
loop-j-preserved c =
    let a = c.args in
    let full = a.full.now in
    let s = scope_full full in
    let program = a.program.now in
    let i = c.loop-j in
    let gs = forms_of a.m a.forms.now in
    let row = λ (x : ℕ). kind_at (formals_of full) x full.scope.kinds.now full.scope.sizes.now in
    let ks = drop (suc i.j) (tabulated row a.count a.first) in
    let next = c.in_ok-from.from in
    let v = passes_upto program i.from a.to c.call_operand.result next c.in_ok-from.was c.call_operand.ensures.passes in
    let h = c.loop-j-test.true in (
      omega arith,
      (i.invariant.1
          ∙ next_operand s a.parent a.before gs row a.count a.first i.j program i.from a.to h c.requires.to_in_bounds
          ∙ part_goes c.call_operand.result _ c.call_operand.ensures.result_value next _ c.in_ok-from.was
          ∙ rw add-one (ap (λ (l : List Field). call_operands s a.parent a.before gs ks (map read_argument l)) v.rest)),
    )

pub returns-then-from-to-clause-result_value : goal.returns-then-from-to-clause-result_value
unfolding checked_part
returns-then-from-to-clause-result_value c =
    let a = c.args in
    let full = a.full.now in
    let i = c.loop-j in
    let row = λ (x : ℕ). kind_at (formals_of full) x full.scope.kinds.now full.scope.sizes.now in
    sym (i.invariant.1 ∙ more_than_operands (scope_full full) a.parent a.before (forms_of a.m a.forms.now) row a.count a.first i.j a.program.now i.from a.to c.loop-j-test.false c.if-from-to.true c.requires.to_in_bounds)

pub returns-clause-result_value : goal.returns-clause-result_value
unfolding checked_part
returns-clause-result_value c =
    let a = c.args in
    let full = a.full.now in
    let i = c.loop-j in
    let row = λ (x : ℕ). kind_at (formals_of full) x full.scope.kinds.now full.scope.sizes.now in
    sym (i.invariant.1 ∙ last_operand (scope_full full) a.parent a.before (forms_of a.m a.forms.now) row a.count a.first i.j a.program.now i.from a.to c.loop-j-test.false c.if-from-to.false)
