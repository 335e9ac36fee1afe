-- `check_call::sizes_fit` meets its contract. Assumes nothing.
use mathlib.Core.Path.{refl, sym, ◌∙◌}
use Prim.Native.Nat.{ℕ, suc, ◌+◌}
use native.Mathlib.Omega.{arith}
use native.Mathlib.Numerals.{add-one}
use lib.ListN.{drop, get_or}
use Rattle.refusals.proofs.Handed.{handed}
use Rattle.language.specs.Check.{plain_size, size_fits, sizes_fit}
use Rattle.check_index.specs.Answers.{checked_part}
use Rattle.check_operand.specs.Tables.{kind_at, kinds_at}
use Rattle.check_operand.proofs.Tables.{row_drop}
use Rattle.check_index.proofs.Answers.{part_goes, part_stops}
use Rattle.check_call.specs.Calls.{plain_by, plains_at}
use Rattle.check_call.proofs.Calls.{drop_end}
use Rattle.check_call.proofs.sizes_fit.Goals as goal

pub returns-in_err-size_fits : goal.returns-in_err-size_fits
unfolding sizes_fit
returns-in_err-size_fits c =
    let a = c.args in
    let ks = a.scope.now.kinds.now in
    let sizes = a.scope.now.sizes.now in
    let i = c.loop-i in rw (handed c.from_residual.result c.from_residual.ensures.1) (record {
      result_value = λ formals. part_stops c.size_fits.result (size_fits a.at a.m (plain_by (get_or ks (a.formal + i.i) 0) sizes) (plain_size (kind_at formals (a.actual + i.i) ks sizes))) (sizes_fit a.at a.m (drop (suc i.i) (plains_at a.count a.formal ks sizes)) (drop (suc i.i) (kinds_at formals a.count a.actual ks sizes))) (c.size_fits.ensures.result_value formals) c.in_err-size_fits.was
          ∙ sym (i.invariant.1 formals
          ∙ (λ z. sizes_fit a.at a.m (row_drop (λ (j : ℕ). plain_by (get_or ks j 0) sizes) a.count a.formal i.i c.loop-i-test.true z) (row_drop (λ (j : ℕ). kind_at formals j ks sizes) a.count a.actual i.i c.loop-i-test.true z)));
      ends_at = tt;
    })

pub loop-i-preserved : goal.loop-i-preserved
unfolding sizes_fit
loop-i-preserved c =
    let a = c.args in
    let ks = a.scope.now.kinds.now in
    let sizes = a.scope.now.sizes.now in
    let i = c.loop-i in
    let h = c.loop-i-test.true in (
      omega arith,
      λ formals. i.invariant.1 formals
          ∙ (λ z. sizes_fit a.at a.m (row_drop (λ (j : ℕ). plain_by (get_or ks j 0) sizes) a.count a.formal i.i c.loop-i-test.true z) (row_drop (λ (j : ℕ). kind_at formals j ks sizes) a.count a.actual i.i c.loop-i-test.true z))
          ∙ part_goes c.size_fits.result (size_fits a.at a.m (plain_by (get_or ks (a.formal + i.i) 0) sizes) (plain_size (kind_at formals (a.actual + i.i) ks sizes))) (c.size_fits.ensures.result_value formals) _ (sizes_fit a.at a.m (drop (suc i.i) (plains_at a.count a.formal ks sizes)) (drop (suc i.i) (kinds_at formals a.count a.actual ks sizes))) c.in_ok-size_fits.was
          ∙ rw add-one refl,
    )

pub returns : goal.returns
unfolding sizes_fit checked_part
returns c =
    let a = c.args in
    let ks = a.scope.now.kinds.now in
    let sizes = a.scope.now.sizes.now in
    let i = c.loop-i in record {
      result_value = λ formals. sym (i.invariant.1 formals
          ∙ (λ z. sizes_fit a.at a.m (drop_end (λ (j : ℕ). plain_by (get_or ks j 0) sizes) a.count a.formal i.i c.loop-i-test.false z) (drop_end (λ (j : ℕ). kind_at formals j ks sizes) a.count a.actual i.i c.loop-i-test.false z)));
      ends_at = refl;
    }
