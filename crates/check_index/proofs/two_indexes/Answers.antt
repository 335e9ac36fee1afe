-- `check_index::two_indexes` meets its contract. Assumes nothing.
use Rattle.refusals.proofs.Handed.{handed}
use Rattle.check_index.specs.Indexes.{scope_of}
use Rattle.check_index.proofs.Answers.{form_passes_upto}
use Rattle.check_index.proofs.TwoBounds.{low_stops, high_is_last, both_pass}
use Rattle.check_index.proofs.two_indexes.Goals as goal

pub returns-in_err-mid : goal.returns-in_err-mid
returns-in_err-mid c =
    let a = c.args in
    let l = c.index.new.f in
    rw (handed c.from_residual.result c.from_residual.ensures.1) (record {
      high_after = low_stops (scope_of a.variables) a.program.now a.parent a.from a.to c.index.result l c.index.ensures.f_after l a.high.now c.in_err-mid.was;
      bounds_pass = tt;
    })

pub returns : goal.returns
returns c =
    let a = c.args in
    let program = a.program.now in
    let l = c.index.new.f in
    let mid = c.in_ok-mid.mid in
    let v = form_passes_upto program a.from a.to c.index.result l mid c.in_ok-mid.was c.index.ensures.form_passes in
    record {
      high_after = high_is_last (scope_of a.variables) program a.parent a.from a.to c.index.result l c.index.ensures.f_after mid c.in_ok-mid.was v.0 c.index-2.result c.index-2.new.f c.index-2.ensures.f_after;
      bounds_pass = both_pass program a.from mid a.to l v c.index-2.result c.index-2.new.f c.index-2.ensures.form_passes;
    }
