-- `check_declaration::sized_type` meets its contract. Assumes nothing.
use mathlib.Core.Path.{refl}
use Prim.Native.Nat.{◌+◌}
use Rattle.forms.specs.Rows.{loops_of}
use Rattle.check_declaration.specs.Types.{checked_sized_type}
use Rattle.check_index.proofs.Answers.{form_passes_upto}
use Rattle.check_declaration.proofs.Types.{type_stops, type_long, type_not, type_good}
use Rattle.refusals.proofs.Handed.{handed}
use Rattle.check_declaration.proofs.sized_type.Goals as goal

pub returns-in_err-end : goal.returns-in_err-end
returns-in_err-end c =
    let a = c.args in
    let program = a.program.now in
    let l = c.index.new.f in
    rw (handed c.from_residual.result c.from_residual.ensures.1) (record {
      f_after = λ fs ks. type_stops fs ks a.m program a.at a.next c.index.result l c.index.ensures.f_after l c.in_err-end.was;
      form_ends_at = tt;
    })

pub returns-then-end-next : goal.returns-then-end-next
unfolding checked_sized_type
returns-then-end-next c =
    let a = c.args in
    let program = a.program.now in
    let l = c.index.new.f in
    let end = c.in_ok-end.end in
    let v = form_passes_upto program (a.at + 3) a.next c.index.result l end c.in_ok-end.was c.index.ensures.form_passes in
    record {
      f_after = λ fs ks. type_long fs ks a.m program a.at a.next c.index.result l c.index.ensures.f_after end c.in_ok-end.was v.0 c.if-end-next.true c.requires.at_bound.1;
      form_ends_at = tt;
    }

pub returns-in_err-must_show : goal.returns-in_err-must_show
unfolding loops_of
returns-in_err-must_show c =
    let a = c.args in
    let program = a.program.now in
    let l = c.index.new.f in
    let end = c.in_ok-end.end in
    let v = form_passes_upto program (a.at + 3) a.next c.index.result l end c.in_ok-end.was c.index.ensures.form_passes in
    rw (handed c.from_residual-in_err-must_show.result c.from_residual-in_err-must_show.ensures.1) (record {
      f_after = λ fs ks. type_not fs ks a.m program a.at a.next c.index.result l c.index.ensures.f_after end c.in_ok-end.was v.0 c.if-end-next.false c.must_show.result (c.must_show.ensures.result_value fs ks) l c.in_err-must_show.was;
      form_ends_at = tt;
    })

pub returns : goal.returns
unfolding loops_of
returns c =
    let a = c.args in
    let program = a.program.now in
    let l = c.index.new.f in
    let end = c.in_ok-end.end in
    let v = form_passes_upto program (a.at + 3) a.next c.index.result l end c.in_ok-end.was c.index.ensures.form_passes in
    record {
      f_after = λ fs ks. type_good fs ks a.m program a.at a.next c.index.result l c.index.ensures.f_after end c.in_ok-end.was v.0 c.if-end-next.false c.must_show.result (c.must_show.ensures.result_value fs ks) _ c.in_ok-must_show.was;
      form_ends_at = (refl, v.1);
    }
