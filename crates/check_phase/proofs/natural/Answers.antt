-- `check_phase::natural` meets its contract. Assumes nothing.
use mathlib.Core.Path.{ap, ◌∙◌}
use mathlib.Core.List.{List}
use native.Mathlib.Omega.{arith}
use Rattle.language.specs.Tree.{bad_index}
use Rattle.language.specs.Read.{due, outer_index}
use Rattle.language.specs.Form.{built}
use Rattle.language.specs.Check.{Signature, Kind, Scope, must_show}
use Rattle.fields.specs.Header.{fields_at}
use Rattle.forms.specs.Flat.{as_form}
use Rattle.refusals.proofs.Handed.{handed}
use Rattle.check_index.proofs.Answers.{form_passes_upto}
use Rattle.check_operand.specs.Tables.{Known, tabulated, kinds_at}
use Rattle.check_operand.specs.Scopes.{scope_at}
use Rattle.check_operand.proofs.Tables.{scope_forms, same_scope}
use Rattle.check_phase.proofs.Naturals.{passes_ends, natural_stops, natural_shows}
use Rattle.check_phase.proofs.natural.Goals as goal

pub overflow_add-variables : goal.overflow_add-variables
overflow_add-variables c =
    let s = c.args.scope.now.right in
    let q = s.few in let t = s.nested in omega arith

pub index-requires : goal.index-requires
index-requires c =
    let s = c.args.scope.now.right in
    let q = s.few in let t = s.nested in record {
      to_in_bounds = c.requires.next_in_bounds;
      variables_le_all_variables = omega arith;
    }

pub returns-in_err-mid : goal.returns-in_err-mid
returns-in_err-mid c =
    let a = c.args in
    let program = a.program.now in
    let s = a.scope.now in
    let i = due outer_index (bad_index 4 a.at) (fields_at program a.from a.next) in
    rw (handed c.from_residual.result c.from_residual.ensures.1) (record {
      result_value = (λ k. natural_stops (scope_at k s) program a.from a.next a.at c.index.result c.index.new.f (c.index.ensures.f_after ∙ scope_forms (tabulated k.declared s.visible.families 0) (kinds_at k.formals s.visible.count s.visible.first s.kinds.now s.sizes.now) s.visible.variables s.visible.loops s.lows.now s.highs.now i) c.in_err-mid.was);
      passes = tt;
    })

pub must_show-requires : goal.must_show-requires
must_show-requires c =
    let a = c.args in
    record { kept = (form_passes_upto a.program.now a.from a.next c.index.result c.index.new.f c.in_ok-mid.mid c.in_ok-mid.was c.index.ensures.form_passes).1 }

pub returns : goal.returns
returns c =
    let a = c.args in
    let program = a.program.now in
    let s = a.scope.now in
    let r = c.ranges-2.ensures in
    let l = c.index.new.f in
    let i = due outer_index (bad_index 4 a.at) (fields_at program a.from a.next) in
    let mid = c.in_ok-mid.mid in
    let v = form_passes_upto program a.from a.next c.index.result l mid c.in_ok-mid.was c.index.ensures.form_passes in
    let fs : Known → List Signature = λ k. tabulated k.declared s.visible.families 0 in
    let ks : Known → List Kind = λ k. kinds_at k.formals s.visible.count s.visible.first s.kinds.now s.sizes.now in
    record {
      result_value = (λ k. c.must_show.ensures.result_value (fs k) (ks k) ∙ ap (λ (x : Scope). must_show a.from x (built (as_form l))) (same_scope (fs k) (ks k) r.variables r.loops r.lows r.highs)
          ∙ natural_shows (scope_at k s) program a.from a.next a.at c.index.result l mid (c.index.ensures.f_after ∙ scope_forms (fs k) (ks k) s.visible.variables s.visible.loops s.lows.now s.highs.now i) c.in_ok-mid.was v.0 c.requires.next_in_bounds);
      passes = passes_ends program a.from a.next mid c.must_show.result v.0 c.must_show.ensures.ends_at;
    }
