-- `check_call::size_fits` meets its contract. Assumes nothing.
use mathlib.Core.Path.{refl, sym, ap, ◌∙◌}
use mathlib.Core.List.{[]}
use lib.ListN.{get_or}
use Rattle.language.specs.Form.{difference_of}
use Rattle.language.specs.Check.{must_show, size_scope, plain_size, size_fits}
use Rattle.kinds.specs.declared.Kind.{Kind}
use Rattle.forms.specs.Flat.{widened, as_form}
use Rattle.check_index.specs.Answers.{checked_part}
use Rattle.check_operand.specs.Tables.{kind_in, size_of_row, kind_by}
use Rattle.check_call.specs.Calls.{plain_in, plain_by}
use Rattle.check_call.proofs.PassedFamilies.{no_formal, no_actual, both_sizes}
use Rattle.check_call.proofs.size_fits.Goals as goal

pub returns-in_default : goal.returns-in_default
unfolding checked_part
returns-in_default c =
    let a = c.args in
    let sizes = a.sizes.now in
    let f = as_form (widened (get_or sizes (size_of_row a.formal) [])) in
    record {
      result_value = λ formals. no_formal a.at a.m f (plain_size (kind_by formals a.actual sizes)) c.kind_by.result c.in_default.not-Quantum ∙ ap (λ (k : Kind). size_fits a.at a.m (plain_in k f) (plain_size (kind_by formals a.actual sizes))) c.kind_by.ensures;
      ends_at = refl;
    }

pub returns-in_default-kind_by : goal.returns-in_default-kind_by
unfolding checked_part
returns-in_default-kind_by c =
    let a = c.args in
    let sizes = a.sizes.now in
    let g = as_form (widened (get_or sizes (size_of_row a.actual) [])) in
    record {
      result_value = λ formals. no_actual a.at a.m (plain_by a.formal sizes) g (formals (size_of_row a.actual)) c.kind_by-2.result c.in_default-kind_by.not-Quantum ∙ ap (λ (k : Kind). size_fits a.at a.m (plain_by a.formal sizes) (plain_size (kind_in k g (formals (size_of_row a.actual))))) c.kind_by-2.ensures;
      ends_at = refl;
    }

pub returns : goal.returns
returns c =
    let a = c.args in
    let sizes = a.sizes.now in
    let f = as_form (widened (get_or sizes (size_of_row a.formal) [])) in
    let g = as_form (widened (get_or sizes (size_of_row a.actual) [])) in record {
      result_value = λ formals. c.at_least.ensures.result_value ∙ (λ z. must_show a.at (size_scope a.m) (difference_of (as_form (widened (get_or sizes (c.size_by-wanted.ensures z) []))) (as_form (widened (get_or sizes (c.size_by-given.ensures z) [])))))
          ∙ both_sizes a.at a.m f g (formals (size_of_row a.actual))
          ∙ (λ z. size_fits a.at a.m (plain_in ((sym c.in-Quantum.is ∙ c.kind_by.ensures) z) f) (plain_size (kind_in ((sym c.in-Quantum-kind_by.is ∙ c.kind_by-2.ensures) z) g (formals (size_of_row a.actual)))));
      ends_at = c.at_least.ensures.ends_at;
    }
