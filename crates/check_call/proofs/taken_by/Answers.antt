-- `check_call::taken_by` meets its contract. Assumes nothing.
use mathlib.Core.Path.{sym, ap, ◌∙◌}
use Rattle.std.proofs.Common.{rules}
use Rattle.language.specs.Check.{register, taken}
use Rattle.kinds.specs.declared.Kind.{Kind}
use Rattle.forms.specs.Flat.{widened, as_form}
use Rattle.forms.specs.Rows.{forms_of}
use Rattle.check_operand.specs.Operands.{wanted_of}
use Rattle.check_operand.specs.Tables.{kind_in}
use Rattle.check_call.proofs.taken_by.Goals as goal

pub returns-in-Qubit-clause-size_after : goal.returns-in-Qubit-clause-size_after
unfolding wanted_of taken kind_in
returns-in-Qubit-clause-size_after c = search rules

pub returns-in-Quantum : goal.returns-in-Quantum
unfolding wanted_of taken kind_in
returns-in-Quantum c =
    let a = c.args in
    record {
      size_after = λ h. ap register c.put_in.ensures.f_after ∙ sym (ap (λ (k : Kind). taken (forms_of a.m a.forms.now) (kind_in k (as_form (widened a.own.now)) (h.formals a.formal))) c.in-Quantum.is);
      size_right = c.put_in.ensures.kept;
    }

pub returns-in-Classical-clause-size_after : goal.returns-in-Classical-clause-size_after
unfolding wanted_of taken kind_in
returns-in-Classical-clause-size_after c = search rules

pub returns-in-Family-clause-size_after : goal.returns-in-Family-clause-size_after
unfolding wanted_of taken kind_in
returns-in-Family-clause-size_after c = search rules
