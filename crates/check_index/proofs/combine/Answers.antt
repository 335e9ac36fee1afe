-- `check_index::combine` meets its contract. Assumes nothing.
use mathlib.Core.Path.{refl, sym, ap, ◌∙◌}
use Rattle.language.specs.Check.{combined}
use Rattle.forms.specs.Flat.{as_form}
use Rattle.check_index.specs.Indexes.{tree_operation}
use Rattle.check_index.specs.declared.Operation.{Operation}
use Rattle.check_index.proofs.Forms.{made, unmade}
use Rattle.check_index.proofs.combine.Goals as goal

pub returns-in-Ok : goal.returns-in-Ok
unfolding tree_operation combined
returns-in-Ok c =
    let a = c.args in
    record {
      f_after = made a.at a.next c.add.new.f c.add.ensures.f_after c.in-Ok.is ∙ ap (λ (o : Operation). combined a.at (tree_operation o) (as_form a.f.now) (as_form a.g.now)) (sym c.in-Sum.is);
      form_ends_at = (refl, rw c.in-Ok.is at c.add.ensures.kept_3);
    }

pub returns-in-Ok-subtract : goal.returns-in-Ok-subtract
unfolding tree_operation combined
returns-in-Ok-subtract c =
    let a = c.args in
    record {
      f_after = made a.at a.next c.subtract.new.f c.subtract.ensures.f_after c.in-Ok-subtract.is ∙ ap (λ (o : Operation). combined a.at (tree_operation o) (as_form a.f.now) (as_form a.g.now)) (sym c.in-Difference.is);
      form_ends_at = (refl, rw c.in-Ok-subtract.is at c.subtract.ensures.kept_3);
    }

pub returns-in-Err : goal.returns-in-Err
unfolding tree_operation combined
returns-in-Err c =
    let a = c.args in
    record {
      f_after = unmade a.at c.add.new.f c.add.new.f c.add.ensures.f_after c.in-Err.is ∙ ap (λ (o : Operation). combined a.at (tree_operation o) (as_form a.f.now) (as_form a.g.now)) (sym c.in-Sum.is);
      form_ends_at = tt;
    }

pub returns-in-Err-subtract : goal.returns-in-Err-subtract
unfolding tree_operation combined
returns-in-Err-subtract c =
    let a = c.args in
    record {
      f_after = unmade a.at c.subtract.new.f c.subtract.new.f c.subtract.ensures.f_after c.in-Err-subtract.is ∙ ap (λ (o : Operation). combined a.at (tree_operation o) (as_form a.f.now) (as_form a.g.now)) (sym c.in-Difference.is);
      form_ends_at = tt;
    }

pub returns-in-Product : goal.returns-in-Product
returns-in-Product c =
    let a = c.args in
    record {
      f_after = c.product.ensures.f_after ∙ ap (λ (o : Operation). combined a.at (tree_operation o) (as_form a.f.now) (as_form a.g.now)) (sym c.in-Product.is);
      form_ends_at = c.product.ensures.form_ends_at;
    }
