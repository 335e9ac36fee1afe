-- `check_index::product` meets its contract. Assumes nothing.
use mathlib.Core.Path.{refl, ap, ◌∙◌}
use Rattle.std.specs.Prelude.{Err}
use Rattle.forms.specs.Products.{product_of}
use Rattle.check_index.specs.Answers.{checked_form}
use Rattle.check_index.specs.Indexes.{tree_operation}
use Rattle.check_index.proofs.product.Goals as goal

pub returns-in-Ok : goal.returns-in-Ok
unfolding product_of tree_operation checked_form
returns-in-Ok c =
    let e = c.in-Ok.is in
    record {
      f_after = rw e at (c.multiply.ensures.f_after c.args.at);
      form_ends_at = (refl, rw e at c.multiply.ensures.made_kept);
    }

pub returns-in-Err-OutOfRange : goal.returns-in-Err-OutOfRange
unfolding product_of tree_operation checked_form
returns-in-Err-OutOfRange c =
    let e = c.in-Err-OutOfRange.is ∙ ap Err c.in-Err-OutOfRange.field-0-is in
    record {
      f_after = rw e at (c.multiply.ensures.f_after c.args.at);
      form_ends_at = tt;
    }

pub returns-in-Err-NotLinear : goal.returns-in-Err-NotLinear
unfolding product_of tree_operation checked_form
returns-in-Err-NotLinear c =
    let e = c.in-Err-NotLinear.is ∙ ap Err c.in-Err-NotLinear.field-0-is in
    record {
      f_after = rw e at (c.multiply.ensures.f_after c.args.at);
      form_ends_at = tt;
    }
