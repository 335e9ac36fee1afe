-- What the product of two forms answers.
use Rattle.std.specs.Prelude.{List, ℤ, Result, Ok, Err}
use Rattle.language.specs.Tree.{Place}
use Rattle.language.specs.Form.{Form}
use Rattle.language.specs.Check.{Checked, good, refused}
use Rattle.forms.specs.Flat.{as_form}
use Rattle.forms.specs.declared.NoProduct.{NoProduct}
use Rattle.forms.specs.declared.NoProduct.TheVariants.{OutOfRange, NotLinear}

-- the answer for the product at p, whose form lies beside it
unfoldable pub product_of : Place → Result (Unit {0}) NoProduct → List ℤ → Checked Form
product_of p (Ok u) l = good (as_form l)
product_of p (Err OutOfRange) l = refused 11 p
product_of p (Err NotLinear) l = refused 10 p
