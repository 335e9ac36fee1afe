-- `forms::put_in` meets its contract. Assumes nothing.
use mathlib.Core.Path.{◌≡◌}
use lib.ListN.{drop}
use Rattle.language.specs.Form.{put_in, terms_put_in}
use Rattle.forms.specs.Flat.{Kept, widened, as_form}
use Rattle.forms.specs.Rows.{forms_of}
use Rattle.forms.proofs.put_in.Given as goal

abbrev pub invariant-loop-j : goal.invariant-loop-j
invariant-loop-j l =
    Kept l.f × (put_in (as_form (widened l.size)) (forms_of l.m l.forms) ≡ terms_put_in (drop l.j (as_form (widened l.size)).coefficients) (drop l.j (forms_of l.m l.forms)) (as_form l.f))
