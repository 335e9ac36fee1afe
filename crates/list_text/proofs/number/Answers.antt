-- `number` meets its contract: a space, and the fewest digits, which are at most 20. Assumes nothing.
use mathlib.Core.Path.{◌≡◌, ap, ◌∙◌}
use mathlib.Core.List.{List, ◌∷◌}
use Prim.Native.Nat.{ℕ, ◌≤◌}
use native.Mathlib.Omega.{arith}
use lib.ListN.{length, take}
use Rattle.text_bytes.specs.Decimal.{ascii}
use Rattle.list_text.specs.Lines.{number_text}
use Rattle.list_text.proofs.Texts.{word_put, then, digits_are, digits_fit}
use Rattle.list_text.proofs.number.Goals as goal

pub put-requires : goal.put-requires
put-requires c =
    let fit : c.decimal-many.result ≤ 20 = digits_fit c.decimal-many.result c.args.n (omega arith) c.decimal-many.ensures.len in
    let size : c.decimal-many.result ≡ length (take c.decimal-many.result c.decimal-many.new.out) = c.decimal-many.ensures.in_bounds.1 in
    let kept : length c.put-at.new.text ≡ length c.args.text.now = c.put-at.auto.text in
    record { fits = omega arith }

pub returns : goal.returns
unfolding number_text ascii
returns c =
    let fit : c.decimal-many.result ≤ 20 = digits_fit c.decimal-many.result c.args.n (omega arith) c.decimal-many.ensures.len in
    let size : c.decimal-many.result ≡ length (take c.decimal-many.result c.decimal-many.new.out) = c.decimal-many.ensures.in_bounds.1 in
    then _ 21 (word_put c.put-at.ensures (omega arith)) (word_put c.put.ensures (omega arith)) (ap (λ (l : List ℕ). 32 ∷ l) (c.decimal-many.ensures.digits ∙ digits_are c.decimal-many.result c.args.n c.decimal-many.ensures.len)) (omega arith)
