-- `condition` meets its contract: nothing where there is no condition, and `if`, the bit and the value where there is one. Assumes nothing.
use Prim.Native.Nat.{ℕ, ◌-◌}
use mathlib.Core.Path.{◌≡◌, sym, ap, ◌∙◌}
use mathlib.Core.List.{◌++◌, append-nil}
use native.Mathlib.Omega.{arith}
use lib.ListN.{take}
use Rattle.text_bytes.specs.Decimal.{ascii}
use Rattle.list_text.specs.Lines.{condition_text, number_text}
use Rattle.list_text.proofs.Texts.{word_put, then, condition_is}
use Rattle.list_text.proofs.condition.Goals as goal

pub returns-then-kind-eq0 : goal.returns-then-kind-eq0
unfolding condition_text ascii
returns-then-kind-eq0 c =
    let e : c.args.kind ≡ 0 = omega arith in
    record {
      text = sym (append-nil (take c.args.from c.args.text.now)) ∙ ap (λ (k : ℕ). take c.args.from c.args.text.now ++ condition_text k c.args.bit) (sym e);
      bound = omega arith;
    }

pub returns : goal.returns
unfolding ascii
returns c =
    then _ _ c.paired-at.ensures (word_put c.put.ensures (omega arith))
    (ap (λ (k : ℕ). ascii "if" ++ number_text c.args.bit ++ number_text (k - 1) ++ ascii " ") c.from.ensures ∙ condition_is c.args.kind c.args.bit c.if-kind-eq0.false)
    (omega arith)
