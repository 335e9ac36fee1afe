-- `gate` meets its contract, operation by operation. Assumes nothing.
use Prim.Native.Nat.{ℕ}
use mathlib.Core.Path.{sym, ap, ◌∙◌}
use mathlib.Core.List.{◌++◌}
use native.Mathlib.Omega.{arith}
use Rattle.text_bytes.specs.Decimal.{ascii}
use Rattle.list_text.specs.Lines.{gate_text, number_text}
use Rattle.list_text.proofs.Texts.{wider, gate_other}
use Rattle.list_text.proofs.gate.Goals as goal

pub returns-in-1 : goal.returns-in-1
unfolding gate_text ascii
returns-in-1 c =
    wider _ _ c.named.ensures (sym (ap (λ (k : ℕ). gate_text k c.args.first c.args.second c.args.k) c.in-1.is)) (omega arith)

pub returns-in-2 : goal.returns-in-2
unfolding gate_text ascii
returns-in-2 c =
    wider _ _ c.named-in-2.ensures (sym (ap (λ (k : ℕ). gate_text k c.args.first c.args.second c.args.k) c.in-2.is)) (omega arith)

pub returns-in-3 : goal.returns-in-3
unfolding gate_text ascii
returns-in-3 c =
    wider _ _ c.named-in-3.ensures (sym (ap (λ (k : ℕ). gate_text k c.args.first c.args.second c.args.k) c.in-3.is)) (omega arith)

pub returns-in-4 : goal.returns-in-4
unfolding gate_text ascii
returns-in-4 c =
    wider _ _ c.paired.ensures (sym (ap (λ (k : ℕ). gate_text k c.args.first c.args.second c.args.k) c.in-4.is)) (omega arith)

pub returns-in-5 : goal.returns-in-5
unfolding gate_text ascii
returns-in-5 c =
    wider _ _ c.paired-in-5.ensures (sym (ap (λ (k : ℕ). gate_text k c.args.first c.args.second c.args.k) c.in-5.is)) (omega arith)

pub returns-in-6 : goal.returns-in-6
unfolding gate_text ascii
returns-in-6 c =
    wider _ _ c.named-in-6.ensures (sym (ap (λ (k : ℕ). gate_text k c.args.first c.args.second c.args.k) c.in-6.is)) (omega arith)

pub returns-in-7 : goal.returns-in-7
unfolding gate_text ascii
returns-in-7 c =
    wider _ _ c.paired-in-7.ensures (sym (ap (λ (k : ℕ). gate_text k c.args.first c.args.second c.args.k) c.in-7.is)) (omega arith)

pub returns-in-8 : goal.returns-in-8
unfolding gate_text ascii
returns-in-8 c =
    wider _ _ c.paired-in-8.ensures (sym (ap (λ (k : ℕ). gate_text k c.args.first c.args.second c.args.k) c.in-8.is)) (omega arith)

pub returns-in-9 : goal.returns-in-9
unfolding gate_text ascii
returns-in-9 c =
    wider _ _ c.tripled.ensures (sym (ap (λ (k : ℕ). gate_text k c.args.first c.args.second c.args.k) c.in-9.is)) (omega arith)

pub returns-in-10 : goal.returns-in-10
unfolding gate_text ascii
returns-in-10 c =
    wider _ _ c.tripled-in-10.ensures (sym (ap (λ (k : ℕ). gate_text k c.args.first c.args.second c.args.k) c.in-10.is)) (omega arith)

pub returns-in_default : goal.returns-in_default
unfolding ascii
returns-in_default c =
    let r = c.in_default.in_default-own.rest in
    wider _ _ c.named-in_default.ensures (ap (λ (k : ℕ). ascii "op" ++ number_text k) c.from.ensures ∙ gate_other c.args.op c.args.first c.args.second c.args.k r.0.0.0.0.0.0.0.0.0.1 r.0.0.0.0.0.0.0.0.1 r.0.0.0.0.0.0.0.1 r.0.0.0.0.0.0.1 r.0.0.0.0.0.1 r.0.0.0.0.1 r.0.0.0.1 r.0.0.1 r.0.1 r.1) (omega arith)
