-- `operands::register` meets its contract. Assumes nothing.
use Prim.Native.Nat.{◌+◌, ◌*◌}
use native.Mathlib.Omega.{arith}
use mathlib.Core.Path.{◌∙◌, ap, sym}
use lib.ListN.{get_or}
use Rattle.kinds.specs.declared.Kind.{Kind}
use Rattle.language.specs.Machine.{give, found}
use Rattle.operands.specs.Meanings.{meaning_told, stood, register_of}
use Rattle.operands.proofs.Meanings.{table_at, table_past, register_quantum, nothing}
use Rattle.operands.proofs.register.Goals as goal

pub returns-then-from-n : goal.returns-then-from-n
returns-then-from-n c =
    let a = c.args in
    λ p. nothing p (table_past a.n a.count a.regs.now (omega arith))

pub returns-in-Classical : goal.returns-in-Classical
unfolding meaning_told stood register_of found
returns-in-Classical c =
    let a = c.args in
    λ p. sym (ap found (table_at a.n a.count a.regs.now (omega arith) (omega arith))
    ∙ ap (λ (k : Kind). give (register_of k (get_or a.regs.now (3 * a.n + 1) 0) (get_or a.regs.now (3 * a.n + 2) 0))) (sym c.from-2.ensures ∙ c.in-Classical.is))

pub returns-in_default : goal.returns-in_default
unfolding meaning_told stood found
returns-in_default c =
    let a = c.args in
    λ p. sym (ap found (table_at a.n a.count a.regs.now (omega arith) (omega arith)) ∙ ap give (register_quantum _ (get_or a.regs.now (3 * a.n + 1) 0) (get_or a.regs.now (3 * a.n + 2) 0) (λ e. c.in_default.not-Classical (c.from-2.ensures ∙ e))))
