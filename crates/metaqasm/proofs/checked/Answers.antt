-- `metaqasm::checked` meets its contract. Assumes nothing.
use mathlib.Core.Path.{sym, ap, ◌∙◌}
use native.Mathlib.Omega.{arith}
use Prim.Native.Nat.{ℕ}
use Rattle.language.specs.Result.{turned_down}
use Rattle.check_program.specs.Answers.{result_told}
use Rattle.metaqasm.proofs.Places.{refused_small}
use Rattle.metaqasm.proofs.checked.Goals as goal

pub overflow_cast-number : goal.overflow_cast-number
overflow_cast-number c =
    let h = refused_small c.check_program.result c.args.program.now _ c.check_program.ensures c.in-Err.is in
    omega arith

pub returns-in-Ok : goal.returns-in-Ok
unfolding result_told
returns-in-Ok c = sym (ap result_told c.in-Ok.is) ∙ c.check_program.ensures

pub returns-in-Err : goal.returns-in-Err
unfolding result_told
returns-in-Err c =
    ap (λ (n : ℕ). turned_down n c.in-Err.field-0.1) c.number.ensures ∙ sym (ap result_told c.in-Err.is) ∙ c.check_program.ensures
