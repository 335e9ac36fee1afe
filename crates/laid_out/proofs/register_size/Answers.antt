-- `laid_out::register_size` meets its contract. Assumes nothing.
use mathlib.Core.Path.{sym, ◌∙◌}
use native.Mathlib.Omega.{arith}
use lib.Seq.{length-slice}
use Rattle.laid_out.proofs.RegisterSums.{size_none, size_is}
use Rattle.laid_out.proofs.register_size.Goals as goal

pub returns-then-to-from-lt2 : goal.returns-then-to-from-lt2
returns-then-to-from-lt2 c =
    let a = c.args in
    let l = a.program.now in
    (sym (size_none _ (omega (arith, length-slice a.from a.to l (omega arith)))), omega arith)

pub returns : goal.returns
returns c =
    let a = c.args in
    (c.two_bytes.ensures.0 ∙ sym (size_is a.program.now a.from a.to (omega arith) (omega arith)), omega (arith, c.two_bytes.ensures.1))
