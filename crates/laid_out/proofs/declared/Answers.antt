-- `laid_out::declared` meets its contract. Assumes nothing.
use mathlib.Core.Path.{sym, ◌∙◌}
use native.Mathlib.Omega.{arith}
use lib.ListN.{length}
use Rattle.fields.proofs.Headers.{when_whole}
use Rattle.laid_out.proofs.RegisterSums.{summed_start, summed_end, summed_qreg, summed_creg, summed_other}
use Rattle.laid_out.proofs.declared.Goals as goal

pub loop-header-init : goal.loop-header-init
loop-header-init c =
    summed_start c.args.program.now

pub register_size-size-requires : goal.register_size-size-requires
register_size-size-requires c =
    let l = c.args.program.now in
    let w = when_whole l c.loop-header.at (length l) _ _ (omega arith) (sym c.header_at.ensures ∙ c.in-Ok.is) in
    omega (arith, w.low, w.high)

pub loop-header-smaller-in-2 : goal.loop-header-smaller-in-2
loop-header-smaller-in-2 c =
    let l = c.args.program.now in
    let w = when_whole l c.loop-header.at (length l) _ _ (omega arith) (sym c.header_at.ensures ∙ c.in-Ok.is) in
    omega (arith, w.low, w.high)

pub loop-header-preserved-in-2 : goal.loop-header-preserved-in-2
loop-header-preserved-in-2 c =
    summed_qreg c.args.program.now c.loop-header.at c.loop-header.qubits c.loop-header.bits c.loop-header.invariant _ _ (sym c.header_at.ensures ∙ c.in-Ok.is) _ c.register_size-size.ensures c.in-2.is

pub loop-header-smaller-in-3 : goal.loop-header-smaller-in-3
loop-header-smaller-in-3 c =
    let l = c.args.program.now in
    let w = when_whole l c.loop-header.at (length l) _ _ (omega arith) (sym c.header_at.ensures ∙ c.in-Ok.is) in
    omega (arith, w.low, w.high)

pub loop-header-preserved-in-3 : goal.loop-header-preserved-in-3
loop-header-preserved-in-3 c =
    summed_creg c.args.program.now c.loop-header.at c.loop-header.qubits c.loop-header.bits c.loop-header.invariant _ _ (sym c.header_at.ensures ∙ c.in-Ok.is) _ c.register_size-size.ensures c.in-3.is

pub loop-header-smaller : goal.loop-header-smaller
loop-header-smaller c =
    let l = c.args.program.now in
    let w = when_whole l c.loop-header.at (length l) _ _ (omega arith) (sym c.header_at.ensures ∙ c.in-Ok.is) in
    omega (arith, w.low, w.high)

pub loop-header-preserved : goal.loop-header-preserved
loop-header-preserved c =
    summed_other c.args.program.now c.loop-header.at c.loop-header.qubits c.loop-header.bits c.loop-header.invariant _ _ (sym c.header_at.ensures ∙ c.in-Ok.is) (λ e. omega (arith, e)) (λ e. omega (arith, e))

pub returns : goal.returns
returns c =
    summed_end c.args.program.now c.loop-header.at c.loop-header.qubits c.loop-header.bits c.loop-header.invariant (λ h e. c.in_default.not-Ok h (c.header_at.ensures ∙ e))
