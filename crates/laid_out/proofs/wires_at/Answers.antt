-- `laid_out::wires_at` meets its contract. Assumes nothing.
use mathlib.Core.Path.{ap, ◌∙◌}
use mathlib.Core.Option.{some}
use Rattle.std.specs.Prelude.{Ok, Err}
use Rattle.language.specs.Sound.{wires_of}
use Rattle.calls.specs.Families.{declared_at}
use Rattle.laid_out.proofs.InstanceWires.{laid_wires}
use Rattle.laid_out.proofs.WireSums.{laid_none}
use Rattle.laid_out.proofs.wires_at.Goals as goal

pub returns-in-Ok-lay_out : goal.returns-in-Ok-lay_out
returns-in-Ok-lay_out c =
    let a = c.args in
    let l = a.program.now in
    let s = c.in-Ok-lay_out.scope in
    let read = rw c.from-many.ensures at c.read_sizes.ensures in
    let lays = rw (c.past-to.ensures, c.from-count.ensures, c.from-many.ensures, c.in-Ok-lay_out.is) at c.lay_out.ensures in
    λ fit. c.wires_laid.ensures ∙ laid_wires l a.at _ (Ok s) lays ∙ ap (wires_of (some (declared_at l a.at))) (read.sizes c.in-Ok.is)

pub returns-in-Err : goal.returns-in-Err
returns-in-Err c =
    let a = c.args in
    let l = a.program.now in
    let u = c.in-Err.field-0 in
    let read = rw c.from-many.ensures at c.read_sizes.ensures in
    let lays = rw (c.past-to.ensures, c.from-count.ensures, c.from-many.ensures, c.in-Err.is) at c.lay_out.ensures in
    λ fit. laid_none u ∙ laid_wires l a.at _ (Err u) lays ∙ ap (wires_of (some (declared_at l a.at))) (read.sizes c.in-Ok.is)
