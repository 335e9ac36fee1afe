-- `runs::sized` meets its contract. Assumes nothing.
use Prim.Native.Nat.{◌+◌}
use mathlib.Core.Path.{refl, sym, ◌∙◌}
use lib.ListN.{length, take, get_or}
use lib.Seq.{slice}
use Rattle.fields.specs.Table.{past_of}
use Rattle.layout.specs.Layout.{TakesFamily}
use Rattle.language.specs.Machine.{instance_run, run_instance}
use Rattle.language.specs.Lookup.{meaning}
use Rattle.refusals.specs.declared.Reason.TheVariants.{HasFamilyParameter}
use Rattle.layout.proofs.Instances.{family_taken, sizes_fit_lem, sizes_refused}
use Rattle.runs.specs.Whole.{family_with}
use Rattle.runs.proofs.Conclusions.{does_all, concluded_early}
use Rattle.runs.proofs.sized.Goals as goal

pub returns-then-takes_family : goal.returns-then-takes_family
unfolding meaning
returns-then-takes_family c =
    let a = c.args in
    let l = a.program.now in
    let room = length a.out.now in
    let f = family_with a.limit room l a.k a.at in
    let taken : TakesFamily (slice (a.at + 5) (past_of l a.at) l) (get_or l (a.at + 4) 0) c.takes_family.result = rw (c.past-to.ensures, c.from-count.ensures) at c.takes_family.ensures in
    concluded_early a.out.now HasFamilyParameter ∙ sym (family_taken f a.sizes.now a.out.now (sym (taken a.at (a.at + 5)) ∙ c.if-takes_family.true))

pub returns-in-Err : goal.returns-in-Err
unfolding meaning
returns-in-Err c =
    let a = c.args in
    let l = a.program.now in
    let room = length a.out.now in
    let f = family_with a.limit room l a.k a.at in
    let taken : TakesFamily (slice (a.at + 5) (past_of l a.at) l) (get_or l (a.at + 4) 0) c.takes_family.result = rw (c.past-to.ensures, c.from-count.ensures) at c.takes_family.ensures in
    let m = get_or l (a.at + 3) 0 in
    let plain = sym (taken a.at (a.at + 5)) ∙ c.if-takes_family.false in
    concluded_early a.out.now c.in-Err.reason ∙ sym (sizes_refused f a.sizes.now a.out.now plain m _ c.read_sizes.result refl (rw c.from.ensures at c.read_sizes.ensures) c.in-Err.reason c.in-Err.is)

pub returns : goal.returns
unfolding meaning run_instance
returns c =
    let a = c.args in
    let l = a.program.now in
    let room = length a.out.now in
    let f = family_with a.limit room l a.k a.at in
    let taken : TakesFamily (slice (a.at + 5) (past_of l a.at) l) (get_or l (a.at + 4) 0) c.takes_family.result = rw (c.past-to.ensures, c.from-count.ensures) at c.takes_family.ensures in
    let m = get_or l (a.at + 3) 0 in
    let plain = sym (taken a.at (a.at + 5)) ∙ c.if-takes_family.false in
    does_all a.out.now _ c.placed.result (instance_run f (take m c.read_sizes.new.values)) c.placed.ensures ∙ sym (sizes_fit_lem f a.sizes.now a.out.now plain m _ c.read_sizes.result refl (rw c.from.ensures at c.read_sizes.ensures) c.in_default.is)
