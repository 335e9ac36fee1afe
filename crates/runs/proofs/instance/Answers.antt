-- `runs::instance` meets its contract. Assumes nothing.
use mathlib.Core.Path.{sym, ap, ◌∙◌}
use native.Mathlib.Omega.{arith}
use lib.ListN.{length, get_or}
use Rattle.language.specs.Result.{instance_of}
use Rattle.refusals.specs.declared.Reason.TheVariants.{NoSuchFamily}
use Rattle.calls.proofs.FamilyTable.{tabled, tabled_fewer}
use Rattle.runs.proofs.Conclusions.{concluded_early}
use Rattle.runs.proofs.InstanceRuns.{no_family_lem, instance_none, family_is}
use Rattle.runs.proofs.instance.Goals as goal

pub returns-then-n-family : goal.returns-then-n-family
returns-then-n-family c =
    let a = c.args in
    let l = a.program.now in
    let room = length a.out.now in
    concluded_early a.out.now NoSuchFamily ∙ sym (instance_none a.limit room l c.requires.declares c.requires.accepted a.family a.sizes.now a.out.now (no_family_lem a.limit room l c.requires.declares c.requires.accepted _ c.families-n.result a.family c.families-n.ensures.listed c.families-n.ensures.table_len_unchanged c.if-n-family.true))

pub sized-requires : goal.sized-requires
sized-requires c =
    let a = c.args in
    let l = a.program.now in
    let table = c.families-n.new.table in
    let T = tabled l table c.families-n.result c.requires.declares c.requires.accepted c.requires.short c.families-n.ensures.listed in
    record {
      entry = rw c.from-at.ensures (T.each a.family (omega (arith, c.if-n-family.false)));
      tabled = tabled_fewer l table c.families-n.result a.family (omega (arith, c.if-n-family.false)) T;
    }

pub returns : goal.returns
returns c =
    let a = c.args in
    let l = a.program.now in
    let table = c.families-n.new.table in
    let T = tabled l table c.families-n.result c.requires.declares c.requires.accepted c.requires.short c.families-n.ensures.listed in
    let room = length a.out.now in
    let e = T.each a.family (omega (arith, c.if-n-family.false)) in
    rw c.from-at.ensures at c.sized.ensures ∙ ap (λ o. instance_of o a.sizes.now a.out.now) (sym (family_is a.limit room l a.family (get_or table a.family 0) e))
