-- `calls::arguments` meets its contract. Assumes nothing.
use native.Mathlib.Omega.{arith}
use lib.ListN.{take}
use lib.Seq.{slice}
use Rattle.std.proofs.lemmas.Result.{err_from_is_err_and}
use Rattle.operands.specs.Meanings.{operands_of}
use Rattle.calls.specs.Arguments.{FamilyTakes}
use Rattle.calls.proofs.CallOutcomes.{sizes_fail, sizes_counted, operands_fail_lem, not_taken, all_taken}
use Rattle.calls.proofs.arguments.Goals as goal

pub returns-in_err-k : goal.returns-in_err-k
returns-in_err-k c =
    let a = c.args in
    let l = slice a.from a.to a.bytes.now in
    let v = take a.many a.vars.now in
    let ms = operands_of a.scope a.regs.now in
    let p = err_from_is_err_and c.from_residual.result c.from_residual.ensures.1 in
    rw (p.1, p.2) (sizes_fail l a.program.now a.at v ms _ _ c.sizes_of.result (c.sizes_of.ensures ms) _ c.in_err-k.was)

pub returns-in_err-n : goal.returns-in_err-n
returns-in_err-n c =
    let a = c.args in
    let l = slice a.from a.to a.bytes.now in
    let v = take a.many a.vars.now in
    let ms = operands_of a.scope a.regs.now in
    let p = err_from_is_err_and c.from_residual-in_err-n.result c.from_residual-in_err-n.ensures.1 in
    let z = sizes_counted l v ms _ c.sizes_of.result _ (c.sizes_of.ensures ms) c.in_ok-k.was in
    rw (p.1, p.2) (operands_fail_lem l a.program.now a.at v ms _ _ z _ c.operands_of.result c.operands_of.ensures _ c.in_err-n.was)

pub returns-in_default : goal.returns-in_default
returns-in_default c =
    let a = c.args in
    let l = slice a.from a.to a.bytes.now in
    let v = take a.many a.vars.now in
    let ms = operands_of a.scope a.regs.now in
    let z = sizes_counted l v ms _ c.sizes_of.result _ (c.sizes_of.ensures ms) c.in_ok-k.was in
    not_taken l a.program.now a.at v ms _ _ z _ c.operands_of.result c.operands_of.ensures _ c.in_ok-n.was c.family_takes.result c.family_takes.ensures c.in_default.is

pub overflow_cast-result : goal.overflow_cast-result
unfolding FamilyTakes
overflow_cast-result c =
    let f = rw c.in-Some.is at c.family_takes.ensures in
    omega (arith, f.2)

pub returns : goal.returns
returns c =
    let a = c.args in
    let l = slice a.from a.to a.bytes.now in
    let v = take a.many a.vars.now in
    let ms = operands_of a.scope a.regs.now in
    let z = sizes_counted l v ms _ c.sizes_of.result _ (c.sizes_of.ensures ms) c.in_ok-k.was in
    all_taken l a.program.now a.at v ms _ _ z _ c.operands_of.result c.operands_of.ensures _ c.in_ok-n.was c.family_takes.result _ c.requires.family_head c.family_takes.ensures c.in-Some.is
