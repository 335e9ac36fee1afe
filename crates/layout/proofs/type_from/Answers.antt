-- `layout::type_from` meets its contract. Assumes nothing.
use native.Mathlib.Omega.{arith}
use lib.ListN.{take}
use lib.Seq.{slice}
use Rattle.std.proofs.lemmas.Result.{err_from_is_err_and}
use Rattle.language.proofs.Integers.{range_back}
use Rattle.indexes.proofs.Operations.{index_ranged}
use Rattle.layout.proofs.Parameters.{type_wire, type_other, type_fault, type_sized}
use Rattle.layout.proofs.type_from.Goals as goal

pub returns-in-16 : goal.returns-in-16
returns-in-16 c =
    let a = c.args in
    type_wire a.tag (slice a.from a.to a.bytes.now) (take a.many a.values.now) a.next _ c.in-16.is c.wire_from.ensures

pub returns-in_err-z-in-17 : goal.returns-in_err-z-in-17
returns-in_err-z-in-17 c =
    let a = c.args in
    let r = err_from_is_err_and c.from_residual.result c.from_residual.ensures.1 in
    rw (r.1, r.2) (type_fault a.tag (slice a.from a.to a.bytes.now) (take a.many a.values.now) a.next c.in-17.is _ (rw c.in_err-z-in-17.was at c.index_at.ensures))

pub register_from-requires-clause-z_value : goal.register_from-requires-clause-z_value
register_from-requires-clause-z_value c =
    let a = c.args in
    let r = index_ranged (slice a.from a.to a.bytes.now) 0 (take a.many a.values.now) c.in_ok-z-in-17.z (rw c.in_ok-z-in-17.was at c.index_at.ensures) in
    rw (range_back r) r

pub returns-in_ok-z-in-17 : goal.returns-in_ok-z-in-17
returns-in_ok-z-in-17 c =
    let a = c.args in
    let u = rw c.in_ok-z-in-17.was at c.index_at.ensures in
    let r = index_ranged (slice a.from a.to a.bytes.now) 0 (take a.many a.values.now) c.in_ok-z-in-17.z u in
    type_sized a.tag (slice a.from a.to a.bytes.now) (take a.many a.values.now) a.next c.in-17.is _ u _ (rw (range_back r) at c.register_from.ensures)

pub returns-in_default : goal.returns-in_default
returns-in_default c =
    let a = c.args in
    type_other a.tag (slice a.from a.to a.bytes.now) (take a.many a.values.now) a.next (λ z. omega arith) (λ z. omega arith)
