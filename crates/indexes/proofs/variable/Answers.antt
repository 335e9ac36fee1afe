-- `indexes::variable` meets its contract. Assumes nothing.
use lib.ListN.{get_or, take}
use lib.Seq.{slice}
use lib.IntN.{pos}
use mir.Val.{SFits}
use mir.Syntax.{w32, w64}
use mir.ValLaws.{to_z-of_z}
use mathlib.Core.Path.{◌≡◌}
use mathlib.Core.List.{[]}
use native.Mathlib.Omega.{arith}
use Rattle.indexes.specs.Values.{InsideIs}
use Rattle.fields.proofs.Headers.{slice_none}
use Rattle.indexes.proofs.Leaves.{widen, variable_none, variable_some, variable_past}
use Rattle.indexes.proofs.variable.Goals as goal

pub returns-then-from-to : goal.returns-then-from-to
returns-then-from-to c =
    let a = c.args in
    let l = slice a.from a.to a.bytes.now in
    let e : l ≡ [] = slice_none a.from a.to a.bytes.now (omega arith) in
    variable_none l (take a.many a.vars.now) e

pub returns-then-many-n : goal.returns-then-many-n
returns-then-many-n c =
    let a = c.args in
    variable_past a.bytes.now a.vars.now a.from a.to a.many c.from-n.result (omega arith) (omega arith) c.from-n.ensures c.if-many-n.true

pub returns : goal.returns
returns c =
    let a = c.args in
    let n = c.from-n.result in
    let z = get_or a.vars.now n (pos 0) in
    let f : SFits w32 z = record { sfits = omega arith } in
    let i : InsideIs z c.inside.result = rw (c.from.ensures, to_z-of_z w32 z f, to_z-of_z w64 z (widen z f)) at c.inside.ensures in
    variable_some a.bytes.now a.vars.now a.from a.to a.many n (omega arith) (omega arith) c.from-n.ensures (omega arith) (omega arith) c.inside.result i
