-- `field_walk::begin` meets its contract. Assumes nothing.
use native.Mathlib.Omega.{arith}
use Rattle.field_walk.proofs.Positions.{kept_first, begin_forward, begin_empty, begin_last}
use Rattle.field_walk.proofs.begin.Goals as goal
use Rattle.field_walk.proofs.begin.Goals.{then-not-reversed-via-then-not-reversed, then-not-reversed-via-else-not-reversed+then-to-from}

pub last-requires : goal.last-requires
last-requires c =
    let a = c.args in
    (c.requires.1, c.requires.2, omega arith, omega arith, kept_first a.bytes.now a.from a.cuts.now a.to (omega arith) (omega (arith, c.told-cuts)))

pub returns-then-not-reversed : goal.returns-then-not-reversed
returns-then-not-reversed c =
    let a = c.args in
    elim c.then-not-reversed.branch [
      | then-not-reversed-via-then-not-reversed w ↦ begin_forward a.bytes.now a.from a.to a.cuts.now c.requires.1 a.reversed _ w.if-not-reversed.true
      | then-not-reversed-via-else-not-reversed+then-to-from w ↦ begin_empty a.bytes.now a.from a.to a.cuts.now c.requires.1 a.reversed w.if-not-reversed.false c.requires.0 w.if-to-from.true
    ]

pub returns : goal.returns
returns c =
    let a = c.args in
    begin_last a.bytes.now a.from a.to _ c.requires.1 a.reversed _ c.if-not-reversed.false c.last.ensures
