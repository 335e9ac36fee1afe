-- `field_walk::seek` meets its contract. Assumes nothing.
use Prim.Native.Nat.{ℕ, ◌≤◌}
use native.Mathlib.Omega.{arith}
use mathlib.Core.Path.{◌≡◌, refl}
use mathlib.Core.List.{List}
use mathlib.Core.Bool.{Bool, true}
use Rattle.field_walk.specs.declared.Walk.{Walk}
use Rattle.field_walk.specs.Walks.{Walking, NextField, Backward, Forward}
use Rattle.field_walk.proofs.Positions.{top_is, linked_top, lasts_found, lasts_some}
use Rattle.field_walk.proofs.seek.Goals as goal

backward : (bytes : List ℕ) (reversed : Bool) (w : Walk) (cuts : List ℕ) → reversed ≡ true → Walking bytes reversed w cuts → Backward bytes w cuts
unfolding Walking
backward bytes reversed w cuts e h = rw e at h

pub returns-then-not-reversed : goal.returns-then-not-reversed
unfolding Walking NextField
returns-then-not-reversed c =
    let a = c.args in
    let f : Forward a.bytes.now a.w = rw c.if-not-reversed.true at c.requires.0 in
    rw c.if-not-reversed.true (record { same_at = refl; same_to = refl; next = record { within = f.within; begins = refl } })

pub offset_bounds-cuts-depth : goal.offset_bounds-cuts-depth
offset_bounds-cuts-depth c =
    let a = c.args in
    let b = backward a.bytes.now a.reversed a.w a.cuts.now c.if-not-reversed.false c.requires.0 in
    omega (arith, b.few)

pub bounds-cuts-depth : goal.bounds-cuts-depth
bounds-cuts-depth c =
    let a = c.args in
    let b = backward a.bytes.now a.reversed a.w a.cuts.now c.if-not-reversed.false c.requires.0 in
    omega (arith, b.few)

pub returns-then-w : goal.returns-then-w
unfolding NextField
returns-then-w c =
    let a = c.args in
    let p = a.bytes.now in
    let b = backward p a.reversed a.w a.cuts.now c.if-not-reversed.false c.requires.0 in
    let s : 1 ≤ a.w.depth = omega arith in
    let t = top_is p a.w.at a.cuts.now a.w.depth a.w.to s b.kept in
    let l = linked_top p a.cuts.now a.w.sure a.w.depth a.w.to c.if-w.true b.linked in
    rw (c.if-not-reversed.false, c.from.ensures) (record { same_at = refl; same_to = refl; next = record { within = b.within; ends = l.ends; begins = t.begins; few = omega (arith, b.few); kept = t.kept; linked = l.linked } })

pub last-requires : goal.last-requires
last-requires c =
    let a = c.args in
    let b = backward a.bytes.now a.reversed a.w a.cuts.now c.if-not-reversed.false c.requires.0 in
    (b.within, c.requires.2, c.requires.1, b.few, b.kept)

pub unwrap-held-requires : goal.unwrap-held-requires
unwrap-held-requires c =
    let a = c.args in
    let b = backward a.bytes.now a.reversed a.w a.cuts.now c.if-not-reversed.false c.requires.0 in
    lasts_some a.bytes.now a.w.at a.w.to c.last.new.cuts _ b.end c.last.ensures

pub overflow_sub-depth-2 : goal.overflow_sub-depth-2
overflow_sub-depth-2 c =
    let f = lasts_found c.args.bytes.now c.args.w.at c.args.w.to c.last.new.cuts _ c.unwrap-held.result c.last.ensures c.unwrap-held.ensures in
    omega (arith, f.some)

pub offset_bounds-cuts-depth-2 : goal.offset_bounds-cuts-depth-2
offset_bounds-cuts-depth-2 c =
    let f = lasts_found c.args.bytes.now c.args.w.at c.args.w.to c.last.new.cuts _ c.unwrap-held.result c.last.ensures c.unwrap-held.ensures in
    omega (arith, f.few)

pub bounds-cuts-depth-2 : goal.bounds-cuts-depth-2
bounds-cuts-depth-2 c =
    let f = lasts_found c.args.bytes.now c.args.w.at c.args.w.to c.last.new.cuts _ c.unwrap-held.result c.last.ensures c.unwrap-held.ensures in
    omega (arith, f.some, f.few)

pub returns : goal.returns
unfolding NextField
returns c =
    let a = c.args in
    let b = backward a.bytes.now a.reversed a.w a.cuts.now c.if-not-reversed.false c.requires.0 in
    let f = lasts_found a.bytes.now a.w.at a.w.to c.last.new.cuts _ c.unwrap-held.result c.last.ensures c.unwrap-held.ensures in
    let t = f.top in
    let l = f.linking in
    rw (c.if-not-reversed.false, c.from-2.ensures) (record { same_at = refl; same_to = refl; next = record { within = b.within; ends = l.ends; begins = t.begins; few = omega (arith, f.few); kept = t.kept; linked = l.linked } })
