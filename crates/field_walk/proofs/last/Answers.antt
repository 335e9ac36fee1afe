-- `field_walk::last` meets its contract. Assumes nothing.
use native.Mathlib.Omega.{arith}
use mathlib.Core.Path.{sym, ◌∙◌}
use Rattle.field_walk.specs.Walks.{Lasts}
use Rattle.field_walk.proofs.Positions.{kept_some}
use Rattle.field_walk.proofs.Search.{ends_last, search_begins, search_stops, next_below, nearer, search_on, search_push, search_anew}
use Rattle.field_walk.proofs.last.Goals as goal

pub overflow_sub-depth : goal.overflow_sub-depth
overflow_sub-depth c =
    let a = c.args in
    omega (arith, kept_some a.bytes.now a.from a.cuts.now a.depth a.to c.requires.2 c.requires.4, c.requires.3, c.told-cuts)

pub offset_bounds-cuts-depth : goal.offset_bounds-cuts-depth
offset_bounds-cuts-depth c =
    let a = c.args in
    omega (arith, kept_some a.bytes.now a.from a.cuts.now a.depth a.to c.requires.2 c.requires.4, c.requires.3, c.told-cuts)

pub bounds-cuts-depth : goal.bounds-cuts-depth
bounds-cuts-depth c =
    let a = c.args in
    omega (arith, kept_some a.bytes.now a.from a.cuts.now a.depth a.to c.requires.2 c.requires.4, c.requires.3, c.told-cuts)

pub loop-header-init : goal.loop-header-init
loop-header-init c =
    let a = c.args in
    rw c.from-at.ensures (search_begins a.bytes.now a.from a.to a.cuts.now a.depth c.requires.2 c.requires.3 c.told-cuts c.requires.4)

pub header_at-requires : goal.header_at-requires
header_at-requires c =
    c.requires.0

pub returns : goal.returns
returns c =
    search_stops c.loop-header.invariant c.requires.0 (λ h e. c.in_default.not-Ok h (c.header_at.ensures ∙ e))

pub keep_last-requires : goal.keep_last-requires
keep_last-requires c =
    let v = c.loop-header.invariant in
    (omega (arith, v.searching.some), v.few, omega (arith, v.below, c.requires.1))

pub returns-then-next-to : goal.returns-then-next-to
unfolding Lasts
returns-then-next-to c =
    let a = c.args in
    c.keep_last.ensures a.bytes.now a.from a.to c.requires.0 c.loop-header.invariant.searching (ends_last (sym c.header_at.ensures ∙ c.in-Ok.is) c.if-next-to.true)

pub loop-header-smaller-then-skipped : goal.loop-header-smaller-then-skipped
loop-header-smaller-then-skipped c =
    nearer c.loop-header.invariant c.requires.0 (sym c.header_at.ensures ∙ c.in-Ok.is) c.if-next-to.false

pub loop-header-preserved-then-skipped : goal.loop-header-preserved-then-skipped
loop-header-preserved-then-skipped c =
    rw (c.skipped.ensures c.if-skipped.true) (search_on c.loop-header.invariant c.requires.0 (sym c.header_at.ensures ∙ c.in-Ok.is) c.if-next-to.false)

pub overflow_cast-cuts : goal.overflow_cast-cuts
overflow_cast-cuts c =
    omega (arith, next_below c.loop-header.invariant c.requires.0 (sym c.header_at.ensures ∙ c.in-Ok.is) c.if-next-to.false, c.requires.1)

pub offset_bounds-cuts-d : goal.offset_bounds-cuts-d
offset_bounds-cuts-d c =
    omega (arith, c.loop-header.invariant.room)

pub bounds-cuts-d : goal.bounds-cuts-d
bounds-cuts-d c =
    omega (arith, c.loop-header.invariant.room)

pub overflow_add-d : goal.overflow_add-d
overflow_add-d c =
    omega (arith, c.loop-header.invariant.room)

pub later-due-requires : goal.later-due-requires
later-due-requires c =
    (next_below c.loop-header.invariant c.requires.0 (sym c.header_at.ensures ∙ c.in-Ok.is) c.if-next-to.false, c.requires.1)

pub loop-header-smaller-then-d-lt-KEPT : goal.loop-header-smaller-then-d-lt-KEPT
loop-header-smaller-then-d-lt-KEPT c =
    nearer c.loop-header.invariant c.requires.0 (sym c.header_at.ensures ∙ c.in-Ok.is) c.if-next-to.false

pub loop-header-preserved-then-d-lt-KEPT : goal.loop-header-preserved-then-d-lt-KEPT
loop-header-preserved-then-d-lt-KEPT c =
    search_push c.loop-header.invariant c.requires.0 (sym c.header_at.ensures ∙ c.in-Ok.is) c.if-next-to.false c.if-d-lt-KEPT.true

pub overflow_cast-cuts-then-depth-lt-KEPT : goal.overflow_cast-cuts-then-depth-lt-KEPT
overflow_cast-cuts-then-depth-lt-KEPT c =
    omega (arith, next_below c.loop-header.invariant c.requires.0 (sym c.header_at.ensures ∙ c.in-Ok.is) c.if-next-to.false, c.requires.1)

pub offset_bounds-cuts-depth-then-depth-lt-KEPT : goal.offset_bounds-cuts-depth-then-depth-lt-KEPT
offset_bounds-cuts-depth-then-depth-lt-KEPT c =
    omega (arith, c.loop-header.invariant.room)

pub bounds-cuts-depth-then-depth-lt-KEPT : goal.bounds-cuts-depth-then-depth-lt-KEPT
bounds-cuts-depth-then-depth-lt-KEPT c =
    omega (arith, c.loop-header.invariant.room)

pub overflow_add-d-then-depth-lt-KEPT : goal.overflow_add-d-then-depth-lt-KEPT
overflow_add-d-then-depth-lt-KEPT c =
    omega (arith, c.loop-header.invariant.room)

pub spaced-due-requires : goal.spaced-due-requires
spaced-due-requires c =
    (next_below c.loop-header.invariant c.requires.0 (sym c.header_at.ensures ∙ c.in-Ok.is) c.if-next-to.false, c.requires.1)

pub loop-header-smaller-then-depth-lt-KEPT : goal.loop-header-smaller-then-depth-lt-KEPT
loop-header-smaller-then-depth-lt-KEPT c =
    nearer c.loop-header.invariant c.requires.0 (sym c.header_at.ensures ∙ c.in-Ok.is) c.if-next-to.false

pub loop-header-preserved-then-depth-lt-KEPT : goal.loop-header-preserved-then-depth-lt-KEPT
loop-header-preserved-then-depth-lt-KEPT c =
    search_anew c.loop-header.invariant c.requires.0 (sym c.header_at.ensures ∙ c.in-Ok.is) c.if-next-to.false c.if-depth-lt-KEPT.true

pub loop-header-smaller : goal.loop-header-smaller
loop-header-smaller c =
    nearer c.loop-header.invariant c.requires.0 (sym c.header_at.ensures ∙ c.in-Ok.is) c.if-next-to.false

pub loop-header-preserved : goal.loop-header-preserved
loop-header-preserved c =
    search_on c.loop-header.invariant c.requires.0 (sym c.header_at.ensures ∙ c.in-Ok.is) c.if-next-to.false
