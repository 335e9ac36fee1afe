-- `fields::families` meets its contract. Assumes nothing.
use mathlib.Core.Path.{refl, sym, ap, ◌∙◌}
use native.Mathlib.Omega.{arith}
use lib.ListN.{length, length-set}
use Rattle.std.specs.Prelude.{Ok}
use Rattle.fields.proofs.Headers.{when_whole}
use Rattle.fields.proofs.FamilyScan.{scan_start, scan_ends, scan_full, scan_other, scan_family}
use Rattle.fields.proofs.families.Goals as goal

pub loop-header-init : goal.loop-header-init
loop-header-init c =
    (scan_start c.args.program.now _, refl, omega arith)

pub header_at-requires : goal.header_at-requires
header_at-requires c =
    omega arith

pub returns : goal.returns
returns c =
    let i = c.loop-header in
    record {
      listed = scan_ends c.args.program.now i.table i.at i.n i.invariant.0 (λ h e. c.in_default.not-Ok h (c.header_at.ensures ∙ e));
      table_len_unchanged = i.invariant.1;
    }

pub loop-header-smaller-then-header-ne-FAMILY : goal.loop-header-smaller-then-header-ne-FAMILY
loop-header-smaller-then-header-ne-FAMILY c =
    let w = when_whole c.args.program.now c.loop-header.at (length c.args.program.now) _ _ (omega arith) (sym c.header_at.ensures ∙ c.in-Ok.is) in
    omega (arith, w.low, w.high)

pub loop-header-preserved-then-header-ne-FAMILY : goal.loop-header-preserved-then-header-ne-FAMILY
loop-header-preserved-then-header-ne-FAMILY c =
    let i = c.loop-header in
    let e = sym c.header_at.ensures ∙ c.in-Ok.is in
    let w = when_whole c.args.program.now i.at (length c.args.program.now) _ _ (omega arith) e in
    (scan_other c.args.program.now i.table i.at i.n i.invariant.0 _ _ e c.if-header-ne-FAMILY.true, i.invariant.1, omega (arith, w.low, i.invariant.2))

pub shape_of-table-then-table-n : goal.shape_of-table-then-table-n
shape_of-table-then-table-n c =
    c.loop-header.invariant.1

pub returns-then-table-n : goal.returns-then-table-n
returns-then-table-n c =
    let i = c.loop-header in
    record {
      listed = scan_full c.args.program.now i.table i.at i.n i.invariant.0 (omega arith);
      table_len_unchanged = i.invariant.1;
    }

pub overflow_cast-table : goal.overflow_cast-table
overflow_cast-table c =
    let w = when_whole c.args.program.now c.loop-header.at (length c.args.program.now) _ _ (omega arith) (sym c.header_at.ensures ∙ c.in-Ok.is) in
    omega (arith, w.low, w.high)

pub bounds-table-n : goal.bounds-table-n
bounds-table-n c =
    omega arith

pub loop-header-smaller : goal.loop-header-smaller
loop-header-smaller c =
    let w = when_whole c.args.program.now c.loop-header.at (length c.args.program.now) _ _ (omega arith) (sym c.header_at.ensures ∙ c.in-Ok.is) in
    omega (arith, w.low, w.high)

pub loop-header-preserved : goal.loop-header-preserved
loop-header-preserved c =
    let i = c.loop-header in
    let e = sym c.header_at.ensures ∙ c.in-Ok.is in
    let w = when_whole c.args.program.now i.at (length c.args.program.now) _ _ (omega arith) e in
    (scan_family c.args.program.now i.table i.at i.n i.invariant.0 _ (e ∙ ap (λ t. Ok (record { tag = t; next = c.in-Ok.header.next })) c.if-header-ne-FAMILY.false) (omega arith), length-set i.table i.n i.at ∙ i.invariant.1, omega (arith, w.low, i.invariant.2))
