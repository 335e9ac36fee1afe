-- `runs::top_fields` meets its contract. Assumes nothing.
use Prim.Native.Nat.{ℕ, ◌+◌}
use mathlib.Core.Path.{sym, ◌∙◌, subst}
use mathlib.Core.List.{List}
use native.Mathlib.Omega.{arith}
use lib.ListN.{length}
use Rattle.refusals.proofs.Handed.{handed}
use Rattle.fields.proofs.Headers.{when_whole, part_slice}
use Rattle.calls.proofs.ArgumentLists.{ends_at, cut_at}
use Rattle.runs.specs.Whole.{DeclareReady}
use Rattle.runs.proofs.TopFields.{field_alone, field_within, at_start, ends_here, cut_here, declare_ready, declared_on, acts_ready, acted_on, acted_last, tabled_here, few_families}
use Rattle.runs.proofs.top_fields.Goals as goal

pub loop-at-init : goal.loop-at-init
loop-at-init c =
    let a = c.args in
    at_start a.limit a.program.now a.out.now a.regs.now c.requires.acceptable

pub returns-in_default : goal.returns-in_default
returns-in_default c =
    let a = c.args in
    let l = a.program.now in
    let i = c.loop-at in
    cut_here a.limit l a.out.now i.regs i.out i.at i.t i.s i.invariant (cut_at l i.at (length l) (omega arith) c.loop-at-test.true _ (sym c.header_at.ensures ∙ c.in_default.is))

pub slice_bounds-content-count : goal.slice_bounds-content-count
slice_bounds-content-count c =
    let w = when_whole c.args.program.now c.loop-at.at (length c.args.program.now) _ _ (omega arith) (sym c.header_at.ensures ∙ c.in-Ok.is) in
    omega (arith, w.low, w.high)

pub slice_bounds-content-start : goal.slice_bounds-content-start
slice_bounds-content-start c =
    let w = when_whole c.args.program.now c.loop-at.at (length c.args.program.now) _ _ (omega arith) (sym c.header_at.ensures ∙ c.in-Ok.is) in
    omega (arith, w.low, w.high)

pub slice_bounds-content-end : goal.slice_bounds-content-end
slice_bounds-content-end c =
    let w = when_whole c.args.program.now c.loop-at.at (length c.args.program.now) _ _ (omega arith) (sym c.header_at.ensures ∙ c.in-Ok.is) in
    omega (arith, w.low, w.high)

pub declare-t-requires : goal.declare-t-requires
declare-t-requires c =
    let a = c.args in
    let l = a.program.now in
    let i = c.loop-at in
    let e = sym c.header_at.ensures ∙ c.in-Ok.is in
    let tag = c.in-Ok.header.tag in
    let next = c.in-Ok.header.next in
    let w = when_whole l i.at (length l) tag next (omega arith) e in
    let d = declare_ready a.limit l a.out.now i.regs i.out i.at i.t i.s i.invariant tag next e (c.is_declaring.ensures.yes c.if-is_declaring.true) in
    subst (λ (p : List ℕ). DeclareReady tag p i.t) (sym (part_slice (i.at + 3) next l w.low)) d

pub loop-at-smaller-then-is_declaring : goal.loop-at-smaller-then-is_declaring
loop-at-smaller-then-is_declaring c =
    let w = when_whole c.args.program.now c.loop-at.at (length c.args.program.now) _ _ (omega arith) (sym c.header_at.ensures ∙ c.in-Ok.is) in
    omega (arith, w.low, w.high)

pub loop-at-preserved-then-is_declaring : goal.loop-at-preserved-then-is_declaring
loop-at-preserved-then-is_declaring c =
    let a = c.args in
    let l = a.program.now in
    let i = c.loop-at in
    let e = sym c.header_at.ensures ∙ c.in-Ok.is in
    let tag = c.in-Ok.header.tag in
    let next = c.in-Ok.header.next in
    let w = when_whole l i.at (length l) tag next (omega arith) e in
    declared_on a.limit l a.out.now i.regs i.out i.at i.t i.s i.invariant tag next e _ _ (c.is_declaring.ensures.yes c.if-is_declaring.true) (rw (part_slice (i.at + 3) next l w.low) at c.declare-t.ensures)

pub act_top-requires : goal.act_top-requires
act_top-requires c =
    let a = c.args in
    let l = a.program.now in
    let i = c.loop-at in
    let e = sym c.header_at.ensures ∙ c.in-Ok.is in
    let tag = c.in-Ok.header.tag in
    let next = c.in-Ok.header.next in
    record {
      act_ready = (acts_ready a.limit l a.out.now i.regs i.out i.at i.t i.s i.invariant tag next e (c.is_declaring.ensures.no c.if-is_declaring.false), field_within l i.at tag next e c.requires.acceptable.short);
      program_value = field_alone l i.at tag next e;
      registers_le_most_registers = (i.invariant.few, few_families a.limit l a.out.now i.regs i.out i.at i.t i.s i.invariant a.table.now c.requires.acceptable c.requires.full_table);
      tabled = tabled_here a.limit l a.out.now i.regs i.out i.at i.t i.s i.invariant a.table.now c.requires.acceptable c.requires.full_table;
    }

pub returns-in_err-s : goal.returns-in_err-s
returns-in_err-s c =
    let a = c.args in
    let l = a.program.now in
    let i = c.loop-at in
    let e = sym c.header_at.ensures ∙ c.in-Ok.is in
    let tag = c.in-Ok.header.tag in
    let next = c.in-Ok.header.next in
    rw (handed c.from_residual.result c.from_residual.ensures.1) (acted_last a.limit l a.out.now i.regs i.out i.at i.t i.s i.invariant tag next e (c.is_declaring.ensures.no c.if-is_declaring.false) _ c.act_top.result c.act_top.ensures c.in_err-s.was)

pub loop-at-smaller : goal.loop-at-smaller
loop-at-smaller c =
    let w = when_whole c.args.program.now c.loop-at.at (length c.args.program.now) _ _ (omega arith) (sym c.header_at.ensures ∙ c.in-Ok.is) in
    omega (arith, w.low, w.high)

pub loop-at-preserved : goal.loop-at-preserved
loop-at-preserved c =
    let a = c.args in
    let l = a.program.now in
    let i = c.loop-at in
    let e = sym c.header_at.ensures ∙ c.in-Ok.is in
    let tag = c.in-Ok.header.tag in
    let next = c.in-Ok.header.next in
    acted_on a.limit l a.out.now i.regs i.out i.at i.t i.s i.invariant tag next e (c.is_declaring.ensures.no c.if-is_declaring.false) _ c.act_top.result c.act_top.ensures c.in_ok-s.s c.in_ok-s.was (omega arith)

pub returns : goal.returns
returns c =
    let a = c.args in
    let l = a.program.now in
    let i = c.loop-at in
    ends_here a.limit l a.out.now i.regs i.out i.at i.t i.s i.invariant (ends_at l i.at (length l) c.loop-at-test.false)
