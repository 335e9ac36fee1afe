-- `layout::read_sizes` meets its contract. Assumes nothing.
use mathlib.Core.Path.{refl}
use native.Mathlib.Omega.{arith}
use mir.Syntax.{w32}
use mir.ValLaws.{to_z_pos}
use Rattle.layout.proofs.SizeBytes.{sizing_start, wrong_length_lem, sizing_done, too_large_lem, sizing_next}
use Rattle.layout.proofs.read_sizes.Goals as goal

pub returns-then-bytes-m : goal.returns-then-bytes-m
returns-then-bytes-m c =
    wrong_length_lem c.args.bytes.now c.args.m _ c.if-bytes-m.true refl

pub loop-i-init : goal.loop-i-init
loop-i-init c =
    sizing_start c.args.bytes.now c.args.m

pub returns-then-n-gt-LARGEST_SIZE : goal.returns-then-n-gt-LARGEST_SIZE
returns-then-n-gt-LARGEST_SIZE c =
    let a = c.args in
    let i = c.loop-i in
    too_large_lem a.bytes.now a.m i.i i.values c.if-bytes-m.false i.invariant c.size_at-n.result c.loop-i-test.true c.size_at-n.ensures.0 (omega arith)

pub loop-i-preserved : goal.loop-i-preserved
loop-i-preserved c =
    let a = c.args in
    let i = c.loop-i in
    rw (to_z_pos w32 c.size_at-n.result (omega arith))
    (sizing_next a.bytes.now a.m i.i i.values c.if-bytes-m.false i.invariant c.size_at-n.result c.loop-i-test.true c.size_at-n.ensures.0 c.requires (omega arith))

pub returns : goal.returns
returns c =
    let a = c.args in
    let i = c.loop-i in
    sizing_done a.bytes.now a.m i.i i.values c.if-bytes-m.false i.invariant c.loop-i-test.false
