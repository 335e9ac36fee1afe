-- `lines` meets its contract. The loop's invariant: the text holds the lines of the records up to `next`, each of at most 128 bytes. Assumes nothing.
use Prim.Native.Nat.{ℕ, ◌+◌, ◌*◌, ◌-◌, ◌<◌, ◌≤◌}
use mathlib.Core.Path.{◌≡◌, refl, sym, ap, ◌∙◌}
use mathlib.Core.List.{List, ◌++◌}
use native.Mathlib.Nat.{sub_self}
use native.Mathlib.Omega.{arith}
use lib.ListN.{length, take, drop, length-take, length-drop}
use Rattle.language.specs.Limits.{record_size}
use Rattle.list_text.specs.Lines.{line_text, lines_text}
use Rattle.list_text.proofs.Texts.{lines_more}
use borrow.Author.Tests.{leb-true, leb-false}
use Rattle.io.proofs.Counting.{prefix_len_of_le}
use Rattle.list_text.proofs.lines.Goals as goal

pub loop-next-init : goal.loop-next-init
unfolding lines_text
loop-next-init c =
    (omega arith, omega arith, sym (ap (lines_text c.args.records.now c.args.first) (sub_self c.args.first)), omega arith, refl, omega arith)

pub line-size-requires : goal.line-size-requires
line-size-requires c =
    let h : 128 ≤ length c.loop-next.text - c.loop-next.size = leb-true _ _ c.if-text-size-ge-LINE.true-raw in
    record {
      record_size_in_bounds = simp (length-take, length-drop) (omega arith);
      from_in_bounds = omega arith;
    }

pub loop-next-preserved : goal.loop-next-preserved
loop-next-preserved c =
    let b : c.line-size.result ≤ c.loop-next.size + 128 = c.line-size.ensures.bound in
    let h : 128 ≤ length c.loop-next.text - c.loop-next.size = leb-true _ _ c.if-text-size-ge-LINE.true-raw in
    let k : length c.line-size.new.text ≡ length c.loop-next.text = c.line-size.auto.text in
    let s : length c.loop-next.text ≡ length c.args.text.now = c.loop-next.invariant.4 in
    let e : record_size * c.loop-next.next + record_size - record_size * c.loop-next.next ≡ record_size = omega arith in
    let t : take c.line-size.result c.line-size.new.text ≡ lines_text c.args.records.now c.args.first (c.loop-next.next + 1 - c.args.first) =
    c.line-size.ensures.text
    ∙ ap (λ (l : List ℕ). l ++ line_text (take (record_size * c.loop-next.next + record_size - record_size * c.loop-next.next) (drop (record_size * c.loop-next.next) c.args.records.now))) c.loop-next.invariant.2
    ∙ ap (λ (n : ℕ). lines_text c.args.records.now c.args.first (c.loop-next.next - c.args.first) ++ line_text (take n (drop (record_size * c.loop-next.next) c.args.records.now))) e
    ∙ sym (lines_more c.args.records.now c.args.first c.loop-next.next c.loop-next.invariant.0) in
    (omega arith, omega arith, t, omega arith, k ∙ s, omega arith)

pub returns-else-text-size-ge-LINE : goal.returns-else-text-size-ge-LINE
returns-else-text-size-ge-LINE c =
    let h : length c.loop-next.text - c.loop-next.size < 128 = leb-false _ _ c.if-text-size-ge-LINE.false-raw in
    record {
      text = c.loop-next.invariant.2;
      room = prefix_len_of_le c.loop-next.size c.loop-next.text c.loop-next.invariant.3;
      more = omega arith;
      within = omega arith;
    }
