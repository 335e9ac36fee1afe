-- `sizes_in` meets its contract. The loop's invariant: the words so far say so many sizes, which are in the first bytes. Assumes nothing.
use mathlib.Core.Path.{refl, sym, ◌∙◌}
use native.Mathlib.Omega.{arith}
use Rattle.list_words.specs.Jobs.{sizes_meant}
use Rattle.list_words.proofs.WordLaws.{sizing_start, too_many_lem, sizing_done, no_number, sizing_next}
use Rattle.list_words.proofs.sizes_in.Goals as goal

pub loop-at-init : goal.loop-at-init
loop-at-init c =
    (sizing_start c.args.text.now c.args.from c.args.sizes.now (omega arith) (omega arith), refl)

pub returns-then-many-eq-MOST_SIZES-clause-sizes_after : goal.returns-then-many-eq-MOST_SIZES-clause-sizes_after
unfolding sizes_meant
returns-then-many-eq-MOST_SIZES-clause-sizes_after c =
    too_many_lem c.args.text.now c.args.from c.loop-at.sizes c.loop-at.at c.loop-at.many c.loop-at.invariant.0 (omega arith) (omega arith)

pub returns-in_err-n-clause-sizes_after : goal.returns-in_err-n-clause-sizes_after
unfolding sizes_meant
returns-in_err-n-clause-sizes_after c =
    rw c.from_residual.ensures (no_number c.args.text.now c.args.from c.loop-at.sizes c.loop-at.at c.loop-at.many c.loop-at.invariant.0 c.word_at-word.result c.word_at-word.ensures c.if-many-eq-MOST_SIZES.false
    (sym c.in_err-n.was ∙ c.number_in.ensures))

pub loop-at-preserved : goal.loop-at-preserved
loop-at-preserved c = (
  sizing_next c.args.text.now c.args.from c.loop-at.sizes c.loop-at.at c.loop-at.many c.loop-at.invariant.0 c.word_at-word.result c.word_at-word.ensures c.if-many-eq-MOST_SIZES.false
      c.in_ok-n.n c.put_size.new.sizes (sym c.in_ok-n.was ∙ c.number_in.ensures) c.put_size.auto.sizes c.put_size.ensures,
  c.put_size.auto.sizes ∙ c.loop-at.invariant.1,
)

pub returns-clause-sizes_after : goal.returns-clause-sizes_after
unfolding sizes_meant
returns-clause-sizes_after c =
    sizing_done c.args.text.now c.args.from c.loop-at.sizes c.loop-at.at c.loop-at.many c.loop-at.invariant.0 (omega arith)
