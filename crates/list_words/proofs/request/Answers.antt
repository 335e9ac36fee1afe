-- `request` meets its contract, for no word, `--help`, a bad family, bad sizes, and a family at its sizes. Assumes nothing.
use mathlib.Core.Path.{refl, sym, ap, ◌∙◌}
use Rattle.std.specs.Prelude.{Some, None}
use borrow.Author.Tests.{eqb-true}
use native.Mathlib.Omega.{arith}
use lib.ListN.{length-take, take}
use Rattle.list_words.specs.Words.{family_at}
use Rattle.list_words.specs.Jobs.{sizes_meant, meant, job_meant}
use Rattle.list_words.proofs.WordLaws.{nothing_asked, help_asked, family_asked, not_same}
use Rattle.list_words.proofs.request.Goals as goal

pub returns-then-is_empty-clause-sizes_after : goal.returns-then-is_empty-clause-sizes_after
unfolding meant job_meant
returns-then-is_empty-clause-sizes_after c =
    nothing_asked c.args.text.now (eqb-true _ _ (sym c.if-is_empty.ensures))

pub slice_bounds-same-end : goal.slice_bounds-same-end
slice_bounds-same-end c =
    simp length-take (omega (arith, c.word_at-first.ensures.past, c.word_at-first.ensures.high))

pub returns-then-same-clause-sizes_after : goal.returns-then-same-clause-sizes_after
unfolding meant job_meant
returns-then-same-clause-sizes_after c =
    help_asked c.args.text.now c.word_at-first.result c.word_at-first.ensures (c.same.ensures.0 c.if-same.true)

pub slice_bounds-number_in-end : goal.slice_bounds-number_in-end
slice_bounds-number_in-end c =
    simp length-take (omega (arith, c.word_at-first.ensures.past, c.word_at-first.ensures.high))

pub returns-in_err-family-clause-sizes_after : goal.returns-in_err-family-clause-sizes_after
unfolding meant family_at
returns-in_err-family-clause-sizes_after c =
    rw c.from_residual.ensures (family_asked c.args.text.now c.word_at-first.result c.word_at-first.ensures (not_same c.same.ensures.1 c.if-same.false) None _
    (sym c.in_err-family.was ∙ c.number_in.ensures) refl)

pub returns-in_err-size-clause-sizes_after : goal.returns-in_err-size-clause-sizes_after
unfolding meant family_at sizes_meant
returns-in_err-size-clause-sizes_after c =
    rw c.from_residual-in_err-size.ensures (family_asked c.args.text.now c.word_at-first.result c.word_at-first.ensures (not_same c.same.ensures.1 c.if-same.false) (Some c.in_ok-family.family) None
    (sym c.in_ok-family.was ∙ c.number_in.ensures)
    (ap (λ r. sizes_meant r c.sizes_in.new.sizes) (sym c.in_err-size.was) ∙ c.sizes_in.ensures.sizes_after))

pub returns-clause-sizes_after : goal.returns-clause-sizes_after
unfolding meant job_meant family_at sizes_meant
returns-clause-sizes_after c =
    family_asked c.args.text.now c.word_at-first.result c.word_at-first.ensures (not_same c.same.ensures.1 c.if-same.false) (Some c.in_ok-family.family) (Some (take c.in_ok-size.size c.sizes_in.new.sizes))
    (sym c.in_ok-family.was ∙ c.number_in.ensures)
    (ap (λ r. sizes_meant r c.sizes_in.new.sizes) (sym c.in_ok-size.was) ∙ c.sizes_in.ensures.sizes_after)
