-- `word_at` meets its contract: the place of the first 0. Assumes nothing.
use Rattle.std.proofs.Common.{rules, tests, ◌==◌, ℕ, drop, sym}
use mathlib.Core.Path.{◌∙◌}
use Rattle.std.proofs.lemmas.Iterator.{YieldsList-from_slice}
use Rattle.std.proofs.lemmas.Iterator.Search.{position_from_yields_List}
use Rattle.list_words.proofs.WordLaws.{rest_is, word_found, word_last}
use Rattle.list_words.proofs.word_at.Goals as goal

pub returns-in-Some : goal.returns-in-Some
returns-in-Some c =
    let text = c.args.text.now in
    let from = c.args.from in
    let e = position_from_yields_List (λ (b : ℕ). b == 0) _ _ c.position.result c.position.ensures.ran (YieldsList-from_slice (drop from text) (c.iter.ensures.rest ∙ rest_is text from)) (λ x b q k. search (rules, tests)) in
    word_found text from c.requires c.in-Some.size (sym e ∙ c.in-Some.is)

pub returns-in-None : goal.returns-in-None
returns-in-None c =
    let text = c.args.text.now in
    let from = c.args.from in
    let e = position_from_yields_List (λ (b : ℕ). b == 0) _ _ c.position.result c.position.ensures.ran (YieldsList-from_slice (drop from text) (c.iter.ensures.rest ∙ rest_is text from)) (λ x b q k. search (rules, tests)) in
    word_last text from c.requires (sym e ∙ c.in-None.is)
