-- `field_walk::keep_last` meets its contract. Assumes nothing.
use mathlib.Core.Path.{sym, ◌∙◌}
use Rattle.field_walk.proofs.Search.{last_of_all, last_already, last_above, last_instead}
use Rattle.field_walk.proofs.keep_last.Goals as goal

pub returns-then-all : goal.returns-then-all
returns-then-all c =
    let a = c.args in
    λ bytes from to w s x. last_of_all bytes from to w a.cuts.now a.at a.d a.first a.all c.requires.1 s x c.if-all.true

pub returns-then-from-at : goal.returns-then-from-at
returns-then-from-at c =
    let a = c.args in
    λ bytes from to w s x. last_already bytes from to w a.cuts.now a.at a.d a.first a.all c.requires.1 s x (sym c.from.ensures ∙ c.if-from-at.true)

pub returns-then-d-lt-KEPT : goal.returns-then-d-lt-KEPT
returns-then-d-lt-KEPT c =
    let a = c.args in
    λ bytes from to w s x. last_above bytes from to w a.cuts.now a.at a.d a.first a.all c.requires.1 s x c.if-d-lt-KEPT.true c.told-cuts (λ q. c.if-from-at.false (c.from.ensures ∙ q))

pub returns : goal.returns
returns c =
    let a = c.args in
    λ bytes from to w s x. last_instead bytes from to w a.cuts.now a.at a.d a.first a.all c.requires.1 s x c.if-d-lt-KEPT.false c.told-cuts
