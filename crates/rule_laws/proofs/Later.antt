-- What the trials change: the laws of specs/Later. Assumes nothing.
use mathlib.Core.Path.{◌≡◌, refl, sym, subst}
use mathlib.Core.Bool.{Bool, true, false, cond}
use Prim.Native.Nat.{ℕ}
use native.Mathlib.Omega.{arith}
use lib.Dec.{leb}
use lib.ListN.{length}
use Rattle.language.specs.Limits.{longest_program}
use Rattle.language.specs.Tree.{Place}
use Rattle.language.specs.Read.{read}
use Rattle.language.specs.Form.{Built, Showing, plainly, showing}
use Rattle.language.specs.Check.{Checked, good, refused, ◌>>◌, require, all_rules, Scope, by_showing, must_show, Declared, check_tops_by, check_tops, nothing_declared, check}
use Rattle.language.specs.Rules.{no_ranges, under, check_program_by}
use Rattle.language.specs.Result.{verdict, check_program, check_result}
use Rattle.form_laws.specs.Settled.{Settling}
use Rattle.form_laws.specs.Trials.{Widens, same, now_shown}
use Rattle.rule_laws.specs.Later.{Later, both_good, both_refused, any_for12, ShowingLaw, TwelveLaw, UpToLaw, StaysLaw}
use Rattle.rule_laws.specs.Twice.{TwiceTops}
use Rattle.form_laws.proofs.Settled.{agree_law}
use Rattle.form_laws.proofs.Trials.{widens}
use Rattle.rule_laws.proofs.Rules.{Changes, stays, goes_on, becomes, Nowhere, tops_by}

alike : {A : Type 0} {c : Checked A} → Later c c
alike {c = good a} = both_good
alike {c = refused n p} = both_refused

later_showing : {x y : Showing} (p : Place) → Widens x y → Later (by_showing p x) (by_showing p y)
unfolding by_showing
later_showing p same = alike
later_showing p now_shown = any_for12

pub showing_law : ShowingLaw
unfolding must_show
showing_law p s e =
    subst (λ (x : Settling). Later (by_showing p x.answer) (must_show p s e)) (sym (agree_law s.variables s.loops e)) (go s.rules.ranges)
  where
    go : (b : Bool) → Later (by_showing p (plainly s.variables s.loops e)) (by_showing p (cond b (showing s.variables s.loops e) (plainly s.variables s.loops e)))
    go true = later_showing p (widens s.variables s.loops e)
    go false = alike

changes_showing : {x y : Showing} (p : Place) → Widens x y → Changes (λ n. n ≡ 12) Nowhere (by_showing p x) (by_showing p y)
unfolding by_showing
changes_showing p same = stays
changes_showing p now_shown = goes_on refl

changes_show : (p : Place) (s : Scope) (e : Built) → Changes (λ n. n ≡ 12) Nowhere (must_show p (under no_ranges s) e) (must_show p (under all_rules s) e)
unfolding must_show
changes_show p s e = changes_showing p (widens s.variables s.loops e)

pub only_twelve : TwelveLaw
only_twelve tops d = go (tops_by no_ranges all_rules (λ n. n ≡ 12) changes_show ⊥ (λ p b. stays) tops d)
  where
    go : {c w : Checked Declared} → Changes (λ n. n ≡ 12) (λ p. ⊥ × TwiceTops p tops) c w → Later c w
    go stays = alike
    go (goes_on {p = p} {c = c} n) = subst (λ (m : ℕ). Later (refused m p) c) (sym n) any_for12
    go (becomes t) = absurd t.0

pub up_to : UpToLaw
up_to tops d after e = go (only_twelve tops d) e
  where
    go : {c w : Checked Declared} → Later c w → c ≡ good after → w ≡ good after
    go both_good e = e
    go both_refused e = e
    go any_for12 e = absurd (let z : ◌≡◌ {A = ℕ} 0 1 = cc in omega arith)

pub answer_stays : StaysLaw
unfolding check_program_by check_result check_program check verdict require ◌>>◌
answer_stays program h = go (leb (length program) longest_program) h
  where
    same_verdict : {c w : Checked Declared} → Later c w → ((verdict c).number ≡ 12 → ⊥) → verdict w ≡ verdict c
    same_verdict both_good h = refl
    same_verdict both_refused h = refl
    same_verdict any_for12 h = absurd (h refl)

    go : (b : Bool) → ((verdict (require 1 0 b >> check_tops_by no_ranges (read program) nothing_declared)).number ≡ 12 → ⊥)
        → verdict (require 1 0 b >> check_tops (read program) nothing_declared) ≡ verdict (require 1 0 b >> check_tops_by no_ranges (read program) nothing_declared)
    go true h = same_verdict (only_twelve (read program) nothing_declared) h
    go false h = refl
