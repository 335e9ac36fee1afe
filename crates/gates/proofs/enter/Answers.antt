-- `gates::enter` meets its contract. Assumes nothing.
-- what taking the step answers, once the statement may be entered
use mathlib.Core.Path.{sym, ◌∙◌}
use mathlib.Core.List.{List}
use Prim.Native.Nat.{ℕ}
use native.Mathlib.Omega.{arith}
use lib.Seq.{slice}
use Rattle.language.proofs.Integers.{clash}
use Rattle.records.specs.declared.State.{State}
use Rattle.std.specs.Prelude.{Result, Ok, Err}
use Rattle.records.specs.declared.Stop.{Stop}
use Rattle.records.specs.declared.Stop.TheVariants.{Ended, Stuck}
use Rattle.records.specs.Outcomes.{Stepped}
use Rattle.gates.specs.declared.Mode.{Mode}
use Rattle.gates.specs.Gates.{Entered, Enterable}
use Rattle.gates.proofs.enter.Goals as goal
use Rattle.gates.proofs.enter.Goals.{then-mode-eq0-via-then-mode-eq0, then-mode-eq0-via-else-mode-eq0+then-tag-lt-H, then-mode-eq0-via-else-mode-eq0+else-tag-lt-H+then-tag-gt-PARAMETER_CALL}

entered : (mode : Mode) (tag : ℕ) (l : List ℕ) (place : ℕ) (st : State) (r : Result State Stop) → Enterable mode tag l → Stepped mode.limit place st r → Entered mode tag l place st r
unfolding Entered Stepped
entered mode tag l place st (Ok s) e h = record { enterable = e; step = h }
entered mode tag l place st (Err (Ended n p s)) e h = record { enterable = e; none = h }
entered mode tag l place st (Err Stuck) e h = absurd h

pub returns-then-mode-eq0 : goal.returns-then-mode-eq0
unfolding Entered
returns-then-mode-eq0 c = λ e. elim c.then-mode-eq0.branch [
  | then-mode-eq0-via-then-mode-eq0 w ↦ e.deep w.if-mode-eq0.true
  | then-mode-eq0-via-else-mode-eq0+then-tag-lt-H w ↦ let h = e.low in omega arith
  | then-mode-eq0-via-else-mode-eq0+else-tag-lt-H+then-tag-gt-PARAMETER_CALL w ↦ let h = e.high in omega arith
]

pub returns-then-nameless : goal.returns-then-nameless
unfolding Entered
returns-then-nameless c =
    λ e. clash (sym (sym c.nameless.ensures ∙ c.if-nameless.true) ∙ e.named)

pub returns : goal.returns
returns c =
    let a = c.args in
    entered a.mode a.tag (slice a.from a.to a.bytes.now) a.place a.st _
    (record { deep = c.if-mode-eq0.false; low = omega arith; high = omega arith; named = sym c.nameless.ensures ∙ c.if-nameless.false })
    c.take_step.ensures
