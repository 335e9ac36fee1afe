-- `check_index::variable` meets its contract. Assumes nothing.
use mathlib.Core.Path.{◌≡◌, refl, ap, ◌∙◌}
use Prim.Native.Nat.{◌+◌}
use native.Mathlib.Omega.{arith}
use lib.ListN.{get_or}
use lib.Seq.{slice, length-slice}
use Rattle.language.specs.Form.{variable_form}
use Rattle.language.specs.Check.{good}
use Rattle.fields.proofs.Headers.{one_byte, slice_none}
use Rattle.check_index.specs.Answers.{checked_form}
use Rattle.check_index.proofs.Forms.{variable_none, variable_beyond, variable_long, variable_good}
use Rattle.check_index.proofs.variable.Goals as goal

pub returns-then-next-from : goal.returns-then-next-from
unfolding checked_form
returns-then-next-from c =
    let a = c.args in
    record {
      f_after = variable_none a.at a.variables (slice (a.at + 3) a.next a.program.now) (slice_none (a.at + 3) a.next a.program.now c.if-next-from.true);
      form_ends_at = tt;
    }

pub returns-then-variables-v : goal.returns-then-variables-v
unfolding checked_form
returns-then-variables-v c =
    let a = c.args in
    let l = a.program.now in
    let from = a.at + 3 in
    let e = one_byte from a.next l c.if-next-from.false c.requires.at_bound.1 in
    record {
      f_after = variable_beyond a.at a.variables (get_or l from 0) (slice from a.next l) (slice (from + 1) a.next l) e (omega arith);
      form_ends_at = tt;
    }

pub returns-then-next-from-ne1 : goal.returns-then-next-from-ne1
unfolding checked_form
returns-then-next-from-ne1 c =
    let a = c.args in
    let l = a.program.now in
    let from = a.at + 3 in
    let e = one_byte from a.next l c.if-next-from.false c.requires.at_bound.1 in
    let h = length-slice (from + 1) a.next l c.requires.at_bound.1 in
    record {
      f_after = variable_long a.at a.variables (get_or l from 0) (slice from a.next l) (slice (from + 1) a.next l) e (omega arith) (λ z. c.if-next-from-ne1.true (omega arith));
      form_ends_at = tt;
    }

pub returns : goal.returns
unfolding checked_form
returns c =
    let a = c.args in
    let l = a.program.now in
    let from = a.at + 3 in
    let e = one_byte from a.next l c.if-next-from.false c.requires.at_bound.1 in
    let v : c.from-v.result ≡ get_or l from 0 = c.from-v.ensures in
    record {
      f_after = ap good (c.set_variable.ensures.f_after ∙ ap variable_form v) ∙ variable_good a.at a.variables (get_or l from 0) (slice from a.next l) (slice (from + 1) a.next l) e (omega arith) (slice_none (from + 1) a.next l (omega arith));
      form_ends_at = (refl, c.set_variable.ensures.kept);
    }
