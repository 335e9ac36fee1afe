-- `check_index::literal` meets its contract. Assumes nothing.
use mathlib.Core.Path.{refl, sym, ap, ◌∙◌}
use Prim.Native.Nat.{◌+◌}
use native.Mathlib.Omega.{arith}
use lib.IntN.{pos}
use lib.ListN.{get_or}
use lib.Seq.{slice, length-slice}
use Rattle.language.specs.Form.{constant_form}
use Rattle.language.specs.Check.{good}
use Rattle.fields.proofs.Headers.{two_bytes_lem}
use Rattle.check_index.specs.Answers.{checked_form}
use Rattle.check_index.proofs.Forms.{literal_bad, literal_good}
use Rattle.language.proofs.Integers.{small, small_range}
use Rattle.check_index.proofs.literal.Goals as goal

pub returns-then-next-from-ne2 : goal.returns-then-next-from-ne2
unfolding checked_form
returns-then-next-from-ne2 c =
    let a = c.args in
    record {
      by_index = λ n. literal_bad a.at n (slice (a.at + 3) a.next a.program.now) (λ e. c.if-next-from-ne2.true (sym (length-slice (a.at + 3) a.next a.program.now c.requires.1) ∙ e));
      form_ends_at = tt;
    }

pub set_constant-requires : goal.set_constant-requires
set_constant-requires c =
    rw (small c.two_bytes-n.result c.two_bytes-n.ensures.1) (small_range c.two_bytes-n.result c.two_bytes-n.ensures.1)

pub returns : goal.returns
unfolding checked_form
returns c =
    let a = c.args in
    let l = a.program.now in
    let e = two_bytes_lem (a.at + 3) a.next l (omega arith) c.requires.1 in
    record {
      by_index = λ n. ap good (c.set_constant.ensures.f_after ∙ ap constant_form (small c.two_bytes-n.result c.two_bytes-n.ensures.1 ∙ ap pos c.two_bytes-n.ensures.0)) ∙ literal_good a.at n (get_or l (a.at + 3) 0) (get_or l (a.at + 3 + 1) 0) (slice (a.at + 3) a.next l) e;
      form_ends_at = (refl, c.set_constant.ensures.kept);
    }
