-- `records::write_record` meets its contract. Assumes nothing.
use Prim.Native.Nat.{◌+◌}
use mathlib.Core.Path.{◌∙◌}
use native.Mathlib.Omega.{arith}
use lib.Seq.{sets}
use Rattle.records.specs.Outcomes.{halving_bytes, bytes_by}
use Rattle.records.proofs.RecordBytes.{both_stores, write_many, write_full, write_room}
use Rattle.records.proofs.write_record.Goals as goal
use Rattle.records.proofs.write_record.Goals.{then-len-at-via-then-len-at, then-len-at-via-else-len-at+then-len-at-lt-RECORD_SIZE}

pub returns-then-k-gt-MOST_HALVINGS : goal.returns-then-k-gt-MOST_HALVINGS
returns-then-k-gt-MOST_HALVINGS c =
    let a = c.args in
    λ limit f x e u. write_many limit a.out.now a.st a.place f x a.k c.if-k-gt-MOST_HALVINGS.true

pub returns-then-len-at : goal.returns-then-len-at
returns-then-len-at c =
    let a = c.args in
    λ limit f x e u. write_full limit a.out.now a.st a.place f x a.k (omega arith) (elim c.then-len-at.branch [
      | then-len-at-via-then-len-at w ↦ omega arith
      | then-len-at-via-else-len-at+then-len-at-lt-RECORD_SIZE w ↦ omega arith
    ])

pub returns : goal.returns
returns c =
    let a = c.args in
    λ limit f x e u. write_room limit a.out.now a.st a.place f x a.k _ a.c a.op a.a a.b (omega arith) e u (omega arith)
    (c.put_halvings.ensures ∙ (λ j. sets (c.put_numbers.ensures j) (a.st.written + 8) (halving_bytes a.k))
    ∙ both_stores a.out.now a.st.written a.op c.numbers-condition.result.byte a.a a.b c.numbers-condition.result.bit (halving_bytes a.k) ∙ (λ j. sets a.out.now a.st.written (bytes_by a.op (c.numbers-condition.ensures.0 j) a.a a.b (c.numbers-condition.ensures.1 j) a.k)))
