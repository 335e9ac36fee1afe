-- `check_call::same_kinds` meets its contract. Assumes nothing.
use mathlib.Core.Path.{◌≡◌, refl, sym, ◌∙◌}
use mathlib.Core.List.{List, []}
use Prim.Native.Nat.{ℕ, suc, ◌+◌}
use native.Mathlib.Omega.{arith}
use native.Mathlib.Numerals.{add-one}
use lib.IntN.{ℤ}
use lib.ListN.{drop, get_or}
use Rattle.language.specs.Check.{same_kind, same_kinds}
use Rattle.forms.specs.Flat.{widened, as_form}
use Rattle.check_operand.specs.Tables.{Formals, kind_in, size_of_row, kind_at, kinds_at}
use Rattle.check_operand.proofs.Tables.{row_drop}
use Rattle.check_call.specs.Calls.{plain_in, plain_by, plains_at}
use Rattle.check_call.proofs.Calls.{drop_end}
use Rattle.check_call.proofs.PassedFamilies.{first_differs, first_same}
use Rattle.check_call.proofs.same_kinds.Goals as goal

pub returns-then-not-same_kind : goal.returns-then-not-same_kind
returns-then-not-same_kind c =
    let a = c.args in
    let ks = a.kinds.now in
    let i = c.loop-i in
    let x : (formals : Formals) (sizes : List (List ℤ)) → c.same_kind.result ≡ same_kind (plain_by (get_or ks (a.formal + i.i) 0) sizes) (kind_at formals (a.actual + i.i) ks sizes) = λ formals sizes. c.same_kind.ensures (as_form (widened (get_or sizes (size_of_row (get_or ks (a.formal + i.i) 0)) []))) (as_form (widened (get_or sizes (size_of_row (get_or ks (a.actual + i.i) 0)) []))) (formals (size_of_row (get_or ks (a.actual + i.i) 0))) ∙ (λ z. same_kind (plain_in (c.kind_by-wanted.ensures z) (as_form (widened (get_or sizes (size_of_row (get_or ks (a.formal + i.i) 0)) [])))) (kind_in (c.kind_by-given.ensures z) (as_form (widened (get_or sizes (size_of_row (get_or ks (a.actual + i.i) 0)) []))) (formals (size_of_row (get_or ks (a.actual + i.i) 0))))) in
    (λ formals sizes. sym (i.invariant.1 formals sizes
    ∙ (λ z. same_kinds (row_drop (λ (j : ℕ). plain_by (get_or ks j 0) sizes) a.count a.formal i.i c.loop-i-test.true z) (row_drop (λ (j : ℕ). kind_at formals j ks sizes) a.count a.actual i.i c.loop-i-test.true z))
    ∙ first_differs (plain_by (get_or ks (a.formal + i.i) 0) sizes) (drop (suc i.i) (plains_at a.count a.formal ks sizes)) (kind_at formals (a.actual + i.i) ks sizes) (drop (suc i.i) (kinds_at formals a.count a.actual ks sizes)) (sym (x formals sizes) ∙ c.if-not-same_kind.true)))

pub loop-i-preserved : goal.loop-i-preserved
loop-i-preserved c =
    let a = c.args in
    let ks = a.kinds.now in
    let i = c.loop-i in
    let h = c.loop-i-test.true in
    let x : (formals : Formals) (sizes : List (List ℤ)) → c.same_kind.result ≡ same_kind (plain_by (get_or ks (a.formal + i.i) 0) sizes) (kind_at formals (a.actual + i.i) ks sizes) = λ formals sizes. c.same_kind.ensures (as_form (widened (get_or sizes (size_of_row (get_or ks (a.formal + i.i) 0)) []))) (as_form (widened (get_or sizes (size_of_row (get_or ks (a.actual + i.i) 0)) []))) (formals (size_of_row (get_or ks (a.actual + i.i) 0))) ∙ (λ z. same_kind (plain_in (c.kind_by-wanted.ensures z) (as_form (widened (get_or sizes (size_of_row (get_or ks (a.formal + i.i) 0)) [])))) (kind_in (c.kind_by-given.ensures z) (as_form (widened (get_or sizes (size_of_row (get_or ks (a.actual + i.i) 0)) []))) (formals (size_of_row (get_or ks (a.actual + i.i) 0))))) in (
      omega arith,
      λ formals sizes. i.invariant.1 formals sizes
          ∙ (λ z. same_kinds (row_drop (λ (j : ℕ). plain_by (get_or ks j 0) sizes) a.count a.formal i.i c.loop-i-test.true z) (row_drop (λ (j : ℕ). kind_at formals j ks sizes) a.count a.actual i.i c.loop-i-test.true z))
          ∙ first_same (plain_by (get_or ks (a.formal + i.i) 0) sizes) (drop (suc i.i) (plains_at a.count a.formal ks sizes)) (kind_at formals (a.actual + i.i) ks sizes) (drop (suc i.i) (kinds_at formals a.count a.actual ks sizes)) (sym (x formals sizes) ∙ c.if-not-same_kind.false)
          ∙ rw add-one refl,
    )

pub returns : goal.returns
unfolding same_kinds
returns c =
    let a = c.args in
    let ks = a.kinds.now in
    let i = c.loop-i in
    (λ formals sizes. sym (i.invariant.1 formals sizes
    ∙ (λ z. same_kinds (drop_end (λ (j : ℕ). plain_by (get_or ks j 0) sizes) a.count a.formal i.i c.loop-i-test.false z) (drop_end (λ (j : ℕ). kind_at formals j ks sizes) a.count a.actual i.i c.loop-i-test.false z))))
