-- `check_declaration::plain_rows` meets its contract. Assumes nothing.
use mathlib.Core.Path.{◌≡◌, sym, ap, ◌∙◌}
use mathlib.Core.List.{List, [], ◌++◌}
use Prim.Native.Nat.{ℕ, suc, ◌+◌, ◌-◌}
use native.Mathlib.Omega.{arith}
use lib.ListN.{length}
use Rattle.language.specs.Tree.{bad_type}
use Rattle.language.specs.Read.{read_plain, parts_of}
use Rattle.language.specs.Check.{Checked, good, ◌>>=◌, Kind, plain_kinds}
use Rattle.fields.specs.Header.{fields_at}
use Rattle.check_operand.specs.Tables.{Formals, scope_with, kinds_at}
use Rattle.check_index.proofs.Answers.{beyond_none, beyond_more, passes_upto}
use Rattle.check_declaration.specs.Types.{checked_rows}
use Rattle.check_declaration.proofs.Tables.{apart_none, apart_more, in_use_upto, rows_below}
use Rattle.check_declaration.proofs.Types.{plain_level, rows_stop, types_stop, types_go, more_kinds, no_kinds, all_kinds}
use Rattle.check_declaration.proofs.Formals.{no_plain, more_plain, plain_upto}
use Rattle.refusals.proofs.Handed.{handed}
use Rattle.check_declaration.proofs.plain_rows.Goals as goal

pub loop-j-init : goal.loop-j-init
loop-j-init c =
    let a = c.args in
    (omega arith, apart_none (length a.program.now) a.first a.count a.kinds.now a.sizes.now c.requires.operand_table, beyond_none a.program.now a.at a.to, c.requires.in_use, c.requires.at_le_to.0, omega arith, no_plain a.first a.kinds.now, (λ fs ks g. let z : a.count - 0 ≡ a.count = omega arith in rw z (no_kinds g _ a.first a.kinds.now a.sizes.now)))

pub returns-in_err-from : goal.returns-in_err-from
returns-in_err-from c =
    let a = c.args in
    let program = a.program.now in
    let i = c.loop-j in
    let kinds = c.plain_row.new.kinds in
    let sizes = c.plain_row.new.sizes in
    let e : a.count - i.j ≡ suc (a.count - (i.j + 1)) = (let h = c.loop-j-test.true in omega arith) in
    let sofar : Formals → List Kind → Checked (List Kind) = λ g rest. good (kinds_at g i.j a.first i.kinds i.sizes ++ rest) in
    let last = apart_more (length program) a.first a.count i.j c.loop-j-test.true i.invariant.1 c.plain_row.ensures.apart in rw (handed c.from_residual.result c.from_residual.ensures.1) (record {
      sizes_after = λ fs ks g. rows_stop g _ a.count a.first kinds sizes (sofar g)
          ∙ ap (λ (c : Checked (List Kind)). c >>= sofar g) (types_stop (plain_level (scope_with fs ks a.m []) a.parent) (a.count - (i.j + 1)) program i.from a.to g c.plain_row.result (a.first + i.j) kinds sizes (c.plain_row.ensures.sizes_after fs ks g) a.count a.first c.in_err-from.was
          ∙ ap (λ (n : ℕ). plain_kinds (scope_with fs ks a.m []) (parts_of read_plain (bad_type 4 a.parent) n (fields_at program i.from a.to))) (sym e))
          ∙ sym (i.invariant.7 fs ks g);
      passes_count = tt;
      types_within = tt;
      in_use_after = tt;
      plain_after = tt;
      apart = last;
    })

pub loop-j-preserved : goal.loop-j-preserved
loop-j-preserved c =
    let a = c.args in
    let program = a.program.now in
    let i = c.loop-j in
    let kinds = c.plain_row.new.kinds in
    let sizes = c.plain_row.new.sizes in
    let e : a.count - i.j ≡ suc (a.count - (i.j + 1)) = (let h = c.loop-j-test.true in omega arith) in
    let sofar : Formals → List Kind → Checked (List Kind) = λ g rest. good (kinds_at g i.j a.first i.kinds i.sizes ++ rest) in
    let next = c.in_ok-from.from in
    let v = passes_upto program i.from a.to c.plain_row.result next c.in_ok-from.was c.plain_row.ensures.passes in
    let used = in_use_upto 0 a.registers next c.plain_row.result kinds c.in_ok-from.was c.plain_row.ensures.in_use_after in
    let one = plain_upto c.plain_row.result next 1 (a.first + i.j) kinds c.in_ok-from.was c.plain_row.ensures.plain_after in
    let h = c.loop-j-test.true in
    let low = i.invariant.5 in (
      omega arith,
      apart_more (length program) a.first a.count i.j h i.invariant.1 c.plain_row.ensures.apart,
      beyond_more program a.at a.to i.j i.from next i.invariant.2 v,
      used,
      v.high,
      omega (arith, v.low),
      more_plain (length program) a.first i.j i.kinds kinds i.sizes sizes i.invariant.6 c.plain_row.ensures.apart one,
      (λ fs ks g. i.invariant.7 fs ks g
          ∙ ap (λ (n : ℕ). plain_kinds (scope_with fs ks a.m []) (parts_of read_plain (bad_type 4 a.parent) n (fields_at program i.from a.to)) >>= sofar g) e
          ∙ ap (λ (c : Checked (List Kind)). c >>= sofar g) (types_go (plain_level (scope_with fs ks a.m []) a.parent) (a.count - (i.j + 1)) program i.from a.to g c.plain_row.result (a.first + i.j) kinds sizes (c.plain_row.ensures.sizes_after fs ks g) next c.in_ok-from.was v)
          ∙ more_kinds (plain_kinds (scope_with fs ks a.m []) (parts_of read_plain (bad_type 4 a.parent) (a.count - (i.j + 1)) (fields_at program next a.to))) a.first i.j g g i.kinds i.sizes kinds sizes (rows_below (length program) (a.first + i.j) 1 i.j a.first c.plain_row.ensures.apart (omega arith) g)),
    )

pub returns : goal.returns
unfolding checked_rows
returns c =
    let a = c.args in
    let program = a.program.now in
    let i = c.loop-j in
    let h = c.loop-j-test.false in
    let b = i.invariant.0 in
    let z : a.count - i.j ≡ 0 = omega arith in
    let y : i.j ≡ a.count = omega arith in
    let low = i.invariant.5 in record {
      sizes_after = λ fs ks g. sym (i.invariant.7 fs ks g ∙ ap (λ (n : ℕ). plain_kinds (scope_with fs ks a.m []) (parts_of read_plain (bad_type 4 a.parent) n (fields_at program i.from a.to)) >>= λ rest. good (kinds_at g i.j a.first i.kinds i.sizes ++ rest)) z ∙ all_kinds (plain_level (scope_with fs ks a.m []) a.parent) (fields_at program i.from a.to) (kinds_at g i.j a.first i.kinds i.sizes) ∙ ap (λ (n : ℕ). good (kinds_at g n a.first i.kinds i.sizes)) y);
      passes_count = rw y at i.invariant.2;
      types_within = (omega arith, i.invariant.4);
      in_use_after = i.invariant.3;
      plain_after = rw y at i.invariant.6;
      apart = i.invariant.1;
    }
