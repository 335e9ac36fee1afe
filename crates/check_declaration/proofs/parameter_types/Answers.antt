-- `check_declaration::parameter_types` meets its contract. Assumes nothing.
use mathlib.Core.Path.{◌≡◌, sym, ap, ◌∙◌}
use mathlib.Core.List.{List, [], ◌++◌}
use Prim.Native.Nat.{ℕ, suc, ◌+◌, ◌-◌}
use native.Mathlib.Omega.{arith}
use lib.ListN.{length}
use Rattle.language.specs.Read.{types_of}
use Rattle.language.specs.Check.{Checked, good, ◌>>=◌, Kind, kinds_of}
use Rattle.fields.specs.Header.{fields_at}
use Rattle.check_operand.specs.Tables.{scope_with, kinds_at}
use Rattle.check_call.specs.Calls.{formal_at}
use Rattle.check_index.proofs.Answers.{beyond_none, beyond_more, passes_upto}
use Rattle.check_declaration.specs.Types.{checked_rows}
use Rattle.check_declaration.proofs.Tables.{in_use_later, in_use_upto}
use Rattle.check_declaration.proofs.Types.{type_level, rows_stop, types_stop, types_go, more_kinds, no_kinds, all_kinds}
use Rattle.check_declaration.proofs.Formals.{stays_none, stays_more, kinds_stay, formals_later, formals_upto}
use Rattle.refusals.proofs.Handed.{handed}
use Rattle.check_declaration.proofs.parameter_types.Goals as goal

pub loop-j-init : goal.loop-j-init
loop-j-init c =
    let a = c.args in
    (omega arith, stays_none (length a.program.now) a.first a.at a.registers a.families.now a.kinds.now a.sizes.now c.requires.operand_table, beyond_none a.program.now a.at a.to, in_use_later a.first (a.first + 0) a.registers a.at a.at a.kinds.now c.requires.in_use (omega arith) (omega (arith, c.requires.in_use.few)), c.requires.at_le_to.0, c.requires.formals_in, (λ fs ks. let z : a.count - 0 ≡ a.count = omega arith in rw z (no_kinds (formal_at a.families.now a.kinds.now a.sizes.now) _ a.first a.kinds.now a.sizes.now)))

pub returns-in_err-from : goal.returns-in_err-from
returns-in_err-from c =
    let a = c.args in
    let program = a.program.now in
    let i = c.loop-j in
    let families = c.typed_row.new.families in
    let kinds = c.typed_row.new.kinds in
    let sizes = c.typed_row.new.sizes in
    let g = formal_at families kinds sizes in
    let e : a.count - i.j ≡ suc (a.count - (i.j + 1)) = (let h = c.loop-j-test.true in omega arith) in
    let before = formal_at i.families i.kinds i.sizes in
    let sofar : List Kind → Checked (List Kind) = λ rest. good (kinds_at before i.j a.first i.kinds i.sizes ++ rest) in
    let along = i.invariant.2.low in rw (handed c.from_residual.result c.from_residual.ensures.1) (record {
      sizes_after = λ fs ks. rows_stop g _ a.count a.first kinds sizes sofar
          ∙ ap (λ (c : Checked (List Kind)). c >>= sofar) (types_stop (type_level (scope_with fs ks a.m []) a.parent) (a.count - (i.j + 1)) program i.from a.to g c.typed_row.result (a.first + i.j) kinds sizes (c.typed_row.ensures.sizes_after fs ks) a.count a.first c.in_err-from.was
          ∙ ap (λ (n : ℕ). kinds_of (scope_with fs ks a.m []) (types_of a.parent n (fields_at program i.from a.to))) (sym e))
          ∙ sym (i.invariant.6 fs ks);
      passes_count = tt;
      in_use_before = tt;
      formals_before = tt;
      stays = stays_more (length program) a.first a.at i.from a.registers i.j along i.invariant.1 c.typed_row.ensures.stays;
    })

pub loop-j-preserved : goal.loop-j-preserved
loop-j-preserved c =
    let a = c.args in
    let program = a.program.now in
    let i = c.loop-j in
    let families = c.typed_row.new.families in
    let kinds = c.typed_row.new.kinds in
    let sizes = c.typed_row.new.sizes in
    let g = formal_at families kinds sizes in
    let e : a.count - i.j ≡ suc (a.count - (i.j + 1)) = (let h = c.loop-j-test.true in omega arith) in
    let before = formal_at i.families i.kinds i.sizes in
    let sofar : List Kind → Checked (List Kind) = λ rest. good (kinds_at before i.j a.first i.kinds i.sizes ++ rest) in
    let along = i.invariant.2.low in
    let next = c.in_ok-from.from in
    let v = passes_upto program i.from a.to c.typed_row.result next c.in_ok-from.was c.typed_row.ensures.passes in
    let used = in_use_upto (a.first + i.j + 1) a.registers next c.typed_row.result kinds c.in_ok-from.was c.typed_row.ensures.in_use_after in
    let h = c.loop-j-test.true in (
      omega arith,
      stays_more (length program) a.first a.at i.from a.registers i.j along i.invariant.1 c.typed_row.ensures.stays,
      beyond_more program a.at a.to i.j i.from next i.invariant.2 v,
      in_use_later (a.first + i.j + 1) (a.first + (i.j + 1)) a.registers next next kinds used (omega arith) (omega (arith, used.few)),
      v.high,
      formals_upto next c.typed_row.result families kinds c.in_ok-from.was c.typed_row.ensures.formals_after,
      (λ fs ks. i.invariant.6 fs ks
          ∙ ap (λ (n : ℕ). kinds_of (scope_with fs ks a.m []) (types_of a.parent n (fields_at program i.from a.to)) >>= sofar) e
          ∙ ap (λ (c : Checked (List Kind)). c >>= sofar) (types_go (type_level (scope_with fs ks a.m []) a.parent) (a.count - (i.j + 1)) program i.from a.to g c.typed_row.result (a.first + i.j) kinds sizes (c.typed_row.ensures.sizes_after fs ks) next c.in_ok-from.was v)
          ∙ more_kinds (kinds_of (scope_with fs ks a.m []) (types_of a.parent (a.count - (i.j + 1)) (fields_at program next a.to))) a.first i.j before g i.kinds i.sizes kinds sizes (kinds_stay (length program) (a.first + i.j) (a.first + i.j) i.from a.registers i.j a.first i.invariant.3 c.typed_row.ensures.stays (omega arith))),
    )

pub returns : goal.returns
unfolding checked_rows
returns c =
    let a = c.args in
    let program = a.program.now in
    let i = c.loop-j in
    let h = c.loop-j-test.false in
    let b = i.invariant.0 in
    let z : a.count - i.j ≡ 0 = omega arith in
    let y : i.j ≡ a.count = omega arith in
    let g = formal_at i.families i.kinds i.sizes in
    record {
      sizes_after = λ fs ks. sym (i.invariant.6 fs ks ∙ ap (λ (n : ℕ). kinds_of (scope_with fs ks a.m []) (types_of a.parent n (fields_at program i.from a.to)) >>= λ rest. good (kinds_at g i.j a.first i.kinds i.sizes ++ rest)) z ∙ all_kinds (type_level (scope_with fs ks a.m []) a.parent) (fields_at program i.from a.to) (kinds_at g i.j a.first i.kinds i.sizes) ∙ ap (λ (n : ℕ). good (kinds_at g n a.first i.kinds i.sizes)) y);
      passes_count = rw y at i.invariant.2;
      in_use_before = in_use_later (a.first + i.j) (a.first + a.count) a.registers i.from a.to i.kinds i.invariant.3 i.invariant.4 (omega (arith, i.invariant.3.few, i.invariant.4));
      formals_before = formals_later i.from a.to i.families i.kinds i.invariant.4 i.invariant.5;
      stays = i.invariant.1;
    }
