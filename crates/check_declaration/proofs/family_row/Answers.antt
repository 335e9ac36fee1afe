-- `check_declaration::family_row` meets its contract. Assumes nothing.
use mathlib.Core.Path.{refl, ap, ◌∙◌}
use mathlib.Core.List.{[], ◌∷◌}
use Prim.Native.Nat.{◌+◌, ◌*◌, ◌/◌, ◌≤◌, ◌<◌}
use native.Mathlib.Omega.{arith}
use lib.ListN.{length, get_or, set}
use Rattle.language.specs.Check.{good, formal}
use Rattle.kinds.specs.declared.Kind.TheVariants.{Family}
use Rattle.forms.specs.Flat.{widened, as_form}
use Rattle.check_operand.specs.Tables.{kind_in, size_of_row, scope_with}
use Rattle.check_call.specs.Calls.{formal_at}
use Rattle.check_index.proofs.Answers.{count_upto}
use Rattle.check_declaration.specs.Types.{checked_row}
use Rattle.check_declaration.proofs.Tables.{number_size, number_kind, row_kind, in_use_set, in_use_upto}
use Rattle.check_declaration.proofs.FamilyTypes.{both_right, counts_bad, plain_refused, plain_left, plain_all}
use Rattle.check_declaration.proofs.Formals.{within_upto, plain_upto, stays_none, stays_upper, stays_family, formals_family, family_takes}
use Rattle.refusals.proofs.Handed.{handed}
use Rattle.check_declaration.proofs.family_row.Goals as goal

pub returns-in_err-end : goal.returns-in_err-end
returns-in_err-end c =
    let a = c.args in
    let program = a.program.now in
    let bytes = length program in
    let families = a.families.now in
    let kinds = a.kinds.now in
    let used = c.requires.in_use in
    let t = c.requires.operand_table in
    let half : a.row < length kinds / 2 = omega (arith, used.few, t.kinds_long, c.requires.at_bound.0, c.requires.at_bound.1) in
    let counts = c.in_ok-counts.counts in
    let m = counts.variables in
    let count = counts.parameters in
    let w = both_right a.at a.next c.two_counts.result counts c.in_ok-counts.was c.two_counts.ensures.both_right in
    let few = w.0 in
    let one = w.1 in
    let most = w.2 in
    let five = w.3 in
    let first = c.plain_from-first.result in
    let k₁ = c.plain_rows.new.kinds in
    let s₁ = c.plain_rows.new.sizes in
    rw (handed c.from_residual-in_err-end.result c.from_residual-in_err-end.ensures.1) (record {
      sizes_after = λ fs ks n. plain_refused (scope_with fs ks n []) program a.at a.next c.two_counts.result c.two_counts.ensures.result_value m count c.in_ok-counts.was (formal_at families k₁ s₁) c.plain_rows.result first k₁ s₁ (c.plain_rows.ensures.sizes_after [] [] (formal_at families k₁ s₁)) c.in_err-end.was (formal_at families k₁ s₁) a.row k₁ s₁;
      ends_at = tt;
      in_use_after = tt;
      formals_after = tt;
      stays = stays_upper bytes a.row first count a.at a.registers families c.requires.formals_in c.plain_rows.ensures.apart (omega arith) half;
    })

pub returns-then-end-next : goal.returns-then-end-next
unfolding checked_row
returns-then-end-next c =
    let a = c.args in
    let program = a.program.now in
    let bytes = length program in
    let families = a.families.now in
    let kinds = a.kinds.now in
    let used = c.requires.in_use in
    let t = c.requires.operand_table in
    let half : a.row < length kinds / 2 = omega (arith, used.few, t.kinds_long, c.requires.at_bound.0, c.requires.at_bound.1) in
    let counts = c.in_ok-counts.counts in
    let m = counts.variables in
    let count = counts.parameters in
    let w = both_right a.at a.next c.two_counts.result counts c.in_ok-counts.was c.two_counts.ensures.both_right in
    let few = w.0 in
    let one = w.1 in
    let most = w.2 in
    let five = w.3 in
    let first = c.plain_from-first.result in
    let k₁ = c.plain_rows.new.kinds in
    let s₁ = c.plain_rows.new.sizes in
    let end = c.in_ok-end.end in
    let beyond = count_upto program (a.at + 5) a.next count c.plain_rows.result end c.in_ok-end.was c.plain_rows.ensures.passes_count in
    let within = within_upto (a.at + 5) a.next count c.plain_rows.result end c.in_ok-end.was c.plain_rows.ensures.types_within in
    let reach = within.0 in
    let limit = within.1 in
    let later = in_use_upto 0 a.registers end c.plain_rows.result k₁ c.in_ok-end.was c.plain_rows.ensures.in_use_after in
    let plains = plain_upto c.plain_rows.result end count first k₁ c.in_ok-end.was c.plain_rows.ensures.plain_after in
    record {
      sizes_after = λ fs ks n. plain_left (scope_with fs ks n []) program a.at a.next c.two_counts.result c.two_counts.ensures.result_value m count c.in_ok-counts.was (formal_at families k₁ s₁) c.plain_rows.result first k₁ s₁ (c.plain_rows.ensures.sizes_after [] [] (formal_at families k₁ s₁)) end c.in_ok-end.was beyond c.if-end-next.true c.requires.at_bound.1;
      ends_at = tt;
      in_use_after = tt;
      formals_after = tt;
      stays = stays_upper bytes a.row first count a.at a.registers families c.requires.formals_in c.plain_rows.ensures.apart (omega arith) half;
    }

pub returns-in_err-counts : goal.returns-in_err-counts
unfolding checked_row
returns-in_err-counts c =
    let a = c.args in
    let program = a.program.now in
    let bytes = length program in
    let families = a.families.now in
    let kinds = a.kinds.now in
    let used = c.requires.in_use in
    let t = c.requires.operand_table in
    let half : a.row < length kinds / 2 = omega (arith, used.few, t.kinds_long, c.requires.at_bound.0, c.requires.at_bound.1) in
    rw (handed c.from_residual.result c.from_residual.ensures.1) (record {
      sizes_after = λ fs ks n. counts_bad (scope_with fs ks n []) program a.at a.next c.two_counts.result c.two_counts.ensures.result_value _ c.in_err-counts.was;
      ends_at = tt;
      in_use_after = tt;
      formals_after = tt;
      stays = stays_none bytes a.row a.at a.registers families kinds a.sizes.now t;
    })

pub returns : goal.returns
unfolding checked_row kind_in
returns c =
    let a = c.args in
    let program = a.program.now in
    let bytes = length program in
    let families = a.families.now in
    let kinds = a.kinds.now in
    let used = c.requires.in_use in
    let t = c.requires.operand_table in
    let half : a.row < length kinds / 2 = omega (arith, used.few, t.kinds_long, c.requires.at_bound.0, c.requires.at_bound.1) in
    let counts = c.in_ok-counts.counts in
    let m = counts.variables in
    let count = counts.parameters in
    let w = both_right a.at a.next c.two_counts.result counts c.in_ok-counts.was c.two_counts.ensures.both_right in
    let few = w.0 in
    let one = w.1 in
    let most = w.2 in
    let five = w.3 in
    let first = c.plain_from-first.result in
    let k₁ = c.plain_rows.new.kinds in
    let s₁ = c.plain_rows.new.sizes in
    let end = c.in_ok-end.end in
    let beyond = count_upto program (a.at + 5) a.next count c.plain_rows.result end c.in_ok-end.was c.plain_rows.ensures.passes_count in
    let within = within_upto (a.at + 5) a.next count c.plain_rows.result end c.in_ok-end.was c.plain_rows.ensures.types_within in
    let reach = within.0 in
    let limit = within.1 in
    let later = in_use_upto 0 a.registers end c.plain_rows.result k₁ c.in_ok-end.was c.plain_rows.ensures.in_use_after in
    let plains = plain_upto c.plain_rows.result end count first k₁ c.in_ok-end.was c.plain_rows.ensures.plain_after in
    let own = c.size_row-own.result in
    let b = c.row_number.result in
    let names = number_size Family own b c.row_number.ensures in
    let inside : 4096 + own < length families = omega (arith, c.requires.family_table, t.sizes_long, used.few_registers, c.requires.at_bound.0, c.requires.at_bound.1) in
    let wide : a.row < length k₁ = omega (arith, c.plain_rows.ensures.apart.kinds_same) in
    let room : first + count ≤ length kinds = omega (arith, t.kinds_long, c.requires.at_bound.0, c.requires.at_bound.1) in
    let far : a.at + 3 * count + 5 ≤ a.next = omega arith in
    let g = formal_at (set families (4096 + own) (m ∷ count ∷ first ∷ [])) (set k₁ a.row b) s₁ in record {
      sizes_after = λ fs ks n. ap good (row_kind bytes a.row k₁ s₁ c.plain_rows.ensures.apart.table wide b g ∙ (λ i. kind_in (number_kind Family own b c.row_number.ensures i) (as_form (widened (get_or s₁ (size_of_row b) []))) (g (names i))) ∙ ap formal (family_takes bytes a.row first count a.at a.next a.registers families c.requires.formals_in c.plain_rows.ensures.apart c.plain_from-first.ensures half m own b c.size_row-own.ensures c.row_number.ensures inside (formal_at families k₁ s₁)))
          ∙ plain_all (scope_with fs ks n []) program a.at a.next c.two_counts.result c.two_counts.ensures.result_value m count c.in_ok-counts.was (formal_at families k₁ s₁) c.plain_rows.result first k₁ s₁ (c.plain_rows.ensures.sizes_after [] [] (formal_at families k₁ s₁)) end c.in_ok-end.was beyond c.if-end-next.false;
      ends_at = refl;
      in_use_after = in_use_set 0 (a.row + 1) a.registers a.registers end a.next k₁ a.row b later wide (omega arith) (omega arith) (omega (arith, used.few)) used.few_registers;
      formals_after = formals_family bytes a.row first count a.at a.next a.registers families c.requires.formals_in c.plain_rows.ensures.apart c.plain_from-first.ensures half m own b c.size_row-own.ensures c.row_number.ensures inside few room far plains;
      stays = stays_family bytes a.row first count a.at a.next a.registers families c.requires.formals_in c.plain_rows.ensures.apart c.plain_from-first.ensures half m own b c.size_row-own.ensures c.row_number.ensures inside;
    }
