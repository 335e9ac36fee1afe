-- `check_declaration::plain_row` meets its contract. Assumes nothing.
use mathlib.Core.Path.{◌≡◌, ap, ◌∙◌}
use Prim.Native.Nat.{ℕ, ◌<◌}
use lib.ListN.{length, get_or}
use Rattle.check_declaration.specs.Types.{size_row}
use Rattle.check_declaration.proofs.Tables.{apart_none, apart_kind, apart_both, in_use_set, number_size}
use Rattle.check_declaration.proofs.Types.{typed_single, typed_many, typed_bad, past_single, past_many}
use mathlib.Core.List.{[]}
use native.Mathlib.Omega.{arith}
use Rattle.language.specs.Tree.{bad_type}
use Rattle.language.specs.Read.{due, read_plain}
use Rattle.fields.specs.Header.{fields_at}
use Rattle.kinds.specs.declared.Kind.TheVariants.{Qubit, Quantum}
use Rattle.check_operand.specs.Tables.{scope_with, size_of_row}
use Rattle.check_declaration.proofs.Sizes.{narrow}
use Rattle.check_declaration.proofs.Formals.{set_plain}
use Rattle.std.specs.Prelude.{Ok}
use Rattle.refusals.proofs.Handed.{handed}
use Rattle.check_declaration.proofs.plain_row.Goals as goal

pub store-requires : goal.store-requires
store-requires c =
    let a = c.args in
    let program = a.program.now in
    let bytes = length program in
    let l = c.plain_type.new.f in
    let before = c.requires.in_use in
    let kinds = a.kinds.now in
    let sizes = a.sizes.now in
    let next = c.in-Many.next in
    let u = past_many program a.at a.to c.plain_type.result l next c.plain_type.ensures.type_passes (c.in_ok-next.was ∙ ap Ok c.in-Many.is) in
    let h : a.row < length kinds = c.requires.row_in_bounds in
    let few = c.requires.m_le_most_variables in
    record {
      kept = u.1;
      f_value = narrow c.plain_type.result next l (scope_with [] [] a.m []) (due read_plain (bad_type 4 a.parent) (fields_at program a.at a.to)) (c.in_ok-next.was ∙ ap Ok c.in-Many.is) u.1 (c.plain_type.ensures.f_after [] []) (omega arith);
    }

pub returns-in-Single : goal.returns-in-Single
returns-in-Single c =
    let a = c.args in
    let program = a.program.now in
    let bytes = length program in
    let l = c.plain_type.new.f in
    let before = c.requires.in_use in
    let kinds = a.kinds.now in
    let sizes = a.sizes.now in
    let next = c.in-Single.next in
    let u = past_single program a.at a.to c.plain_type.result l next c.plain_type.ensures.type_passes (c.in_ok-next.was ∙ ap Ok c.in-Single.is) in
    let h : a.row < length kinds = c.requires.row_in_bounds in
    let b = c.row_number.result in
    let none = number_size Qubit 0 b c.row_number.ensures in record {
      sizes_after = λ fs ks formals. typed_single c.plain_type.result next l bytes a.row kinds sizes c.requires.operand_table h b c.row_number.ensures (c.in_ok-next.was ∙ ap Ok c.in-Single.is) formals ∙ c.plain_type.ensures.f_after fs ks;
      passes = u;
      in_use_after = in_use_set 0 0 a.registers a.registers a.at next kinds a.row b before h (omega arith) (omega (arith, u.low)) (omega (arith, u.low, before.few)) before.few_registers;
      plain_after = set_plain kinds a.row b Qubit 0 h c.row_number.ensures tt;
      apart = apart_kind bytes a.row kinds sizes c.requires.operand_table h b;
    }

pub returns-in-Many : goal.returns-in-Many
returns-in-Many c =
    let a = c.args in
    let program = a.program.now in
    let bytes = length program in
    let l = c.plain_type.new.f in
    let before = c.requires.in_use in
    let kinds = a.kinds.now in
    let sizes = a.sizes.now in
    let next = c.in-Many.next in
    let u = past_many program a.at a.to c.plain_type.result l next c.plain_type.ensures.type_passes (c.in_ok-next.was ∙ ap Ok c.in-Many.is) in
    let h : a.row < length kinds = c.requires.row_in_bounds in
    let own = c.size_row-own.result in
    let is : own ≡ size_row a.at a.registers = c.size_row-own.ensures in
    let f : own < length sizes = omega (arith, u.0.low, u.0.high, c.requires.to_in_bounds, c.requires.operand_table.sizes_long, before.few_registers) in
    let b = c.row_number-in-Many.result in
    let names = number_size Quantum own b c.row_number-in-Many.ensures in
    let d : (j : ℕ) → size_of_row (get_or kinds j 0) < own = (λ j. omega (arith, before.named j)) in
    let short = c.store.new.row in record {
      sizes_after = λ fs ks formals. typed_many c.plain_type.result next l bytes a.row kinds sizes c.requires.operand_table h b own c.row_number-in-Many.ensures short d f (c.in_ok-next.was ∙ ap Ok c.in-Many.is) c.store.ensures.short c.store.ensures.row_after formals ∙ c.plain_type.ensures.f_after fs ks;
      passes = u.0;
      in_use_after = in_use_set 0 0 a.registers a.registers a.at next kinds a.row b before h (omega (arith, u.2)) (omega (arith, u.2)) (omega (arith, u.2, before.few)) before.few_registers;
      plain_after = set_plain kinds a.row b Quantum own h c.row_number-in-Many.ensures tt;
      apart = apart_both bytes a.row kinds sizes c.requires.operand_table h b own short c.store.ensures.short d f;
    }

pub returns-in_err-next : goal.returns-in_err-next
returns-in_err-next c =
    let a = c.args in
    let program = a.program.now in
    let bytes = length program in
    let l = c.plain_type.new.f in
    let before = c.requires.in_use in
    let kinds = a.kinds.now in
    let sizes = a.sizes.now in rw (handed c.from_residual.result c.from_residual.ensures.1) (record {
      sizes_after = λ fs ks formals. typed_bad c.plain_type.result _ l a.row kinds sizes c.in_err-next.was formals ∙ c.plain_type.ensures.f_after fs ks;
      passes = tt;
      in_use_after = tt;
      plain_after = tt;
      apart = apart_none bytes a.row 1 kinds sizes c.requires.operand_table;
    })
