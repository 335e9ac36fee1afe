-- `check_declaration::register` meets its contract. Assumes nothing.
use borrow.Author.Rules.{rules}
use mathlib.Core.Path.{◌≡◌, sym, ap, ◌∙◌}
use Prim.Native.Nat.{ℕ, ◌+◌, ◌≤◌, ◌<◌}
use native.Mathlib.Omega.{arith}
use lib.IntN.{pos}
use lib.ListN.{length, get_or}
use lib.Seq.{slice, length-slice, get_or-set_same}
use Rattle.language.specs.Form.{constant_form}
use Rattle.language.proofs.Integers.{range_yes, range_back}
use Rattle.forms.specs.Flat.{as_form}
use Rattle.check_operand.specs.Tables.{kind_in, size_of_row}
use Rattle.check_declaration.proofs.Sizes.{constant_narrow}
use Rattle.check_declaration.specs.Types.{size_row}
use Rattle.check_declaration.specs.Registers.{checked_register}
use Rattle.check_declaration.proofs.Registers.{size_fits_lem, size_two}
use Rattle.check_declaration.proofs.Tables.{apart_both, row_both, in_use_set, number_size}
use Rattle.refusals.proofs.Handed.{handed}
use Rattle.check_declaration.proofs.register.Goals as goal

pub returns-in_err-size : goal.returns-in_err-size
returns-in_err-size c =
    rw (handed c.from_residual.result c.from_residual.ensures.1) (record {
      result_value = rw c.in_err-size.was at c.register_size.ensures;
      register_set = tt;
    })

pub overflow_cast-size : goal.overflow_cast-size
overflow_cast-size c =
    let a = c.args in
    let content = slice (a.at + 3) a.next a.program.now in
    let f = size_fits_lem c.register_size.result c.in_ok-size.size a.at a.count a.total a.most content c.in_ok-size.was c.register_size.ensures in
    let fits = f.fits in
    search rules

pub set_constant-requires : goal.set_constant-requires
set_constant-requires c =
    let a = c.args in
    let program = a.program.now in
    let content = slice (a.at + 3) a.next program in
    let n = c.in_ok-size.size in
    let f = size_fits_lem c.register_size.result n a.at a.count a.total a.most content c.in_ok-size.was c.register_size.ensures in
    let room = f.room in
    let fits = f.fits in
    let before = c.requires.in_use in
    let long = c.requires.program_len_bound in
    let far = c.requires.most_le_furthest in
    let fine = range_yes (pos n) (omega arith) in
    rw (range_back fine) fine

pub store-requires : goal.store-requires
unfolding as_form
store-requires c =
    record {
      kept = c.set_constant.ensures.kept;
      f_value = constant_narrow c.set_constant.new.f _ c.set_constant.ensures.f_after c.set_constant.ensures.kept;
    }

pub returns : goal.returns
returns c =
    let a = c.args in
    let program = a.program.now in
    let content = slice (a.at + 3) a.next program in
    let n = c.in_ok-size.size in
    let f = size_fits_lem c.register_size.result n a.at a.count a.total a.most content c.in_ok-size.was c.register_size.ensures in
    let room = f.room in
    let fits = f.fits in
    let before = c.requires.in_use in
    let long = c.requires.program_len_bound in
    let own = c.size_row-own.result in
    let is : own ≡ size_row a.at a.count = c.size_row-own.ensures in
    let inside : own < length a.sizes.now = omega (arith, c.requires.operand_table.sizes_long, c.requires.at_bound.0, c.requires.at_bound.1) in
    let far = c.requires.most_le_furthest in
    let kinds = a.kinds.now in
    let sizes = a.sizes.now in
    let bytes = length program in
    let h : a.count < length kinds = omega (arith, c.requires.operand_table.kinds_long) in
    let b = c.row_number.result in
    let names = number_size a.kind own b c.row_number.ensures in
    let d : (j : ℕ) → size_of_row (get_or kinds j 0) < own = (λ j. omega (arith, before.named j)) in
    let two = size_two c.register_size.result n a.at a.count a.total a.most content c.in_ok-size.was c.register_size.ensures in
    let five : a.at + 5 ≤ a.next = omega (arith, length-slice (a.at + 3) a.next program c.requires.at_bound.1) in
    let l = c.store.new.row in
    let value = ap as_form c.store.ensures.row_after ∙ c.set_constant.ensures.f_after ∙ ap constant_form (range_back (range_yes (pos n) (omega arith))) in record {
      result_value = sym (ap checked_register c.in_ok-size.was) ∙ c.register_size.ensures;
      register_set = record {
        room = room;
        fits = fits;
        apart = apart_both bytes a.count kinds sizes c.requires.operand_table h b own l c.store.ensures.short d inside;
        used = λ rows k. in_use_set 0 rows a.count (a.count + 1) a.at a.next kinds a.count b before h (omega arith) (omega arith) k (omega arith);
        row = λ formals. row_both bytes a.count kinds sizes c.requires.operand_table h b own l c.store.ensures.short d inside a.kind c.row_number.ensures formals ∙ (λ i. kind_in a.kind (value i) (formals (sym (ap size_of_row (get_or-set_same kinds a.count b 0 h) ∙ names) i)));
      };
    }
