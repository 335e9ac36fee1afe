-- `indexes::operate` meets its contract. Assumes nothing.
use native.Mathlib.Omega.{arith}
use borrow.Author.Rules.{rules}
use mir.Syntax.{w64}
use mir.ValLaws.{to_z-of_z}
use Rattle.language.proofs.Integers.{ranged-fits, range_back, sum_fits, difference_fits, product_fits}
use Rattle.language.specs.Tree.{sum, difference, product}
use Rattle.language.specs.Machine.{operate}
use Rattle.indexes.specs.Values.{InsideIs}
use Rattle.indexes.proofs.Operations.{tag_sum, tag_difference, tag_product, operated, not_operated}
use Rattle.indexes.proofs.operate.Goals as goal

pub overflow_add-x : goal.overflow_add-x
overflow_add-x c =
    search (rules, ranged-fits)

pub inside-requires : goal.inside-requires
inside-requires c =
    search (rules, ranged-fits)

pub overflow_sub-x : goal.overflow_sub-x
overflow_sub-x c =
    search (rules, ranged-fits)

pub inside-requires-in-67 : goal.inside-requires-in-67
inside-requires-in-67 c =
    search (rules, ranged-fits)

pub overflow_mul-x : goal.overflow_mul-x
overflow_mul-x c =
    search (rules, ranged-fits)

pub inside-requires-in-68 : goal.inside-requires-in-68
inside-requires-in-68 c =
    search (rules, ranged-fits)

pub returns-in-66 : goal.returns-in-66
unfolding operate
returns-in-66 c =
    let a = c.args in
    let i : InsideIs (operate sum a.x a.y) c.inside.result = rw (range_back {z = a.x} c.requires.x_value, range_back {z = a.y} c.requires.y_value, to_z-of_z w64 _ (sum_fits a.x a.y c.requires.x_value c.requires.y_value)) at c.inside.ensures in
    rw c.in-66.is (operated 66 sum a.x a.y c.inside.result tag_sum i)

pub returns-in-67 : goal.returns-in-67
unfolding operate
returns-in-67 c =
    let a = c.args in
    let i : InsideIs (operate difference a.x a.y) c.inside-in-67.result = rw (range_back {z = a.x} c.requires.x_value, range_back {z = a.y} c.requires.y_value, to_z-of_z w64 _ (difference_fits a.x a.y c.requires.x_value c.requires.y_value)) at c.inside-in-67.ensures in
    rw c.in-67.is (operated 67 difference a.x a.y c.inside-in-67.result tag_difference i)

pub returns-in-68 : goal.returns-in-68
unfolding operate
returns-in-68 c =
    let a = c.args in
    let i : InsideIs (operate product a.x a.y) c.inside-in-68.result = rw (range_back {z = a.x} c.requires.x_value, range_back {z = a.y} c.requires.y_value, to_z-of_z w64 _ (product_fits a.x a.y c.requires.x_value c.requires.y_value)) at c.inside-in-68.ensures in
    rw c.in-68.is (operated 68 product a.x a.y c.inside-in-68.result tag_product i)

pub returns-in_default : goal.returns-in_default
returns-in_default c =
    not_operated c.args.tag _ _ (λ z. omega arith) (λ z. omega arith) (λ z. omega arith)
