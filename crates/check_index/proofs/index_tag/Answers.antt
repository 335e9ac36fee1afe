-- `check_index::index_tag` meets its contract. Assumes nothing.
use borrow.Author.Tests.{ne_eqb}
use Rattle.check_index.specs.Indexes.{tree_operation}
use Rattle.language.specs.Read.{index_by, choose}
use Rattle.check_index.proofs.index_tag.Goals as goal

pub returns-in-64 : goal.returns-in-64
unfolding index_by choose tree_operation
returns-in-64 c =
    λ part p content. simp c.in-64.is

pub returns-in-65 : goal.returns-in-65
unfolding index_by choose tree_operation
returns-in-65 c =
    λ part p content. simp c.in-65.is

pub returns-in-66 : goal.returns-in-66
unfolding index_by choose tree_operation
returns-in-66 c =
    λ part p content. simp c.in-66.is

pub returns-in-67 : goal.returns-in-67
unfolding index_by choose tree_operation
returns-in-67 c =
    λ part p content. simp c.in-67.is

pub returns-in-68 : goal.returns-in-68
unfolding index_by choose tree_operation
returns-in-68 c =
    λ part p content. simp c.in-68.is

pub returns-in_default : goal.returns-in_default
unfolding index_by choose tree_operation
returns-in_default c =
    let m = c.in_default.in_default-own.rest in
    λ part p content. simp (ne_eqb _ _ m.1, ne_eqb _ _ m.0.1, ne_eqb _ _ m.0.0.1, ne_eqb _ _ m.0.0.0.1, ne_eqb _ _ m.0.0.0.0.1)
