-- What the code's tags, operations and counts of variables stand for.
use Rattle.std.specs.Prelude.{◌≡◌, List, [], ℕ}
use Rattle.language.specs.Tree.{Index, bad_index}
use Rattle.language.specs.Read.{Field, field, Reader, of_fields, read_literal, read_variable, operation_of, index_by}
use Rattle.language.specs.Check.{all_rules, Scope}
use Rattle.check_index.specs.declared.Operation.{Operation}
use Rattle.check_index.specs.declared.Operation.TheVariants.{Sum, Difference, Product}
use Rattle.check_index.specs.declared.IndexTag.{IndexTag}
use Rattle.check_index.specs.declared.IndexTag.TheVariants.{Literal, Variable, Both, Other}
use Rattle.language.specs.Tree as T

unfoldable pub tree_operation : Operation → T.Operation
tree_operation Sum = T.sum
tree_operation Difference = T.difference
tree_operation Product = T.product

-- how the content of an index field is read, by what its tag says
abbrev pub index_reader : (Field → Index) → IndexTag → Reader Index
index_reader part Literal = read_literal
index_reader part Variable = read_variable
index_reader part (Both o) = of_fields (operation_of part (tree_operation o))
index_reader part Other = λ q rest. bad_index 3 q

-- what a tag says of an index field: it is read so
abbrev pub IndexSays : ℕ → IndexTag → Type 0
IndexSays tag k = (part : Field → Index) (p : ℕ) (content : List ℕ) → index_by part (field p tag content) ≡ index_reader part k p content

-- a scope with so many index variables; forms ask no more of a scope
unfoldable pub scope_of : ℕ → Scope
scope_of n = record { families = []; operands = []; variables = n; loops = []; rules = all_rules }
