-- Computed examples of calls with a two-byte family number, and of the limit of families. Calls in libraries of so many families are computed in further_examples.
use Rattle.std.specs.Prelude.{◌≡◌, refl, List, [], ◌∷◌, ◌++◌, true, ℕ, zero, suc, ◌/◌, ◌%◌, length, replicate}
use Rattle.language.specs.Limits.{most_families}
use Rattle.language.specs.Tree.{number, family, plain, qbit, ended, nil}
use Rattle.language.specs.Check.{Checked, good, refused, Declared, check_top}
use Rattle.language.specs.Computed.{checking}
use Rattle.language.specs.Calls.{Example, all_hold, computed, field, reverse, qreg, turned_down, nested}

-- a gate: a family of one Qbit and no index variables
abbrev pub gate : List ℕ → List ℕ
gate body = field 1 (0 ∷ 1 ∷ field 16 [] ++ body)

-- so many gates without statements
abbrev pub gates : ℕ → List ℕ
gates zero = []
gates (suc n) = gate [] ++ gates n

-- h of the parameter 0
abbrev pub h_of_it : List ℕ
h_of_it = field 32 (field 48 (0 ∷ []))

-- a call with a two-byte family number and these operands
abbrev pub long_call : ℕ → List ℕ → List ℕ
long_call n operands = field 39 (n % 256 ∷ n / 256 ∷ operands)

-- q[0]
abbrev pub q : List ℕ
q = field 49 (0 ∷ 64 ∷ 2 ∷ 0 ∷ 0 ∷ 0 ∷ [])

long_calls : List Example
long_calls =
    -- content that ends before and inside the number
    turned_down (field 39 []) 4 0
    ∷ turned_down (field 39 (0 ∷ [])) 4 0
    -- a number that fits into one byte: 31 at the call, before 8 and before what stands after the number
    ∷ turned_down (long_call 0 []) 31 0
    ∷ turned_down (long_call 255 []) 31 0
    ∷ turned_down (gate [] ++ qreg 1 ++ long_call 0 (q ++ q)) 31 13
    -- one that does not, and is not in scope: 8
    ∷ turned_down (long_call 256 []) 8 0
    -- the tag is a statement's at every level: 5 past the deepest, where a tag that is no statement's is 3
    ∷ turned_down (nested 16 reverse (long_call 0 [])) 5 48
    ∷ turned_down (nested 16 reverse (field 43 [])) 3 48
    ∷ []

long_calls_hold : all_hold long_calls ≡ true
unfolding computed long_calls
long_calls_hold = refl

-- after so many families
abbrev after : ℕ → Declared
after n = record { families = replicate n (record { variables = 0; parameters = [] }); registers = []; qubits = 0; bits = 0 }

abbrev one_more : Declared → Checked Declared
one_more d = check_top (family 7 (number 0) (number 1) (plain (qbit 12 ended) ∷ []) nil) d

unfoldable families_of : Checked Declared → ℕ
families_of (good d) = length d.families
families_of (refused n p) = 0

last_family : families_of (one_more (after 4_095)) ≡ most_families
unfolding checking families_of
last_family = refl

too_many_families : one_more (after 4_096) ≡ refused 6 7
unfolding checking
too_many_families = refl
