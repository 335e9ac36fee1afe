-- Calls written down, and what they answer: what the lists of examples are made of.
use Rattle.std.specs.Prelude.{List, [], ◌∷◌, ◌++◌, Bool, true, false, ◌&&◌, ℕ, zero, suc, ◌/◌, ◌%◌, eqb, length, replicate}
use Rattle.language.specs.Computed.{reading, forming, checking, machining, answering}
use Rattle.language.specs.Result.{Answer, Conclusion, finished, got_stuck, check_result, instance_outcome, run_outcome}

infixl 40 ◌plus◌
infixl 40 ◌minus◌
infixl 40 ◌times◌
-- what is called
pub data Call : Type 0 where
  check : (program : List ℕ) → Call
  instance : (program : List ℕ) → (family : ℕ) → (sizes : List ℕ) → (limit : ℕ) → (output : List ℕ) → Call
  run : (program : List ℕ) → (limit : ℕ) → (output : List ℕ) → Call

unfoldable pub conclusion : Call → Conclusion
conclusion (check program) = finished (record { result = check_result program; output = [] })
conclusion (instance program family sizes limit output) = instance_outcome program family sizes limit output
conclusion (run program limit output) = run_outcome program limit output

pub record Example : Type 0 where
  pub input : Call
  pub expected : Answer

unfoldable pub same_bytes : List ℕ → List ℕ → Bool
same_bytes [] [] = true
same_bytes [] (y ∷ ys) = false
same_bytes (x ∷ xs) [] = false
same_bytes (x ∷ xs) (y ∷ ys) = eqb x y && same_bytes xs ys

unfoldable pub same_answer : Answer → Answer → Bool
same_answer a b =
    eqb a.result.number b.result.number && eqb a.result.place b.result.place
    && eqb a.result.records b.result.records && eqb a.result.steps b.result.steps
    && same_bytes a.output b.output

unfoldable pub answers : Conclusion → Answer → Bool
answers (finished a) b = same_answer a b
answers got_stuck b = false

unfoldable pub all_hold : List Example → Bool
all_hold [] = true
all_hold (e ∷ es) = answers (conclusion e.input) e.expected && all_hold es

-- How the programs are written down: by their fields.
abbrev pub field : ℕ → List ℕ → List ℕ
field tag content = tag ∷ length content % 256 ∷ length content / 256 ∷ content

abbrev pub lit : ℕ → List ℕ
lit n = field 64 (n % 256 ∷ n / 256 ∷ [])

abbrev pub var : ℕ → List ℕ
var n = field 65 (n ∷ [])

abbrev pub ◌plus◌ : List ℕ → List ℕ → List ℕ
a plus b = field 66 (a ++ b)

abbrev pub ◌minus◌ : List ℕ → List ℕ → List ℕ
a minus b = field 67 (a ++ b)

abbrev pub ◌times◌ : List ℕ → List ℕ → List ℕ
a times b = field 68 (a ++ b)

-- an element of the operand 0
abbrev pub at : List ℕ → List ℕ
at i = field 49 (0 ∷ i)

-- a slice of the operand 0
abbrev pub from : List ℕ → List ℕ → List ℕ
from first last = field 50 (0 ∷ first ++ last)

abbrev pub h : List ℕ → List ℕ
h i = field 32 (at i)

abbrev pub t : List ℕ → List ℕ
t i = field 33 (at i)

abbrev pub cx : List ℕ → List ℕ → List ℕ
cx i j = field 35 (at i ++ at j)

abbrev pub phase : List ℕ → List ℕ → List ℕ
phase k wire = field 40 (k ++ wire)

abbrev pub cphase : List ℕ → List ℕ → List ℕ
cphase k wires = field 41 (k ++ wires)

abbrev pub reverse : List ℕ → List ℕ
reverse body = field 37 body

abbrev pub for : List ℕ → List ℕ → List ℕ → List ℕ
for low high body = field 38 (low ++ high ++ body)

abbrev pub qreg : ℕ → List ℕ
qreg n = field 2 (n % 256 ∷ n / 256 ∷ [])

-- a family of one index variable n and one parameter x:Qbit[I]
abbrev pub family : List ℕ → List ℕ → List ℕ
family size body = field 1 (1 ∷ 1 ∷ field 17 size ++ body)

abbrev pub n : List ℕ
n = var 0

abbrev pub i : List ℕ
i = var 1

-- for i=1..n h(x[i-1]), x:Qbit[n]
abbrev pub L : List ℕ
L = family n (for (lit 1) n (h (i minus lit 1)))

-- for i=0..n-1 h(x[n-1-i])
abbrev pub falling : List ℕ
falling = for (lit 0) (n minus lit 1) (h (n minus lit 1 minus i))

-- a size of an instance
abbrev pub size : ℕ → List ℕ
size k = k % 256 ∷ k / 256 ∷ 0 ∷ 0 ∷ []

-- output lent
abbrev pub lent : ℕ → List ℕ
lent k = replicate k 7

-- a record without a condition, all of whose numbers are below 256
abbrev pub row : (op first second k : ℕ) → List ℕ
row op first second k = op ∷ 0 ∷ first ∷ 0 ∷ second ∷ 0 ∷ 0 ∷ 0 ∷ k ∷ 0 ∷ 0 ∷ 0 ∷ []

-- a record of an op on one wire, and of cx
abbrev pub one : ℕ → ℕ → List ℕ
one op w = row op w 0 0

abbrev pub two : ℕ → ℕ → ℕ → List ℕ
two op w x = row op w x 0

abbrev pub gives : Call → (number place records steps : ℕ) → List ℕ → Example
gives call number place records steps output = record
    { input = call; expected = record { result = record { number = number; place = place; records = records; steps = steps }; output = output } }

abbrev pub accepted : List ℕ → Example
accepted program = gives (check program) 0 0 0 0 []

abbrev pub turned_down : List ℕ → ℕ → ℕ → Example
turned_down program number place = gives (check program) number place 0 0 []

-- a family of two index variables n and k and one parameter
abbrev pub family₂ : List ℕ → List ℕ → List ℕ
family₂ size body = field 1 (2 ∷ 1 ∷ field 17 size ++ body)

-- a call with the whole operand 0
abbrev pub call : ℕ → List ℕ → List ℕ
call number indexes = field 36 (number ∷ indexes ++ field 48 (0 ∷ []))

abbrev pub creg : ℕ → List ℕ
creg n = field 3 (n % 256 ∷ n / 256 ∷ [])

-- an element of the operand 1
abbrev pub bit : List ℕ → List ℕ
bit i = field 49 (1 ∷ i)

-- a field put into so many fields
unfoldable pub nested : ℕ → (List ℕ → List ℕ) → List ℕ → List ℕ
nested zero around inner = inner
nested (suc k) around inner = around (nested k around inner)

-- opens all of this, and all definitions, so that examples compute
unfoldable pub computed : Unit {0}
unfolding conclusion same_bytes same_answer answers all_hold nested reading forming checking machining answering
computed = tt
