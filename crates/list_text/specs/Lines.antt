-- The text of a listing: a line for each record, and a last line for the result. Assumes nothing.
use Rattle.std.specs.Prelude.{ℕ, zero, suc, ◌+◌, ◌*◌, ◌-◌, ◌≤◌, ◌≡◌, cond, List, [], ◌++◌, eqb, take, drop, get_or}
use Rattle.text_bytes.specs.Decimal.{ascii, decimal}
use Rattle.language.specs.Limits.{record_size}
use Rattle.language.specs.Result.{Answer}

-- a space and n in decimal
unfoldable pub number_text : ℕ → List ℕ
number_text n = ascii " " ++ decimal n

-- an operation on its numbers: `h`, `t`, `tdg`, `cx`, `measure`, `reset`, phases with k before the wires, and `op` for a number that no record has
unfoldable pub gate_text : (op first second k : ℕ) → List ℕ
gate_text op first second k =
    cond (eqb op 1) (ascii "h" ++ number_text first)
    (cond (eqb op 2) (ascii "t" ++ number_text first)
    (cond (eqb op 3) (ascii "tdg" ++ number_text first)
    (cond (eqb op 4) (ascii "cx" ++ number_text first ++ number_text second)
    (cond (eqb op 5) (ascii "measure" ++ number_text first ++ number_text second)
    (cond (eqb op 6) (ascii "reset" ++ number_text first)
    (cond (eqb op 7) (ascii "phase" ++ number_text k ++ number_text first)
    (cond (eqb op 8) (ascii "phasedg" ++ number_text k ++ number_text first)
    (cond (eqb op 9) (ascii "cphase" ++ number_text k ++ number_text first ++ number_text second)
    (cond (eqb op 10) (ascii "cphasedg" ++ number_text k ++ number_text first ++ number_text second)
    (ascii "op" ++ number_text op))))))))))

-- `if`, the bit, its value and a space, or nothing where there is no condition: 1 asks for the value 0 and 2 for the value 1
unfoldable pub condition_text : (condition bit : ℕ) → List ℕ
condition_text condition bit = cond (eqb condition 0) [] (ascii "if" ++ number_text bit ++ number_text (condition - 1) ++ ascii " ")

-- two bytes as a number, low byte first
unfoldable pub two_bytes_at : List ℕ → ℕ → ℕ
two_bytes_at bytes at = get_or bytes at 0 + 256 * get_or bytes (at + 1) 0

-- the line of a record: op, condition, first and second number, condition bit, k
unfoldable pub line_text : List ℕ → List ℕ
line_text bytes =
    condition_text (get_or bytes 1 0) (two_bytes_at bytes 6)
    ++ gate_text (get_or bytes 0 0) (two_bytes_at bytes 2) (two_bytes_at bytes 4) (two_bytes_at bytes 8) ++ ascii "\n"

-- the lines of `count` records from the record `first` on
unfoldable pub lines_text : (bytes : List ℕ) (first count : ℕ) → List ℕ
lines_text bytes first zero = []
lines_text bytes first (suc count) = lines_text bytes first count ++ line_text (take record_size (drop (record_size * (first + count)) bytes))

-- the last line: `end`, number, place, records, steps
unfoldable pub end_text : (number place records steps : ℕ) → List ℕ
end_text number place records steps = ascii "end" ++ number_text number ++ number_text place ++ number_text records ++ number_text steps ++ ascii "\n"

-- the whole listing of an answer, which is printed part by part: the lines of all its records, and the last line
unfoldable pub listing_text : Answer → List ℕ
listing_text a =
    lines_text a.output 0 a.result.records
    ++ end_text a.result.number a.result.place a.result.records a.result.steps

-- what putting a word of at most `most` bytes at `from` did: the text up to `to` is what it was up to `from`, and then the word
pub record Put (before : List ℕ) (from : ℕ) (after : List ℕ) (to : ℕ) (word : List ℕ) (most : ℕ) : Type 0 where
  pub text : take to after ≡ take from before ++ word
  pub bound : to ≤ from + most
