-- Laws on texts that are put together word by word, and on decimal digits. Assumes nothing.
use Prim.Native.Nat.{ℕ, zero, suc, ◌+◌, ◌*◌, ◌-◌, ◌/◌, ◌%◌, ◌^◌, ◌<◌, ◌≤◌}
use mathlib.Core.Path.{◌≡◌, refl, sym, ap, ◌∙◌}
use mathlib.Core.Bool.{Bool, true, false}
use mathlib.Core.List.{List, [], ◌∷◌, ◌++◌, append_assoc, append-nil}
use native.Mathlib.Nat.{one-le-pow, pow-suc, pow-le-pow_right}
use native.Mathlib.Numerals.{sub-one}
use native.Mathlib.Omega.{arith}
use borrow.Author.Tests.{leb-true, leb-false, lt-ltb, ne_eqb}
use lib.Dec.{leb}
use lib.ListN.{length, take, drop, length-append, length-take}
use lib.Seq.{sets-eq, take_at}
use Rattle.io.specs.Digits.{last_digits, IsDigitCount}
use Rattle.language.specs.Limits.{record_size}
use Rattle.text_bytes.specs.Decimal.{ascii, digit, decimal}
use Rattle.text_bytes.specs.Buffers.{Puts}
use Rattle.text_bytes.proofs.DecimalLaws.{decimal_digit, decimal_next}
use Rattle.list_text.specs.Lines.{number_text, gate_text, condition_text, line_text, lines_text, Put}

-- a word that was put, as the text up to its end
pub word_put : {before word after : List ℕ} {from to : ℕ} → Puts before from word after to → from + length word ≤ length before → Put before from after to word (length word)
word_put {before} {word} {after} {from} {to} p h =
    let n : length (take from before ++ word) ≡ to = length-append (take from before) word ∙ omega (arith, length-take from before, p.past) in
    let s : after ≡ take from before ++ word ++ drop (from + length word) before = p.stored ∙ sets-eq word before from h in
    record { text = rw s (take_at (take from before ++ word) (drop (from + length word) before) to n); bound = omega (arith, p.past) }

-- a word, and then another
pub then : {before middle after : List ℕ} {from at to : ℕ} {word other : List ℕ} {few many : ℕ} (whole : List ℕ) (most : ℕ)
    → Put before from middle at word few → Put middle at after to other many → word ++ other ≡ whole → few + many ≤ most
    → Put before from after to whole most
then {before} {middle} {after} {from} {at} {to} {word} {other} whole most p q e h =
    let a = p.bound in
    let b = q.bound in
    record {
      text = q.text ∙ ap (λ (l : List ℕ). l ++ other) p.text ∙ append_assoc (take from before) word other ∙ ap (λ (l : List ℕ). take from before ++ l) e;
      bound = omega arith;
    }

-- the same word under another name, within a larger bound
pub wider : {before after : List ℕ} {from to : ℕ} {word : List ℕ} {few : ℕ} (whole : List ℕ) (most : ℕ)
    → Put before from after to word few → word ≡ whole → few ≤ most → Put before from after to whole most
wider {before} {after} {from} whole most p e h =
    let a = p.bound in
    record { text = p.text ∙ ap (λ (l : List ℕ). take from before ++ l) e; bound = omega arith }

-- the fewest digits of a number are all that it has
pub digits_are : (k n : ℕ) → IsDigitCount 10 1 n k → last_digits 10 k n ≡ decimal n
digits_are zero n f = absurd (omega arith)
digits_are (suc zero) n f =
    let small : n < 10 = f.1 in
    let e : n % 10 ≡ n = omega arith in
    rw (e, lt-ltb n 10 small, decimal_digit n small)
digits_are (suc (suc k)) n f =
    let p : 1 ≤ 10 ^ k = one-le-pow k 10 (omega arith) in
    let large : 10 ^ suc k ≤ n = rw sub-one at (f.2 (omega arith)) in
    let tens : 10 ^ suc k ≡ 10 ^ k * 10 = pow-suc 10 k in
    let above : n < 10 ^ suc (suc k) = f.1 in
    let hundreds : 10 ^ suc (suc k) ≡ 10 ^ suc k * 10 = pow-suc 10 (suc k) in
    let ten : 10 ≤ n = omega arith in
    let rest : last_digits 10 (suc k) (n / 10) ≡ decimal (n / 10) = digits_are (suc k) (n / 10) (omega arith, omega arith, (λ _. simp sub-one (omega arith))) in
    rw (lt-ltb (n % 10) 10 (omega arith), decimal_next n ten) (ap (λ (l : List ℕ). l ++ (digit (n % 10) ∷ [])) rest)

-- 20 digits hold a number of 64 bits
pub digits_fit : (k n : ℕ) → n < 18446744073709551616 → IsDigitCount 10 1 n k → k ≤ 20
digits_fit k n h f = go (leb k 20) refl
  where
    go : (b : Bool) → leb k 20 ≡ b → k ≤ 20
    go true e = leb-true k 20 e
    go false e =
        let many : 20 < k = leb-false k 20 e in
        let p : 10 ^ 20 ≤ 10 ^ (k - 1) = pow-le-pow_right (omega arith) {i = 20} {j = k - 1} (omega arith) in
        let q : 10 ^ (k - 1) ≤ n = f.2 (omega arith) in
        omega arith

-- the line of one record more
pub lines_more : (bytes : List ℕ) (first next : ℕ) → first ≤ next → lines_text bytes first (next + 1 - first) ≡ lines_text bytes first (next - first) ++ line_text (take record_size (drop (record_size * next) bytes))
unfolding lines_text
lines_more bytes first next h =
    let e : next + 1 - first ≡ suc (next - first) = omega arith in
    let f : record_size * (first + (next - first)) ≡ record_size * next = omega arith in
    ap (lines_text bytes first) e ∙ ap (λ (k : ℕ). lines_text bytes first (next - first) ++ line_text (take record_size (drop k bytes))) f

-- the lines of some records and then those of the next ones are the lines of all of them
pub lines_together : (bytes : List ℕ) (first some more : ℕ) → lines_text bytes first some ++ lines_text bytes (first + some) more ≡ lines_text bytes first (some + more)
unfolding lines_text
lines_together bytes first some zero =
    let e : some + 0 ≡ some = omega arith in
    append-nil (lines_text bytes first some) ∙ ap (lines_text bytes first) (sym e)
lines_together bytes first some (suc more) =
    let e : some + suc more ≡ suc (some + more) = omega arith in
    let f : first + some + more ≡ first + (some + more) = omega arith in
    sym (append_assoc (lines_text bytes first some) (lines_text bytes (first + some) more) (line_text (take record_size (drop (record_size * (first + some + more)) bytes))))
    ∙ ap (λ (l : List ℕ). l ++ line_text (take record_size (drop (record_size * (first + some + more)) bytes))) (lines_together bytes first some more)
    ∙ ap (λ (k : ℕ). lines_text bytes first (some + more) ++ line_text (take record_size (drop (record_size * k) bytes))) f
    ∙ ap (lines_text bytes first) (sym e)

-- an operation that no record has
pub gate_other : (op first second k : ℕ) → (op ≡ 1 → ⊥) → (op ≡ 2 → ⊥) → (op ≡ 3 → ⊥) → (op ≡ 4 → ⊥) → (op ≡ 5 → ⊥) → (op ≡ 6 → ⊥) → (op ≡ 7 → ⊥) → (op ≡ 8 → ⊥) → (op ≡ 9 → ⊥) → (op ≡ 10 → ⊥)
    → ascii "op" ++ number_text op ≡ gate_text op first second k
unfolding gate_text
gate_other op first second k a b c d e f g h i j =
    rw (ne_eqb op 1 a, ne_eqb op 2 b, ne_eqb op 3 c, ne_eqb op 4 d, ne_eqb op 5 e, ne_eqb op 6 f, ne_eqb op 7 g, ne_eqb op 8 h, ne_eqb op 9 i, ne_eqb op 10 j)

-- a condition that there is
pub condition_is : (condition bit : ℕ) → (condition ≡ 0 → ⊥) → ascii "if" ++ number_text bit ++ number_text (condition - 1) ++ ascii " " ≡ condition_text condition bit
unfolding condition_text
condition_is condition bit h = rw (ne_eqb condition 0 h)
