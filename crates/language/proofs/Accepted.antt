-- What an accepted program is made of: what the check of each top field has shown, and how many qubits and bits it counts.
use mathlib.Core.Path.{◌≡◌, sym, ap, ◌∙◌, subst}
use mathlib.Core.List.{List, [], ◌∷◌}
use mathlib.Core.Bool.{◌&&◌}
use Prim.Native.Nat.{ℕ, ◌+◌, ◌≤◌, ◌<◌}
use native.Mathlib.Omega.{arith}
use lib.Dec.{leb, ltb}
use borrow.Author.Tests.{leb-true, ltb-true}
use lib.ListN.{length}
use Rattle.language.specs.Limits.{most_families, most_registers, most_wires, most_bits, most_variables, most_parameters}
use Rattle.language.specs.Tree.{Place, Ending, Number, number, missing, Operand, ParameterType, Statement, Statements}
use Rattle.language.specs.Tree.{Top, family, qreg, creg, measure, reset, if, statement, bad_top}
use Rattle.language.specs.Check as C
use Rattle.language.specs.Check.{good, fine, Kind, wire, bit, check_operand, check_statement, check_statements, no_leftover, require}
use Rattle.language.specs.Sound.{qubits_of, bits_of, qubits_in, bits_in}
use Rattle.language.proofs.Integers.{and_both}
use Rattle.language.proofs.Safe.{not_good, both, then_both, one_good, two_good, required}

-- ---- top fields

pub data TopGood (d : C.Declared) : Top → C.Declared → Type 0 where
  a_family : {p : Place} {types : List ParameterType} {body : Statements} (m n : ℕ) (ks : List Kind) → length d.families < most_families → m ≤ most_variables → (1 ≤ n) × (n ≤ most_parameters)
      → C.kinds_of (C.family_scope d m []) types ≡ good ks → check_statements body (C.family_scope d m ks) ≡ fine
      → TopGood d (family p (number m) (number n) types body) (C.with_family d (record { variables = m; parameters = ks }))
  a_qreg : {p : Place} {e : Ending} (n : ℕ) → length d.registers < most_registers → d.qubits + n ≤ most_wires → TopGood d (qreg p (number n) e) (C.with_qubits d n)
  a_creg : {p : Place} {e : Ending} (n : ℕ) → length d.registers < most_registers → d.bits + n ≤ most_bits → TopGood d (creg p (number n) e) (C.with_bits d n)
  a_measure : {p : Place} {w b : Operand} {e : Ending} → check_operand (C.top_scope d) wire w ≡ fine → check_operand (C.top_scope d) bit b ≡ fine → TopGood d (measure p w b e) d
  a_reset : {p : Place} {w : Operand} {e : Ending} → check_operand (C.top_scope d) wire w ≡ fine → TopGood d (reset p w e) d
  an_if : {p : Place} {v : ℕ} {b : Operand} {ss : Statements} → v ≤ 1 → check_operand (C.top_scope d) bit b ≡ fine → check_statements ss (C.top_scope d) ≡ fine → TopGood d (if p v b ss) d
  a_statement : {x : Statement} → check_statement x (C.top_scope d) ≡ fine → TopGood d (statement x) d

same_good : {d d' : C.Declared} → good d ≡ good d' → d ≡ d'
same_good e = cc

-- the two numbers of a family, or of a family type, that are good
pub data CountsGood : (variables parameters : Number) → ℕ × ℕ → Type 0 where
  counts : {m n : ℕ} → m ≤ most_variables → (1 ≤ n) × (n ≤ most_parameters) → CountsGood (number m) (number n) (m, n)

pub counts_good : (p : Place) (variables parameters : Number) (c : ℕ × ℕ) → C.check_counts p variables parameters ≡ good c → CountsGood variables parameters c
unfolding C.check_counts C.check_number C.◌>>=◌
counts_good p (number m) (number n) c e =
    let a = then_both (require 6 p (leb m most_variables)) _ c e in
    let b = then_both (require 6 p (leb 1 n && leb n most_parameters)) _ c a.1 in
    let k = and_both (leb 1 n) (leb n most_parameters) (required 6 p _ b.0) in
    let q : (m, n) ≡ c = cc b.1 in
    subst (λ (x : ℕ × ℕ). CountsGood (number m) (number n) x) q (counts (leb-true m most_variables (required 6 p (leb m most_variables) a.0)) (leb-true 1 n k.0, leb-true n most_parameters k.1))
counts_good p (number m) missing c e = absurd (not_good (then_both (require 6 p (leb m most_variables)) _ c e).1)
counts_good p missing n c e = absurd (not_good e)

family_good : (d : C.Declared) (m : ℕ) (types : List ParameterType) (body : Statements) (ks : List Kind) → C.check_family d m types body ≡ good ks
    → (C.kinds_of (C.family_scope d m []) types ≡ good ks) × (check_statements body (C.family_scope d m ks) ≡ fine)
unfolding C.check_family_by
family_good d m types body ks e =
    let k = both (C.kinds_of (C.family_scope d m []) types) _ ks e in
    let c = then_both (check_statements body (C.family_scope d m k.value)) (good k.value) ks k.second in
    let q : k.value ≡ ks = cc c.1 in
    (subst (λ (x : List Kind). C.kinds_of (C.family_scope d m []) types ≡ good x) q k.first, subst (λ (x : List Kind). check_statements body (C.family_scope d m x) ≡ fine) q c.0)

family_declared : {v n : Number} {c : ℕ × ℕ} {p : Place} (d : C.Declared) (types : List ParameterType) (body : Statements) (ks : List Kind) → CountsGood v n c → length d.families < most_families
    → C.kinds_of (C.family_scope d c.0 []) types ≡ good ks → check_statements body (C.family_scope d c.0 ks) ≡ fine
    → TopGood d (family p v n types body) (C.with_family d (record { variables = c.0; parameters = ks }))
family_declared d types body ks (counts {m = m} {n = n} few count) room e b = a_family m n ks room few count e b

-- what the good size of a register says
record RegisterGood (registers total most n answer : ℕ) : Type 0 where
  size : answer ≡ n
  room : registers < most_registers
  fits : total + n ≤ most

register_good : (p : Place) (registers total most n : ℕ) (en : Ending) (size : ℕ) → C.check_register p registers total most (number n) en ≡ good size → RegisterGood registers total most n size
unfolding C.check_register C.check_number C.◌>>=◌
register_good p registers total most n en size e =
    let b = then_both (require 6 p (ltb registers most_registers)) _ size e in
    let c = then_both (require 7 p (leb (total + n) most)) _ size b.1 in
    let x = then_both (no_leftover p en) (good n) size c.1 in
    record {
      size = cc x.1;
      room = ltb-true registers most_registers (required 6 p _ b.0);
      fits = leb-true (total + n) most (required 7 p (leb (total + n) most) c.0);
    }

no_register : (p : Place) (registers total most : ℕ) (en : Ending) (size : ℕ) → C.check_register p registers total most missing en ≡ good size → ⊥
unfolding C.check_register C.check_number C.◌>>=◌
no_register p registers total most en size e = not_good (then_both (require 6 p (ltb registers most_registers)) _ size e).1

pub top_good : (x : Top) (d after : C.Declared) → C.check_top x d ≡ good after → TopGood d x after
unfolding C.check_top_by
top_good (family p v n types body) d d' e =
    let a = then_both (require 6 p (ltb (length d.families) most_families)) _ d' e in
    let x = both (C.check_counts p v n) _ d' a.1 in
    let y = both (C.check_family d x.value.0 types body) _ d' x.second in
    let z = family_good d x.value.0 types body y.value y.first in
    subst (λ (y : C.Declared). TopGood d (family p v n types body) y) (same_good y.second)
    (family_declared d types body y.value (counts_good p v n x.value x.first) (ltb-true (length d.families) most_families (required 6 p _ a.0)) z.0 z.1)
top_good (qreg p (number n) en) d d' e =
    let x = both (C.check_register p (length d.registers) d.qubits most_wires (number n) en) _ d' e in
    let h = register_good p _ _ _ n en x.value x.first in
    subst (λ (y : C.Declared). TopGood d (qreg p (number n) en) y) (ap (C.with_qubits d) (sym h.size) ∙ same_good x.second) (a_qreg n h.room h.fits)
top_good (qreg p missing en) d d' e = absurd (no_register p _ _ _ en _ (both (C.check_register p (length d.registers) d.qubits most_wires missing en) _ d' e).first)
top_good (creg p (number n) en) d d' e =
    let x = both (C.check_register p (length d.registers) d.bits most_bits (number n) en) _ d' e in
    let h = register_good p _ _ _ n en x.value x.first in
    subst (λ (y : C.Declared). TopGood d (creg p (number n) en) y) (ap (C.with_bits d) (sym h.size) ∙ same_good x.second) (a_creg n h.room h.fits)
top_good (creg p missing en) d d' e = absurd (no_register p _ _ _ en _ (both (C.check_register p (length d.registers) d.bits most_bits missing en) _ d' e).first)
top_good (measure p w b en) d d' e =
    let x = then_both (C.check_two p (C.top_scope d) bit w b en) (good d) d' e in
    let y = two_good p (C.top_scope d) bit w b en x.0 in
    subst (λ (y : C.Declared). TopGood d (measure p w b en) y) (same_good x.1) (a_measure y.0 y.1)
top_good (reset p w en) d d' e =
    let x = then_both (C.check_one_wire p (C.top_scope d) w en) (good d) d' e in
    subst (λ (y : C.Declared). TopGood d (reset p w en) y) (same_good x.1) (a_reset (one_good p (C.top_scope d) w en x.0))
top_good (if p v b ss) d d' e =
    let o = then_both (require 13 p (leb v 1)) _ d' e in
    let y = then_both (check_operand (C.top_scope d) bit b) _ d' o.1 in
    let x = then_both (check_statements ss (C.top_scope d)) _ d' y.1 in
    subst (λ (y : C.Declared). TopGood d (if p v b ss) y) (same_good x.1) (an_if (leb-true v 1 (required 13 p (leb v 1) o.0)) y.0 x.0)
top_good (statement x) d d' e =
    let b = then_both (check_statement x (C.top_scope d)) (good d) d' e in
    subst (λ (y : C.Declared). TopGood d (statement x) y) (same_good b.1) (a_statement b.0)
top_good (bad_top n p) d d' e = absurd (not_good e)

-- top fields that are good, one after the other
pub data TopsGood : C.Declared → List Top → C.Declared → Type 0 where
  no_more : {d : C.Declared} → TopsGood d [] d
  and_then : {d d₁ d₂ : C.Declared} {x : Top} {xs : List Top} → TopGood d x d₁ → TopsGood d₁ xs d₂ → TopsGood d (x ∷ xs) d₂

pub tops_good : (xs : List Top) (d after : C.Declared) → C.check_tops xs d ≡ good after → TopsGood d xs after
unfolding C.check_tops_by
tops_good [] d d' e = subst (λ (y : C.Declared). TopsGood d [] y) (same_good e) no_more
tops_good (x ∷ xs) d d' e =
    let b = both (C.check_top x d) (C.check_tops xs) d' e in
    and_then (top_good x d b.value b.first) (tops_good xs b.value d' b.second)

-- ---- how many qubits and bits

-- what the check has counted, and that it is few
pub record Counts (d after : C.Declared) (xs : List Top) : Type 0 where
  pub qubit_count : after.qubits ≡ d.qubits + qubits_in xs
  pub bit_count : after.bits ≡ d.bits + bits_in xs
  pub few_qubits : after.qubits ≤ most_wires
  pub few_bits : after.bits ≤ most_bits

tops_count : {d after : C.Declared} {xs : List Top} → TopsGood d xs after → d.qubits ≤ most_wires → d.bits ≤ most_bits → Counts d after xs
unfolding qubits_in bits_in qubits_of bits_of C.with_family C.with_qubits C.with_bits
tops_count no_more q b = omega arith
tops_count (and_then (a_family m n ks room few count e c) r) q b = omega (arith, tops_count r q b)
tops_count (and_then (a_qreg n room h) r) q b = omega (arith, tops_count r h b)
tops_count (and_then (a_creg n room h) r) q b = omega (arith, tops_count r q h)
tops_count (and_then (a_measure h k) r) q b = omega (arith, tops_count r q b)
tops_count (and_then (a_reset h) r) q b = omega (arith, tops_count r q b)
tops_count (and_then (an_if l h k) r) q b = omega (arith, tops_count r q b)
tops_count (and_then (a_statement h) r) q b = omega (arith, tops_count r q b)

pub program_counts : (xs : List Top) (d : C.Declared) → C.check xs ≡ good d → Counts C.nothing_declared d xs
unfolding C.check
program_counts xs d e = tops_count (tops_good xs C.nothing_declared d e) (omega arith) (omega arith)
