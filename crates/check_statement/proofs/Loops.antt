-- A loop: its bounds, and its body in one more open loop. Assumes nothing.
use mathlib.Core.Path.{◌≡◌, refl, sym, ap, ◌∙◌, subst}
use mathlib.Core.List.{List, [], ◌∷◌}
use Prim.Native.Nat.{ℕ, zero, suc, ◌+◌, ◌≤◌, ◌<◌}
use native.Mathlib.Omega.{arith}
use native.Mathlib.Numerals.{add-one}
use lib.Dec.{ltb}
use lib.IntN.{ℤ}
use lib.ListN.{length, drop, set, take}
use Rattle.std.proofs.lemmas.List.{get_or-take, length-take}
use lib.Seq.{get_or-set_same, get_or-set_other}
use borrow.Author.Tests.{lt-ltb, le-ltb}
use Rattle.language.specs.Tree.{Statement}
use Rattle.language.specs.Read.{Field, statements_by, for_of}
use Rattle.language.specs.Form.{Loop}
use Rattle.language.specs.Check.{Checked, refused, ◌>>=◌, ◌>>◌, check_statement, check_statements}
use Rattle.fields.specs.Header.{fields_at}
use Rattle.forms.specs.Flat.{Kept, as_form}
use Rattle.forms.specs.Rows.{Rows, loops_of, loop_at}
use Rattle.check_index.specs.Answers.{checked_part, Beyond}
use Rattle.check_index.specs.Bounds.{checked_bounds, bounds_due}
use Rattle.std.specs.Prelude.{Result, Ok, Err}
use Rattle.refusals.specs.declared.Refusal.{Refusal}
use Rattle.check_index.proofs.TwoBounds.{bounds_end, bounds_then}
use Rattle.language.specs.Check as C

module _ (part : Field → Statement) (s : C.Scope) (program : List ℕ) (at from to : ℕ) where
  abbrev in_body : Loop → Checked (Unit {0})
  in_body l = check_statements (statements_by part (drop 2 (fields_at program from to))) (C.in_loop s l)

  for_is : check_statement (for_of part at (fields_at program from to)) s ≡ (C.require 6 at (ltb (length s.loops) 8) >> (bounds_due s at (fields_at program from to) >>= in_body))
  unfolding check_statement for_of
  for_is = refl

  pub for_many : 8 ≤ length s.loops → refused 6 at ≡ check_statement (for_of part at (fields_at program from to)) s
  unfolding C.require ◌>>◌
  for_many h = sym (for_is ∙ rw (le-ltb (length s.loops) 8 h))

  module _ (few : length s.loops < 8) (r : Result ℕ Refusal) (l h : List ℤ) (e : checked_bounds r l h ≡ bounds_due s at (fields_at program from to)) where
    for_few : check_statement (for_of part at (fields_at program from to)) s ≡ (checked_bounds r l h >>= in_body)
    unfolding C.require ◌>>◌
    for_few = for_is ∙ rw (lt-ltb (length s.loops) 8 few) (ap (λ (c : Checked Loop). c >>= in_body) (sym e))

    pub for_stops : {q : Refusal} → r ≡ Err q → checked_part (Err q) ≡ check_statement (for_of part at (fields_at program from to)) s
    for_stops q = bounds_end r l h in_body q ∙ sym for_few

    pub for_good : (mid : ℕ) → r ≡ Ok mid → Beyond program from to 2 mid → check_statements (statements_by part (fields_at program mid to)) (C.in_loop s (record { low = as_form l; high = as_form h })) ≡ check_statement (for_of part at (fields_at program from to)) s
    for_good mid u b =
        sym (for_few ∙ bounds_then r l h mid in_body u
        ∙ ap (λ (fs : List Field). check_statements (statements_by part fs) (C.in_loop s (record { low = as_form l; high = as_form h }))) b.rest)

-- one more open loop in the tables
pub loops_more : (n : ℕ) (lows highs : List (List ℤ)) (l h : List ℤ) → n < length lows → n < length highs
    → loops_of (n + 1) (set lows n l) (set highs n h) ≡ (record { low = as_form l; high = as_form h } ∷ loops_of n lows highs)
unfolding loops_of
loops_more n lows highs l h x y =
    rw (add-one, get_or-set_same lows n l [] x, get_or-set_same highs n h [] y) (ap (λ (ls : List Loop). record { low = as_form l; high = as_form h } ∷ ls) (below n (omega arith)))
  where
    below : (m : ℕ) → m ≤ n → loops_of m (set lows n l) (set highs n h) ≡ loops_of m lows highs
    below zero q = refl
    below (suc m) q =
        let z : m ≡ n → ⊥ = λ e. omega arith in
        rw (get_or-set_other lows n m l [] z, get_or-set_other highs n m h [] z) (ap (λ (ls : List Loop). loop_at m lows highs ∷ ls) (below m (omega arith)))

-- bounds that are cut after the most loops
pub rows_taken : (n : ℕ) (fs : List (List ℤ)) → Rows fs n → Rows (take n fs) n
rows_taken n fs r = record {
  enough = (let e = r.enough in omega (arith, length-take n fs));
  each = λ i h. subst Kept (sym (get_or-take n fs i [] h)) (r.each i h);
}

pub loops_taken : (m n : ℕ) (lows highs : List (List ℤ)) → m ≤ n → loops_of m (take n lows) (take n highs) ≡ loops_of m lows highs
unfolding loops_of
loops_taken zero n lows highs q = refl
loops_taken (suc m) n lows highs q =
    rw (get_or-take n lows m [] (omega arith), get_or-take n highs m [] (omega arith)) (ap (λ (ls : List Loop). loop_at m lows highs ∷ ls) (loops_taken m n lows highs (omega arith)))
