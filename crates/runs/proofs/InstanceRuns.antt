-- An instance of a family, from the entry of its field. Assumes nothing.
use Prim.Native.Nat.{ℕ, ◌+◌, ◌-◌, ◌≤◌, ◌<◌}
use native.Mathlib.Omega.{arith}
use mathlib.Core.Path.{◌≡◌, refl, sym, ap, ◌∙◌, subst}
use mathlib.Core.List.{List, []}
use mathlib.Core.Option.{none, some}
use mathlib.Core.Bool.{Bool, true, false}
use lib.IntN.{ℤ}
use lib.Dec.{leb}
use borrow.Author.Tests.{leb-true, leb-false}
use lib.ListN.{length, get_or, get_elem?, take, drop}
use lib.Seq.{slice}
use Rattle.language.specs.Limits.{most_families}
use Rattle.language.specs.Tree.{Place, Refusal}
use Rattle.language.specs.Read.{fields, read, statements_by, outer_statement}
use Rattle.language.specs.Check.{Declared, check, good}
use Rattle.language.specs.Machine.{Meaning, Run, forward, always, give, end_at, no_meaning, after, layout, all_declared, begin, instance_run, run_instance, run_statements, ◌>>=◌}
use Rattle.language.specs.Lookup.{family_in, mapped, followed, meaning, declaration_of}
use Rattle.language.specs.Result.{untouched, instance_of}
use Rattle.language.proofs.Places.{EndsIn, instance_within}
use Rattle.language.proofs.Families.{family_at_lem, family_field_lem, family_past, none_past}
use Rattle.fields.specs.Table.{past_of, Listed}
use Rattle.operands.specs.Meanings.{frame_of}
use Rattle.calls.specs.Families.{Entry, declared_at, family_fields, BodyFrom}
use Rattle.calls.proofs.CallByNumber.{declared_at_lem}
use Rattle.runs.specs.Whole.{family_with}

-- a program that has fewer families
module _ (limit room : ℕ) (l : List ℕ) (d : Declared) (e : check (read l) ≡ good d) where
  pub no_family_lem : (table : List ℕ) (n k : ℕ) → Listed l table n → length table ≡ most_families → n ≤ k → family_in (read l) k ≡ none
  unfolding followed
  no_family_lem table n k s long h = go (leb most_families k) (leb-true most_families k) (leb-false most_families k)
    where
      go : (b : Bool) → (b ≡ true → most_families ≤ k) → (b ≡ false → k < most_families) → family_in (read l) k ≡ none
      go true f g = family_past (read l) d e k (f refl)
      go false f g = family_field_lem l d e k ∙ ap (λ o. followed o declaration_of) (none_past (fields 0 l) n k h (s.all (let q = g refl in omega (arith, long))))

  pub instance_none : (k : ℕ) (sizes output : List ℕ) → family_in (read l) k ≡ none → instance_of (get_elem? (all_declared limit room (read l) []) k) sizes output ≡ untouched output 20 0
  unfolding mapped instance_of
  instance_none k sizes output h = rw (family_at_lem limit room (read l) k, h) refl

module _ (limit room : ℕ) (l : List ℕ) (k at : ℕ) (e : Entry l k at) where
  pub family_is : get_elem? (all_declared limit room (read l) []) k ≡ some (family_with limit room l k at)
  unfolding mapped
  family_is = rw (family_at_lem limit room (read l) k, declared_at_lem l k at e) refl

  module _ (values : List ℤ) where
    -- the body runs with what was laid out
    pub instance_runs : (ms : List Meaning) (start : ℕ) → layout values 0 (declared_at l at).types ≡ give ms → BodyFrom l at start
        → instance_run (family_with limit room l k at) values ≡ run_statements limit room (statements_by outer_statement (fields start (slice start (past_of l at) l))) (take k (all_declared limit room (read l) [])) (frame_of forward always values ms)
    unfolding instance_run meaning ◌>>=◌ after
    instance_runs ms start h w =
        let q : at + 5 + (start - (at + 5)) ≡ start = omega (arith, w.low) in
        let b : drop (get_or l (at + 4) 0) (family_fields l at) ≡ fields start (slice start (past_of l at) l) = sym (w.rest (at + 5)) ∙ ap (λ (p : Place). fields p (slice start (past_of l at) l)) q in
        rw (h, b) refl

    pub instance_ends : (n : Refusal) (p : Place) → layout values 0 (declared_at l at).types ≡ end_at n p → instance_run (family_with limit room l k at) values ≡ end_at n p
    unfolding instance_run meaning ◌>>=◌ after
    instance_ends n p h = rw h refl

    pub instance_stuck : layout values 0 (declared_at l at).types ≡ no_meaning → instance_run (family_with limit room l k at) values ≡ no_meaning
    unfolding instance_run meaning ◌>>=◌ after
    instance_stuck h = rw h refl

    -- where a layout ends is a place of the program
    pub ends_near : (n : Refusal) (p : Place) → layout values 0 (declared_at l at).types ≡ end_at n p → p ≤ length l
    unfolding run_instance
    ends_near n p h = subst (λ (r : Run (Unit {0})). EndsIn (length l) (r begin)) (instance_ends n p h) (instance_within l limit room k (family_with limit room l k at) values family_is)
