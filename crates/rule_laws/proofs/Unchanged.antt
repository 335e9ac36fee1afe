-- What 35 leaves as it was: the laws of specs/Twice on the check before it. Assumes nothing.
use mathlib.Core.Path.{◌≡◌, refl, sym, ap, ◌∙◌}
use mathlib.Core.List.{List, []}
use mathlib.Core.Bool.{Bool, true, false, not, ◌&&◌}
use Prim.Native.Nat.{ℕ}
use native.Mathlib.Omega.{arith}
use lib.Dec.{leb, ltb}
use lib.ListN.{length}
use Rattle.language.specs.Limits.{longest_program, most_families, most_loops}
use Rattle.language.specs.Tree.{Place, Refusal, Ending, Operand, ParameterType, Statement, Statements, Top}
use Rattle.language.specs.Read.{read}
use Rattle.language.specs.Form.{Built}
use Rattle.language.specs.Check as C
use Rattle.language.specs.Check.{Checked, good, refused, ◌>>=◌, ◌>>◌, require, all_rules, Scope, must_show, wire, same_wire, check_wires, check_bounds, in_loop, check_statement, check_statements, Declared, top_scope, check_counts, family_scope, check_family_by, check_family, check_top_by, check_top, check_tops_by, check_tops, nothing_declared, check}
use Rattle.language.specs.Rules.{no_twice, under, check_program_by}
use Rattle.language.specs.Result.{check_program}
use Rattle.rule_laws.specs.Twice.{by_cx, by_cphase, LastTestLaw, TwiceTops, HasTwice, Only, stays, becomes, CheckOnlyLaw, CheckSameLaw, AcceptedBeforeLaw, Begins, reverses, fors, BeginsIn, BeginsTop, families, ifs, statements, BeginsTops, LaterHiddenLaw, EarlierStaysLaw}
use Rattle.rule_laws.proofs.Rules.{Changes, Nowhere, changes_none, natural_by, two_by, tops_by}

-- ---- with and without the test

-- what is shown is so by the same rules
same_show : (p : Place) (s : Scope) (e : Built) → Changes (λ n. ⊥) Nowhere (must_show p (under no_twice s) e) (must_show p (under all_rules s) e)
unfolding must_show
same_show p s e = Changes.stays

-- the test for one wire, or none
one_more_lem : (p : Place) (b : Bool) → Changes (λ n. ⊥) (λ x. Unit {0} × (b ≡ true) × (p ≡ x)) (require 35 p (not (false && b))) (require 35 p (not (true && b)))
unfolding require
one_more_lem p true = Changes.becomes (tt, refl, refl)
one_more_lem p false = Changes.stays

-- the gate itself
then_after : {B : Type 0} (a b : Checked (Unit {0})) (c : Checked B) → (a >> (b >> c)) ≡ ((a >> b) >> c)
unfolding ◌>>◌
then_after (good u) b c = refl
then_after (refused n p) b c = refl

wires_last : (p : Place) (s : Scope) (c o : Operand) (e : Ending) → check_wires p (under all_rules s) c o e ≡ (check_wires p (under no_twice s) c o e >> require 35 p (not (same_wire (under all_rules s) c o)))
unfolding check_wires require ◌>>◌
wires_last p s c o e =
    ap (λ (x : Checked (Unit {0})). x >> require 35 p (not (same_wire (under all_rules s) c o))) (sym (changes_none (two_by no_twice all_rules (λ n. ⊥) same_show p s wire c o e)))
    ∙ then_after (C.check_two p (under no_twice s) wire c o e) C.fine _

pub last_test_lem : LastTestLaw
unfolding check_statement
last_test_lem x p c o s (by_cx {e = e}) = wires_last p s c o e
last_test_lem x p c o s (by_cphase {k = k} {e = e}) =
    ap (λ (x : Checked (Unit {0})). x >> check_wires p (under all_rules s) c o e) (sym (changes_none (natural_by no_twice all_rules (λ n. ⊥) same_show s k)))
    ∙ ap (λ (x : Checked (Unit {0})). C.check_natural (under no_twice s) k >> x) (wires_last p s c o e)
    ∙ then_after (C.check_natural (under no_twice s) k) (check_wires p (under no_twice s) c o e) _

pub only_tops : (xs : List Top) (d : Declared) → Only (λ p. TwiceTops p xs) (check_tops_by no_twice xs d) (check_tops xs d)
only_tops xs d = go (tops_by no_twice all_rules (λ n. ⊥) same_show (Unit {0}) one_more_lem xs d)
  where
    go : {c now : Checked Declared} → Changes (λ n. ⊥) (λ p. Unit {0} × TwiceTops p xs) c now → Only (λ p. TwiceTops p xs) c now
    go Changes.stays = stays
    go (Changes.goes_on f) = absurd f
    go (Changes.becomes t) = becomes t.1

only_then : {At : Place → Type 0} {B : Type 0} (c : Checked (Unit {0})) {next now : Checked B} → Only At next now → Only At (c >> next) (c >> now)
unfolding ◌>>◌
only_then (good a) k = k
only_then (refused n p) k = stays

pub check_only : CheckOnlyLaw
unfolding check_program_by check_program check
check_only program = only_then (require 1 0 (leb (length program) longest_program)) (only_tops (read program) nothing_declared)

pub check_same : CheckSameLaw
check_same program none = go (check_only program)
  where
    go : {c d : Checked Declared} → Only (HasTwice program) c d → d ≡ c
    go stays = refl
    go (becomes {p = p} t) = absurd (none p t)

pub accepted_before : AcceptedBeforeLaw
accepted_before program d e = go (check_only program) e
  where
    go : {b c : Checked Declared} → Only (HasTwice program) b c → c ≡ good d → b ≡ good d
    go stays e = e
    go (becomes t) e = absurd (let z : ◌≡◌ {A = ℕ} 0 1 = cc in omega arith)

-- ---- in reading order

module _ {n : Refusal} {p : Place} where
  refused_bind : {A B : Type 0} (c : Checked A) {next later : A → Checked B} → ((a : A) → next a ≡ refused n p → later a ≡ refused n p) → (c >>= next) ≡ refused n p → (c >>= later) ≡ refused n p
  unfolding ◌>>=◌
  refused_bind (good a) k e = k a e
  refused_bind (refused m q) k e = cc

  refused_then : {B : Type 0} (c : Checked (Unit {0})) {next later : Checked B} → (next ≡ refused n p → later ≡ refused n p) → (c >> next) ≡ refused n p → (c >> later) ≡ refused n p
  unfolding ◌>>◌
  refused_then (good u) k e = k e
  refused_then (refused m q) k e = cc

  -- a part after which nothing is tested
  refused_in : {A B : Type 0} (c d : Checked A) (give : A → B) (later : A → Checked B) → (c ≡ refused n p → d ≡ refused n p) → (c >>= λ a. good (give a)) ≡ refused n p → (d >>= later) ≡ refused n p
  unfolding ◌>>=◌
  refused_in (good a) d give later k e = absurd (let z : ◌≡◌ {A = ℕ} 0 1 = cc in omega arith)
  refused_in (refused m q) d give later k e = rw (k (cc)) refl

  refused_here : {B : Type 0} (c d : Checked (Unit {0})) (b : B) (later : Checked B) → (c ≡ refused n p → d ≡ refused n p) → (c >> good b) ≡ refused n p → (d >> later) ≡ refused n p
  unfolding ◌>>◌
  refused_here (good u) d b later k e = absurd (let z : ◌≡◌ {A = ℕ} 0 1 = cc in omega arith)
  refused_here (refused m q) d b later k e = rw (k (cc)) refl

  mutual
    unfolding check_statement

    hidden_statement : {x y : Statement} (s : Scope) → Begins x y → check_statement x s ≡ refused n p → check_statement y s ≡ refused n p
    hidden_statement s Begins.alike e = e
    hidden_statement s (reverses b) e = hidden_statements s b e
    hidden_statement s (fors {p = q} {low = low} {high = high} b) e =
        refused_then (require 6 q (ltb (length s.loops) most_loops)) (λ h. refused_bind (check_bounds s low high) (λ l k. hidden_statements (in_loop s l) b k) h) e

    hidden_statements : {xs ys : Statements} (s : Scope) → BeginsIn xs ys → check_statements xs s ≡ refused n p → check_statements ys s ≡ refused n p
    hidden_statements s BeginsIn.none e = absurd (let z : ◌≡◌ {A = ℕ} 0 1 = cc in omega arith)
    hidden_statements s (BeginsIn.last {x = x} {y = y} {ys = ys} b) e = refused_here (check_statement x s) (check_statement y s) tt (check_statements ys s) (λ h. hidden_statement s b h) e
    hidden_statements s (BeginsIn.next {x = x} b) e = refused_then (check_statement x s) (λ h. hidden_statements s b h) e

  hidden_family : {xs ys : Statements} (d : Declared) (v : ℕ) (types : List ParameterType) → BeginsIn xs ys → check_family d v types xs ≡ refused n p → check_family d v types ys ≡ refused n p
  unfolding check_family_by
  hidden_family {xs} {ys} d v types b e =
      refused_bind (C.kinds_of (family_scope d v []) types) (λ ks h. refused_here (check_statements xs (family_scope d v ks)) (check_statements ys (family_scope d v ks)) ks (good ks) (hidden_statements (family_scope d v ks) b) h) e

  hidden_top : {x y : Top} (d : Declared) → BeginsTop x y → check_top x d ≡ refused n p → check_top y d ≡ refused n p
  unfolding check_top_by
  hidden_top d BeginsTop.alike e = e
  hidden_top d (families {p = q} {v = v} {n = m} {types = types} {xs = xs} {ys = ys} b) e =
      refused_then (require 6 q (ltb (length d.families) most_families)) (λ h. refused_bind (check_counts q v m) (λ c k. refused_in (check_family d c.0 types xs) (check_family d c.0 types ys) _ _ (hidden_family d c.0 types b) k) h) e
  hidden_top d (ifs {p = q} {v = v} {b = o} {xs = xs} {ys = ys} b) e =
      refused_then (require 13 q (leb v 1)) (λ h. refused_then (C.check_operand (top_scope d) C.bit o) (λ k. refused_here (check_statements xs (top_scope d)) (check_statements ys (top_scope d)) d (good d) (hidden_statements (top_scope d) b) k) h) e
  hidden_top d (statements {x = x} {y = y} b) e = refused_here (check_statement x (top_scope d)) (check_statement y (top_scope d)) d (good d) (hidden_statement (top_scope d) b) e

  hidden_tops : {xs ys : List Top} (d : Declared) → BeginsTops xs ys → check_tops xs d ≡ refused n p → check_tops ys d ≡ refused n p
  unfolding check_tops_by
  hidden_tops d BeginsTops.none e = absurd (let z : ◌≡◌ {A = ℕ} 0 1 = cc in omega arith)
  hidden_tops d (BeginsTops.last {x = x} {y = y} {ys = ys} b) e = refused_in (check_top x d) (check_top y d) (λ a. a) (check_tops ys) (hidden_top d b) e
  hidden_tops d (BeginsTops.next {x = x} b) e = refused_bind (check_top x d) (λ a h. hidden_tops a b h) e

pub later_hidden : LaterHiddenLaw
later_hidden xs ys d n p b e = hidden_tops d b e

pub earlier_stays : EarlierStaysLaw
earlier_stays xs ys d n p b none e = later_hidden xs ys d n p b (go (only_tops xs d) e)
  where
    go : {b c : Checked Declared} → Only (λ q. TwiceTops q xs) b c → b ≡ refused n p → c ≡ refused n p
    go stays e = e
    go (becomes {p = q} t) e = absurd (none q t)
