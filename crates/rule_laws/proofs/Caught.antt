-- Every gate that uses one wire twice is caught: the laws of specs/Twice on programs that have one. Assumes nothing.
use mathlib.Core.Path.{◌≡◌, refl, ap, ◌∙◌, subst}
use mathlib.Core.Logic.{◌⊎◌, inl, inr}
use mathlib.Core.List.{List}
use mathlib.Core.Bool.{true, false, not, ◌&&◌}
use Prim.Native.Nat.{ℕ, ◌+◌, ◌≤◌}
use lib.Dec.{ltb}
use native.Mathlib.Omega.{arith}
use borrow.Author.Tests.{not-true, le-leb}
use lib.ListN.{length, get_elem?}
use Rattle.language.specs.Limits.{most_loops, longest_program}
use Rattle.language.specs.Tree.{Place, Ending, Index, literal, variable, operation, bad_index, Operand, element, Statement, Statements}
use Rattle.language.specs.Tree.{Top}
use Rattle.language.specs.Read.{read}
use Rattle.language.specs.Form.{Form, variable_form}
use Rattle.language.specs.Check as C
use Rattle.language.specs.Check.{Checked, good, refused, fine, require, no_leftover, in_scope, Scope, wire, form_of, check_operand, same_wire, check_wires, check_bounds, in_loop, check_statement, check_statements, Declared, top_scope, top_scope_by, family_scope, family_scope_by, check, check_tops_by, check_tops, nothing_declared}
use Rattle.language.specs.Rules.{no_twice, check_program_by}
use Rattle.language.specs.Result.{check_program, check_result, verdict, turned_down}
use Rattle.rule_laws.specs.Twice.{FormSameLaw, OneWire, wholes, elements, ActsOn, by_cx, by_cphase, TwiceAt, here, in_reverse, in_for, TwiceIn, TwiceTop, in_family, in_if, in_statement, TwiceTops, HasTwice, Only, stays, becomes, CaughtLaw, TurnedDown, TwiceRefusedLaw, BecomesLaw, EveryCallLaw}
use Rattle.language.proofs.Integers.{clash}
use Rattle.language.proofs.Safe.{not_good, both, then_both, wires_good, required}
use Rattle.language.proofs.Accepted.{TopGood, a_family, an_if, a_statement, TopsGood, and_then, tops_good}
use Rattle.language.proofs.Soundness.{checked, run_refused, instance_refused}
use Rattle.rule_laws.proofs.Twice.{same_wire_lem}
use Rattle.rule_laws.proofs.Unchanged.{check_only, only_tops, later_hidden}

-- ---- the scope does not matter

pub form_same : FormSameLaw
unfolding form_of
form_same s t (literal p n) f g x y = cc
form_same s t (variable p n e) f g x y =
    let a = then_both (no_leftover p e) (good (variable_form n)) f (then_both (require 8 p (ltb n (s.variables + length s.loops))) _ f x).1 in
    let b = then_both (no_leftover p e) (good (variable_form n)) g (then_both (require 8 p (ltb n (t.variables + length t.loops))) _ g y).1 in
    cc (a.1, b.1)
form_same s t (operation p o l r e) f g x y =
    let a = both (form_of s l) _ f x in
    let b = both (form_of s r) _ f a.second in
    let c = both (form_of t l) _ g y in
    let d = both (form_of t r) _ g c.second in
    let u : a.value ≡ c.value = form_same s t l a.value c.value a.first c.first in
    let v : b.value ≡ d.value = form_same s t r b.value d.value b.first d.first in
    let h = then_both (no_leftover p e) (C.combined p o a.value b.value) f b.second in
    let k = then_both (no_leftover p e) (C.combined p o c.value d.value) g d.second in
    cc (u, v, h.1, k.1)
form_same s t (bad_index n p) f g x y = absurd (not_good x)

-- an element that the check accepts has the form that it has in another scope
form_here : (s t : Scope) (p : Place) (n : ℕ) (i : Index) (e : Ending) (f : Form) → check_operand s wire (element p n i e) ≡ fine → form_of t i ≡ good f → form_of s i ≡ good f
unfolding check_operand
form_here s t p n i e f h k =
    let a = both (in_scope p (get_elem? s.operands n)) _ tt h in
    let b = both (form_of s i) _ tt a.second in
    b.first ∙ ap good (form_same s t i b.value f b.first k)

-- operands that are one wire in some scope are so in every scope that accepts them
one_here : (s t : Scope) (c o : Operand) → OneWire t c o → check_operand s wire c ≡ fine → check_operand s wire o ≡ fine → OneWire s c o
one_here s t c o wholes h k = wholes
one_here s t c o (elements {p = p} {q = q} {n = n} {i = i} {j = j} {e = e} {d = d} f x y) h k = elements f (form_here s t p n i e f h x) (form_here s t q n j d f k y)

-- ---- so every such gate is caught

caught_wires : (p : Place) (s t : Scope) (c o : Operand) (e : Ending) → s.rules.twice ≡ true → same_wire t c o ≡ true → check_wires p s c o e ≡ fine → ⊥
unfolding check_wires
caught_wires p s t c o e on w h =
    let a = wires_good p s c o e h in
    let b = then_both (C.check_two p s wire c o e) (require 35 p (not (s.rules.twice && same_wire s c o))) tt h in
    let n = not-true (s.rules.twice && same_wire s c o) (required 35 p (not (s.rules.twice && same_wire s c o)) b.1) in
    let y = (same_wire_lem s c o).1 (one_here s t c o ((same_wire_lem t c o).0 w) a.0 a.1) in
    let z : (true && true) ≡ false = cc (n, y, on) in
    clash z

caught_gate : {p : Place} {x : Statement} {c o : Operand} (s t : Scope) → s.rules.twice ≡ true → ActsOn x p c o → same_wire t c o ≡ true → check_statement x s ≡ fine → ⊥
unfolding check_statement
caught_gate s t on (by_cx {p = p} {c = c} {o = o} {e = e}) w h = caught_wires p s t c o e on w h
caught_gate s t on (by_cphase {p = p} {k = k} {c = c} {o = o} {e = e}) w h = caught_wires p s t c o e on w (then_both (C.check_natural s k) (check_wires p s c o e) tt h).1

mutual
  unfolding check_statement in_loop

  caught_statement : {p : Place} {x : Statement} (s : Scope) → s.rules.twice ≡ true → TwiceAt p x → check_statement x s ≡ fine → ⊥
  caught_statement s on (here t a few w) h = caught_gate s t on a w h
  caught_statement s on (in_reverse i) h = caught_statements s on i h
  caught_statement s on (in_for {q = q} {low = low} {high = high} i) h =
      let a = then_both (require 6 q (ltb (length s.loops) most_loops)) _ tt h in
      let l = both (check_bounds s low high) _ tt a.1 in
      caught_statements (in_loop s l.value) on i l.second

  caught_statements : {p : Place} {xs : Statements} (s : Scope) → s.rules.twice ≡ true → TwiceIn p xs → check_statements xs s ≡ fine → ⊥
  caught_statements s on (TwiceIn.first {x = x} {xs = xs} t) h = caught_statement s on t (then_both (check_statement x s) (check_statements xs s) tt h).0
  caught_statements s on (TwiceIn.later {x = x} {xs = xs} t) h = caught_statements s on t (then_both (check_statement x s) (check_statements xs s) tt h).1

caught_top : {p : Place} {d after : Declared} {x : Top} → TwiceTop p x → TopGood d x after → ⊥
unfolding top_scope_by family_scope_by
caught_top {d = d} (in_family t) (a_family m n ks room few count e c) = caught_statements (family_scope d m ks) refl t c
caught_top {d = d} (in_if t) (an_if l h k) = caught_statements (top_scope d) refl t k
caught_top {d = d} (in_statement t) (a_statement h) = caught_statement (top_scope d) refl t h

caught_tops : {p : Place} {d after : Declared} {xs : List Top} → TwiceTops p xs → TopsGood d xs after → ⊥
caught_tops (TwiceTops.first t) (and_then a b) = caught_top t a
caught_tops (TwiceTops.later t) (and_then a b) = caught_tops t b

pub caught : CaughtLaw
unfolding check
caught program p t d e = caught_tops t (tops_good (read program) C.nothing_declared d (checked program d e))

pub twice_refused : TwiceRefusedLaw
twice_refused program p t = go (check_program program) refl (check_only program)
  where
    how : {c : Checked Declared} (n : ℕ) (q : Place) → Only (HasTwice program) (check_program_by no_twice program) c → c ≡ refused n q → ((n ≡ 35) × HasTwice program q) ⊎ (check_program_by no_twice program ≡ refused n q)
    how n q stays e = inr e
    how n q (becomes {p = r} x) e = let y : r ≡ q = cc in inl (cc, subst (λ (z : Place). HasTwice program z) y x)

    go : (c : Checked Declared) → check_program program ≡ c → Only (HasTwice program) (check_program_by no_twice program) c → TurnedDown program
    go (good d) e o = absurd (caught program p t d e)
    go (refused n q) e o = record { number = n; place = q; is = e; how = how n q o refl }

-- ---- any other answer becomes 35

pub becomes_35 : BecomesLaw
becomes_35 xs ys d after p b t h = go (check_tops xs d) refl (only_tops xs d)
  where
    go : (c : Checked Declared) → check_tops xs d ≡ c → Only (λ q. TwiceTops q xs) (check_tops_by no_twice xs d) c → (q : Place) × TwiceTops q xs × (check_tops ys d ≡ refused 35 q)
    go c k stays = absurd (caught_tops t (tops_good xs d after (k ∙ h)))
    go c k (becomes {p = r} x) = (r, x, later_hidden xs ys d 35 r b k)

-- the check of bytes that are not too many is that of their tree
of_tree : (program : List ℕ) (q : Place) → length program ≤ longest_program → check_tops (read program) nothing_declared ≡ refused 35 q → check_result program ≡ turned_down 35 q
unfolding check_result check_program check require verdict C.◌>>◌
of_tree program q l e = rw (le-leb (length program) longest_program l) (ap (verdict {A = Declared}) e)

pub every_call : EveryCallLaw
every_call program xs after p l b t h =
    let a = becomes_35 xs (read program) nothing_declared after p b t h in
    let c = of_tree program a.0 l a.2 in
    let few : 1 ≤ (check_result program).number = rw c (omega arith) in (
      a.0,
      a.1,
      record {
        checks = c;
        runs = λ limit output. rw (run_refused program limit output few) (rw c refl);
        instances = λ family sizes limit output. rw (instance_refused program family sizes limit output few) (rw c refl);
      },
    )
