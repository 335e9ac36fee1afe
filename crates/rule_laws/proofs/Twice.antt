-- A gate that uses one wire twice never runs: the laws of specs/Twice on operands that are one wire, and on such a gate. Assumes nothing.
use mathlib.Core.Path.{◌≡◌, refl, sym, ap, ◌∙◌, subst}
use mathlib.Core.List.{List, [], ◌∷◌}
use mathlib.Core.Bool.{Bool, true, false, cond}
use mathlib.Core.Option.{Option, none, some}
use Prim.Native.Nat.{ℕ, zero, suc, ◌+◌, ◌<◌}
use native.Mathlib.Omega.{arith}
use lib.IntN.{ℤ, pos, negsuc}
use lib.Dec.{ltb, eqb}
use borrow.Author.Tests.{eqb-true, eq-eqb, ltb-true}
use lib.ListN.{length, get_elem?}
use Rattle.language.specs.Limits.{all_variables}
use Rattle.language.specs.Tree.{Place, Ending, Index, literal, variable, operation, bad_index, Operand, whole, element, slice, passed, bad_operand, Statement}
use Rattle.language.specs.Form.{Form, in_range, constant_form, variable_form}
use Rattle.language.specs.Check as C
use Rattle.language.specs.Check.{Checked, good, refused, fine, Scope, form_of, no_leftover, require, equal_forms, same_wire}
use Rattle.language.specs.Machine as M
use Rattle.language.specs.Machine.{Wire, Meaning, a_wire, a_bit, wires, bits, the_family, Frame, State, Outcome, going, ended, stuck, Run, Family, begin, after, evaluate, element_at, as_wire, meaning_of, wire_of, run_statement}
use Rattle.rule_laws.specs.Twice.{OneWire, wholes, elements, SameWireLaw, ActsOn, by_cx, by_cphase, Bounded, stepped, Never, NeverRunsLaw}
use Rattle.form_laws.proofs.Equal.{same_form_lem, form_itself}
use Rattle.language.proofs.Integers.{and_both}
use Rattle.language.proofs.FormLaws.{value, Within, constant_within, constant_value, variable_within, variable_value}
use Rattle.language.proofs.Safe.{World, Held, Safe, goes, ends, Any, ok_then, ok_step, both, then_both, wires_good, required, and_is}
use Rattle.language.proofs.Fits.{Agrees, combined_sound}
use Rattle.language.proofs.Statements.{safe_cx, safe_cphase}

-- ---- operands that are one wire

equal_forms_lem : (c d : Checked Form) → equal_forms c d ≡ true → (f : Form) × (c ≡ good f) × (d ≡ good f)
unfolding equal_forms
equal_forms_lem (good f) (good g) e = (f, refl, ap good (sym (same_form_lem f g e)))
equal_forms_lem (good f) (refused n p) e = absurd (let z : ◌≡◌ {A = ℕ} 0 1 = cc in omega arith)
equal_forms_lem (refused n p) d e = absurd (let z : ◌≡◌ {A = ℕ} 0 1 = cc in omega arith)

is_one_wire : (s : Scope) (c o : Operand) → same_wire s c o ≡ true → OneWire s c o
unfolding same_wire
is_one_wire s (whole p m e) (whole q n d) h = subst (λ (k : ℕ). OneWire s (whole p m e) (whole q k d)) (eqb-true m n h) wholes
is_one_wire s (whole p m e) (element q n j d) h = absurd (let z : ◌≡◌ {A = ℕ} 0 1 = cc in omega arith)
is_one_wire s (whole p m e) (slice q n j k d) h = absurd (let z : ◌≡◌ {A = ℕ} 0 1 = cc in omega arith)
is_one_wire s (whole p m e) (passed q n d) h = absurd (let z : ◌≡◌ {A = ℕ} 0 1 = cc in omega arith)
is_one_wire s (whole p m e) (bad_operand r q) h = absurd (let z : ◌≡◌ {A = ℕ} 0 1 = cc in omega arith)
is_one_wire s (element p m i e) (whole q n d) h = absurd (let z : ◌≡◌ {A = ℕ} 0 1 = cc in omega arith)
is_one_wire s (element p m i e) (element q n j d) h =
    let b = and_both (eqb m n) (equal_forms (form_of s i) (form_of s j)) h in
    let f = equal_forms_lem (form_of s i) (form_of s j) b.1 in
    subst (λ (k : ℕ). OneWire s (element p m i e) (element q k j d)) (eqb-true m n b.0) (elements f.0 f.1 f.2)
is_one_wire s (element p m i e) (slice q n j k d) h = absurd (let z : ◌≡◌ {A = ℕ} 0 1 = cc in omega arith)
is_one_wire s (element p m i e) (passed q n d) h = absurd (let z : ◌≡◌ {A = ℕ} 0 1 = cc in omega arith)
is_one_wire s (element p m i e) (bad_operand r q) h = absurd (let z : ◌≡◌ {A = ℕ} 0 1 = cc in omega arith)
is_one_wire s (slice p m i j e) o h = absurd (let z : ◌≡◌ {A = ℕ} 0 1 = cc in omega arith)
is_one_wire s (passed p m e) o h = absurd (let z : ◌≡◌ {A = ℕ} 0 1 = cc in omega arith)
is_one_wire s (bad_operand r p) o h = absurd (let z : ◌≡◌ {A = ℕ} 0 1 = cc in omega arith)

seen : (s : Scope) (c o : Operand) → OneWire s c o → same_wire s c o ≡ true
unfolding same_wire equal_forms
seen s c o (wholes {n = n}) = eq-eqb n n refl
seen s c o (elements {n = n} f h k) = and_is (eq-eqb n n refl) (rw (h, k) (form_itself f))

pub same_wire_lem : SameWireLaw
same_wire_lem s c o = (is_one_wire s c o, seen s c o)

-- ---- looking an operand up changes no state

-- a part of a run from t: it gives a value that has P, or it ends with 24, or it has no meaning
data Looked (p : Place) {A : Type 0} (P : A → Type 0) (t : State) : Outcome A → Type 0 where
  gives : {a : A} → P a → Looked p P t (going a t)
  outside : Looked p P t (ended 24 p t)
  nothing : Looked p P t stuck

record Looks (p : Place) {A : Type 0} (P : A → Type 0) (run : Run A) : Type 0 where
  looks : (t : State) → Looked p P t (run t)

module _ {p : Place} where
  looks_give : {A : Type 0} {P : A → Type 0} {a : A} → P a → Looks p P (M.give a)
  looks_give h = record { looks = λ t. gives h }

  looks_nothing : {A : Type 0} {P : A → Type 0} → Looks p P M.no_meaning
  looks_nothing = record { looks = λ t. nothing }

  looks_bind : {A B : Type 0} {P : A → Type 0} {Q : B → Type 0} {run : Run A} {next : A → Run B} → Looks p P run → ((a : A) → P a → Looks p Q (next a)) → Looks p Q (M.◌>>=◌ run next)
  unfolding M.◌>>=◌ after
  looks_bind {P} {Q} {run} {next} h k = record { looks = λ t. go t (h.looks t) }
    where
      go : {o : Outcome _} (t : State) → Looked p P t o → Looked p Q t (after o next)
      go t (gives {a = a} x) = (k a x).looks t
      go t outside = outside
      go t nothing = nothing

  looks_map : {A : Type 0} {P Q : A → Type 0} {run : Run A} → Looks p P run → ((a : A) → P a → Q a) → Looks p Q run
  looks_map {P} {Q} h k = record { looks = λ t. go t (h.looks t) }
    where
      go : {o : Outcome _} (t : State) → Looked p P t o → Looked p Q t o
      go t (gives {a = a} x) = gives (k a x)
      go t outside = outside
      go t nothing = nothing

  looks_cond : {A : Type 0} {P : A → Type 0} (b : Bool) {x y : Run A} → Looks p P x → Looks p P y → Looks p P (cond b x y)
  looks_cond true h k = h
  looks_cond false h k = k

  looks_found : {A : Type 0} (o : Option A) → Looks p (λ a. o ≡ some a) (M.found o)
  unfolding M.found
  looks_found none = looks_nothing
  looks_found (some a) = looks_give refl

  looks_inside : (z : ℤ) → Looks p (λ x. x ≡ z) (M.inside p z)
  unfolding M.inside
  looks_inside z = looks_cond (in_range z) (looks_give refl) (record { looks = λ t. outside })

  looks_natural : (z : ℤ) → Looks p Any (M.natural_of z)
  unfolding M.natural_of
  looks_natural (pos n) = looks_give tt
  looks_natural (negsuc n) = looks_nothing

  -- the wire itself, where the meaning is one
  looks_wire : (m : Meaning) → Looks p (λ x. m ≡ a_wire x) (as_wire m)
  unfolding as_wire
  looks_wire (a_wire w) = looks_give refl
  looks_wire (a_bit b) = looks_nothing
  looks_wire (wires first n) = looks_nothing
  looks_wire (bits first n) = looks_nothing
  looks_wire (the_family n) = looks_nothing

  looks_if : {A : Type 0} (a : A) (b : Bool) → Looks p (λ x. cond b (M.give a) M.no_meaning begin ≡ going x begin) (cond b (M.give a) M.no_meaning)
  looks_if a true = looks_give refl
  looks_if a false = looks_nothing

  looks_element : (m : Meaning) (z : ℤ) → Looks p (λ x. element_at m z begin ≡ going x begin) (element_at m z)
  unfolding element_at
  looks_element (a_wire w) z = looks_nothing
  looks_element (a_bit b) z = looks_nothing
  looks_element (wires first n) (pos i) = looks_if _ (ltb i n)
  looks_element (wires first n) (negsuc i) = looks_nothing
  looks_element (bits first n) (pos i) = looks_if _ (ltb i n)
  looks_element (bits first n) (negsuc i) = looks_nothing
  looks_element (the_family n) z = looks_nothing

found_below : (zs : List ℤ) (n : ℕ) (z : ℤ) → get_elem? zs n ≡ some z → n < length zs
found_below [] n z e = absurd (let z : ◌≡◌ {A = ℕ} 0 1 = cc in omega arith)
found_below (x ∷ zs) zero z e = omega arith
found_below (x ∷ zs) (suc n) z e = omega (arith, found_below zs n z e)

module _ {p : Place} (s : Scope) (zs : List ℤ) (few : Bounded s) where
  -- an index that has a value, in whatever frame, has the value of its form
  looks_index : (i : Index) → Looks p (λ z. (f : Form) → form_of s i ≡ good f → Within (length zs) f × (z ≡ value f zs)) (evaluate p zs i)
  unfolding form_of evaluate
  looks_index (literal q n) = looks_map (looks_inside (pos n)) λ z h f e.
      let g : constant_form (pos n) ≡ f = cc in
      subst (λ (x : Form). Within (length zs) x × (z ≡ value x zs)) g (constant_within (length zs) (pos n), h ∙ sym (constant_value (pos n) zs))
  looks_index (variable q n en) = looks_bind (looks_found (get_elem? zs n)) λ x u. looks_map (looks_inside x) λ z h f e.
      let b = then_both (require 8 q (ltb n (s.variables + length s.loops))) _ f e in
      let c = then_both (no_leftover q en) _ f b.1 in
      let g : variable_form n ≡ f = cc c.1 in
      let k : n < all_variables = omega (arith, few, ltb-true n (s.variables + length s.loops) (required 8 q (ltb n (s.variables + length s.loops)) b.0)) in
      subst (λ (x : Form). Within (length zs) x × (z ≡ value x zs)) g (variable_within n (length zs) (found_below zs n x u), h ∙ sym (variable_value n zs x k u))
  looks_index (operation q o l r en) = looks_bind (looks_index l) λ x u. looks_bind (looks_index r) λ y v. looks_map (looks_inside (M.operate o x y)) λ z h f e.
      let a = both (form_of s l) _ f e in
      let b = both (form_of s r) _ f a.second in
      let t = then_both (no_leftover q en) _ f b.second in
      let x' = u a.value a.first in
      let y' = v b.value b.first in
      let c = combined_sound q o a.value b.value f zs t.1 x'.0 y'.0 in
      (c.0, cc (h, c.1, x'.1, y'.1))
  looks_index (bad_index n q) = looks_nothing

-- ---- so both operands stand for one wire

-- the operand n is this wire; its element at z is this meaning
abbrev WholeIs : Frame → ℕ → Wire → Type 0
WholeIs r n x = get_elem? r.operands n ≡ some (a_wire x)

abbrev ElementIs : Frame → ℕ → ℤ → Meaning → Type 0
ElementIs r n z y = (m : Meaning) × (get_elem? r.operands n ≡ some m) × (element_at m z begin ≡ going y begin)

-- each is so of one wire at most
whole_one : (r : Frame) (n : ℕ) (x y : Wire) → WholeIs r n x → WholeIs r n y → x ≡ y
whole_one r n x y h k = cc

element_one : (r : Frame) (n : ℕ) (z : ℤ) (x y : Wire) → ElementIs r n z (a_wire x) → ElementIs r n z (a_wire y) → x ≡ y
element_one r n z x y h k =
    let m : h.0 ≡ k.0 = cc (h.1, k.1) in
    cc (m, h.2, k.2)

module _ {p : Place} (r : Frame) where
  whole_wire : (q : Place) (n : ℕ) (e : Ending) → Looks p (WholeIs r n) (wire_of p r (whole q n e))
  unfolding wire_of meaning_of
  whole_wire q n e = looks_bind (looks_found (get_elem? r.operands n)) λ m h. looks_map (looks_wire m) λ x k. h ∙ ap some k

  module _ (s : Scope) (few : Bounded s) (i : Index) (f : Form) (is : form_of s i ≡ good f) where
    element_meaning : (q : Place) (n : ℕ) (e : Ending) → Looks p (ElementIs r n (value f r.variables)) (meaning_of p r (element q n i e))
    unfolding meaning_of
    element_meaning q n e = looks_bind (looks_found (get_elem? r.operands n)) λ m h. looks_bind (looks_index s r.variables few i) λ z k. looks_map (looks_element m z) λ y l.
        (m, h, subst (λ (v : ℤ). element_at m v begin ≡ going y begin) (k f is).1 l)

    element_wire : (q : Place) (n : ℕ) (e : Ending) → Looks p (λ x. ElementIs r n (value f r.variables) (a_wire x)) (wire_of p r (element q n i e))
    unfolding wire_of
    element_wire q n e = looks_bind (element_meaning q n e) λ m h. looks_map (looks_wire m) λ x k. subst (λ (y : Meaning). ElementIs r n (value f r.variables) y) k h

-- ---- so the gate never runs

-- what a cx does with its operands, and a cphase after its k
abbrev on_wires : Place → Frame → (control target : Operand) → (Wire → Wire → Run (Unit {0})) → Run (Unit {0})
on_wires p r c o next = M.◌>>=◌ (wire_of p r c) λ x. M.◌>>=◌ (wire_of p r o) λ y. M.◌>>◌ (M.apart p x y) (next x y)

-- a part of a run from t ends with 24 or 25, or has no meaning
data Halted (p : Place) (t : State) : Outcome (Unit {0}) → Type 0 where
  outside : Halted p t (ended 24 p t)
  not_apart : Halted p t (ended 25 p t)
  nothing : Halted p t stuck

record Halts (p : Place) (run : Run (Unit {0})) : Type 0 where
  halts : (t : State) → Halted p t (run t)

module _ {p : Place} where
  halts_bind : {A : Type 0} {P : A → Type 0} {run : Run A} {next : A → Run (Unit {0})} → Looks p P run → ((a : A) → P a → Halts p (next a)) → Halts p (M.◌>>=◌ run next)
  unfolding M.◌>>=◌ after
  halts_bind {P} {next} h k = record { halts = λ t. go t (h.looks t) }
    where
      go : {o : Outcome _} (t : State) → Looked p P t o → Halted p t (after o next)
      go t (gives {a = a} x) = (k a x).halts t
      go t outside = outside
      go t nothing = nothing

  -- two equal wires are not apart
  halts_apart : (next : Run (Unit {0})) (x y : Wire) → x ≡ y → Halts p (M.◌>>◌ (M.apart p x y) next)
  unfolding M.apart M.◌>>◌ after
  halts_apart next x y e = rw (eq-eqb x.number y.number (ap (λ (w : Wire). w.number) e)) (record { halts = λ t. not_apart })

  halts_wires : {P : Wire → Type 0} (r : Frame) (c o : Operand) (next : Wire → Wire → Run (Unit {0})) → ((x y : Wire) → P x → P y → x ≡ y) → Looks p P (wire_of p r c) → Looks p P (wire_of p r o) → Halts p (on_wires p r c o next)
  halts_wires r c o next one h k = halts_bind h λ x u. halts_bind k λ y v. halts_apart (next x y) x y (one x y u v)

  halts_operands : {s : Scope} {c o : Operand} (r : Frame) (next : Wire → Wire → Run (Unit {0})) → Bounded s → OneWire s c o → Halts p (on_wires p r c o next)
  halts_operands r next few (wholes {p = q} {q = q'} {n = n} {e = e} {d = d}) = halts_wires r _ _ next (whole_one r n) (whole_wire r q n e) (whole_wire r q' n d)
  halts_operands {s} r next few (elements {p = q} {q = q'} {n = n} {i = i} {j = j} {e = e} {d = d} f h k) =
      halts_wires r _ _ next (element_one r n (value f r.variables)) (element_wire r s few i f h q n e) (element_wire r s few j f k q' n d)

  never_step : (limit room : ℕ) {run : Run (Unit {0})} → Halts p run → (t : State) → Never p t (M.◌>>◌ (M.step limit room p) run t)
  unfolding M.step M.◌>>◌ after
  never_step limit room {run} h t = go (ltb t.steps limit)
    where
      ends_so : {o : Outcome (Unit {0})} → Halted p (stepped t) o → Never p t o
      ends_so outside = Never.outside
      ends_so not_apart = Never.not_apart
      ends_so nothing = Never.no_meaning

      go : (b : Bool) → Never p t (after {A = Unit {0}} (cond b (going tt (stepped t)) (ended 26 p t)) (λ u. run))
      go true = ends_so (h.halts (stepped t))
      go false = Never.no_step

pub never_runs : NeverRunsLaw
unfolding run_statement M.run_cx M.run_cphase M.halvings
never_runs limit room x p c o s fs r t by_cx few h = never_step limit room (halts_operands r _ few (is_one_wire s c o h)) t
never_runs limit room x p c o s fs r t (by_cphase {k = k}) few h =
    never_step limit room (halts_bind (looks_bind (looks_index s r.variables few k) λ z u. looks_natural z) λ n u. halts_operands r _ few (is_one_wire s c o h)) t

not_stuck : {W : World} {o : Outcome (Unit {0})} → Safe W Any o → o ≡ stuck → ⊥
not_stuck (goes u v) e = let z : ◌≡◌ {A = ℕ} 0 1 = cc in omega arith
not_stuck (ends u v) e = let z : ◌≡◌ {A = ℕ} 0 1 = cc in omega arith

-- one that the check accepts, by whatever rules, is not stuck either: it ends with 24, 25 or 26
pub never_stuck : (W : World) (x : Statement) (p : Place) (c o : Operand) (s : Scope) (fs : List Family) (r : Frame) (t : State)
    → ActsOn x p c o → C.check_statement x s ≡ fine → Agrees W s fs r → Held W t → run_statement W.limit W.room x fs r t ≡ stuck → ⊥
unfolding C.check_statement run_statement
never_stuck W x p c o s fs r t (by_cx {e = e}) h a l =
    let b = wires_good p s c o e h in
    not_stuck ((ok_then (ok_step W a.busy p) (safe_cx p c o s fs r b.0 b.1 a)).safe t l)
never_stuck W x p c o s fs r t (by_cphase {k = k} {e = e}) h a l =
    let n = then_both (C.check_natural s k) (C.check_wires p s c o e) tt h in
    let b = wires_good p s c o e n.1 in
    not_stuck ((ok_then (ok_step W a.busy p) (safe_cphase p k c o s fs r n.0 b.0 b.1 a)).safe t l)
