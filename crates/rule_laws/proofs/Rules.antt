-- The check by two sets of rules, part by part: where its answers may differ. Assumes nothing.
use mathlib.Core.Path.{◌≡◌, refl, sym, subst}
use mathlib.Core.List.{List, [], ◌∷◌}
use mathlib.Core.Bool.{Bool, true, not, ◌&&◌}
use Prim.Native.Nat.{ℕ, zero, suc, ◌≤◌}
use native.Mathlib.Omega.{arith}
use lib.Dec.{ltb}
use borrow.Author.Tests.{ltb-true}
use lib.ListN.{length, drop}
use Rattle.language.specs.Limits.{most_variables, most_loops}
use Rattle.language.specs.Tree.{Place, Refusal, Ending, Number, Index, literal, variable, operation, bad_index, Operand, whole, element, slice, passed, bad_operand}
use Rattle.language.specs.Tree.{PlainType, qbit, qbits, bad_type, ParameterType, plain, family_type, Argument, index, operand, bad_argument}
use Rattle.language.specs.Tree.{Statement, Statements, gate, cx, phase, cphase, call, call_parameter, reverse, for, bad_statement, nil, cons, Top, family, qreg, creg, measure, reset, if, statement, bad_top}
use Rattle.language.specs.Form.{Form, Built, built, difference_of, ◌then_build◌, Loop}
use Rattle.language.specs.Check as C
use Rattle.language.specs.Check.{Checked, good, refused, ◌>>=◌, ◌>>◌, fine, require, Rules, Kind, qubit, quantum, classical, formal, Signature, Scope, form_of, must_show, Due, wire, bit, register, fitting}
use Rattle.language.specs.Check.{same_wire, check_bounds, in_loop, Declared, top_scope_by, family_scope_by, check_counts}
use Rattle.language.specs.Rules.{under}
use Rattle.rule_laws.specs.Twice.{ActsOn, by_cx, by_cphase, Bounded, TwiceAt, here, in_reverse, in_for, TwiceIn, TwiceTop, in_family, in_if, in_statement, TwiceTops}
use Rattle.language.proofs.Safe.{required}
use Rattle.language.proofs.Accepted.{CountsGood, counts, counts_good}

-- ---- two answers

-- an answer, and another: the same; anything in the place of a refusal in From; or 35 at a place in At
pub data Changes (From : Refusal → Type 0) (At : Place → Type 0) {A : Type 0} : (before now : Checked A) → Type 0 where
  stays : {c : Checked A} → Changes From At c c
  goes_on : {n : Refusal} {p : Place} {c : Checked A} → From n → Changes From At (refused n p) c
  becomes : {c : Checked A} {p : Place} → At p → Changes From At c (refused 35 p)

-- no place
abbrev pub Nowhere : Place → Type 0
Nowhere p = ⊥

module _ {From : Refusal → Type 0} {At : Place → Type 0} where
  same : {A : Type 0} {c d : Checked A} → c ≡ d → Changes From At c d
  same {A} {c} {d} e = subst (λ (x : Checked A). Changes From At c x) e stays

  changes_bind : {A B : Type 0} {c d : Checked A} {next now : A → Checked B} → Changes From At c d → ((a : A) → Changes From At (next a) (now a)) → Changes From At (c >>= next) (d >>= now)
  unfolding ◌>>=◌
  changes_bind {c = good a} stays k = k a
  changes_bind {c = refused n p} stays k = stays
  changes_bind (goes_on f) k = goes_on f
  changes_bind (becomes t) k = becomes t

  pub changes_then : {B : Type 0} {c d : Checked (Unit {0})} {next now : Checked B} → Changes From At c d → Changes From At next now → Changes From At (c >> next) (d >> now)
  unfolding ◌>>◌
  changes_then {c = good a} stays k = k
  changes_then {c = refused n p} stays k = stays
  changes_then (goes_on f) k = goes_on f
  changes_then (becomes t) k = becomes t

  -- a part that stays, and what it was found to be
  changes_from : {A B : Type 0} (c : Checked A) {next now : A → Checked B} → ((a : A) → c ≡ good a → Changes From At (next a) (now a)) → Changes From At (c >>= next) (c >>= now)
  unfolding ◌>>=◌
  changes_from (good a) k = k a refl
  changes_from (refused n p) k = stays

  changes_after : {B : Type 0} (c : Checked (Unit {0})) {next now : Checked B} → (c ≡ fine → Changes From At next now) → Changes From At (c >> next) (c >> now)
  unfolding ◌>>◌
  changes_after (good u) k = k refl
  changes_after (refused n p) k = stays

changes_map : {From : Refusal → Type 0} {At To : Place → Type 0} {A : Type 0} {c d : Checked A} → ((p : Place) → At p → To p) → Changes From At c d → Changes From To c d
changes_map f stays = stays
changes_map f (goes_on n) = goes_on n
changes_map f (becomes {p = p} t) = becomes (f p t)

-- nothing changes anywhere
pub changes_none : {A : Type 0} {c d : Checked A} → Changes (λ n. ⊥) Nowhere c d → c ≡ d
changes_none stays = refl
changes_none (goes_on f) = absurd f
changes_none (becomes t) = absurd t

-- ---- what asks for no rule

module _ (r q : Rules) where
  form_by : (s : Scope) (i : Index) → form_of (under r s) i ≡ form_of (under q s) i
  unfolding form_of
  form_by s (literal p n) = refl
  form_by s (variable p n e) = refl
  form_by s (operation p o l m e) = simp (form_by s l, form_by s m)
  form_by s (bad_index n p) = refl

  bounds_by : (s : Scope) (low high : Index) → check_bounds (under r s) low high ≡ check_bounds (under q s) low high
  unfolding check_bounds
  bounds_by s low high = simp (form_by s low, form_by s high)

  before_by : (s : Scope) (n : ℕ) (o : Operand) → C.declared_before (under r s) n o ≡ C.declared_before (under q s) n o
  unfolding C.declared_before
  before_by s n (whole p m e) = refl
  before_by s n (element p m i e) = refl
  before_by s n (slice p m i j e) = refl
  before_by s n (passed p m e) = refl
  before_by s n (bad_operand m p) = refl

  wire_by : (s : Scope) (c o : Operand) → same_wire (under r s) c o ≡ same_wire (under q s) c o
  unfolding same_wire
  wire_by s (whole p m e) (whole x n d) = refl
  wire_by s (whole p m e) (element x n j d) = refl
  wire_by s (whole p m e) (slice x n j k d) = refl
  wire_by s (whole p m e) (passed x n d) = refl
  wire_by s (whole p m e) (bad_operand n x) = refl
  wire_by s (element p m i e) (whole x n d) = refl
  wire_by s (element p m i e) (element x n j d) = simp (form_by s i, form_by s j)
  wire_by s (element p m i e) (slice x n j k d) = refl
  wire_by s (element p m i e) (passed x n d) = refl
  wire_by s (element p m i e) (bad_operand n x) = refl
  wire_by s (slice p m i j e) o = refl
  wire_by s (passed p m e) o = refl
  wire_by s (bad_operand n p) o = refl

-- ---- operands and types: what is shown by r, and by q

module _ (r q : Rules) (From : Refusal → Type 0) (show : (p : Place) (s : Scope) (e : Built) → Changes From Nowhere (must_show p (under r s) e) (must_show p (under q s) e)) where
  abbrev Moves : {A : Type 0} → Checked A → Checked A → Type 0
  Moves c d = Changes From Nowhere c d

  pub natural_by : (s : Scope) (i : Index) → Moves (C.check_natural (under r s) i) (C.check_natural (under q s) i)
  unfolding C.check_natural
  natural_by s i = changes_bind (same (form_by r q s i)) λ f. show _ s (built f)

  whole_by : (p : Place) (s : Scope) (d : Due) (k : Kind) → Moves (C.whole_fits p (under r s) d k) (C.whole_fits p (under q s) d k)
  unfolding C.whole_fits
  whole_by p s wire qubit = stays
  whole_by p s wire (quantum size) = stays
  whole_by p s wire (classical size) = stays
  whole_by p s wire (formal g) = stays
  whole_by p s bit k = stays
  whole_by p s (register i) qubit = stays
  whole_by p s (register i) (quantum size) = show p s (i then_build difference_of size)
  whole_by p s (register i) (classical size) = stays
  whole_by p s (register i) (formal g) = stays
  whole_by p s (fitting g) k = stays

  within_by : (p : Place) (s : Scope) (size i : Form) → Moves (C.check_within p (under r s) size i) (C.check_within p (under q s) size i)
  unfolding C.check_within
  within_by p s size i = changes_then (show p s (built i)) (show p s (C.room_after size i))

  slice_by : (p : Place) (s : Scope) (size first last : Form) → Moves (C.check_slice p (under r s) size first last) (C.check_slice p (under q s) size first last)
  unfolding C.check_slice
  slice_by p s size first last =
      changes_then (show p s (built first)) (changes_then (show p s (C.room_after size last)) (changes_bind stays λ n. changes_then (show p s (built n)) stays))

  slice_fits_by : (p : Place) (s : Scope) (d : Due) (k : Kind) (first last : Form) → Moves (C.slice_fits p (under r s) d k first last) (C.slice_fits p (under q s) d k first last)
  unfolding C.slice_fits
  slice_fits_by p s d k first last = changes_bind stays λ size. changes_bind (slice_by p s size first last) λ n. whole_by p s d (quantum n)

  operand_by : (s : Scope) (d : Due) (o : Operand) → Moves (C.check_operand (under r s) d o) (C.check_operand (under q s) d o)
  unfolding C.check_operand
  operand_by s d (whole p n e) = changes_bind stays λ k. changes_then stays (whole_by p s d k)
  operand_by s d (element p n i e) = changes_bind stays λ k. changes_bind (same (form_by r q s i)) λ f. changes_then stays (changes_bind stays λ size. within_by p s size f)
  operand_by s d (slice p n i j e) =
      changes_bind stays λ k. changes_bind (same (form_by r q s i)) λ first. changes_bind (same (form_by r q s j)) λ last. changes_then stays (slice_fits_by p s d k first last)
  operand_by s d (passed p n e) = stays
  operand_by s d (bad_operand n p) = stays

  forms_by : (s : Scope) (p : Place) (n : ℕ) (l : List Argument) → Moves (C.call_forms (under r s) p n l) (C.call_forms (under q s) p n l)
  unfolding C.call_forms
  forms_by s p zero l = stays
  forms_by s p (suc n) [] = stays
  forms_by s p (suc n) (index x i ∷ l) = changes_bind (same (form_by r q s i)) λ f. changes_then (show x s (built f)) (changes_bind (forms_by s p n l) λ fs. stays)
  forms_by s p (suc n) (operand x o ∷ l) = stays
  forms_by s p (suc n) (bad_argument m x ∷ l) = stays

  operands_by : (s : Scope) (p : Place) (before : ℕ) (fs : List Form) (ks : List Kind) (l : List Argument) → Moves (C.call_operands (under r s) p before fs ks l) (C.call_operands (under q s) p before fs ks l)
  unfolding C.call_operands
  operands_by s p before fs [] [] = stays
  operands_by s p before fs [] (a ∷ l) = stays
  operands_by s p before fs (k ∷ ks) [] = stays
  operands_by s p before fs (k ∷ ks) (operand x o ∷ l) = changes_then (same (before_by r q s before o)) (changes_then (operand_by s (C.taken fs k) o) (operands_by s p before fs ks l))
  operands_by s p before fs (k ∷ ks) (index x i ∷ l) = stays
  operands_by s p before fs (k ∷ ks) (bad_argument m x ∷ l) = stays

  call_fits_by : (p : Place) (s : Scope) (before : ℕ) (f : Signature) (l : List Argument) → Moves (C.call_fits p (under r s) before f l) (C.call_fits p (under q s) before f l)
  unfolding C.call_fits
  call_fits_by p s before f l = changes_bind (forms_by s p f.variables l) λ fs. operands_by s p before fs f.parameters (drop f.variables l)

  one_by : (p : Place) (s : Scope) (o : Operand) (e : Ending) → Moves (C.check_one_wire p (under r s) o e) (C.check_one_wire p (under q s) o e)
  unfolding C.check_one_wire
  one_by p s o e = changes_then (operand_by s wire o) stays

  pub two_by : (p : Place) (s : Scope) (d : Due) (w o : Operand) (e : Ending) → Moves (C.check_two p (under r s) d w o e) (C.check_two p (under q s) d w o e)
  unfolding C.check_two
  two_by p s d w o e = changes_then (operand_by s wire w) (changes_then (operand_by s d o) stays)

  call_by : (p : Place) (s : Scope) (n : ℕ) (l : List Argument) → Moves (C.check_call p (under r s) n l) (C.check_call p (under q s) n l)
  unfolding C.check_call
  call_by p s n l = changes_bind stays λ f. call_fits_by p s n f l

  parameter_call_by : (p : Place) (s : Scope) (n : ℕ) (l : List Argument) → Moves (C.check_parameter_call p (under r s) n l) (C.check_parameter_call p (under q s) n l)
  unfolding C.check_parameter_call
  parameter_call_by p s n l = changes_bind stays λ k. changes_bind stays λ g. call_fits_by p s (length s.families) (C.signature_of g) l

  plain_by_lem : (s : Scope) (x : PlainType) → Moves (C.plain_kind (under r s) x) (C.plain_kind (under q s) x)
  unfolding C.plain_kind
  plain_by_lem s (qbit p e) = stays
  plain_by_lem s (qbits p i e) = changes_bind (same (form_by r q s i)) λ f. changes_then stays (changes_then (show p s (built f)) stays)
  plain_by_lem s (bad_type n p) = stays

  kind_by_lem : (s : Scope) (x : ParameterType) → Moves (C.kind_of (under r s) x) (C.kind_of (under q s) x)
  unfolding C.kind_of
  kind_by_lem s (plain x) = plain_by_lem s x
  kind_by_lem s (family_type p m n types e) = stays

  kinds_by : (s : Scope) (xs : List ParameterType) → Moves (C.kinds_of (under r s) xs) (C.kinds_of (under q s) xs)
  unfolding C.kinds_of
  kinds_by s [] = stays
  kinds_by s (x ∷ xs) = changes_bind (kind_by_lem s x) λ k. changes_bind (kinds_by s xs) λ ks. stays

  -- ---- statements, top fields, programs: where `On` holds, 35 may come by q alone

  module _ (On : Type 0) (late : (p : Place) (b : Bool) → Changes From (λ x. On × (b ≡ true) × (p ≡ x)) (require 35 p (not (r.twice && b))) (require 35 p (not (q.twice && b)))) where
    -- in a part without such a gate
    elsewhere : {At : Place → Type 0} {A : Type 0} {c d : Checked A} → Moves c d → Changes From At c d
    elsewhere m = changes_map (λ p t. absurd t) m

    wires_by : {x : Statement} (p : Place) (s : Scope) (c o : Operand) (e : Ending) → Bounded s → ActsOn x p c o → Changes From (λ z. On × TwiceAt z x) (C.check_wires p (under r s) c o e) (C.check_wires p (under q s) c o e)
    unfolding C.check_wires
    wires_by {x} p s c o e few a =
        changes_then (elsewhere (two_by p s wire c o e))
        (subst (λ (b : Bool). Changes From (λ z. On × TwiceAt z x) (require 35 p (not (r.twice && b))) (require 35 p (not (q.twice && same_wire (under q s) c o)))) (sym (wire_by r q s c o))
        (changes_map (λ z t. (t.0, subst (λ (y : Place). TwiceAt y x) t.2 (here (under q s) a few t.1))) (late p (same_wire (under q s) c o))))

    -- the scope of a loop's body
    loop_bounded : (p : Place) (s : Scope) (l : Loop) → Bounded s → require 6 p (ltb (length s.loops) most_loops) ≡ fine → Bounded (in_loop s l)
    unfolding in_loop
    loop_bounded p s l few h = (few.0, omega (arith, ltb-true (length s.loops) most_loops (required 6 p (ltb (length s.loops) most_loops) h)))

    mutual
      unfolding C.check_statement in_loop

      statement_by_lem : (x : Statement) (s : Scope) → Bounded s → Changes From (λ p. On × TwiceAt p x) (C.check_statement x (under r s)) (C.check_statement x (under q s))
      statement_by_lem (gate p g o e) s few = elsewhere (one_by p s o e)
      statement_by_lem (cx p c o e) s few = wires_by p s c o e few by_cx
      statement_by_lem (phase p k o e) s few = elsewhere (changes_then (natural_by s k) (one_by p s o e))
      statement_by_lem (cphase p k c o e) s few = changes_then (elsewhere (natural_by s k)) (wires_by p s c o e few by_cphase)
      statement_by_lem (call p n l) s few = elsewhere (call_by p s n l)
      statement_by_lem (call_parameter p n l) s few = elsewhere (parameter_call_by p s n l)
      statement_by_lem (reverse p ss) s few = changes_map (λ z t. (t.0, in_reverse t.1)) (statements_by_lem ss s few)
      statement_by_lem (for p low high ss) s few =
          changes_after (require 6 p (ltb (length s.loops) most_loops)) λ h.
          changes_bind (same (bounds_by r q s low high)) λ l. changes_map (λ z t. (t.0, in_for t.1)) (statements_by_lem ss (in_loop s l) (loop_bounded p s l few h))
      statement_by_lem (bad_statement n p) s few = stays

      statements_by_lem : (xs : Statements) (s : Scope) → Bounded s → Changes From (λ p. On × TwiceIn p xs) (C.check_statements xs (under r s)) (C.check_statements xs (under q s))
      statements_by_lem nil s few = stays
      statements_by_lem (cons x xs) s few =
          changes_then (changes_map (λ p t. (t.0, TwiceIn.first t.1)) (statement_by_lem x s few)) (changes_map (λ p t. (t.0, TwiceIn.later t.1)) (statements_by_lem xs s few))

    counts_few : {v n : Number} {c : ℕ × ℕ} → CountsGood v n c → c.0 ≤ most_variables
    counts_few (counts few many) = few

    family_by_lem : (d : Declared) (v : ℕ) (types : List ParameterType) (body : Statements) → v ≤ most_variables → Changes From (λ p. On × TwiceIn p body) (C.check_family_by r d v types body) (C.check_family_by q d v types body)
    unfolding C.check_family_by family_scope_by
    family_by_lem d v types body few =
        changes_bind (elsewhere (kinds_by (family_scope_by r d v []) types)) λ ks. changes_then (statements_by_lem body (family_scope_by r d v ks) (few, omega arith)) stays

    top_by : (x : Top) (d : Declared) → Changes From (λ p. On × TwiceTop p x) (C.check_top_by r x d) (C.check_top_by q x d)
    unfolding C.check_top_by top_scope_by
    top_by (family p v n types body) d =
        changes_then stays (changes_from (check_counts p v n) λ c e.
        changes_bind (changes_map (λ z t. (t.0, in_family t.1)) (family_by_lem d c.0 types body (counts_few (counts_good p v n c e)))) λ ks. stays)
    top_by (qreg p n e) d = stays
    top_by (creg p n e) d = stays
    top_by (measure p w b e) d = changes_then (elsewhere (two_by p (top_scope_by r d) bit w b e)) stays
    top_by (reset p w e) d = changes_then (elsewhere (one_by p (top_scope_by r d) w e)) stays
    top_by (if p v b ss) d =
        changes_then stays (changes_then (elsewhere (operand_by (top_scope_by r d) bit b))
        (changes_then (changes_map (λ z t. (t.0, in_if t.1)) (statements_by_lem ss (top_scope_by r d) (omega arith))) stays))
    top_by (statement x) d = changes_then (changes_map (λ z t. (t.0, in_statement t.1)) (statement_by_lem x (top_scope_by r d) (omega arith))) stays
    top_by (bad_top n p) d = stays

    pub tops_by : (xs : List Top) (d : Declared) → Changes From (λ p. On × TwiceTops p xs) (C.check_tops_by r xs d) (C.check_tops_by q xs d)
    unfolding C.check_tops_by
    tops_by [] d = stays
    tops_by (x ∷ xs) d = changes_bind (changes_map (λ p t. (t.0, TwiceTops.first t.1)) (top_by x d)) λ after. changes_map (λ p t. (t.0, TwiceTops.later t.1)) (tops_by xs after)
