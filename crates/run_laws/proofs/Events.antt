-- Every run of the machine goes through one list of events, whatever the step limit and the output.
use mathlib.Core.Path.{◌≡◌, refl, sym, ap, ◌∙◌, fun_ext}
use mathlib.Core.List.{List, [], ◌∷◌, ◌++◌, map}
use mathlib.Core.Bool.{Bool, true, false, cond, ◌&&◌}
use mathlib.Core.Option.{Option, none, some}
use Prim.Native.Nat.{ℕ, zero, suc, ◌+◌}
use lib.IntN.{ℤ, pos, negsuc}
use native.Mathlib.Omega.{arith}
use lib.Dec.{ltb, eqb}
use lib.ListN.{length, get_elem?}
use Rattle.language.specs.Form.{in_range}
use Rattle.language.specs.Tree as T
use Rattle.language.specs.Tree.{Place, number, missing, Index, literal, variable, operation, bad_index, Operand, whole, element, slice, passed, bad_operand, qbit, qbits, bad_type, ParameterType, family_type, Argument, index, operand, bad_argument}
use Rattle.language.specs.Tree.{Statement, Statements, gate, cx, phase, cphase, call, call_parameter, reverse, for, bad_statement, nil, cons, Top, family, qreg, creg, measure, reset, if, statement, bad_top}
use Rattle.language.specs.Machine as M
use Rattle.language.specs.Machine.{Wire, Meaning, a_wire, a_bit, wires, bits, the_family, Direction, forward, backward, Frame, State, Outcome, going, ended, stuck, Run, after, done, give, Family, Globals}
use Rattle.run_laws.specs.Ends.{Event, step_at, value_at, pair_at, halvings_at, record_at, layout_at, no_meaning, meet, meet_all, plain, Meets, RunEvents, InstanceEvents}
use Rattle.language.proofs.Runs.{after_after}
use Rattle.run_laws.proofs.Ends.{meet_append, first_law}

-- a run for each step limit and length of the output
abbrev Runs : Type 0 → Type 0
Runs A = (limit room : ℕ) → Run A

-- such runs go through the same events, and then give the same value, read at the limit and the length, or have no meaning
data Through {A B : Type 0} (at : (limit room : ℕ) → B → A) (run : Runs A) : Type 0 where
  stops : (es : List Event) → ((limit room : ℕ) → run limit room ≡ M.◌>>◌ (meet_all limit room es) M.no_meaning) → Through at run
  gives : (es : List Event) (b : B) → ((limit room : ℕ) → run limit room ≡ M.◌>>◌ (meet_all limit room es) (give (at limit room b))) → Through at run

-- a value that is the same at every limit and length
abbrev same : {A : Type 0} → (limit room : ℕ) → A → A
same limit room a = a

abbrev Passes : {A : Type 0} → Runs A → Type 0
Passes run = Through same run

-- ---- one run after the other

then_bind : {A B : Type 0} (x : Run (Unit {0})) (y : Run A) (next : A → Run B) → M.◌>>=◌ (M.◌>>◌ x y) next ≡ M.◌>>◌ x (M.◌>>=◌ y next)
unfolding M.◌>>◌ M.◌>>=◌
then_bind x y next = fun_ext (λ s. after_after (x s) (λ u. y) next)

then_assoc : {B : Type 0} (x y : Run (Unit {0})) (z : Run B) → M.◌>>◌ x (M.◌>>◌ y z) ≡ M.◌>>◌ (M.◌>>◌ x y) z
unfolding M.◌>>◌
then_assoc x y z = fun_ext (λ s. sym (after_after (x s) (λ u. y) (λ u. z)))

joined : {A : Type 0} (limit room : ℕ) (es fs : List Event) (run : Run A) → M.◌>>◌ (meet_all limit room es) (M.◌>>◌ (meet_all limit room fs) run) ≡ M.◌>>◌ (meet_all limit room (es ++ fs)) run
joined limit room es fs run = then_assoc (meet_all limit room es) (meet_all limit room fs) run ∙ ap (λ (x : Run (Unit {0})). M.◌>>◌ x run) (sym (meet_append limit room es fs))

module _ {A B : Type 0} {at : (limit room : ℕ) → B → A} where
  -- events before
  before : (es : List Event) {run all : Runs A} → ((limit room : ℕ) → all limit room ≡ M.◌>>◌ (meet_all limit room es) (run limit room)) → Through at run → Through at all
  before es e (stops fs f) = stops (es ++ fs) (λ l r. e l r ∙ ap (M.◌>>◌ (meet_all l r es)) (f l r) ∙ joined l r es fs M.no_meaning)
  before es e (gives fs b f) = gives (es ++ fs) b (λ l r. e l r ∙ ap (M.◌>>◌ (meet_all l r es)) (f l r) ∙ joined l r es fs (give (at l r b)))

  through_give : (b : B) → Through at (λ l r. give (at l r b))
  unfolding meet_all M.◌>>◌ after
  through_give b = gives [] b (λ l r. refl)

  through_nothing : Through at (λ l r. M.no_meaning)
  unfolding meet_all M.◌>>◌ after
  through_nothing = stops [] (λ l r. refl)

  through_cond : (b : Bool) {x y : Runs A} → Through at x → Through at y → Through at (λ l r. cond b (x l r) (y l r))
  through_cond true h k = h
  through_cond false h k = k

-- a value that is read at the limit and the length
through_read : {A B C D : Type 0} {at : (limit room : ℕ) → B → A} {to : (limit room : ℕ) → D → C} {run : Runs A} (next : (limit room : ℕ) → A → Run C)
    → Through at run → ((b : B) → Through to (λ l r. next l r (at l r b))) → Through to (λ l r. M.◌>>=◌ (run l r) (next l r))
unfolding M.◌>>=◌ after
through_read next (stops es e) k = stops es (λ l r. ap (λ x. M.◌>>=◌ x (next l r)) (e l r) ∙ then_bind (meet_all l r es) M.no_meaning (next l r))
through_read {at = at} next (gives es b e) k = before es (λ l r. ap (λ x. M.◌>>=◌ x (next l r)) (e l r) ∙ then_bind (meet_all l r es) (give (at l r b)) (next l r)) (k b)

-- a value that is the same at every limit and length
through_bind : {A C D : Type 0} {to : (limit room : ℕ) → D → C} {run : Runs A} {next : (limit room : ℕ) → A → Run C} → Passes run → ((a : A) → Through to (λ l r. next l r a)) → Through to (λ l r. M.◌>>=◌ (run l r) (next l r))
through_bind {next = next} h k = through_read next h k

through_then : {C D : Type 0} {to : (limit room : ℕ) → D → C} {run : Runs (Unit {0})} {next : Runs C} → Passes run → Through to next → Through to (λ l r. M.◌>>◌ (run l r) (next l r))
unfolding M.◌>>◌ M.◌>>=◌
through_then {next = next} h k = through_read (λ l r u. next l r) h (λ u. k)

-- ---- the parts that may end a run, and look-ups, which never do

through_found : {A : Type 0} (o : Option A) → Passes (λ l r. M.found o)
unfolding M.found
through_found none = through_nothing
through_found (some a) = through_give a

-- one event, and then a value
one_event : {A : Type 0} (e : Event) (a : A) {run : Runs A} → ((limit room : ℕ) (s : State) → run limit room s ≡ after (meet limit room e s) (λ u. give a)) → Passes run
unfolding meet_all M.◌>>◌ after
one_event e a h = gives (e ∷ []) a (λ l r. fun_ext (λ s. h l r s ∙ sym (after_after (meet l r e s) (λ u. done) (λ u. give a))))

kept : (o : Outcome (Unit {0})) → o ≡ after o (λ u. give tt)
unfolding after
kept (going tt s) = refl
kept (ended n p s) = refl
kept stuck = refl

through_step : (p : Place) → Passes (λ l r. M.step l r p)
unfolding meet
through_step p = one_event (step_at p) tt (λ l r s. kept (M.step l r p s))

through_write : (p : Place) (f : Frame) (a : M.Action) → Passes (λ l r. M.write l r p f a)
unfolding meet
through_write p f a = one_event (record_at p f a) tt (λ l r s. kept (M.write l r p f a s))

through_laid : (p : Place) (n : ℕ) → Passes (λ l r. M.laid_out p n)
unfolding meet
through_laid p n = one_event (layout_at p n) tt (λ l r s. kept (M.laid_out p n s))

through_inside : (p : Place) (z : ℤ) → Passes (λ l r. M.inside p z)
unfolding meet M.inside M.◌>>=◌ after
through_inside p z = one_event (value_at p z) z (λ l r s. go (in_range z) s)
  where
    go : (b : Bool) (s : State) → cond b (give z) (M.end_at 24 p) s ≡ after (after (cond b (give z) (M.end_at 24 p) s) (λ x. done)) (λ u. give z)
    go true s = refl
    go false s = refl

through_apart : (p : Place) (x y : Wire) → Passes (λ l r. M.apart p x y)
unfolding meet
through_apart p x y = one_event (pair_at p x y) tt (λ l r s. kept (M.apart p x y s))

through_few : (p : Place) (k : ℕ) → Passes (λ l r. M.few_halvings p k)
unfolding meet
through_few p k = one_event (halvings_at p k) tt (λ l r s. kept (M.few_halvings p k s))

-- ---- indexes and operands

through_index : (p : Place) (values : List ℤ) (i : Index) → Passes (λ l r. M.evaluate p values i)
unfolding M.evaluate
through_index p values (literal q n) = through_inside p _
through_index p values (variable q n e) = through_bind (through_found (get_elem? values n)) λ z. through_inside p z
through_index p values (operation q o x y e) = through_bind (through_index p values x) λ a. through_bind (through_index p values y) λ b. through_inside p _
through_index p values (bad_index n q) = through_nothing

through_natural : (z : ℤ) → Passes (λ l r. M.natural_of z)
unfolding M.natural_of
through_natural (pos n) = through_give n
through_natural (negsuc n) = through_nothing

through_halvings : (p : Place) (values : List ℤ) (i : Index) → Passes (λ l r. M.halvings p values i)
unfolding M.halvings
through_halvings p values i = through_bind (through_index p values i) through_natural

through_element : (m : Meaning) (z : ℤ) → Passes (λ l r. M.element_at m z)
unfolding M.element_at
through_element (a_wire w) z = through_nothing
through_element (a_bit b) z = through_nothing
through_element (wires first n) (pos i) = through_cond (ltb i n) (through_give _) through_nothing
through_element (wires first n) (negsuc i) = through_nothing
through_element (bits first n) (pos i) = through_cond (ltb i n) (through_give _) through_nothing
through_element (bits first n) (negsuc i) = through_nothing
through_element (the_family n) z = through_nothing

through_slice : (m : Meaning) (x y : ℤ) → Passes (λ l r. M.slice_at m x y)
unfolding M.slice_at
through_slice (a_wire w) x y = through_nothing
through_slice (a_bit b) x y = through_nothing
through_slice (wires first n) x y = through_bind (through_natural x) λ a. through_bind (through_natural _) λ b. through_bind (through_natural _) λ c. through_give _
through_slice (bits first n) x y = through_nothing
through_slice (the_family n) x y = through_nothing

through_operand : (p : Place) (f : Frame) (o : Operand) → Passes (λ l r. M.meaning_of p f o)
unfolding M.meaning_of M.run_bounds
through_operand p f (whole q n e) = through_found (get_elem? f.operands n)
through_operand p f (element q n i e) = through_bind (through_found (get_elem? f.operands n)) λ m. through_bind (through_index p f.variables i) λ z. through_element m z
through_operand p f (slice q n i j e) =
    through_bind (through_found (get_elem? f.operands n)) λ m. through_bind (through_index p f.variables i) λ x. through_bind (through_index p f.variables j) λ y. through_slice m x y
through_operand p f (passed q n e) = through_give (the_family n)
through_operand p f (bad_operand n q) = through_nothing

through_as_wire : (m : Meaning) → Passes (λ l r. M.as_wire m)
unfolding M.as_wire
through_as_wire (a_wire w) = through_give w
through_as_wire (a_bit b) = through_nothing
through_as_wire (wires first n) = through_nothing
through_as_wire (bits first n) = through_nothing
through_as_wire (the_family n) = through_nothing

through_as_bit : (m : Meaning) → Passes (λ l r. M.as_bit m)
unfolding M.as_bit
through_as_bit (a_wire w) = through_nothing
through_as_bit (a_bit b) = through_give b
through_as_bit (wires first n) = through_nothing
through_as_bit (bits first n) = through_nothing
through_as_bit (the_family n) = through_nothing

through_as_family : (m : Meaning) → Passes (λ l r. M.as_family m)
unfolding M.as_family
through_as_family (a_wire w) = through_nothing
through_as_family (a_bit b) = through_nothing
through_as_family (wires first n) = through_nothing
through_as_family (bits first n) = through_nothing
through_as_family (the_family n) = through_give _

through_wire : (p : Place) (f : Frame) (o : Operand) → Passes (λ l r. M.wire_of p f o)
unfolding M.wire_of
through_wire p f o = through_bind (through_operand p f o) through_as_wire

through_bit : (p : Place) (f : Frame) (o : Operand) → Passes (λ l r. M.bit_of p f o)
unfolding M.bit_of
through_bit p f o = through_bind (through_operand p f o) through_as_bit

through_sizes : (p : Place) (f : Frame) (xs : List Argument) → Passes (λ l r. M.sizes_of p f xs)
unfolding M.sizes_of
through_sizes p f [] = through_give []
through_sizes p f (index q i ∷ more) = through_bind (through_index p f.variables i) λ z. through_bind (through_sizes p f more) λ zs. through_give _
through_sizes p f (operand q o ∷ more) = through_sizes p f more
through_sizes p f (bad_argument n q ∷ more) = through_nothing

through_meanings : (p : Place) (f : Frame) (xs : List Argument) → Passes (λ l r. M.meanings_of p f xs)
unfolding M.meanings_of
through_meanings p f [] = through_give []
through_meanings p f (index q i ∷ more) = through_meanings p f more
through_meanings p f (operand q o ∷ more) = through_bind (through_operand p f o) λ m. through_bind (through_meanings p f more) λ ms. through_give _
through_meanings p f (bad_argument n q ∷ more) = through_nothing

through_layout : (values : List ℤ) (next : ℕ) (types : List ParameterType) → Passes (λ l r. M.layout values next types)
unfolding M.layout M.lay_wire M.lay_register M.laid_then
through_layout values next [] = through_give []
through_layout values next (T.plain (qbit p e) ∷ types) = through_then (through_laid p _) (through_bind (through_layout values (next + 1) types) λ ms. through_give _)
through_layout values next (T.plain (qbits p i e) ∷ types) =
    through_bind (through_index p values i) λ z. through_bind (through_natural z) λ n. through_then (through_laid p _) (through_bind (through_layout values (next + n) types) λ ms. through_give _)
through_layout values next (T.plain (bad_type n p) ∷ types) = through_nothing
through_layout values next (family_type p v n xs e ∷ types) = through_nothing

-- ---- families

-- a family at every limit and length
record Everywhere : Type 0 where
  variables : ℕ
  types : List ParameterType
  body : Frame → Runs (Unit {0})
  passes : (f : Frame) → Passes (body f)

abbrev family_at : (limit room : ℕ) → Everywhere → Family
family_at l r x = record { variables = x.variables; types = x.types; body = λ f. x.body f l r }

found_family : (xs : List Everywhere) (n : ℕ) → Through family_at (λ l r. M.found (get_elem? (map (family_at l r) xs) n))
unfolding M.found
found_family [] n = through_nothing
found_family (x ∷ xs) zero = through_give x
found_family (x ∷ xs) (suc n) = found_family xs n

-- ---- statements

through_rounds : (p : Place) (d : Direction) (n : ℕ) (z : ℤ) (body : ℤ → Runs (Unit {0})) → ((z : ℤ) → Passes (body z)) → Passes (λ l r. M.rounds l r p d n z (λ x. body x l r))
unfolding M.rounds
through_rounds p d zero z body k = through_give tt
through_rounds p d (suc n) z body k = through_bind (through_step p) λ u. through_bind (k z) λ v. through_rounds p d n _ body k

through_order : (d : Direction) {x y : Runs (Unit {0})} → Passes x → Passes y → Passes (λ l r. M.in_order d (x l r) (y l r))
unfolding M.in_order
through_order forward h k = through_then h k
through_order backward h k = through_then k h

through_call : (p : Place) (n : ℕ) (more : List Argument) (xs : List Everywhere) (f : Frame) → Passes (λ l r. M.run_call l r p n more (map (family_at l r) xs) f)
unfolding M.run_call M.call_family M.enter M.in_call
through_call p n more xs f = through_read _ (found_family xs n) λ x.
    through_bind (through_sizes p f more) λ zs. through_bind (through_meanings p f more) λ ms. through_cond (eqb (length zs) x.variables && M.all_take x.types ms) (x.passes (M.in_call f zs ms)) through_nothing

through_parameter : (p : Place) (i : ℕ) (more : List Argument) (xs : List Everywhere) (f : Frame) → Passes (λ l r. M.run_parameter_call l r p i more (map (family_at l r) xs) f)
unfolding M.run_parameter_call
through_parameter p i more xs f = through_bind (through_found (get_elem? f.operands i)) λ m. through_bind (through_as_family m) λ n. through_call p n more xs f

mutual
  unfolding M.run_statement M.run_gate M.run_cx M.run_phase M.run_cphase M.run_reverse M.run_for M.run_bounds

  through_statement : (x : Statement) (xs : List Everywhere) (f : Frame) → Passes (λ l r. M.run_statement l r x (map (family_at l r) xs) f)
  through_statement (gate p g o e) xs f = through_then (through_step p) (through_bind (through_wire p f o) λ w. through_write p f _)
  through_statement (cx p c o e) xs f = through_then (through_step p) (through_bind (through_wire p f c) λ x. through_bind (through_wire p f o) λ y. through_then (through_apart p x y) (through_write p f _))
  through_statement (phase p i o e) xs f = through_then (through_step p) (through_bind (through_halvings p f.variables i) λ k. through_bind (through_wire p f o) λ w. through_then (through_few p k) (through_write p f _))
  through_statement (cphase p i c o e) xs f = through_then (through_step p) (through_bind (through_halvings p f.variables i) λ k. through_bind (through_wire p f c) λ x. through_bind (through_wire p f o) λ y.
      through_then (through_apart p x y) (through_then (through_few p k) (through_write p f _)))
  through_statement (call p n more) xs f = through_then (through_step p) (through_call p n more xs f)
  through_statement (call_parameter p i more) xs f = through_then (through_step p) (through_parameter p i more xs f)
  through_statement (reverse p ss) xs f = through_then (through_step p) (through_statements ss xs _)
  through_statement (for p low high ss) xs f = through_then (through_step p) (through_bind (through_index p f.variables low) λ x. through_bind (through_index p f.variables high) λ y.
      through_rounds p f.direction _ _ (λ z l r. M.run_statements l r ss (map (family_at l r) xs) (M.in_round f z)) (λ z. through_statements ss xs (M.in_round f z)))
  through_statement (bad_statement n p) xs f = through_nothing

  through_statements : (ss : Statements) (xs : List Everywhere) (f : Frame) → Passes (λ l r. M.run_statements l r ss (map (family_at l r) xs) f)
  through_statements nil xs f = through_give tt
  through_statements (cons x ss) xs f = through_order f.direction (through_statement x xs f) (through_statements ss xs f)

-- ---- top fields, whole runs and instances

map_more : (l r : ℕ) (xs : List Everywhere) (x : Everywhere) → map (family_at l r) (xs ++ (x ∷ [])) ≡ map (family_at l r) xs ++ (family_at l r x ∷ [])
map_more l r [] x = refl
map_more l r (y ∷ xs) x = ap (λ (fs : List Family). family_at l r y ∷ fs) (map_more l r xs x)

-- what a top field declares
unfoldable declares : Top → List Everywhere → List Everywhere
declares (family p (number m) n types body) xs =
    xs ++ (record { variables = m; types = types; body = λ f l r. M.run_statements l r body (map (family_at l r) xs) f; passes = λ f. through_statements body xs f } ∷ [])
declares (family p missing n types body) xs = xs
declares (qreg p n e) xs = xs
declares (creg p n e) xs = xs
declares (measure p w b e) xs = xs
declares (reset p w e) xs = xs
declares (if p v b ss) xs = xs
declares (statement x) xs = xs
declares (bad_top n p) xs = xs

declared_at_lem : (x : Top) (xs : List Everywhere) (l r : ℕ) → M.declared l r x (map (family_at l r) xs) ≡ map (family_at l r) (declares x xs)
unfolding M.declared declares
declared_at_lem (family p (number m) n types body) xs l r = sym (map_more l r xs _)
declared_at_lem (family p missing n types body) xs l r = refl
declared_at_lem (qreg p n e) xs l r = refl
declared_at_lem (creg p n e) xs l r = refl
declared_at_lem (measure p w b e) xs l r = refl
declared_at_lem (reset p w e) xs l r = refl
declared_at_lem (if p v b ss) xs l r = refl
declared_at_lem (statement x) xs l r = refl
declared_at_lem (bad_top n p) xs l r = refl

unfoldable all_declare : List Top → List Everywhere → List Everywhere
all_declare [] xs = xs
all_declare (t ∷ ts) xs = all_declare ts (declares t xs)

all_declared_at : (ts : List Top) (xs : List Everywhere) (l r : ℕ) → M.all_declared l r ts (map (family_at l r) xs) ≡ map (family_at l r) (all_declare ts xs)
unfolding M.all_declared all_declare
all_declared_at [] xs l r = refl
all_declared_at (t ∷ ts) xs l r = ap (M.all_declared l r ts) (declared_at_lem t xs l r) ∙ all_declared_at ts (declares t xs) l r

-- what is declared so far, at every limit and length
record Global : Type 0 where
  families : List Everywhere
  registers : List Meaning
  qubits : ℕ
  bits : ℕ

abbrev globals_at : (limit room : ℕ) → Global → Globals
globals_at l r g = record { families = map (family_at l r) g.families; registers = g.registers; qubits = g.qubits; bits = g.bits }

-- the same families, and what else the machine declares
abbrev besides : Global → Globals → Global
besides g h = record { families = g.families; registers = h.registers; qubits = h.qubits; bits = h.bits }

-- a given value, up to an equation
give_at : {x : Runs Globals} (g : Global) → ((l r : ℕ) → x l r ≡ give (globals_at l r g)) → Through globals_at x
unfolding meet_all M.◌>>◌ after
give_at g e = gives [] g e

through_act : (x : Top) (g : Global) → Passes (λ l r. M.act_top l r x (globals_at l r g))
unfolding M.act_top M.run_measure M.run_reset M.run_if M.top_frame
through_act (family p m n types body) g = through_give tt
through_act (qreg p n e) g = through_give tt
through_act (creg p n e) g = through_give tt
through_act (measure p o c e) g = through_then (through_step p) (through_bind (through_wire p _ o) λ w. through_bind (through_bit p _ c) λ b. through_write p _ _)
through_act (reset p o e) g = through_then (through_step p) (through_bind (through_wire p _ o) λ w. through_write p _ _)
through_act (if p v o ss) g = through_then (through_step p) (through_bind (through_bit p _ o) λ b. through_statements ss g.families _)
through_act (statement x) g = through_statement x g.families _
through_act (bad_top n p) g = through_nothing

through_declare : (x : Top) (g : Global) → Through globals_at (λ l r. M.declare_top l r x (globals_at l r g))
unfolding M.declare_top M.with_families M.with_wires M.with_bits
through_declare (family p m n types body) g = give_at (record { families = declares (family p m n types body) g.families; registers = g.registers; qubits = g.qubits; bits = g.bits })
    (λ l r. ap (λ (fs : List Family). give (record { families = fs; registers = g.registers; qubits = g.qubits; bits = g.bits })) (declared_at_lem (family p m n types body) g.families l r))
through_declare (qreg p (number n) e) g = through_give (besides g (M.with_wires (globals_at 0 0 g) n))
through_declare (qreg p missing e) g = through_nothing
through_declare (creg p (number n) e) g = through_give (besides g (M.with_bits (globals_at 0 0 g) n))
through_declare (creg p missing e) g = through_nothing
through_declare (measure p o c e) g = through_give g
through_declare (reset p o e) g = through_give g
through_declare (if p v o ss) g = through_give g
through_declare (statement x) g = through_give g
through_declare (bad_top n p) g = through_nothing

through_top : (x : Top) (g : Global) → Through globals_at (λ l r. M.run_top l r x (globals_at l r g))
unfolding M.run_top
through_top x g = through_then (through_act x g) (through_declare x g)

through_tops : (xs : List Top) (g : Global) → Through globals_at (λ l r. M.run_tops l r xs (globals_at l r g))
unfolding M.run_tops
through_tops [] g = through_give g
through_tops (x ∷ xs) g = through_read (λ l r h. M.run_tops l r xs h) (through_top x g) λ h. through_tops xs h

-- a list of events alone
plain_after : {A : Type 0} (o : Outcome (Unit {0})) (a : A) → plain (after o (λ u. give a)) ≡ o
unfolding plain after
plain_after (going tt s) a = refl
plain_after (ended n p s) a = refl
plain_after stuck a = refl

plain_stuck : (A : Type 0) (o : Outcome (Unit {0})) (next : Run (Unit {0})) → ((s : State) → next s ≡ stuck) → plain (after {B = A} o (λ u. M.no_meaning)) ≡ after o (λ u. next)
unfolding plain after
plain_stuck A (going tt s) next h = sym (h s)
plain_stuck A (ended n p s) next h = refl
plain_stuck A stuck next h = refl

plain_ended : {A : Type 0} (o : Outcome A) (n p : ℕ) (s : State) → plain o ≡ ended n p s → o ≡ ended n p s
unfolding plain
plain_ended (going a t) n p s e = absurd (let z : ◌≡◌ {A = ℕ} 0 1 = cc in omega arith)
plain_ended (ended m q t) n p s e = cc
plain_ended stuck n p s e = absurd (let z : ◌≡◌ {A = ℕ} 0 1 = cc in omega arith)

-- runs that come to what a list of events comes to
meets : {A : Type 0} (run : (limit room : ℕ) → Outcome A) (es : List Event) → ((limit room : ℕ) → plain (run limit room) ≡ meet_all limit room es M.begin) → Meets run
unfolding plain
meets run es e = record {
  events = es;
  comes = e;
  ends = λ l r n p s f. plain_ended (run l r) n p s (e l r ∙ (first_law l r es M.begin).ends n p s f);
  only = λ l r n p s h. (first_law l r es M.begin).only n p s (sym (e l r) ∙ ap plain h);
}

through_meets : {A B : Type 0} {at : (limit room : ℕ) → B → A} {run : Runs A} → Through at run → Meets (λ l r. run l r M.begin)
unfolding M.◌>>◌ meet_all meet after
through_meets {A} {run = run} (stops es e) = meets (λ l r. run l r M.begin) (es ++ (no_meaning ∷ []))
    (λ l r. ap (λ x. plain (x M.begin)) (e l r) ∙ plain_stuck A (meet_all l r es M.begin) (meet_all l r (no_meaning ∷ [])) (λ t. refl) ∙ sym (ap (λ x. x M.begin) (meet_append l r es (no_meaning ∷ []))))
through_meets {at = at} {run = run} (gives es b e) = meets (λ l r. run l r M.begin) es (λ l r. ap (λ x. plain (x M.begin)) (e l r) ∙ plain_after (meet_all l r es M.begin) (at l r b))

pub run_events : RunEvents
unfolding M.run_program
run_events xs = through_meets (through_tops xs (record { families = []; registers = []; qubits = 0; bits = 0 }))

-- an instance of a family that is found
found_instance : (xs : List Everywhere) (n : ℕ) (values : List ℤ) → Passes (λ l r. M.◌>>=◌ (M.found (get_elem? (map (family_at l r) xs) n)) (λ f. M.instance_run f values))
unfolding M.instance_run
found_instance xs n values = through_read (λ l r f. M.instance_run f values) (found_family xs n) λ x. through_bind (through_layout values 0 x.types) λ ms. x.passes _

pub instance_events : InstanceEvents
instance_events xs n values =
    let m = through_meets (found_instance (all_declare xs []) n values) in
    meets _ m.events (λ l r. ap (λ (fs : List Family). plain (M.◌>>=◌ (M.found (get_elem? fs n)) (λ f. M.instance_run f values) M.begin)) (all_declared_at xs [] l r) ∙ m.comes l r)
