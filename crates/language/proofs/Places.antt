-- Where a run ends: at a place of the program, whatever the program.
use mathlib.Core.Path.{◌≡◌, refl}
use mathlib.Core.List.{List, [], ◌∷◌, ◌++◌}
use mathlib.Core.Bool.{Bool, true, false, cond, ◌&&◌}
use mathlib.Core.Option.{Option, none, some}
use Prim.Native.Nat.{ℕ, zero, suc, ◌*◌, ◌≤◌}
use native.Mathlib.Omega.{arith}
use lib.IntN.{ℤ, pos, negsuc}
use lib.Dec.{leb, ltb, eqb}
use lib.ListN.{length, get_elem?}
use Rattle.std.specs.Prelude.{◌+◌}
use Rattle.language.specs.Limits.{most_wires, record_size, most_halvings}
use Rattle.language.specs.Form.{in_range}
use Rattle.language.specs.Tree.{Place, number, missing, Index, literal, variable, operation, bad_index, Operand, whole, element, slice, passed, bad_operand, qbit, qbits, bad_type, ParameterType, plain, family_type, Argument, index, operand, bad_argument}
use Rattle.language.specs.Tree.{Statement, Statements, gate, cx, phase, cphase, call, call_parameter, reverse, for, bad_statement, nil, cons, Top, family, qreg, creg, measure, reset, if, statement, bad_top}
use Rattle.language.specs.Read.{read}
use Rattle.language.specs.Machine as M
use Rattle.language.specs.Machine.{Meaning, a_wire, a_bit, wires, bits, the_family, Direction, forward, backward, Frame, Outcome, going, ended, stuck, Run, Family, Globals}
use Rattle.language.proofs.Trees.{AllOf, FairType, FairStatement, FairStatements, FairTop, tops_fair}

module _ (size : ℕ) where
  abbrev pub EndsIn : {A : Type 0} → Outcome A → Type 0
  EndsIn (going a s) = Unit {0}
  EndsIn (ended n p s) = p ≤ size
  EndsIn stuck = Unit {0}

  pub record EndsWithin {A : Type 0} (run : Run A) : Type 0 where
    pub ends : (s : M.State) → EndsIn (run s)

  ends_after : {A B : Type 0} (o : Outcome A) (next : A → Run B) → EndsIn o → ((a : A) → EndsWithin (next a)) → EndsIn (M.after o next)
  unfolding M.after
  ends_after (going a s) next h k = (k a).ends s
  ends_after (ended n p s) next h k = h
  ends_after stuck next h k = tt

  ends_bind : {A B : Type 0} {run : Run A} {next : A → Run B} → EndsWithin run → ((a : A) → EndsWithin (next a)) → EndsWithin (M.◌>>=◌ run next)
  unfolding M.◌>>=◌
  ends_bind {run = run} {next = next} h k = record { ends = λ s. ends_after (run s) next (h.ends s) k }

  ends_then : {B : Type 0} {run : Run (Unit {0})} {next : Run B} → EndsWithin run → EndsWithin next → EndsWithin (M.◌>>◌ run next)
  unfolding M.◌>>◌
  ends_then {run = run} {next = next} h k = record { ends = λ s. ends_after (run s) (λ u. next) (h.ends s) (λ u. k) }

  ends_give : {A : Type 0} (a : A) → EndsWithin (M.give a)
  ends_give a = record { ends = λ s. tt }

  ends_nothing : {A : Type 0} → EndsWithin {A = A} M.no_meaning
  ends_nothing = record { ends = λ s. tt }

  ends_at : {A : Type 0} (n p : ℕ) → p ≤ size → EndsWithin {A = A} (M.end_at n p)
  ends_at n p h = record { ends = λ s. h }

  ends_cond : {A : Type 0} (b : Bool) {x y : Run A} → EndsWithin x → EndsWithin y → EndsWithin (cond b x y)
  ends_cond true h k = h
  ends_cond false h k = k

  ends_found : {A : Type 0} (o : Option A) → EndsWithin (M.found o)
  unfolding M.found
  ends_found none = ends_nothing
  ends_found (some a) = ends_give a

  -- ---- indexes and operands

  ends_inside : (p : Place) (z : ℤ) → p ≤ size → EndsWithin (M.inside p z)
  unfolding M.inside
  ends_inside p z h = ends_cond (in_range z) (ends_give z) (ends_at 24 p h)

  ends_index : (p : Place) (values : List ℤ) (i : Index) → p ≤ size → EndsWithin (M.evaluate p values i)
  unfolding M.evaluate
  ends_index p values (literal q n) h = ends_inside p _ h
  ends_index p values (variable q n e) h = ends_bind (ends_found (get_elem? values n)) λ z. ends_inside p z h
  ends_index p values (operation q o l r e) h = ends_bind (ends_index p values l h) λ x. ends_bind (ends_index p values r h) λ y. ends_inside p _ h
  ends_index p values (bad_index n q) h = ends_nothing

  ends_natural : (z : ℤ) → EndsWithin (M.natural_of z)
  unfolding M.natural_of
  ends_natural (pos n) = ends_give n
  ends_natural (negsuc n) = ends_nothing

  ends_halvings : (p : Place) (values : List ℤ) (i : Index) → p ≤ size → EndsWithin (M.halvings p values i)
  unfolding M.halvings
  ends_halvings p values i h = ends_bind (ends_index p values i h) ends_natural

  ends_few : (p : Place) (k : ℕ) → p ≤ size → EndsWithin (M.few_halvings p k)
  unfolding M.few_halvings
  ends_few p k h = ends_cond (leb k most_halvings) (ends_give tt) (ends_at 32 p h)

  ends_apart : (p : Place) (x y : M.Wire) → p ≤ size → EndsWithin (M.apart p x y)
  unfolding M.apart
  ends_apart p x y h = ends_cond (eqb x.number y.number) (ends_at 25 p h) (ends_give tt)

  ends_element : (m : Meaning) (z : ℤ) → EndsWithin (M.element_at m z)
  unfolding M.element_at
  ends_element (a_wire w) z = ends_nothing
  ends_element (a_bit b) z = ends_nothing
  ends_element (wires first n) (pos i) = ends_cond (ltb i n) (ends_give _) ends_nothing
  ends_element (wires first n) (negsuc i) = ends_nothing
  ends_element (bits first n) (pos i) = ends_cond (ltb i n) (ends_give _) ends_nothing
  ends_element (bits first n) (negsuc i) = ends_nothing
  ends_element (the_family n) z = ends_nothing

  ends_slice : (m : Meaning) (x y : ℤ) → EndsWithin (M.slice_at m x y)
  unfolding M.slice_at
  ends_slice (a_wire w) x y = ends_nothing
  ends_slice (a_bit b) x y = ends_nothing
  ends_slice (wires first n) x y = ends_bind (ends_natural x) λ a. ends_bind (ends_natural _) λ b. ends_bind (ends_natural _) λ c. ends_give _
  ends_slice (bits first n) x y = ends_nothing
  ends_slice (the_family n) x y = ends_nothing

  ends_operand : (p : Place) (f : Frame) (o : Operand) → p ≤ size → EndsWithin (M.meaning_of p f o)
  unfolding M.meaning_of M.run_bounds
  ends_operand p f (whole q n e) h = ends_found (get_elem? f.operands n)
  ends_operand p f (element q n i e) h = ends_bind (ends_found (get_elem? f.operands n)) λ m. ends_bind (ends_index p f.variables i h) λ z. ends_element m z
  ends_operand p f (slice q n i j e) h =
      ends_bind (ends_found (get_elem? f.operands n)) λ m. ends_bind (ends_index p f.variables i h) λ x. ends_bind (ends_index p f.variables j h) λ y. ends_slice m x y
  ends_operand p f (passed q n e) h = ends_give (the_family n)
  ends_operand p f (bad_operand n q) h = ends_nothing

  ends_as_wire : (m : Meaning) → EndsWithin (M.as_wire m)
  unfolding M.as_wire
  ends_as_wire (a_wire w) = ends_give w
  ends_as_wire (a_bit b) = ends_nothing
  ends_as_wire (wires first n) = ends_nothing
  ends_as_wire (bits first n) = ends_nothing
  ends_as_wire (the_family n) = ends_nothing

  ends_as_bit : (m : Meaning) → EndsWithin (M.as_bit m)
  unfolding M.as_bit
  ends_as_bit (a_wire w) = ends_nothing
  ends_as_bit (a_bit b) = ends_give b
  ends_as_bit (wires first n) = ends_nothing
  ends_as_bit (bits first n) = ends_nothing
  ends_as_bit (the_family n) = ends_nothing

  ends_as_family : (m : Meaning) → EndsWithin (M.as_family m)
  unfolding M.as_family
  ends_as_family (a_wire w) = ends_nothing
  ends_as_family (a_bit b) = ends_nothing
  ends_as_family (wires first n) = ends_nothing
  ends_as_family (bits first n) = ends_nothing
  ends_as_family (the_family n) = ends_give _

  ends_wire : (p : Place) (f : Frame) (o : Operand) → p ≤ size → EndsWithin (M.wire_of p f o)
  unfolding M.wire_of
  ends_wire p f o h = ends_bind (ends_operand p f o h) ends_as_wire

  ends_bit : (p : Place) (f : Frame) (o : Operand) → p ≤ size → EndsWithin (M.bit_of p f o)
  unfolding M.bit_of
  ends_bit p f o h = ends_bind (ends_operand p f o h) ends_as_bit

  ends_sizes : (p : Place) (f : Frame) (xs : List Argument) → p ≤ size → EndsWithin (M.sizes_of p f xs)
  unfolding M.sizes_of
  ends_sizes p f [] h = ends_give []
  ends_sizes p f (index q i ∷ more) h = ends_bind (ends_index p f.variables i h) λ z. ends_bind (ends_sizes p f more h) λ zs. ends_give _
  ends_sizes p f (operand q o ∷ more) h = ends_sizes p f more h
  ends_sizes p f (bad_argument n q ∷ more) h = ends_nothing

  ends_meanings : (p : Place) (f : Frame) (xs : List Argument) → p ≤ size → EndsWithin (M.meanings_of p f xs)
  unfolding M.meanings_of
  ends_meanings p f [] h = ends_give []
  ends_meanings p f (index q i ∷ more) h = ends_meanings p f more h
  ends_meanings p f (operand q o ∷ more) h = ends_bind (ends_operand p f o h) λ m. ends_bind (ends_meanings p f more h) λ ms. ends_give _
  ends_meanings p f (bad_argument n q ∷ more) h = ends_nothing

  ends_laid : (p : Place) (n : ℕ) → p ≤ size → EndsWithin (M.laid_out p n)
  unfolding M.laid_out
  ends_laid p n h = ends_cond (leb n most_wires) (ends_give tt) (ends_at 23 p h)

  ends_layout : (values : List ℤ) (next : ℕ) (types : List ParameterType) → AllOf (FairType size) types → EndsWithin (M.layout values next types)
  unfolding M.layout M.lay_wire M.lay_register M.laid_then
  ends_layout values next [] h = ends_give []
  ends_layout values next (plain (qbit p e) ∷ types) h = ends_then (ends_laid p _ h.0) (ends_bind (ends_layout values (next + 1) types h.1) λ ms. ends_give _)
  ends_layout values next (plain (qbits p i e) ∷ types) h =
      ends_bind (ends_index p values i h.0.0) λ z. ends_bind (ends_natural z) λ n. ends_then (ends_laid p _ h.0.0) (ends_bind (ends_layout values (next + n) types h.1) λ ms. ends_give _)
  ends_layout values next (plain (bad_type n p) ∷ types) h = ends_nothing
  ends_layout values next (family_type p v n xs e ∷ types) h = ends_nothing

  -- ---- statements

  -- families whose types and bodies lie in the program
  pub record FamilyWithin (f : Family) : Type 0 where
    pub types : AllOf (FairType size) f.types
    pub body : (r : Frame) → EndsWithin (f.body r)

  kept_found : (fs : List Family) (n : ℕ) → AllOf FamilyWithin fs → (f : Family) → get_elem? fs n ≡ some f → FamilyWithin f
  kept_found [] n h f e = absurd (let z : ◌≡◌ {A = ℕ} 0 1 = cc in omega arith)
  kept_found (x ∷ fs) zero h f e = let q : x ≡ f = cc in rw (← q) h.0
  kept_found (x ∷ fs) (suc n) h f e = kept_found fs n h.1 f e

  module _ (limit room : ℕ) where
    ends_step : (p : Place) → p ≤ size → EndsWithin (M.step limit room p)
    unfolding M.step
    ends_step p h = record { ends = λ s. go (ltb s.steps limit) s }
      where
        go : (b : Bool) (s : M.State) → EndsIn {A = Unit {0}} (cond b (going tt (record { records = s.records; steps = suc s.steps })) (ended 26 p s))
        go true s = tt
        go false s = h

    ends_write : (p : Place) (f : Frame) (a : M.Action) → p ≤ size → EndsWithin (M.write limit room p f a)
    unfolding M.write
    ends_write p f a h = record { ends = λ s. go (leb (record_size * suc (length s.records)) room) s }
      where
        go : (b : Bool) (s : M.State) → EndsIn {A = Unit {0}} (cond b (going tt (record { records = s.records ++ (record { action = a; condition = f.condition } ∷ []); steps = s.steps })) (ended 27 p s))
        go true s = tt
        go false s = h

    ends_rounds : (p : Place) (d : Direction) (n : ℕ) (z : ℤ) (body : ℤ → Run (Unit {0})) → p ≤ size → ((z : ℤ) → EndsWithin (body z)) → EndsWithin (M.rounds limit room p d n z body)
    unfolding M.rounds
    ends_rounds p d zero z body h k = ends_give tt
    ends_rounds p d (suc n) z body h k = ends_bind (ends_step p h) λ u. ends_bind (k z) λ v. ends_rounds p d n _ body h k

    ends_order : (d : Direction) {x y : Run (Unit {0})} → EndsWithin x → EndsWithin y → EndsWithin (M.in_order d x y)
    unfolding M.in_order
    ends_order forward h k = ends_then h k
    ends_order backward h k = ends_then k h

    ends_enter : (o : Option Family) (f : Family → Run (Unit {0})) → ((x : Family) → o ≡ some x → EndsWithin (f x)) → EndsWithin (M.◌>>=◌ (M.found o) f)
    unfolding M.found M.◌>>=◌ M.after
    ends_enter none f k = ends_nothing
    ends_enter (some x) f k = record { ends = λ s. (k x refl).ends s }

    ends_call : (p : Place) (n : ℕ) (more : List Argument) (fs : List Family) (f : Frame) → p ≤ size → AllOf FamilyWithin fs → EndsWithin (M.run_call limit room p n more fs f)
    unfolding M.run_call M.call_family M.enter M.in_call
    ends_call p n more fs f h k = ends_enter (get_elem? fs n) _ λ x e.
        ends_bind (ends_sizes p f more h) λ zs. ends_bind (ends_meanings p f more h) λ ms. ends_cond (eqb (length zs) x.variables && M.all_take x.types ms) ((kept_found fs n k x e).body (M.in_call f zs ms)) ends_nothing

    ends_parameter : (p : Place) (i : ℕ) (more : List Argument) (fs : List Family) (f : Frame) → p ≤ size → AllOf FamilyWithin fs → EndsWithin (M.run_parameter_call limit room p i more fs f)
    unfolding M.run_parameter_call
    ends_parameter p i more fs f h k = ends_bind (ends_found (get_elem? f.operands i)) λ m. ends_bind (ends_as_family m) λ n. ends_call p n more fs f h k

    mutual
      unfolding M.run_statement M.run_gate M.run_cx M.run_phase M.run_cphase M.run_reverse M.run_for M.run_bounds FairStatement

      pub ends_statement : (x : Statement) (fs : List Family) (f : Frame) → FairStatement size x → AllOf FamilyWithin fs → EndsWithin (M.run_statement limit room x fs f)
      ends_statement (gate p g o e) fs f h k = ends_then (ends_step p h.0) (ends_bind (ends_wire p f o h.0) λ w. ends_write p f _ h.0)
      ends_statement (cx p c o e) fs f h k = ends_then (ends_step p h.0) (ends_bind (ends_wire p f c h.0) λ x. ends_bind (ends_wire p f o h.0) λ y. ends_then (ends_apart p x y h.0) (ends_write p f (M.do_cx x y) h.0))
      ends_statement (phase p i o e) fs f h k = ends_then (ends_step p h.0) (ends_bind (ends_halvings p f.variables i h.0) λ n. ends_bind (ends_wire p f o h.0) λ w. ends_then (ends_few p n h.0) (ends_write p f _ h.0))
      ends_statement (cphase p i c o e) fs f h k = ends_then (ends_step p h.0) (ends_bind (ends_halvings p f.variables i h.0) λ n. ends_bind (ends_wire p f c h.0) λ x. ends_bind (ends_wire p f o h.0) λ y.
          ends_then (ends_apart p x y h.0) (ends_then (ends_few p n h.0) (ends_write p f _ h.0)))
      ends_statement (call p n more) fs f h k = ends_then (ends_step p h.0) (ends_call p n more fs f h.0 k)
      ends_statement (call_parameter p i more) fs f h k = ends_then (ends_step p h.0) (ends_parameter p i more fs f h.0 k)
      ends_statement (reverse p ss) fs f h k = ends_then (ends_step p h.0) (ends_statements ss fs _ h.1 k)
      ends_statement (for p low high ss) fs f h k = ends_then (ends_step p h.0) (ends_bind (ends_index p f.variables low h.0) λ x. ends_bind (ends_index p f.variables high h.0) λ y.
          ends_rounds p f.direction _ _ _ h.0 (λ z. ends_statements ss fs (M.in_round f z) h.3 k))
      ends_statement (bad_statement n p) fs f h k = ends_nothing

      pub ends_statements : (xs : Statements) (fs : List Family) (f : Frame) → FairStatements size xs → AllOf FamilyWithin fs → EndsWithin (M.run_statements limit room xs fs f)
      ends_statements nil fs f h k = ends_give tt
      ends_statements (cons x xs) fs f h k = ends_order f.direction (ends_statement x fs f h.0 k) (ends_statements xs fs f h.1 k)

    -- ---- top fields, whole runs and instances

    all_more : (fs : List Family) (f : Family) → AllOf FamilyWithin fs → FamilyWithin f → AllOf FamilyWithin (fs ++ (f ∷ []))
    all_more [] f h k = (k, tt)
    all_more (x ∷ fs) f h k = (h.0, all_more fs f h.1 k)

    declared_kept : (x : Top) (fs : List Family) → FairTop size x → AllOf FamilyWithin fs → AllOf FamilyWithin (M.declared limit room x fs)
    unfolding M.declared FairTop
    declared_kept (family p (number m) n types body) fs h k = all_more fs _ k (record { types = h.1; body = λ r. ends_statements body fs r h.2 k })
    declared_kept (family p missing n types body) fs h k = k
    declared_kept (qreg p n e) fs h k = k
    declared_kept (creg p n e) fs h k = k
    declared_kept (measure p w b e) fs h k = k
    declared_kept (reset p w e) fs h k = k
    declared_kept (if p v b ss) fs h k = k
    declared_kept (statement x) fs h k = k
    declared_kept (bad_top n p) fs h k = k

    all_kept : (xs : List Top) (fs : List Family) → AllOf (FairTop size) xs → AllOf FamilyWithin fs → AllOf FamilyWithin (M.all_declared limit room xs fs)
    unfolding M.all_declared
    all_kept [] fs h k = k
    all_kept (x ∷ xs) fs h k = all_kept xs (M.declared limit room x fs) h.1 (declared_kept x fs h.0 k)

    -- a part of a run that gives globals with such families on
    abbrev LeadsIn : Outcome Globals → Type 0
    LeadsIn (going g s) = AllOf FamilyWithin g.families
    LeadsIn (ended n p s) = p ≤ size
    LeadsIn stuck = Unit {0}

    record LeadsWithin (run : Run Globals) : Type 0 where
      ends : (s : M.State) → LeadsIn (run s)

    leads_after : {A : Type 0} (o : Outcome A) (next : A → Run Globals) → EndsIn o → ((a : A) → LeadsWithin (next a)) → LeadsIn (M.after o next)
    unfolding M.after
    leads_after (going a s) next h k = (k a).ends s
    leads_after (ended n p s) next h k = h
    leads_after stuck next h k = tt

    leads_bind : {A : Type 0} {run : Run A} {next : A → Run Globals} → EndsWithin run → ((a : A) → LeadsWithin (next a)) → LeadsWithin (M.◌>>=◌ run next)
    unfolding M.◌>>=◌
    leads_bind {run = run} {next = next} h k = record { ends = λ s. leads_after (run s) next (h.ends s) k }

    leads_then : {run : Run (Unit {0})} {next : Run Globals} → EndsWithin run → LeadsWithin next → LeadsWithin (M.◌>>◌ run next)
    unfolding M.◌>>◌
    leads_then {run = run} {next = next} h k = record { ends = λ s. leads_after (run s) (λ u. next) (h.ends s) (λ u. k) }

    leads_give : (g : Globals) → AllOf FamilyWithin g.families → LeadsWithin (M.give g)
    leads_give g h = record { ends = λ s. h }

    leads_nothing : LeadsWithin M.no_meaning
    leads_nothing = record { ends = λ s. tt }

    ends_act : (x : Top) (g : Globals) → FairTop size x → AllOf FamilyWithin g.families → EndsWithin (M.act_top limit room x g)
    unfolding M.act_top M.run_measure M.run_reset M.run_if FairTop
    ends_act (family p m n types body) g h k = ends_give tt
    ends_act (qreg p n e) g h k = ends_give tt
    ends_act (creg p n e) g h k = ends_give tt
    ends_act (measure p o c e) g h k =
        ends_then (ends_step p h.0) (ends_bind (ends_wire p (M.top_frame g) o h.0) λ w. ends_bind (ends_bit p (M.top_frame g) c h.0) λ b. ends_write p (M.top_frame g) _ h.0)
    ends_act (reset p o e) g h k = ends_then (ends_step p h.0) (ends_bind (ends_wire p (M.top_frame g) o h.0) λ w. ends_write p (M.top_frame g) _ h.0)
    ends_act (if p v o ss) g h k = ends_then (ends_step p h.0) (ends_bind (ends_bit p (M.top_frame g) o h.0) λ b. ends_statements ss g.families _ h.2 k)
    ends_act (statement x) g h k = ends_statement x g.families (M.top_frame g) h k
    ends_act (bad_top n p) g h k = ends_nothing

    leads_declare : (x : Top) (g : Globals) → FairTop size x → AllOf FamilyWithin g.families → LeadsWithin (M.declare_top limit room x g)
    unfolding M.declare_top M.with_families M.with_wires M.with_bits
    leads_declare (family p m n types body) g h k = leads_give _ (declared_kept (family p m n types body) g.families h k)
    leads_declare (qreg p (number n) e) g h k = leads_give _ k
    leads_declare (qreg p missing e) g h k = leads_nothing
    leads_declare (creg p (number n) e) g h k = leads_give _ k
    leads_declare (creg p missing e) g h k = leads_nothing
    leads_declare (measure p o c e) g h k = leads_give g k
    leads_declare (reset p o e) g h k = leads_give g k
    leads_declare (if p v o ss) g h k = leads_give g k
    leads_declare (statement x) g h k = leads_give g k
    leads_declare (bad_top n p) g h k = leads_nothing

    leads_top : (x : Top) (g : Globals) → FairTop size x → AllOf FamilyWithin g.families → LeadsWithin (M.run_top limit room x g)
    unfolding M.run_top
    leads_top x g h k = leads_then (ends_act x g h k) (leads_declare x g h k)

    leads_on : (o : Outcome Globals) (next : Globals → Run Globals) → LeadsIn o → ((g : Globals) → AllOf FamilyWithin g.families → EndsWithin (next g)) → EndsIn (M.after o next)
    unfolding M.after
    leads_on (going g s) next h k = (k g h).ends s
    leads_on (ended n p s) next h k = h
    leads_on stuck next h k = tt

    ends_tops : (xs : List Top) (g : Globals) → AllOf (FairTop size) xs → AllOf FamilyWithin g.families → EndsWithin (M.run_tops limit room xs g)
    unfolding M.run_tops M.◌>>=◌
    ends_tops [] g h k = ends_give g
    ends_tops (x ∷ xs) g h k = record { ends = λ s. leads_on (M.run_top limit room x g s) (M.run_tops limit room xs) ((leads_top x g h.0 k).ends s) (λ g' k'. ends_tops xs g' h.1 k') }

-- a whole run ends at a place of the program
pub run_within : (program : List ℕ) (limit room : ℕ) → EndsIn (length program) (M.run_program limit room (read program))
unfolding M.run_program
run_within program limit room = (ends_tops (length program) limit room (read program) M.nothing_yet (tops_fair program) tt).ends M.begin

-- and so does an instance
pub instance_within : (program : List ℕ) (limit room n : ℕ) (f : Family) (values : List ℤ) → get_elem? (M.all_declared limit room (read program) []) n ≡ some f
    → EndsIn (length program) (M.run_instance f values)
unfolding M.run_instance M.instance_run
instance_within program limit room n f values e =
    let k = kept_found (length program) (M.all_declared limit room (read program) []) n (all_kept (length program) limit room (read program) [] (tops_fair program) tt) f e in
    (ends_bind (length program) (ends_layout (length program) values 0 f.types k.types) (λ ms. k.body _)).ends M.begin
