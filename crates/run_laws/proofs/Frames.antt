-- The frames of a run: the laws of specs/Frames. Assumes nothing.
use mathlib.Core.Path.{◌≡◌, refl, sym, ap, ◌∙◌, subst, fun_ext}
use mathlib.Core.List.{List, [], ◌∷◌, ◌++◌}
use mathlib.Core.Bool.{cond}
use Prim.Native.Nat.{ℕ, zero, suc, ◌+◌}
use native.Mathlib.Omega.{arith}
use lib.IntN.{ℤ, ◌-ℤ◌}
use lib.ListN.{length, get_elem?}
use Rattle.language.specs.Tree.{Place, number, missing, ParameterType, Argument, Statements, gate, cx, phase, cphase, call, call_parameter, reverse, for, bad_statement, nil, cons}
use Rattle.language.specs.Tree.{Top, family, qreg, creg, measure, reset, if, statement, bad_top}
use Rattle.language.specs.Machine as M
use Rattle.language.specs.Machine.{Meaning, Frame, State, Outcome, going, ended, stuck, Run, Family}
use Rattle.language.specs.Inside.{AllLie, registers_of, registers_in, meanings_laid, Gives}
use Rattle.language.specs.Sound.{qubits_of}
use Rattle.language.proofs.Inside.{lie_all, lie_parts, call_law, Yields, gives_after, yields_bind, yields_give, yields_nothing, yields_any}
use Rattle.run_laws.specs.Frames.{Leads, itself, turned, around, conditioned, called, instance_frame, SameFamily, SameFamilies, more}
use Rattle.run_laws.specs.Frames.{ReverseLaw, ForLaw, IfLaw, StatementLaw, DeclaredLaw, TopLaw, LaidOutLaw, RunLaw, InstanceLaw}
use Rattle.run_laws.specs.Frames as F

-- ---- the machine makes no others

leads_on : {f g h : Frame} → Leads f g → Leads g h → Leads f h
leads_on l itself = l
leads_on l (turned d k) = turned d (leads_on l k)
leads_on l (around z k) = around z (leads_on l k)
leads_on l (conditioned c k) = conditioned c (leads_on l k)
leads_on l (called p args values s e k) = called p args values s e (leads_on l k)

-- what is the same from a frame is the same from those that it leads to
same_on : {f g : Frame} {fs gs : List Family} → Leads f g → SameFamilies f fs gs → SameFamilies g fs gs
same_on l F.none = F.none
same_on l (more h hs) = more (record { variables = h.variables; types = h.types; body = λ g k. h.body g (leads_on l k) }) (same_on l hs)

-- what goes on after a part of a run matters only for the values that this part gives
only_given : {A B : Type 0} (run : Run A) {next then : A → Run B} → ((a : A) (s t : State) → run s ≡ going a t → next a ≡ then a) → M.◌>>=◌ run next ≡ M.◌>>=◌ run then
unfolding M.◌>>=◌ M.after
only_given {A} run {next} {then} k = fun_ext (λ s. go s (run s) refl)
  where
    go : (s : State) (o : Outcome A) → run s ≡ o → M.after o next ≡ M.after o then
    go s (going a t) e = ap (λ r. r t) (k a s t e)
    go s (ended n p t) e = refl
    go s stuck e = refl

enter_same : {f g : Frame} (a b : Family) → SameFamily f a b → Leads f g → M.enter a g ≡ M.enter b g
unfolding M.enter
enter_same {g = g} a b h l = λ i. cond (M.takes_all (h.variables i) (h.types i) (length g.variables) g.operands) (h.body g l i) M.no_meaning

call_same : (p : Place) (f : Frame) (args : List Argument) (a b : Family) → SameFamily f a b → M.call_family p f args a ≡ M.call_family p f args b
unfolding M.call_family
call_same p f args a b h =
    only_given (M.sizes_of p f args) λ zs s t d. only_given (M.meanings_of p f args) λ ms u v e. enter_same a b h (called p args zs u e itself)

found_same : {f : Frame} {fs gs : List Family} {next then : Family → Run (Unit {0})} → SameFamilies f fs gs → ((a b : Family) → SameFamily f a b → next a ≡ then b) → (n : ℕ)
    → M.◌>>=◌ (M.found (get_elem? fs n)) next ≡ M.◌>>=◌ (M.found (get_elem? gs n)) then
unfolding M.found M.◌>>=◌ M.after
found_same F.none k n = refl
found_same (more {a = a} {b = b} h hs) k zero = k a b h
found_same (more h hs) k (suc n) = found_same hs k n

one_more_lem : {f : Frame} {fs gs : List Family} {a b : Family} → SameFamilies f fs gs → SameFamily f a b → SameFamilies f (fs ++ (a ∷ [])) (gs ++ (b ∷ []))
one_more_lem F.none k = more k F.none
one_more_lem (more h hs) k = more h (one_more_lem hs k)

module _ (limit room : ℕ) where
  pub reverse_law : ReverseLaw limit room
  unfolding M.run_reverse
  reverse_law b c f h = h _ (turned _ itself)

  pub for_law : ForLaw limit room
  unfolding M.run_for
  for_law p low high b c f h =
      ap (λ (body : ℤ → Run (Unit {0})). M.run_bounds p f.variables low high λ x y. M.rounds limit room p f.direction (M.rounds_of (y -ℤ x)) (M.start_of f.direction x y) body)
      (fun_ext (λ z. h (M.in_round f z) (around z itself)))

  pub if_law : IfLaw limit room
  unfolding M.run_if
  if_law p value bit b c f h = only_given (M.bit_of p f bit) λ x s t e. h _ (conditioned _ itself)

  run_call_same : (p : Place) (n : ℕ) (args : List Argument) {fs gs : List Family} (f : Frame) → SameFamilies f fs gs → M.run_call limit room p n args fs f ≡ M.run_call limit room p n args gs f
  unfolding M.run_call
  run_call_same p n args f h = found_same h (call_same p f args) n

  parameter_same : (p : Place) (n : ℕ) (args : List Argument) {fs gs : List Family} (f : Frame) → SameFamilies f fs gs
      → M.run_parameter_call limit room p n args fs f ≡ M.run_parameter_call limit room p n args gs f
  unfolding M.run_parameter_call
  parameter_same p i args f h = only_given (M.found (get_elem? f.operands i)) λ m s t e. only_given (M.as_family m) λ n u v d. run_call_same p n args f h

  mutual
    unfolding M.run_statement

    pub statement_law : StatementLaw limit room
    statement_law (gate p g o e) fs gs f h = refl
    statement_law (cx p c o e) fs gs f h = refl
    statement_law (phase p k o e) fs gs f h = refl
    statement_law (cphase p k c o e) fs gs f h = refl
    statement_law (call p n args) fs gs f h = ap (M.◌>>◌ (M.step limit room p)) (run_call_same p n args f h)
    statement_law (call_parameter p i args) fs gs f h = ap (M.◌>>◌ (M.step limit room p)) (parameter_same p i args f h)
    statement_law (reverse p ss) fs gs f h = ap (M.◌>>◌ (M.step limit room p)) (reverse_law _ _ f (λ g l. statements_same ss fs gs g (same_on l h)))
    statement_law (for p low high ss) fs gs f h = ap (M.◌>>◌ (M.step limit room p)) (for_law p low high _ _ f (λ g l. statements_same ss fs gs g (same_on l h)))
    statement_law (bad_statement n p) fs gs f h = refl

    statements_same : (xs : Statements) (fs gs : List Family) (f : Frame) → SameFamilies f fs gs → M.run_statements limit room xs fs f ≡ M.run_statements limit room xs gs f
    statements_same nil fs gs f h = refl
    statements_same (cons x xs) fs gs f h = λ i. M.in_order f.direction (statement_law x fs gs f h i) (statements_same xs fs gs f h i)

  family_same : (m : ℕ) (types : List ParameterType) (body : Statements) {fs gs : List Family} {f : Frame} → SameFamilies f fs gs
      → SameFamily f (record { variables = m; types = types; body = M.run_statements limit room body fs }) (record { variables = m; types = types; body = M.run_statements limit room body gs })
  family_same m types body {fs} {gs} h = record { variables = refl; types = refl; body = λ g l. statements_same body fs gs g (same_on l h) }

  pub declared_law : DeclaredLaw limit room
  unfolding M.declared
  declared_law (family p (number m) n types body) fs gs f h = one_more_lem h (family_same m types body h)
  declared_law (family p missing n types body) fs gs f h = h
  declared_law (qreg p n e) fs gs f h = h
  declared_law (creg p n e) fs gs f h = h
  declared_law (measure p w b e) fs gs f h = h
  declared_law (reset p w e) fs gs f h = h
  declared_law (if p v b ss) fs gs f h = h
  declared_law (statement x) fs gs f h = h
  declared_law (bad_top n p) fs gs f h = h

  pub top_law : TopLaw limit room
  unfolding M.act_top M.top_frame M.with_families
  top_law (family p m n types body) g fs h = refl
  top_law (qreg p n e) g fs h = refl
  top_law (creg p n e) g fs h = refl
  top_law (measure p o c e) g fs h = refl
  top_law (reset p o e) g fs h = refl
  top_law (if p v o ss) g fs h = ap (M.◌>>◌ (M.step limit room p)) (if_law p v o _ _ (M.top_frame g) (λ f l. statements_same ss g.families fs f (same_on l h)))
  top_law (statement x) g fs h = statement_law x g.families fs (M.top_frame g) h
  top_law (bad_top n p) g fs h = refl

pub laid_out_law : LaidOutLaw
unfolding M.instance_run
laid_out_law a b values e k =
    only_given (M.layout values 0 a.types) k ∙ ap (λ (types : List ParameterType). M.◌>>=◌ (M.layout values 0 types) λ ms. b.body (instance_frame values ms)) e

-- ---- where their runs of wires lie

lead_lies : (rs : List Meaning) {f g : Frame} → AllLie rs f.operands → Leads f g → AllLie rs g.operands
unfolding M.in_direction M.in_round M.in_condition M.in_call
lead_lies rs l itself = l
lead_lies rs l (turned d h) = lead_lies rs l h
lead_lies rs l (around z h) = lead_lies rs l h
lead_lies rs l (conditioned c h) = lead_lies rs l h
lead_lies rs l (called {g = g} p args zs s e h) = subst (Gives (AllLie rs)) e (call_law rs p g args s (lead_lies rs l h))

lie_append : (rs ms ns : List Meaning) → AllLie rs ms → AllLie rs ns → AllLie rs (ms ++ ns)
lie_append rs [] ns l k = k
lie_append rs (m ∷ ms) ns l k = (l.0, lie_append rs ms ns l.1 k)

yields_then : {A : Type 0} {P : A → Type 0} (run : Run (Unit {0})) {next : Run A} → Yields P next → Yields P (M.◌>>◌ run next)
unfolding M.◌>>◌
yields_then {P = P} run {next} h = record { yields = λ s. gives_after (λ u. Unit {0}) P (run s) (λ u. next) ((yields_any run).yields s) λ u v. h }

-- the registers declared lie inside these, and there are so many qubits
abbrev Declares : (rs : List Meaning) (qubits : ℕ) → M.Globals → Type 0
Declares rs n g = AllLie rs g.registers × (g.qubits ≡ n)

module _ (limit room : ℕ) (rs : List Meaning) where
  declared_lies : (x : Top) (g : M.Globals) → AllLie rs g.registers → AllLie rs (registers_of g.qubits x) → Yields (Declares rs (g.qubits + qubits_of x)) (M.declare_top limit room x g)
  unfolding M.declare_top M.with_families M.with_wires M.with_bits registers_of qubits_of
  declared_lies (family p m n types body) g l i = yields_give (l, omega arith)
  declared_lies (qreg p (number n) e) g l i = yields_give (lie_append rs g.registers _ l i, refl)
  declared_lies (qreg p missing e) g l i = yields_nothing
  declared_lies (creg p (number n) e) g l i = yields_give (lie_append rs g.registers _ l (tt, tt), omega arith)
  declared_lies (creg p missing e) g l i = yields_nothing
  declared_lies (measure p o c e) g l i = yields_give (l, omega arith)
  declared_lies (reset p o e) g l i = yields_give (l, omega arith)
  declared_lies (if p v o ss) g l i = yields_give (l, omega arith)
  declared_lies (statement x) g l i = yields_give (l, omega arith)
  declared_lies (bad_top n p) g l i = yields_nothing

  tops_lie : (xs : List Top) (g : M.Globals) → AllLie rs g.registers → AllLie rs (registers_in g.qubits xs) → Yields (λ h. AllLie rs h.registers) (M.run_tops limit room xs g)
  unfolding M.run_tops M.run_top registers_in
  tops_lie [] g l i = yields_give l
  tops_lie (x ∷ xs) g l i =
      let j = lie_parts rs (registers_of g.qubits x) (registers_in (g.qubits + qubits_of x) xs) i in
      yields_bind (yields_then (M.act_top limit room x g) (declared_lies x g l j.0)) λ h k. tops_lie xs h k.0 (subst (λ (n : ℕ). AllLie rs (registers_in n xs)) (sym k.1) j.1)

pub run_lies : RunLaw
unfolding M.top_frame
run_lies limit room xs g s e f h =
    let rs = registers_in 0 xs in
    lead_lies rs (subst (Gives (λ x. AllLie rs x.registers)) e ((tops_lie limit room rs xs M.nothing_yet tt (lie_all rs)).yields M.begin)) h

pub instance_lies : InstanceLaw
unfolding meanings_laid
instance_lies values types ms s e f h = rw e (lead_lies ms (lie_all ms) h)
