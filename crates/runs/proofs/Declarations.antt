-- Top fields that declare something. Assumes nothing.
use Prim.Native.Nat.{ℕ, ◌+◌, ◌*◌, ◌≤◌, ◌<◌}
use native.Mathlib.Omega.{arith}
use mathlib.Core.Path.{◌≡◌, refl, sym, ap, ◌∙◌, subst}
use mathlib.Core.List.{List, [], ◌∷◌, ◌++◌}
use mathlib.Core.Bool.{Bool, true, false, cond}
use lib.ListN.{length, take, length-append}
use lib.Seq.{slice}
use lib.IntN.{pos}
use Rattle.language.specs.Limits.{most_wires, most_families, most_registers, most_bits}
use Rattle.language.specs.Tree.{Place, Top, family, qreg, creg, measure, reset, if, statement, bad_top, number, missing, Number, Ending}
use Rattle.language.specs.Read.{read, field, read_top, read_family, read_register, register_size, register_end, family_of, choose}
use Rattle.language.specs.Form.{constant_form}
use Rattle.language.specs.Check as C
use Rattle.language.specs.Check.{Declared, Signature, quantum, classical}
use Rattle.language.specs.Machine.{wires, bits, Globals, Family, Run, give, declared, all_declared, act_top, declare_top, run_top, run_tops, with_families, with_wires, with_bits, ◌>>=◌, ◌>>◌, after}
use Rattle.language.proofs.Accepted.{TopGood, a_family, a_qreg, a_creg, a_measure, a_reset, an_if, a_statement}
use Rattle.kinds.specs.declared.Kind.TheVariants.{Quantum, Classical}
use Rattle.operands.specs.Meanings.{the_wire, the_bit, clipped, register_of, registers_of}
use Rattle.std.specs.Prelude.{Ok}
use Rattle.fields.proofs.Parts.{look}
use Rattle.runs.specs.declared.Totals.{Totals}
use Rattle.runs.specs.Whole.{tops_at, globals_of, more_families, total_of, more_locations, register_from, size_in, RegisterRoom}
use Rattle.runs.proofs.Reached.{Counted, Reached, Next, top_of, tops_next, reached_next, joined_one, families_seen}

-- what a good top field leaves declared
Leaves : Declared → Declared → Top → Type 0
Leaves d a (family p (number m) n types body) = (s : Signature) × (a ≡ C.with_family d s) × (length d.families < most_families)
Leaves d a (family p missing n types body) = ⊥
Leaves d a (qreg p (number n) e) = (a ≡ C.with_qubits d n) × (length d.registers < most_registers) × (d.qubits + n ≤ most_wires)
Leaves d a (qreg p missing e) = ⊥
Leaves d a (creg p (number n) e) = (a ≡ C.with_bits d n) × (length d.registers < most_registers) × (d.bits + n ≤ most_bits)
Leaves d a (creg p missing e) = ⊥
Leaves d a (measure p w b e) = a ≡ d
Leaves d a (reset p w e) = a ≡ d
Leaves d a (if p v b ss) = a ≡ d
Leaves d a (statement x) = a ≡ d
Leaves d a (bad_top n p) = ⊥

leaves : {d a : Declared} {x : Top} → TopGood d x a → Leaves d a x
unfolding Leaves
leaves (a_family m n ks room few count e c) = (record { variables = m; parameters = ks }, refl, room)
leaves (a_qreg n room h) = (refl, room, h)
leaves (a_creg n room h) = (refl, room, h)
leaves (a_measure h k) = refl
leaves (a_reset h) = refl
leaves (an_if l h k) = refl
leaves (a_statement h) = refl

-- ---- registers, quantum or classical

unfoldable pub register_tag : (is_quantum : Bool) → ℕ
register_tag true = 2
register_tag false = 3

make : (is_quantum : Bool) → Place → Number → Ending → Top
make true = qreg
make false = creg

-- what the check and the machine know after one
checked : (is_quantum : Bool) → Declared → ℕ → Declared
checked true = C.with_qubits
checked false = C.with_bits

laid : (is_quantum : Bool) → Globals → ℕ → Globals
laid true = with_wires
laid false = with_bits

-- a register's content that is good has its size
register_good : (b : Bool) (t : Totals) (d a : Declared) (p : Place) (content : List ℕ) → Counted t d → Leaves d a (read_register (make b) p content)
    → RegisterRoom content t.registers (total_of b t) × (a ≡ checked b d (size_in content))
unfolding read_register register_size register_end Leaves make checked total_of
register_good true t d a p [] c h = absurd h
register_good true t d a p (low ∷ []) c h = absurd h
register_good true t d a p (low ∷ high ∷ rest) c h = (record { long = omega arith; few = omega (arith, c.registers, h.1); fits = omega (arith, c.qubits, h.2) }, h.0)
register_good false t d a p [] c h = absurd h
register_good false t d a p (low ∷ []) c h = absurd h
register_good false t d a p (low ∷ high ∷ rest) c h = (record { long = omega arith; few = omega (arith, c.registers, h.1); fits = omega (arith, c.bits, h.2) }, h.0)

-- what the machine does with it; it declares no family
register_run : (b : Bool) (limit room : ℕ) (p : Place) (content : List ℕ) (g : Globals) (fs : List Family) → 2 ≤ length content
    → (run_top limit room (read_register (make b) p content) g ≡ give (laid b g (size_in content))) × (declared limit room (read_register (make b) p content) fs ≡ fs)
unfolding read_register register_size register_end run_top act_top declare_top ◌>>◌ after declared make laid
register_run b limit room p [] g fs h = absurd (omega arith)
register_run b limit room p (low ∷ []) g fs h = absurd (omega arith)
register_run true limit room p (low ∷ high ∷ rest) g fs h = (refl, refl)
register_run false limit room p (low ∷ high ∷ rest) g fs h = (refl, refl)

counted_more : (b : Bool) (t : Totals) (d : Declared) (n : ℕ) → Counted t d → Counted (more_locations b t n) (checked b d n)
unfolding checked more_locations C.with_qubits C.with_bits
counted_more true t d n c = record {
  families = c.families;
  registers = length-append d.registers (quantum (constant_form (pos n)) ∷ []) ∙ omega (arith, c.registers);
  qubits = omega (arith, c.qubits);
  bits = c.bits;
}
counted_more false t d n c = record {
  families = c.families;
  registers = length-append d.registers (classical (constant_form (pos n)) ∷ []) ∙ omega (arith, c.registers);
  qubits = c.qubits;
  bits = omega (arith, c.bits);
}

same_families : (b : Bool) (t : Totals) (n : ℕ) → (more_locations b t n).families ≡ t.families
unfolding more_locations
same_families true t n = refl
same_families false t n = refl

laid_is : (b : Bool) (limit room : ℕ) (l : List ℕ) (t : Totals) (n : ℕ) (regs regs' : List ℕ)
    → registers_of (take (3 * (t.registers + 1)) regs') ≡ registers_of (take (3 * t.registers) regs) ++ (register_from b (total_of b t) n ∷ [])
    → laid b (globals_of limit room l t regs) n ≡ globals_of limit room l (more_locations b t n) regs'
unfolding laid with_wires with_bits more_locations register_from total_of
laid_is true limit room l t n regs regs' h = rw h refl
laid_is false limit room l t n regs regs' h = rw h refl

is_register_lem : (b : Bool) (at : ℕ) (content : List ℕ) → read_top (field at (register_tag b) content) ≡ read_register (make b) at content
unfolding read_top choose register_tag make
is_register_lem true at content = refl
is_register_lem false at content = refl

-- ---- families

family_run : (limit room : ℕ) (p : Place) (content : List ℕ) (g : Globals) → run_top limit room (read_family p content) g ≡ give (with_families g (declared limit room (read_family p content) g.families))
unfolding read_family family_of run_top act_top declare_top ◌>>◌ after
family_run limit room p [] g = refl
family_run limit room p (m ∷ []) g = refl
family_run limit room p (m ∷ n ∷ rest) g = refl

family_good : (d a : Declared) (limit room : ℕ) (p : Place) (content : List ℕ) (fs : List Family) → Leaves d a (read_family p content)
    → ((s : Signature) × (a ≡ C.with_family d s) × (length d.families < most_families)) × (length (declared limit room (read_family p content) fs) ≡ length fs + 1)
unfolding read_family family_of Leaves declared
family_good d a limit room p [] fs h = absurd h
family_good d a limit room p (m ∷ []) fs h = (h, length-append fs _)
family_good d a limit room p (m ∷ n ∷ rest) fs h = (h, length-append fs _)

-- ---- a whole run, past a field that declares something

module _ (limit room : ℕ) (l : List ℕ) where
  -- a top field that only gives other globals
  passes : (x : Top) (xs : List Top) (g h : Globals) → run_top limit room x g ≡ give h → run_tops limit room (x ∷ xs) g ≡ run_tops limit room xs h
  unfolding run_tops ◌>>=◌ after
  passes x xs g h e = ap (λ (r : Run Globals). r >>= run_tops limit room xs) e

  module _ (at next : ℕ) (t : Totals) (r : Reached limit room l at t) where
    -- the content of the field there
    abbrev content : List ℕ
    content = slice (at + 3) next l

    abbrev globals : Totals → List ℕ → Globals
    globals = globals_of limit room l

    -- past it
    goes : (tag : ℕ) (e : look l at ≡ Ok (record { tag = tag; next = next })) (x : Top) → top_of limit room l at tag next ≡ x → (regs regs' : List ℕ) (t' : Totals)
        → run_top limit room x (globals t regs) ≡ give (globals t' regs') → run_tops limit room (tops_at l at) (globals t regs) ≡ run_tops limit room (tops_at l next) (globals t' regs')
    goes tag e x q regs regs' t' h = rw (tops_next limit room l at tag next e, q) (passes x (tops_at l next) (globals t regs) (globals t' regs') h)

    -- a register
    module _ (b : Bool) (e : look l at ≡ Ok (record { tag = register_tag b; next = next })) where
      there : Next limit room l at (register_tag b) next r
      there = reached_next limit room l at (register_tag b) next r e

      good_there : RegisterRoom content t.registers (total_of b t) × (there.next_now ≡ checked b r.now (size_in content))
      good_there = register_good b t r.now there.next_now at content r.counted (subst (Leaves r.now there.next_now) (is_register_lem b at content) (leaves there.top_good))

      pub register_room : RegisterRoom (slice (at + 3) next l) t.registers (total_of b t)
      register_room = good_there.0

      pub register_reached : Reached limit room l next (more_locations b t (size_in (slice (at + 3) next l)))
      register_reached = there.go_on (more_locations b t (size_in content)) (rw good_there.1 (counted_more b t r.now (size_in content) r.counted))
          (rw (is_register_lem b at content)
          (ap length (register_run b limit room at content (globals t []) (all_declared limit room r.before []) good_there.0.long).1 ∙ r.count ∙ sym (same_families b t (size_in content))))

      pub register_runs : (regs regs' : List ℕ) → registers_of (take (3 * (t.registers + 1)) regs') ≡ registers_of (take (3 * t.registers) regs) ++ (register_from b (total_of b t) (size_in (slice (at + 3) next l)) ∷ [])
          → run_tops limit room (tops_at l at) (globals_of limit room l t regs) ≡ run_tops limit room (tops_at l next) (globals_of limit room l (more_locations b t (size_in (slice (at + 3) next l))) regs')
      register_runs regs regs' h = goes (register_tag b) e (read_register (make b) at content) (is_register_lem b at content) regs regs' (more_locations b t (size_in content))
          ((register_run b limit room at content (globals t regs) [] good_there.0.long).0 ∙ ap give (laid_is b limit room l t (size_in content) regs regs' h))

    -- a family
    module _ (e : look l at ≡ Ok (record { tag = 1; next = next })) where
      is_family_lem : top_of limit room l at 1 next ≡ read_family at content
      unfolding read_top choose
      is_family_lem = refl

      family_there : Next limit room l at 1 next r
      family_there = reached_next limit room l at 1 next r e

      declares : ((s : Signature) × (family_there.next_now ≡ C.with_family r.now s) × (length r.now.families < most_families)) × (length (declared limit room (read_family at content) (all_declared limit room r.before [])) ≡ length (all_declared limit room r.before []) + 1)
      declares = family_good r.now family_there.next_now limit room at content (all_declared limit room r.before []) (subst (Leaves r.now family_there.next_now) is_family_lem (leaves family_there.top_good))

      pub family_room : t.families < most_families
      family_room = omega (arith, declares.0.2, r.counted.families)

      pub family_reached : Reached limit room l next (more_families t)
      unfolding C.with_family
      family_reached = family_there.go_on (more_families t)
          (rw declares.0.1 (record {
            families = length-append r.now.families (declares.0.0 ∷ []) ∙ omega (arith, r.counted.families);
            registers = r.counted.registers;
            qubits = r.counted.qubits;
            bits = r.counted.bits;
          }))
          (rw is_family_lem (declares.1 ∙ omega (arith, r.count)))

      declared_there : declared limit room (read_family at content) (take t.families (all_declared limit room (read l) [])) ≡ take (t.families + 1) (all_declared limit room (read l) [])
      unfolding family_reached
      declared_there =
          ap (declared limit room (read_family at content)) (families_seen limit room l r)
          ∙ ap (λ (x : Top). declared limit room x (all_declared limit room r.before [])) (sym is_family_lem)
          ∙ sym (joined_one limit room l r.before (top_of limit room l at 1 next) [])
          ∙ ap (λ (xs : List Top). all_declared limit room xs []) (sym (family_there.one_more_lem _ _ _))
          ∙ sym (families_seen limit room l family_reached)

      pub family_runs : (regs : List ℕ) → run_tops limit room (tops_at l at) (globals_of limit room l t regs) ≡ run_tops limit room (tops_at l next) (globals_of limit room l (more_families t) regs)
      unfolding with_families
      family_runs regs = goes 1 e (read_family at content) is_family_lem regs regs (more_families t) (family_run limit room at content (globals t regs) ∙ ap give (rw declared_there refl))

-- ---- the code's register is the machine's

pub register_whole : (b : Bool) (first size : ℕ) → first + size ≤ most_wires → register_of (cond b Quantum Classical) first size ≡ register_from b first size
unfolding register_of register_from
register_whole true first size h = let e : clipped first size ≡ size = omega arith in ap (wires (the_wire first)) e
register_whole false first size h = let e : clipped first size ≡ size = omega arith in ap (bits (the_bit first)) e

-- what the two branches of the code know
module _ (b : Bool) (t : Totals) (p : List ℕ) (r : RegisterRoom p t.registers (total_of b t)) (n : ℕ) (e : n ≡ size_in p) where
  pub quantum_fits : b ≡ true → t.qubits + n ≤ most_wires
  unfolding total_of
  quantum_fits h = let f = rw h at r.fits in omega arith

  pub classical_fits : b ≡ false → t.bits + n ≤ most_wires
  unfolding total_of
  classical_fits h = let f = rw h at r.fits in omega arith

  pub quantum_more : b ≡ true → ◌≡◌ {A = Totals} (record { families = t.families; registers = t.registers + 1; qubits = t.qubits + n; bits = t.bits }) (more_locations b t (size_in p))
  unfolding more_locations
  quantum_more h = rw (h, e) refl

  pub classical_more : b ≡ false → ◌≡◌ {A = Totals} (record { families = t.families; registers = t.registers + 1; qubits = t.qubits; bits = t.bits + n }) (more_locations b t (size_in p))
  unfolding more_locations
  classical_more h = rw (h, e) refl

  pub quantum_row : b ≡ true → register_of Quantum t.qubits n ≡ register_from b (total_of b t) (size_in p)
  unfolding total_of
  quantum_row h = rw (h, ← e) (register_whole true t.qubits n (quantum_fits h))

  pub classical_row : b ≡ false → register_of Classical t.bits n ≡ register_from b (total_of b t) (size_in p)
  unfolding total_of
  classical_row h = rw (h, ← e) (register_whole false t.bits n (classical_fits h))
