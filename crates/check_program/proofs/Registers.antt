-- A register entered into the tables. Assumes nothing.
use mathlib.Core.Path.{◌≡◌, refl, sym, ap, ◌∙◌}
use mathlib.Core.List.{List, [], ◌∷◌, ◌++◌}
use Prim.Native.Nat.{ℕ, ◌+◌, ◌≤◌}
use native.Mathlib.Omega.{arith}
use native.Mathlib.Nat.{zero-add}
use lib.IntN.{ℤ, pos}
use lib.ListN.{length, get_or}
use Rattle.language.specs.Limits.{most_wires, most_bits}
use Rattle.language.specs.Tree.{qreg, creg}
use Rattle.language.specs.Read.{read_register}
use Rattle.language.specs.Form.{constant_form}
use Rattle.language.specs.Check.{Checked, good, refused, ◌>>=◌, Formal, Declared, with_qubits, with_bits, check_top, check_top_by}
use Rattle.kinds.specs.declared.Kind.{Kind}
use Rattle.kinds.specs.declared.Kind.TheVariants.{Quantum, Classical}
use Rattle.check_operand.specs.Tables.{Formals, kind_in, size_of_row, kind_at, kinds_at, tabulated}
use Rattle.check_call.specs.Calls.{formal_at, signature_at}
use Rattle.check_declaration.specs.Registers.{checked_register, register_in, RegisterRow, RegisterSet}
use Rattle.std.specs.Prelude.{Result, Ok, Err}
use Rattle.refusals.specs.Reasons.{number_of}
use Rattle.refusals.specs.declared.Refusal.{Refusal}
use Rattle.check_operand.proofs.Tables.{row_more, length_rows}
use Rattle.check_program.specs.Declarations.{declared_in, DeclaredRight, checked_step}
use Rattle.check_program.specs.declared.SoFar.{SoFar}
use Rattle.check_declaration.proofs.Tables.{rows_below}
use Rattle.check_declaration.proofs.Formals.{formals_lower}
use Rattle.check_program.proofs.Scopes.{taken_same, families_above}

pub number_stops : (r : Result ℕ Refusal) (f : Refusal) (x : Checked ℕ) (w : ℕ → Declared) → r ≡ Err f → checked_register r ≡ x → refused (number_of f.0) f.1 ≡ (x >>= λ m. good (w m))
unfolding checked_register ◌>>=◌
number_stops r f x w u e = ap (λ (c : Checked ℕ). c >>= λ m. good (w m)) (sym (ap checked_register u) ∙ e)

pub number_goes : (r : Result ℕ Refusal) (n : ℕ) (x : Checked ℕ) (w : ℕ → Declared) → r ≡ Ok n → checked_register r ≡ x → good (w n) ≡ (x >>= λ m. good (w m))
unfolding checked_register ◌>>=◌
number_goes r n x w u e = ap (λ (c : Checked ℕ). c >>= λ m. good (w m)) (sym (ap checked_register u) ∙ e)

module _ (t : SoFar) (families : List (List ℕ)) (kinds : List ℕ) (sizes : List (List ℤ)) (at : ℕ) (content : List ℕ) where
  abbrev now : Declared
  now = declared_in t families kinds sizes

  registers_now : length now.registers ≡ t.registers
  registers_now = length_rows (λ j. kind_at (formal_at families kinds sizes) j kinds sizes) t.registers 0

  qreg_meant : check_top (read_register qreg at content) now ≡ (register_in at t.registers t.qubits most_wires content >>= λ n. good (with_qubits now n))
  unfolding read_register check_top_by
  qreg_meant = ap (λ (k : ℕ). register_in at k t.qubits most_wires content >>= λ n. good (with_qubits now n)) registers_now

  creg_meant : check_top (read_register creg at content) now ≡ (register_in at t.registers t.bits most_bits content >>= λ n. good (with_bits now n))
  unfolding read_register check_top_by
  creg_meant = ap (λ (k : ℕ). register_in at k t.bits most_bits content >>= λ n. good (with_bits now n)) registers_now

  module _ (r : Result ℕ Refusal) where
    pub qreg_stops : (f : Refusal) (k₁ : List ℕ) (s₁ : List (List ℤ)) → r ≡ Err f → checked_register r ≡ register_in at t.registers t.qubits most_wires content → checked_step (Err f) families k₁ s₁ ≡ check_top (read_register qreg at content) now
    unfolding checked_step
    qreg_stops f k₁ s₁ u e = number_stops r f _ (with_qubits now) u e ∙ sym qreg_meant

    pub creg_stops : (f : Refusal) (k₁ : List ℕ) (s₁ : List (List ℤ)) → r ≡ Err f → checked_register r ≡ register_in at t.registers t.bits most_bits content → checked_step (Err f) families k₁ s₁ ≡ check_top (read_register creg at content) now
    unfolding checked_step
    creg_stops f k₁ s₁ u e = number_stops r f _ (with_bits now) u e ∙ sym creg_meant

-- one register more
module _ (bytes at next : ℕ) (t : SoFar) (families : List (List ℕ)) (n : ℕ) (kind : Kind) (total most : ℕ) {k₀ : List ℕ} {s₀ : List (List ℤ)} {k₁ : List ℕ} {s₁ : List (List ℤ)} (h : DeclaredRight bytes at t families k₀ s₀) (r : RegisterRow bytes next n kind t.registers total most k₀ s₀ k₁ s₁) where
  families_same_lem : tabulated (signature_at families k₁ s₁) t.families 0 ≡ tabulated (signature_at families k₀ s₀) t.families 0
  families_same_lem = families_above bytes at t h t.registers r.room r.apart

  abbrev before : Formals
  before = formal_at families k₀ s₀

  abbrev later : Formals
  later = formal_at families k₁ s₁

  -- what the new register's number would name as a family parameter's
  abbrev spare : Formal
  spare = later (size_of_row (get_or k₁ t.registers 0))

  registers_more : kinds_at later (t.registers + 1) 0 k₁ s₁ ≡ (kinds_at before t.registers 0 k₀ s₀ ++ (kind_in kind (constant_form (pos n)) spare ∷ []))
  registers_more =
      row_more (λ j. kind_at later j k₁ s₁) t.registers 0
      ∙ ap (λ (k : ℕ). kinds_at later t.registers 0 k₁ s₁ ++ (kind_at later k k₁ s₁ ∷ [])) (zero-add t.registers)
      ∙ (λ i. (rows_below bytes t.registers 1 t.registers 0 r.apart (omega arith) later ∙ ap (λ (g : Formals). kinds_at g t.registers 0 k₀ s₀) (taken_same bytes at t h t.registers r.room r.apart)) i ++ (r.row later i ∷ []))

  pub with_qubits_lem : kind ≡ Quantum → declared_in (record { families = t.families; rows = t.rows; registers = t.registers + 1; qubits = t.qubits + n; bits = t.bits }) families k₁ s₁ ≡ with_qubits (declared_in t families k₀ s₀) n
  unfolding with_qubits kind_in
  with_qubits_lem e =
      (λ i. record { families = families_same_lem i; registers = registers_more i; qubits = t.qubits + n; bits = t.bits })
      ∙ ap (λ (k : Kind). record { families = tabulated (signature_at families k₀ s₀) t.families 0; registers = kinds_at before t.registers 0 k₀ s₀ ++ (kind_in k (constant_form (pos n)) spare ∷ []); qubits = t.qubits + n; bits = t.bits }) e

  pub with_bits_lem : kind ≡ Classical → declared_in (record { families = t.families; rows = t.rows; registers = t.registers + 1; qubits = t.qubits; bits = t.bits + n }) families k₁ s₁ ≡ with_bits (declared_in t families k₀ s₀) n
  unfolding with_bits kind_in
  with_bits_lem e =
      (λ i. record { families = families_same_lem i; registers = registers_more i; qubits = t.qubits; bits = t.bits + n })
      ∙ ap (λ (k : Kind). record { families = tabulated (signature_at families k₀ s₀) t.families 0; registers = kinds_at before t.registers 0 k₀ s₀ ++ (kind_in k (constant_form (pos n)) spare ∷ []); qubits = t.qubits; bits = t.bits + n }) e

  pub holds_register : (q b : ℕ) → at ≤ next → q ≤ most_wires → b ≤ most_bits → DeclaredRight bytes next (record { families = t.families; rows = t.rows; registers = t.registers + 1; qubits = q; bits = b }) families k₁ s₁
  holds_register q b j x y =
      let room = r.room in
      let same = r.apart.kinds_same in
      record {
        short = h.short;
        table = r.apart.table;
        used = r.used t.rows (omega (arith, h.used.few));
        wide = omega (arith, h.wide);
        long = omega (arith, h.long, r.apart.sizes_same);
        families_fit = h.families_fit;
        qubits_fit = x;
        bits_fit = y;
        least_rows = h.least_rows;
        each = h.each;
        behind = h.behind;
        rows_right = λ k p. rw same (h.rows_right k p);
        taken = formals_lower bytes t.registers 1 at families h.taken r.apart (omega (arith, h.table.kinds_long)) next j;
      }

module _ (t : SoFar) (families : List (List ℕ)) (k₀ : List ℕ) (s₀ : List (List ℤ)) (bytes next at : ℕ) (content : List ℕ) (r : Result ℕ Refusal) (n : ℕ) (u : r ≡ Ok n) (h : DeclaredRight bytes at t families k₀ s₀) where
  pub register_row : (kind : Kind) (count total most : ℕ) (k₁ : List ℕ) (s₁ : List (List ℤ)) → RegisterSet bytes next r kind count total most k₀ s₀ k₁ s₁ → RegisterRow bytes next n kind count total most k₀ s₀ k₁ s₁
  register_row kind count total most k₁ s₁ s = rw u at s

  pub qreg_goes : {k₁ : List ℕ} {s₁ : List (List ℤ)} → RegisterRow bytes next n Quantum t.registers t.qubits most_wires k₀ s₀ k₁ s₁ → checked_register r ≡ register_in at t.registers t.qubits most_wires content
      → checked_step (Ok (record { families = t.families; rows = t.rows; registers = t.registers + 1; qubits = t.qubits + n; bits = t.bits })) families k₁ s₁ ≡ check_top (read_register qreg at content) (declared_in t families k₀ s₀)
  unfolding checked_step
  qreg_goes s e = ap good (with_qubits_lem bytes at next t families n Quantum t.qubits most_wires h s refl) ∙ number_goes r n _ (with_qubits (declared_in t families k₀ s₀)) u e ∙ sym (qreg_meant t families k₀ s₀ at content)

  pub creg_goes : {k₁ : List ℕ} {s₁ : List (List ℤ)} → RegisterRow bytes next n Classical t.registers t.bits most_bits k₀ s₀ k₁ s₁ → checked_register r ≡ register_in at t.registers t.bits most_bits content
      → checked_step (Ok (record { families = t.families; rows = t.rows; registers = t.registers + 1; qubits = t.qubits; bits = t.bits + n })) families k₁ s₁ ≡ check_top (read_register creg at content) (declared_in t families k₀ s₀)
  unfolding checked_step
  creg_goes s e = ap good (with_bits_lem bytes at next t families n Classical t.bits most_bits h s refl) ∙ number_goes r n _ (with_bits (declared_in t families k₀ s₀)) u e ∙ sym (creg_meant t families k₀ s₀ at content)
