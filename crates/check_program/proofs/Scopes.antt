-- The scope of a top field and of a family, in the tables. Assumes nothing.
use mathlib.Core.Path.{◌≡◌, refl, ap, ◌∙◌}
use mathlib.Core.List.{List, []}
use Prim.Native.Nat.{ℕ, ◌+◌, ◌-◌, ◌≤◌, ◌<◌}
use native.Mathlib.Omega.{arith}
use lib.IntN.{ℤ, pos}
use lib.ListN.{length, get_or, replicate, length-replicate, get_or-replicate}
use lib.Dec.{ltb}
use mathlib.Core.Bool.{Bool, true, false}
use borrow.Author.Tests.{ltb-true, ltb-false}
use Rattle.language.specs.Check.{Kind, Signature}
use Rattle.forms.specs.Rows.{Rows}
use Rattle.forms.proofs.Laws.{zeros_kept}
use Rattle.check_operand.specs.Tables.{Formals, kinds_at, tabulated, TablesRight}
use Rattle.check_call.specs.Calls.{FamilyRight, FamiliesRight, formal_at, signature_in, signature_at}
use Rattle.check_operand.specs.declared.scope.Visible.{Visible}
use Rattle.check_operand.proofs.Tables.{rows_same}
use Rattle.language.specs.Limits.{most_families, most_registers, most_variables, most_loops}
use Rattle.check_declaration.specs.Types.{OperandTable, InUse, Apart, FormalsIn, FamilyTable, Stays}
use Rattle.check_program.specs.Declarations.{declared_in, DeclaredRight, scope_in}
use Rattle.check_program.specs.declared.SoFar.{SoFar}
use Rattle.check_declaration.proofs.Tables.{in_use_later, rows_above}
use Rattle.check_declaration.proofs.Formals.{taken_lower, kinds_stay}
use Rattle.language.specs.Check as C

pub eight_rows : Rows (replicate 8 (replicate 13 (pos 0))) 8
eight_rows = record {
  enough = omega (arith, length-replicate 8 (replicate 13 (pos 0)));
  each = λ i h. rw (get_or-replicate 8 i (replicate 13 (pos 0)) [] h) zeros_kept;
}

pub scope_right : (bytes rows registers at : ℕ) (s : Visible) (kinds : List ℕ) (sizes lows highs : List (List ℤ)) → OperandTable bytes kinds sizes → InUse rows registers at kinds → at ≤ bytes → Rows lows 8 → Rows highs 8
    → s.variables ≤ most_variables → s.loops ≤ most_loops → s.first + s.count ≤ rows → TablesRight s kinds sizes lows highs
scope_right bytes rows registers at s kinds sizes lows highs t u b l h m n k =
    record { few = m; nested = n; kind_rows = omega (arith, t.kinds_long, u.few); size_rows = t.size_rows; named = λ j. omega (arith, t.sizes_long, u.named j, u.few_registers); low_rows = l; high_rows = h }

-- every row of the table of families is right
rows_right_lem : (at : ℕ) (families : List (List ℕ)) (kinds : List ℕ) → ((k : ℕ) → k < most_families → FamilyRight (get_or families k []) (length kinds)) → FormalsIn at families kinds → (k : ℕ) → FamilyRight (get_or families k []) (length kinds)
rows_right_lem at families kinds r f k = by (ltb k most_families) refl
  where
    by : (b : Bool) → ltb k most_families ≡ b → FamilyRight (get_or families k []) (length kinds)
    by true e = r k (ltb-true k most_families e)
    by false e =
        let l = ltb-false k most_families e in
        let z : most_families + (k - most_families) ≡ k = omega arith in
        let w = f (k - most_families) in
        let v : FamilyRight (get_or families (most_families + (k - most_families)) []) (length kinds) = record { few = w.few; inside = w.inside } in
        rw z at v

pub scope_declares : (bytes rows at registers : ℕ) (s : Visible) (families : List (List ℕ)) (kinds : List ℕ) (sizes : List (List ℤ)) → OperandTable bytes kinds sizes → InUse rows registers at kinds → at ≤ bytes → FamilyTable families sizes → s.families ≤ most_families
    → ((k : ℕ) → k < most_families → FamilyRight (get_or families k []) (length kinds)) → FormalsIn at families kinds → FamiliesRight s families kinds
scope_declares bytes rows at registers s families kinds sizes t u b l m r f = record {
  few = m;
  rows = record {
    enough = omega arith;
    each = rows_right_lem at families kinds r f;
    formals = λ j. omega (arith, t.sizes_long, u.named j, u.few_registers);
    plain = λ x i h. (f x).plain i h;
  };
}

-- the scope at the top
abbrev pub top_rows : SoFar → Visible
top_rows t = record { families = t.families; first = 0; count = t.registers; variables = 0; loops = 0 }

pub top_scope_lem : (t : SoFar) (families : List (List ℕ)) (kinds : List ℕ) (sizes : List (List ℤ)) → C.top_scope (declared_in t families kinds sizes) ≡ scope_in (top_rows t) families kinds sizes
unfolding C.top_scope_by
top_scope_lem t families kinds sizes = refl

-- the families so far, in tables where none of their rows changes
signatures_same : (f : ℕ) (f₀ : List (List ℕ)) (k₀ : List ℕ) (s₀ : List (List ℤ)) (f₁ : List (List ℕ)) (k₁ : List ℕ) (s₁ : List (List ℤ))
    → ((k : ℕ) → k < f → signature_at f₁ k₁ s₁ k ≡ signature_at f₀ k₀ s₀ k)
    → tabulated (signature_at f₁ k₁ s₁) f 0 ≡ tabulated (signature_at f₀ k₀ s₀) f 0
signatures_same f f₀ k₀ s₀ f₁ k₁ s₁ h = rows_same (signature_at f₁ k₁ s₁) (signature_at f₀ k₀ s₀) f 0 (λ k p q. h k (omega arith))

abbrev sized_by : List ℕ → List Kind → Signature
sized_by row l = record { variables = get_or row 0 0; parameters = l }

module _ (bytes at : ℕ) (t : SoFar) {f₀ : List (List ℕ)} {k₀ : List ℕ} {s₀ : List (List ℤ)} (h : DeclaredRight bytes at t f₀ k₀ s₀) where
  -- the rows in use, before a later place
  used_later : (to : ℕ) → at ≤ to → InUse t.rows t.registers to k₀
  used_later to l = in_use_later t.rows t.rows t.registers at to k₀ h.used l (omega (arith, h.used.few))

  -- the rows that change stand behind theirs
  pub families_below : (to : ℕ) {f₁ : List (List ℕ)} {k₁ : List ℕ} {s₁ : List (List ℤ)} → at ≤ to → Stays bytes t.rows to t.registers f₀ k₀ s₀ f₁ k₁ s₁ → tabulated (signature_at f₁ k₁ s₁) t.families 0 ≡ tabulated (signature_at f₀ k₀ s₀) t.families 0
  families_below to {f₁} {k₁} {s₁} l a =
      signatures_same t.families f₀ k₀ s₀ f₁ k₁ s₁
      λ k q. let few = h.families_fit in
      ap (λ (row : List ℕ). signature_in (formal_at f₁ k₁ s₁) row k₁ s₁) (a.declared k (omega arith))
      ∙ ap (sized_by (get_or f₀ k [])) (kinds_stay bytes t.rows t.rows to t.registers (get_or (get_or f₀ k []) 1 0) (get_or (get_or f₀ k []) 2 0) (used_later to l) a (h.each k q).inside)

  pub registers_below : (to : ℕ) {f₁ : List (List ℕ)} {k₁ : List ℕ} {s₁ : List (List ℤ)} → at ≤ to → Stays bytes t.rows to t.registers f₀ k₀ s₀ f₁ k₁ s₁ → kinds_at (formal_at f₁ k₁ s₁) t.registers 0 k₁ s₁ ≡ kinds_at (formal_at f₀ k₀ s₀) t.registers 0 k₀ s₀
  registers_below to l a = kinds_stay bytes t.rows t.rows to t.registers t.registers 0 (used_later to l) a (let x = h.used.few_registers in let y = h.least_rows in omega arith)

  -- the row that changes is a register's
  module _ (row : ℕ) {k₁ : List ℕ} {s₁ : List (List ℤ)} (b : row < most_registers) (a : Apart bytes row 1 k₀ s₀ k₁ s₁) where
    pub taken_same : formal_at f₀ k₁ s₁ ≡ formal_at f₀ k₀ s₀
    taken_same = λ i x. taken_lower bytes row 1 at f₀ h.taken a (omega (arith, h.table.kinds_long)) x i

    pub families_above : tabulated (signature_at f₀ k₁ s₁) t.families 0 ≡ tabulated (signature_at f₀ k₀ s₀) t.families 0
    families_above =
        signatures_same t.families f₀ k₀ s₀ f₀ k₁ s₁
        λ k q. let z = h.behind k q in
        ap (sized_by (get_or f₀ k []))
        (rows_above bytes row 1 (get_or (get_or f₀ k []) 1 0) (get_or (get_or f₀ k []) 2 0) a (omega arith) (formal_at f₀ k₁ s₁)
        ∙ ap (λ (g : Formals). kinds_at g (get_or (get_or f₀ k []) 1 0) (get_or (get_or f₀ k []) 2 0) k₀ s₀) taken_same)
