-- Top fields by their tags, as runs of the machine. Assumes nothing.
use Prim.Native.Nat.{ℕ, ◌+◌, ◌*◌, ◌-◌, ◌≤◌, ◌<◌}
use native.Mathlib.Omega.{arith}
use mathlib.Core.Path.{◌≡◌, refl, sym, ap, ◌∙◌}
use mathlib.Core.List.{List, [], ◌∷◌}
use mathlib.Core.Bool.{Bool, true, false}
use mathlib.Core.Logic.{◌⊎◌, inl, inr}
use borrow.Author.Tests.{ne_eqb, eqb-true, eqb-false}
use lib.Dec.{eqb}
use lib.ListN.{length, take, drop, get_or}
use lib.Seq.{slice, drop-drop}
use Rattle.language.specs.Tree.{Place, Top, family, qreg, creg, measure, reset, if, statement, bad_top}
use Rattle.language.specs.Read.{Field, field, fields, choose, read_top, read_if, if_of, measure_of, reset_of, read_statement, statements_by}
use Rattle.language.specs.Machine.{act_top, declare_top, run_measure, run_reset, run_if, Run, Frame, forward, always, Globals, Family, give, after, step, top_frame, in_condition, when_bit, no_meaning, run_top, in_order, run_statement, run_statements, ◌>>=◌, ◌>>◌}
use Rattle.language.proofs.Runs.{then_done}
use Rattle.std.specs.Prelude.{Result, Ok, Err}
use Rattle.fields.specs.declared.NoHeader.{NoHeader}
use Rattle.indexes.specs.declared.Fault.{Fault}
use Rattle.indexes.specs.declared.Fault.TheVariants.{Over, Stuck}
use Rattle.indexes.specs.Values.{fault_told}
use Rattle.fields.proofs.Between.{look_in, in_whole, first_byte}
use Rattle.operands.specs.declared.Scope.{Scope}
use Rattle.operands.specs.declared.Bit.{Bit}
use Rattle.operands.proofs.OperandFields.{bit_none}
use Rattle.records.specs.declared.Condition.{Condition}
use Rattle.gates.specs.declared.Mode.{Mode}
use Rattle.operands.specs.Meanings.{the_bit, bit_told, BitAt, operands_of}
use Rattle.records.specs.Outcomes.{condition_of}
use Rattle.gates.specs.Gates.{direction_of, frame_in}
use Rattle.reset_measure.specs.Tops.{reset_at, measure_at}
use Rattle.unroller.specs.Runs.{list_run}
use Rattle.runs.specs.TopFields.{globals_in, top_mode, under_mode, if_at}
use Rattle.runs.proofs.TopActions.{DeclaresNothing}

nothing_then : {B : Type 0} (z : Run B) → (no_meaning >> z) ≡ no_meaning
unfolding ◌>>◌ after
nothing_then z = refl

-- the globals are given on
pub acting_is : (limit room : ℕ) (x : Top) (g : Globals) → DeclaresNothing x → run_top limit room x g ≡ (act_top limit room x g >> give g)
unfolding run_top act_top declare_top
acting_is limit room (measure p o c e) g h = refl
acting_is limit room (reset p o e) g h = refl
acting_is limit room (if p v o ss) g h = refl
acting_is limit room (statement x) g h = refl
acting_is limit room (family p k n types body) g h = absurd h
acting_is limit room (qreg p n e) g h = absurd h
acting_is limit room (creg p n e) g h = absurd h
acting_is limit room (bad_top n p) g h = nothing_then _ ∙ sym (nothing_then (give g))

-- a tag that is none of a top field's own
outside : (tag : ℕ) → (tag < 1) ⊎ (6 < tag) → ((tag ≡ 1 → ⊥) × (tag ≡ 2 → ⊥) × (tag ≡ 3 → ⊥)) × ((tag ≡ 4 → ⊥) × (tag ≡ 5 → ⊥) × (tag ≡ 6 → ⊥))
outside tag (inl h) = (((λ e. omega arith), (λ e. omega arith), (λ e. omega arith)), ((λ e. omega arith), (λ e. omega arith), (λ e. omega arith)))
outside tag (inr h) = (((λ e. omega arith), (λ e. omega arith), (λ e. omega arith)), ((λ e. omega arith), (λ e. omega arith), (λ e. omega arith)))

-- ---- by tag

module _ (limit room seen registers : ℕ) (program regs : List ℕ) (q b : ℕ) (scope : Scope) (top : (scope.top ≡ true) × (scope.count ≡ registers)) where
  abbrev g : Globals
  g = globals_in limit room program seen (take (3 * registers) regs) q b

  abbrev mode : Mode
  mode = top_mode limit seen 0

  -- the frame at the top
  pub top_frame_lem : frame_in (top_mode limit seen 0) [] scope regs ≡ top_frame g
  unfolding top_frame direction_of condition_of operands_of
  top_frame_lem = rw (top.0, top.1) refl

  pub measure_acts : (p : Place) (l : List ℕ) → act_top limit room (read_top (field p 4 l)) g ≡ (step limit room p >> measure_at (top_mode limit seen 0) room p l (frame_in (top_mode limit seen 0) [] scope regs))
  unfolding act_top read_top choose measure_of run_measure
  measure_acts p l = rw top_frame_lem refl

  pub reset_acts : (p : Place) (l : List ℕ) → act_top limit room (read_top (field p 5 l)) g ≡ (step limit room p >> reset_at (top_mode limit seen 0) room p l (frame_in (top_mode limit seen 0) [] scope regs))
  unfolding act_top read_top choose reset_of run_reset
  reset_acts p l = rw top_frame_lem refl

  pub if_acts : (p : Place) (l : List ℕ) → 1 ≤ length l → act_top limit room (read_top (field p 6 l)) g ≡ (step limit room p >> if_at limit room p l g.families (frame_in (top_mode limit seen 0) [] scope regs))
  unfolding act_top read_top choose read_if if_of run_if
  if_acts p [] h = absurd (omega arith)
  if_acts p (v ∷ rest) h = rw top_frame_lem refl

  statement_acts : (p tag : ℕ) (l : List ℕ) → (tag ≡ 1 → ⊥) × (tag ≡ 2 → ⊥) × (tag ≡ 3 → ⊥) → (tag ≡ 4 → ⊥) × (tag ≡ 5 → ⊥) × (tag ≡ 6 → ⊥)
      → act_top limit room (read_top (field p tag l)) g ≡ run_statement limit room (read_statement 16 (field p tag l)) g.families (frame_in (top_mode limit seen 0) [] scope regs)
  unfolding act_top read_top choose
  statement_acts p tag l h k = rw (ne_eqb tag 1 h.0, ne_eqb tag 2 h.1, ne_eqb tag 3 h.2, ne_eqb tag 4 k.0, ne_eqb tag 5 k.1, ne_eqb tag 6 k.2, top_frame_lem) refl

  -- a list of one statement
  single : (p tag : ℕ) (bytes l : List ℕ) → fields p bytes ≡ (field p tag l ∷ [])
      → list_run mode room p bytes program (frame_in mode [] scope regs) ≡ run_statement limit room (read_statement 16 (field p tag l)) g.families (frame_in mode [] scope regs)
  unfolding statements_by run_statements in_order direction_of
  single p tag bytes l e =
      ap (λ (fs : List Field). run_statements limit room (statements_by (read_statement 16) fs) g.families (frame_in mode [] scope regs)) e
      ∙ then_done (run_statement limit room (read_statement 16 (field p tag l)) g.families (frame_in mode [] scope regs))

  pub list_acts : (p tag : ℕ) (bytes l : List ℕ) → fields p bytes ≡ (field p tag l ∷ []) → (tag < 1) ⊎ (6 < tag)
      → act_top limit room (read_top (field p tag l)) g ≡ list_run (top_mode limit seen 0) room p bytes program (frame_in (top_mode limit seen 0) [] scope regs)
  list_acts p tag bytes l e h = let o = outside tag h in statement_acts p tag l o.0 o.1 ∙ sym (single p tag bytes l e)

  -- measure, reset and if take a step first
  pub timed : (p tag : ℕ) (l : List ℕ) → 3 < tag → tag ≤ 6 → (tag ≡ 6 → 1 ≤ length l) → (next : Run (Unit {0})) × (act_top limit room (read_top (field p tag l)) g ≡ (step limit room p >> next))
  timed p tag l h k i = go (eqb tag 4) (eqb tag 5) (eqb-true tag 4) (eqb-true tag 5) (eqb-false tag 4) (eqb-false tag 5)
    where
      at : (t : ℕ) → tag ≡ t → (next : Run (Unit {0})) × (act_top limit room (read_top (field p t l)) g ≡ (step limit room p >> next))
          → (next : Run (Unit {0})) × (act_top limit room (read_top (field p tag l)) g ≡ (step limit room p >> next))
      at t e x = (x.0, ap (λ (n : ℕ). act_top limit room (read_top (field p n l)) g) e ∙ x.1)

      go : (a c : Bool) → (a ≡ true → tag ≡ 4) → (c ≡ true → tag ≡ 5) → (a ≡ false → tag ≡ 4 → ⊥) → (c ≡ false → tag ≡ 5 → ⊥)
          → (next : Run (Unit {0})) × (act_top limit room (read_top (field p tag l)) g ≡ (step limit room p >> next))
      go true c f u v w = at 4 (f refl) (_, measure_acts p l)
      go false true f u v w = at 5 (u refl) (_, reset_acts p l)
      go false false f u v w =
          let e : tag ≡ 6 = (let x = v refl in let y = w refl in omega arith) in
          at 6 e (_, if_acts p l (i e))

-- ---- an if whose bit is known

module _ (limit room seen : ℕ) (regs : List ℕ) (scope : Scope) (p : Place) (program : List ℕ) (from to : ℕ) (fs : List Family) where
  abbrev frame : Frame
  frame = frame_in (top_mode limit seen 0) [] scope regs

  abbrev content : List ℕ
  content = slice from to program

  rest : drop 1 content ≡ slice (from + 1) to program
  rest = drop-drop 1 from (take to program)

  module _ (r : Result Bit Fault) (bit : BitAt (slice (from + 1) to program) 0 [] (operands_of scope regs) r) where
    if_is : if_at limit room p content fs frame ≡ (bit_told p r >>= (λ b. run_statements limit room (statements_by (read_statement 15) (drop 1 (fields (p + 4) (slice (from + 1) to program)))) fs (in_condition frame (when_bit b (get_or content 0 0)))))
    unfolding run_if direction_of condition_of
    if_is = rw rest (ap (λ (x : Run _). x >>= (λ b. run_statements limit room (statements_by (read_statement 15) (drop 1 (fields (p + 4) (slice (from + 1) to program)))) fs (in_condition frame (when_bit b (get_or content 0 0))))) (sym (bit p p (p + 4) forward always)))

    pub if_fails : (f : Fault) → r ≡ Err f → if_at limit room p (slice from to program) fs (frame_in (top_mode limit seen 0) [] scope regs) ≡ fault_told p f
    unfolding bit_told fault_told ◌>>=◌ after
    if_fails Over e = if_is ∙ rw e refl
    if_fails Stuck e = if_is ∙ rw e refl

    pub if_bit : (b : Bit) (c : Condition) (tag mid : ℕ) → from ≡ p + 3 → from < to → to ≤ length program → r ≡ Ok b → condition_of c ≡ when_bit (the_bit b.0) (get_or program from 0) → look_in program (from + 1) to ≡ Ok (record { tag = tag; next = mid })
        → if_at limit room p (slice from to program) fs (frame_in (top_mode limit seen 0) [] scope regs) ≡ run_statements limit room (statements_by (read_statement 15) (fields mid (slice mid to program))) fs (frame_in (under_mode limit seen c) [] scope regs)
    unfolding bit_told ◌>>=◌ after in_condition
    if_bit b c tag mid near low high e k h =
        let w = in_whole program (from + 1) to tag mid h in
        let i : p + 4 + (mid - (from + 1)) ≡ mid = omega (arith, near, w.low) in
        let q : drop 1 (fields (p + 4) (slice (from + 1) to program)) ≡ fields mid (slice mid to program) = ap (drop 1) (w.first (p + 4)) ∙ rw i refl in
        if_is ∙ rw (e, q, k, first_byte program from to low high) refl

  -- an if whose bit is due where no field is has none
  pub if_none : {k : NoHeader} → look_in program (from + 1) to ≡ Err k → if_at limit room p (slice from to program) fs (frame_in (top_mode limit seen 0) [] scope regs) ≡ no_meaning
  unfolding fault_told
  if_none h = if_fails (Err Stuck) (bit_none program (from + 1) to [] (operands_of scope regs) h) Stuck refl
