-- A reverse that holds nothing but one statement. Assumes nothing.
use Prim.Native.Nat.{ℕ, ◌+◌, ◌-◌, ◌<◌, ◌≤◌}
use mathlib.Core.Path.{◌≡◌, refl, ap, ◌∙◌, subst}
use mathlib.Core.List.{List}
use native.Mathlib.Omega.{arith}
use lib.ListN.{take}
use lib.Seq.{slice}
use lib.IntN.{ℤ}
use Rattle.language.specs.Limits.{longest_program}
use Rattle.language.specs.Machine.{Run, step, in_direction, run_statements, ◌>>◌}
use Rattle.std.specs.Prelude.{Result, Ok}
use Rattle.fields.specs.Header.{fields_at, header_of}
use Rattle.fields.proofs.Between.{FieldIn, in_whole}
use Rattle.operands.specs.declared.Scope.{Scope}
use Rattle.operands.specs.Meanings.{operands_of, frame_of}
use Rattle.records.specs.declared.State.{State}
use Rattle.records.specs.declared.Stop.{Stop}
use Rattle.records.specs.Outcomes.{condition_of}
use Rattle.records.proofs.Sequences.{step_taken}
use Rattle.gates.specs.declared.Mode.{Mode}
use Rattle.gates.specs.Gates.{frame_in, inner_of, StepTaken}
use Rattle.gates.proofs.GateRuns.{does_as}
use Rattle.unroller.specs.declared.Nested.{Nested}
use Rattle.unroller.specs.Runs.{families_in, one_run, list_at, Completes, HasBody, tag_at, Nests, Nestable, Inside}
use Rattle.unroller.proofs.Statements.{one_reverse, turned}
use Rattle.unroller.proofs.Walks.{list_single}

module _ (bytes : List ℕ) (base to : ℕ) (e : Nested) where
  pub inside_self : Nestable bytes base to e → Inside bytes base to e e
  inside_self a = record {
    able = a;
    later = omega arith;
    visible = refl;
    variables = refl;
    leads = λ room program values scope regs l l' r x. x;
  }

  module _ (r : Nested) (w : Inside bytes base to e r) (t : r.tag ≡ 37) (tag next : ℕ) (is : header_of r.from (fields_at bytes r.from to) ≡ Ok (record { tag = tag; next = next })) where
    held : FieldIn bytes r.from to tag next
    held = in_whole bytes r.from to tag next is

    -- what it holds, and how deep that is
    pub record Content : Type 0 where
      pub low : r.from + 3 ≤ to
      pub near : base + r.from + 3 ≤ longest_program
      pub few : r.mode.variables ≤ 19
      pub deep : 0 < r.mode.levels

    pub content : Content
    content =
        let y = w.able.ready in
        let d = w.able.enterable.deep in
        record {
          low = omega (arith, held.low, held.high);
          near = omega (arith, held.low, held.high, y.within, y.near);
          few = omega (arith, y.few, d);
          deep = omega (arith, d);
        }

    module _ (ends : to ≤ next) where
      abbrev inner : Mode
      inner = inner_of r.mode 37

      abbrev outer_run : (room : ℕ) (program : List ℕ) (values : List ℤ) (scope : Scope) (regs : List ℕ) → Run (Unit {0})
      outer_run room program values scope regs = one_run r.mode room (tag_at base r) r.tag (slice r.from to bytes) program (frame_in r.mode values scope regs)

      reverse_single : (room : ℕ) (program : List ℕ) (values : List ℤ) (scope : Scope) (regs : List ℕ)
          → outer_run room program values scope regs ≡ (step r.mode.limit room (tag_at base r) >> one_run inner room (base + r.from) tag (slice (r.from + 3) to bytes) program (frame_in inner values scope regs))
      unfolding in_direction
      reverse_single room program values scope regs =
          let z : next ≡ to = omega (arith, ends, held.high) in
          let b : tag_at base r + 3 ≡ base + r.from = omega (arith, w.able.behind) in
          one_reverse r.mode room (tag_at base r) r.tag (slice r.from to bytes) program (frame_in r.mode values scope regs) w.able.enterable.deep t
          ∙ (λ j. step r.mode.limit room (tag_at base r) >> run_statements r.mode.limit room (list_at (r.mode.levels - 1) (b j) (slice r.from to bytes)) (families_in r.mode room program) (frame_of (turned r.mode.reversed j) (condition_of r.mode.condition) values (operands_of scope regs)))
          ∙ ap (λ (x : Run (Unit {0})). step r.mode.limit room (tag_at base r) >> x)
          (list_single inner room (base + r.from) tag (slice r.from to bytes) (slice (r.from + 3) to bytes) program (frame_in inner values scope regs) (rw z at (held.alone (base + r.from))))

      pub inside_more : HasBody tag → (s : State) → StepTaken inner tag (slice (r.from + 3) to bytes) r.st s → Inside bytes base to e (record { from = r.from + 3; tag = tag; mode = inner; st = s })
      inside_more h s q =
          let y = w.able.ready in
          let z : base + (r.from + 3) - 3 ≡ base + r.from = omega arith in
          record {
            able = record {
              ready = record { few = omega (arith, y.few); order = content.low; within = y.within; near = y.near; here = omega (arith, content.near) };
              behind = omega arith;
              enterable = q.enterable;
              bodied = h;
            };
            later = omega (arith, w.later);
            visible = w.visible;
            variables = w.variables;
            leads = λ room program values scope regs l l' a x. w.leads room program values scope regs l l' a (λ s₀ u. does_as _ _ _ _ _ (outer_run room program values scope regs) (reverse_single room program values scope regs)
                (step_taken r.mode.limit room l s₀ r.st (tag_at base r) _ _ _ u.step.left u.step.same u.step.more (rw z at (x r.st q))));
          }

-- the answer of what stands inside, with the values in scope
module _ (bytes : List ℕ) (base to : ℕ) (e r : Nested) (w : Inside bytes base to e r) where
  pub inside_does : (place : ℕ) → base + e.from ≡ place + 3 → (room : ℕ) (program : List ℕ) (vars : List ℤ) (scope : Scope) (regs l l' : List ℕ) (a : Result State Stop) → Nests bytes base to r room program (take r.mode.variables vars) scope regs l l' a
      → Completes e.mode e.tag (slice e.from to bytes) l e.st l' a (one_run e.mode room place e.tag (slice e.from to bytes) program (frame_in e.mode (take e.mode.variables vars) scope regs))
  inside_does place b room program vars scope regs l l' a x =
      let z : tag_at base e ≡ place = omega (arith, b) in
      let d = subst (λ (n : ℕ). Nests bytes base to e room program (take n vars) scope regs l l' a) w.variables (w.leads room program (take r.mode.variables vars) scope regs l l' a x) in
      subst (λ (n : ℕ). Completes e.mode e.tag (slice e.from to bytes) l e.st l' a (one_run e.mode room n e.tag (slice e.from to bytes) program (frame_in e.mode (take e.mode.variables vars) scope regs))) z d

  pub inside_stays : (a b : List ℤ) → take r.mode.variables a ≡ take r.mode.variables b → take e.mode.variables a ≡ take e.mode.variables b
  inside_stays a b x = subst (λ (n : ℕ). take n a ≡ take n b) w.variables x
