-- A call: the family that it calls, and its body. Assumes nothing.
use Prim.Native.Nat.{ℕ, ◌+◌, ◌*◌, ◌-◌, ◌<◌, ◌≤◌}
use mathlib.Core.Path.{◌≡◌, refl, sym, ap, ◌∙◌}
use mathlib.Core.List.{List, []}
use mathlib.Core.Bool.{true, false}
use native.Mathlib.Omega.{arith}
use lib.ListN.{length, get_or, take}
use lib.Seq.{slice, take-length}
use lib.IntN.{ℤ}
use Rattle.language.specs.Tree.{call}
use Rattle.language.specs.Read.{read, fields, statements_by, outer_statement}
use Rattle.language.specs.Machine.{Meaning, Run, no_meaning, found, step, run_call, run_statement, run_statements, all_declared, after, ◌>>=◌, ◌>>◌}
use Rattle.language.proofs.Families.{family_not_called}
use Rattle.fields.specs.Table.{past_of}
use Rattle.std.specs.Prelude.{Option as Maybe, Some, None, Result, Ok, Err}
use Rattle.fields.specs.declared.Named.{Named}
use Rattle.indexes.specs.declared.Fault.{Fault}
use Rattle.indexes.specs.Values.{fault_told}
use Rattle.fields.specs.CallNumber.{is_call_tag, named_in}
use Rattle.fields.proofs.CallNumbers.{named_in_lem}
use Rattle.operands.specs.declared.Scope.{Scope}
use Rattle.operands.specs.Meanings.{operands_of, frame_of}
use Rattle.records.specs.Outcomes.{condition_of}
use Rattle.gates.specs.declared.Mode.{Mode}
use Rattle.gates.specs.Gates.{direction_of, frame_in, entered_of, nameless_of}
use Rattle.gates.proofs.CallNames.{names_number}
use Rattle.calls.specs.declared.Taken.{Taken}
use Rattle.calls.specs.Families.{declared_at, Entry, BodyFrom}
use Rattle.calls.specs.Arguments.{arguments_in, gathered_operands, arguments_told, BodyBegins, Scopes, Arguments}
use Rattle.calls.proofs.CallByNumber.{call_is}
use Rattle.unroller.specs.Runs.{Ready, families_in, one_run, rest_run}
use Rattle.unroller.specs.CalledFamilies.{family_by, CallsFamily, Calls}
use Rattle.unroller.proofs.Statements.{one_call}

module _ (tag from : ℕ) (content : List ℕ) (ms : List Meaning) (r : Maybe Named) (w : Calls tag from content ms r) where
  pub calls_family : (h : Named) → r ≡ Some h → CallsFamily tag from content ms h.number h.next
  unfolding Calls
  calls_family h e = rw e at w

  pub calls_none : r ≡ None → Calls tag from content ms None
  calls_none e = rw e at w

module _ (mode : Mode) (room base from to place tag : ℕ) (bytes program : List ℕ) (values : List ℤ) (scope : Scope) (regs : List ℕ)
    (ready : Ready mode base from to (length bytes) place) (deep : mode.levels ≡ 0 → ⊥) (calls : is_call_tag tag ≡ true) where
  abbrev whole : Run (Unit {0})
  whole = one_run mode room place tag (slice from to bytes) program (frame_in mode values scope regs)

  -- what is done with the family that is called
  abbrev calling : (first : ℕ) → Run ℕ → Run (Unit {0})
  calling first family = step mode.limit room place
      >> (family >>= λ k. run_call mode.limit room place k (arguments_in (place + 3 + (first - from)) (slice first to bytes)) (families_in mode room program) (frame_in mode values scope regs))

  -- the call by the number that it names, with the arguments behind it
  call_named : (n first : ℕ) → named_in tag from (slice from to bytes) ≡ Ok (record { number = n; next = first }) → whole ≡ calling first (family_by tag n (operands_of scope regs))
  call_named n first e = one_call mode room place tag (slice from to bytes) program (frame_in mode values scope regs) deep calls n _ _ ((named_in_lem tag from to bytes ready.order ready.within n first e).reads place _ refl)

  -- it calls none
  pub call_nothing : nameless_of tag (slice from to bytes) ≡ false → Calls tag from (slice from to bytes) (operands_of scope regs) None → whole ≡ (step mode.limit room place >> no_meaning)
  unfolding Calls ◌>>=◌ after
  call_nothing h w =
      let k = names_number tag (slice from to bytes) from calls h in
      call_named k.number k.after k.is ∙ ap (calling k.after) (w k.number k.after k.is)

  module _ (number first : ℕ) (named : CallsFamily tag from (slice from to bytes) (operands_of scope regs) number first) where
    -- it calls a family
    call_family_lem : whole ≡ run_statement mode.limit room (call place number (arguments_in (place + 3 + (first - from)) (slice first to bytes))) (families_in mode room program) (frame_in mode values scope regs)
    unfolding run_statement ◌>>=◌ after
    call_family_lem = call_named named.number first named.named ∙ ap (calling first) named.family

    -- a number of no family
    pub call_none : mode.families_visible ≤ number → whole ≡ (step mode.limit room place >> no_meaning)
    unfolding run_statement run_call found ◌>>=◌ after
    call_none h = call_family_lem ∙ rw (family_not_called mode.limit room (read program) mode.families_visible number h)

    module _ (at : ℕ) (h : number < mode.families_visible) (e : Entry program number at) (sizes : List ℤ) (hand : List ℕ) (r : Result Taken Fault)
        (w : Arguments (slice first to bytes) program at values (operands_of scope regs) sizes hand r) where
      -- what the body does with so many operands
      abbrev bodied : ℕ → Run (Unit {0})
      bodied n = run_statements mode.limit room (declared_at program at).body (take number (all_declared mode.limit room (read program) []))
          (frame_of (direction_of mode.reversed) (condition_of mode.condition) (take (get_or program (at + 3) 0) sizes) (gathered_operands (take (3 * n) hand)))

      called : whole ≡ (step mode.limit room place >> arguments_told place r bodied)
      called = call_family_lem ∙ call_is program number at mode.families_visible e h (slice first to bytes) values (operands_of scope regs) sizes hand r w
          mode.limit room place (place + 3 + (first - from)) (direction_of mode.reversed) (condition_of mode.condition)

      pub call_fails : (f : Fault) → r ≡ Err f → whole ≡ (step mode.limit room place >> fault_told place f)
      unfolding arguments_told
      call_fails f q = called ∙ ap (λ (x : Result Taken Fault). step mode.limit room place >> arguments_told place x bodied) q

      pub call_begins : (h : Taken) → r ≡ Ok h → BodyFrom program at h.start
      unfolding BodyBegins
      call_begins h q = rw q at w.begins

      -- all are taken: the body's list, which begins at `start`
      pub call_all : (h : Taken) → r ≡ Ok h → (inner : Scope) → Scopes hand h.count inner → (b : List ℕ) → b ≡ slice h.start (past_of program at) program
          → whole ≡ (step mode.limit room place >> rest_run (entered_of mode number (get_or program (at + 3) 0)) room h.start 0 (length b) b program
          (frame_in (entered_of mode number (get_or program (at + 3) 0)) (take (get_or program (at + 3) 0) sizes) inner regs))
      unfolding arguments_told
      call_all k q inner s b c =
          let o = call_begins k q in
          let i : at + 5 + (k.start - (at + 5)) ≡ k.start + 0 = omega (arith, o.low) in
          let body : statements_by outer_statement (fields (k.start + 0) (slice 0 (length b) b)) ≡ (declared_at program at).body =
          ap (λ (x : List ℕ). statements_by outer_statement (fields (k.start + 0) x)) (take-length b ∙ c) ∙ ap (λ (z : ℕ). statements_by outer_statement (fields z (slice k.start (past_of program at) program))) (sym i)
          ∙ ap (statements_by outer_statement) (o.rest (at + 5)) in
          called ∙ ap (λ (x : Result Taken Fault). step mode.limit room place >> arguments_told place x bodied) q
          ∙ (λ j. step mode.limit room place >> run_statements mode.limit room (sym body j) (take number (all_declared mode.limit room (read program) []))
          (frame_of (direction_of mode.reversed) (condition_of mode.condition) (take (get_or program (at + 3) 0) sizes) (sym (s.same regs) j)))
