-- The wires of an instance, from the entry of its family. Assumes nothing.
use Prim.Native.Nat.{ℕ, ◌+◌, ◌*◌, ◌≤◌, ◌<◌}
use mathlib.Core.Path.{◌≡◌, sym, ap, ◌∙◌}
use mathlib.Core.List.{List, map}
use mathlib.Core.Bool.{true}
use mathlib.Core.Option.{some}
use borrow.Author.Tests.{eq-eqb}
use lib.IntN.{ℤ, pos}
use lib.ListN.{length, get_or}
use lib.Seq.{slice}
use Rattle.language.specs.Limits.{most_families}
use Rattle.language.specs.Read.{read}
use Rattle.language.specs.Lookup.{Declaration, family_in}
use Rattle.language.specs.Machine.{Meaning, begin, Run}
use Rattle.language.specs.Result.{four_bytes, all_sizes_fit}
use Rattle.language.specs.Sound.{wires_laid, wires_of}
use Rattle.fields.specs.Table.{past_of, Listed}
use Rattle.calls.specs.Families.{FamilyHead, Entry, declared_at}
use Rattle.calls.proofs.CallByNumber.{declared_at_lem}
use Rattle.calls.proofs.FamilyTable.{tabled}
use Rattle.std.specs.Prelude.{Result, Ok}
use Rattle.operands.specs.declared.Scope.{Scope}
use Rattle.layout.specs.declared.Unlaid.{Unlaid}
use Rattle.layout.specs.Layout.{laid, LaysOut}
use Rattle.layout.specs.Sizes.{sizes_tested}
use Rattle.runs.specs.Whole.{Acceptable}
use Rattle.runs.proofs.InstanceRuns.{no_family_lem}
use Rattle.laid_out.specs.Numbers.{WiresAt, WireCount}

-- sizes that suit fit
pub sizes_suit : (m : ℕ) (bytes : List ℕ) → length bytes ≡ 4 * m → all_sizes_fit (four_bytes bytes) ≡ true → sizes_tested m bytes ≡ Ok tt
unfolding sizes_tested
sizes_suit m bytes h k = rw (eq-eqb (length bytes) (4 * m) h, k)

-- the wires of a layout are those of the family whose types are laid out
pub laid_wires : (l : List ℕ) (at : ℕ) (values : List ℤ) (r : Result Scope Unlaid) → LaysOut (slice (at + 5) (past_of l at) l) (at + 5) (get_or l (at + 4) 0) values r
    → wires_laid (laid r begin) ≡ wires_of (some (declared_at l at)) values
unfolding wires_of
laid_wires l at values r w = ap (λ (run : Run (List Meaning)). wires_laid (run begin)) (w.same at)

-- an instance by the table of an accepted program's families
module _ (l : List ℕ) (a : Acceptable l) (table : List ℕ) (n : ℕ) (t : Listed l table n) (k : ℕ) (sizes : List ℕ) where
  -- there are fewer families
  pub wires_none : length table ≡ most_families → n ≤ k → WireCount l k sizes 0
  unfolding wires_of
  wires_none long h = λ s. rw (no_family_lem 0 0 l a.declares a.accepted table n k t long h)

  module _ (h : k < n) where
    entered : Entry l k (get_or table k 0)
    entered = (tabled l table n a.declares a.accepted a.short t).each k h

    pub head_there : FamilyHead l (get_or table k 0)
    head_there = record { long = entered.long; within = entered.within; variables = entered.variables; parameters = entered.parameters }

    pub wires_there : (r : ℕ) → WiresAt l (get_or table k 0) sizes r → WireCount l k sizes r
    wires_there r w s =
        let d : Declaration = declared_at l (get_or table k 0) in
        let e : family_in (read l) k ≡ some d = declared_at_lem l k (get_or table k 0) entered in
        let c : s.called ≡ d = cc s.declared in
        w (sizes_suit d.variables sizes (rw c at s.counted) s.small) ∙ ap (λ o. wires_of o (map pos (four_bytes sizes))) (sym e)
