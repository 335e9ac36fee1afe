-- The family that a call calls, from the number that it names. Assumes nothing.
use Prim.Native.Nat.{ℕ}
use mathlib.Core.Path.{◌≡◌, sym, ap, subst, ◌∙◌}
use mathlib.Core.List.{List}
use borrow.Author.Tests.{eq-eqb, ne_eqb}
use Rattle.language.specs.Machine.{Meaning, no_meaning}
use Rattle.language.proofs.Integers.{clash}
use Rattle.std.specs.Prelude.{Option as Maybe, Some, None, Result, Ok, Err}
use Rattle.fields.specs.declared.Named.{Named}
use Rattle.fields.specs.CallNumber.{named_in}
use Rattle.operands.specs.Meanings.{family_told, FamilyOf}
use Rattle.gates.specs.Gates.{names_none}
use Rattle.unroller.specs.CalledFamilies.{family_by, Calls}

module _ (tag from : ℕ) (content : List ℕ) (ms : List Meaning) where
  -- a call that names nothing
  pub calls_nothing : (k : ℕ) → named_in tag from content ≡ Err k → Calls tag from content ms None
  unfolding Calls names_none
  calls_nothing k e n first g = absurd (clash (ap names_none (sym e ∙ g)))

  module _ (n first : ℕ) (e : named_in tag from content ≡ Ok (record { number = n; next = first })) where
    -- a call by a family's number
    pub calls_named : (tag ≡ 42 → ⊥) → Calls tag from content ms (Some (record { number = n; next = first }))
    unfolding Calls
    calls_named h = record { number = n; named = e; family = rw (ne_eqb tag 42 h) }

    -- a call by a parameter's
    module _ (h : tag ≡ 42) (r : Maybe ℕ) (w : FamilyOf ms n r) where
      told : family_by tag n ms ≡ family_told r
      told = rw (eq-eqb tag 42 h) (sym w)

      pub calls_parameter : (k : ℕ) → r ≡ Some k → Calls tag from content ms (Some (record { number = k; next = first }))
      unfolding Calls family_told
      calls_parameter k i = record { number = n; named = e; family = told ∙ ap family_told i }

      pub calls_unfit : r ≡ None → Calls tag from content ms None
      unfolding Calls family_told
      calls_unfit i m after g =
          let q : ◌≡◌ {A = Result Named ℕ} (Ok (record { number = n; next = first })) (Ok (record { number = m; next = after })) = sym e ∙ g in
          let z : ◌≡◌ {A = Named} (record { number = n; next = first }) (record { number = m; next = after }) = cc in
          let same : n ≡ m = ap (λ (k : Named). k.number) z in
          subst (λ (x : ℕ). family_by tag x ms ≡ no_meaning) same (told ∙ ap family_told i)
