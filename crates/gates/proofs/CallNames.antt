-- Whether a call names a family or a parameter, wherever its content stands. Assumes nothing.
use mathlib.Core.Path.{◌≡◌, refl, sym, ◌∙◌}
use mathlib.Core.List.{List}
use mathlib.Core.Bool.{Bool, true, false, ◌&&◌}
use Prim.Native.Nat.{ℕ}
use Rattle.language.specs.Read.{CallNumber, names, unnamed}
use Rattle.language.proofs.Integers.{clash}
use Rattle.fields.specs.declared.Named.{Named}
use Rattle.std.specs.Prelude.{Result, Ok, Err, is_err}
use Rattle.refusals.specs.declared.Reason.{Reason}
use Rattle.fields.specs.CallNumber.{is_call_tag, numbered, number_in, named_at, named_in}
use Rattle.gates.specs.Gates.{names_none, nameless_of}

-- a number names something or nothing, wherever it stands
anywhere : (from : ℕ) (number : CallNumber) → names_none (named_at from number) ≡ names_none (named_at 0 number)
unfolding names_none named_at
anywhere from (names n width rest) = refl
anywhere from (unnamed k) = refl

module _ (tag : ℕ) (l : List ℕ) where
  pub nameless_other : is_call_tag tag ≡ false → nameless_of tag l ≡ false
  unfolding nameless_of
  nameless_other h = rw h

  module _ (h : is_call_tag tag ≡ true) (from : ℕ) where
    nameless_is : nameless_of tag l ≡ names_none (named_in tag from l)
    unfolding nameless_of
    nameless_is = rw h (sym (anywhere from (number_in tag l)))

    pub nameless_bad : (k : ℕ) → named_in tag from l ≡ Err k → nameless_of tag l ≡ true
    unfolding names_none
    nameless_bad k e = nameless_is ∙ rw e

    -- a call names nothing where the code's answer is a refusal
    pub nameless_err : (r : Result Named Reason) → numbered r ≡ named_in tag from l → is_err r ≡ nameless_of tag l
    unfolding names_none numbered
    nameless_err (Ok n) e = sym (nameless_is ∙ rw (sym e))
    nameless_err (Err k) e = sym (nameless_is ∙ rw (sym e))

  -- a call that names nothing
  pub record Nameless : Type 0 where
    pub calls : is_call_tag tag ≡ true
    pub number : ℕ
    pub bad : named_in tag 0 l ≡ Err number

  pub nameless_call : nameless_of tag l ≡ true → Nameless
  unfolding nameless_of names_none
  nameless_call h = go (is_call_tag tag) refl (named_in tag 0 l) refl h
    where
      go : (a : Bool) → is_call_tag tag ≡ a → (r : Result Named ℕ) → named_in tag 0 l ≡ r → (a && names_none r) ≡ true → Nameless
      go true e (Err k) g h = record { calls = e; number = k; bad = g }
      go true e (Ok n) g h = absurd (clash (sym h))
      go false e r g h = absurd (clash (sym h))

  -- a call that names a number, and stands at `from`
  pub record NamesNumber (from : ℕ) : Type 0 where
    pub number : ℕ
    pub after : ℕ
    pub is : named_in tag from l ≡ Ok (record { number = number; next = after })

  pub names_number : (from : ℕ) → is_call_tag tag ≡ true → nameless_of tag l ≡ false → NamesNumber from
  names_number from c h = go (named_in tag from l) refl
    where
      go : (r : Result Named ℕ) → named_in tag from l ≡ r → NamesNumber from
      go (Ok n) g = record { number = n.number; after = n.next; is = g }
      go (Err k) g = absurd (clash (sym (nameless_bad c from k g) ∙ h))
