-- Which family a call calls.
use Rattle.std.specs.Prelude.{ℕ, ◌≡◌, cond, List, eqb, Option, Some, None, Ok}
use Rattle.std.proofs.Math.ListN.{get_elem?}
use Rattle.language.specs.Machine.{Meaning, Run, give, no_meaning, found, as_family, ◌>>=◌}
use Rattle.fields.specs.CallNumber.{named_in}
use Rattle.fields.specs.declared.Named.{Named}

-- the family that a call with this tag calls by the number n: the one that the parameter n stands for, or the family n itself
abbrev pub family_by : (tag n : ℕ) → List Meaning → Run ℕ
family_by tag n ms = cond (eqb tag 42) (found (get_elem? ms n) >>= as_family) (give n)

-- the call with this tag and this content, which stands at `from`, calls the family k, and its arguments begin at `first`
pub record CallsFamily (tag from : ℕ) (content : List ℕ) (ms : List Meaning) (k first : ℕ) : Type 0 where
  pub number : ℕ
  pub named : named_in tag from content ≡ Ok (record { number = number; next = first })
  pub family : family_by tag number ms ≡ give k

-- which family the call calls: none, whatever number it names, where it has no meaning
unfoldable pub Calls : (tag from : ℕ) → List ℕ → List Meaning → Option Named → Type 0
Calls tag from content ms (Some called) = CallsFamily tag from content ms called.number called.next
Calls tag from content ms None = (n first : ℕ) → named_in tag from content ≡ Ok (record { number = n; next = first }) → family_by tag n ms ≡ no_meaning
