-- The sizes among a call's arguments. Assumes nothing.
use mathlib.Core.Path.{◌≡◌, refl, sym, ap, ◌∙◌}
use mathlib.Core.Bool.{Bool, true, false, cond, ◌&&◌}
use mathlib.Core.List.{List, [], ◌∷◌, ◌++◌}
use Prim.Native.Nat.{ℕ, ◌+◌, ◌≤◌, ◌<◌}
use native.Mathlib.Omega.{arith}
use native.Mathlib.Numerals.{add-one}
use lib.Dec.{leb}
use borrow.Author.Tests.{leb-true, ne_eqb, lt-leb}
use lib.IntN.{ℤ}
use lib.ListN.{length, take, set, length-append}
use lib.Seq.{slice, take-suc-set}
use Rattle.language.specs.Limits.{most_variables, deepest}
use Rattle.language.specs.Tree.{Place, index, operand, bad_argument}
use Rattle.language.specs.Read.{field, read_argument, read_index, read_operand, index_by, choose, is_index_tag, is_operand_tag}
use Rattle.language.specs.Machine.{Meaning, no_meaning, after, ◌>>=◌, sizes_of, evaluate}
use Rattle.std.specs.Prelude.{Result, Ok, Err}
use Rattle.indexes.specs.declared.Fault.{Fault}
use Rattle.indexes.specs.declared.Fault.TheVariants.{Stuck}
use Rattle.indexes.specs.Values.{most_values, value_told, IndexIs}
use Rattle.operands.specs.Meanings.{frame_of}
use Rattle.fields.specs.declared.NoHeader.TheVariants.{End, Cut}
use Rattle.fields.proofs.Between.{look_in, in_whole}
use Rattle.calls.specs.Arguments.{size_arguments, SizesGathered, are, fails}
use Rattle.calls.proofs.ArgumentLists.{Lister, Sofar, ListLeads, Skipped, led, sofar_start, sofar_end, sofar_cut, sofar_skip, sofar_more, sofar_fails}

-- the sizes of arguments, as the machine lists them
abbrev sizes_by : List ℤ → List Meaning → Lister ℤ
sizes_by values ms q d c args = sizes_of q (frame_of d c values ms) args

-- what the walk knows at a position: the sizes so far, how many, and that the first are stored
pub record SizesSoFar (l : List ℕ) (from to : ℕ) (values stored : List ℤ) (ms : List Meaning) (at k : ℕ) : Type 0 where
  pub sizes : List ℤ
  pub low : from ≤ at
  pub sofar : Sofar (sizes_by values ms) l from to at sizes
  pub many : length sizes ≡ k
  pub kept : k ≤ most_variables → sizes ≡ take k stored

-- an operand tag is no index tag
operand_no_index : (tag : ℕ) → is_operand_tag tag ≡ true → is_index_tag tag ≡ false
operand_no_index tag h = rw (lt-leb 64 tag (high (leb 48 tag) (leb tag 51) (leb-true tag 51) h)) refl
  where
    high : (a b : Bool) → (b ≡ true → tag ≤ 51) → (a && b) ≡ true → tag < 64
    high true true f h = let q = f refl in omega arith
    high true false f h = absurd (let z : ◌≡◌ {A = ℕ} 0 1 = cc in omega arith)
    high false b f h = absurd (let z : ◌≡◌ {A = ℕ} 0 1 = cc in omega arith)

module _ (values : List ℤ) (ms : List Meaning) (tag : ℕ) (content : List ℕ) where
  pub operand_skipped : is_operand_tag tag ≡ true → Skipped (sizes_by values ms) tag content
  unfolding read_argument sizes_of
  operand_skipped h q t d c more = rw (operand_no_index tag h, h)

  -- a field of another tag is no index
  no_index : is_index_tag tag ≡ false → (q t : Place) → evaluate q values (read_index deepest (field t tag content)) ≡ no_meaning
  unfolding read_index index_by choose evaluate
  no_index h q t = rw (ne_eqb tag 64 (λ e. other e h refl), ne_eqb tag 65 (λ e. other e h refl), ne_eqb tag 66 (λ e. other e h refl), ne_eqb tag 67 (λ e. other e h refl), ne_eqb tag 68 (λ e. other e h refl)) refl
    where
      other : {n : ℕ} → tag ≡ n → is_index_tag tag ≡ false → is_index_tag n ≡ true → ⊥
      other e h f = let z : ◌≡◌ {A = Bool} true false = sym f ∙ ap is_index_tag (sym e) ∙ h in let y : ◌≡◌ {A = ℕ} 0 1 = cc in omega arith

  pub index_leads : is_operand_tag tag ≡ false → (v : Result ℤ Fault) → IndexIs tag content deepest values v → ListLeads (sizes_by values ms) tag content (λ q. value_told q v)
  unfolding read_argument sizes_of led ◌>>=◌ after
  index_leads h v w q t d c more = rw (w.same q t) (go (is_index_tag tag) refl)
    where
      go : (b : Bool) → is_index_tag tag ≡ b → sizes_of q (frame_of d c values ms) (cond b (index t (read_index deepest (field t tag content))) (cond (is_operand_tag tag) (operand t (read_operand (field t tag content))) (bad_argument 3 t)) ∷ more) ≡ led (evaluate q values (read_index deepest (field t tag content))) (sizes_of q (frame_of d c values ms) more)
      go true e = refl
      go false e = rw (h, no_index e q t)

module _ (l : List ℕ) (from to : ℕ) (values : List ℤ) (ms : List Meaning) where
  pub sizes_start : (stored : List ℤ) → SizesSoFar l from to values stored ms from 0
  sizes_start stored = record { sizes = []; low = omega arith; sofar = sofar_start (sizes_by values ms) l from to; many = refl; kept = λ h. refl }

  module _ (stored : List ℤ) (at k : ℕ) (s : SizesSoFar l from to values stored ms at k) where
    pub sizes_end : look_in l at to ≡ Err End → SizesGathered (size_arguments (slice from to l) values ms) stored (Ok k)
    unfolding sizes_of
    sizes_end e = are s.sizes (sofar_end (sizes_by values ms) l from to at s.low s.sizes s.sofar e (λ q d c. refl)) s.many s.kept

    pub sizes_cut : look_in l at to ≡ Err Cut → SizesGathered (size_arguments (slice from to l) values ms) stored (Err Stuck)
    unfolding sizes_of
    sizes_cut e = fails (sofar_cut (sizes_by values ms) l from to at s.low s.sizes s.sofar e (λ q t d c. refl))

    module _ (tag next : ℕ) (e : look_in l at to ≡ Ok (record { tag = tag; next = next })) where
      further : from ≤ next
      further = omega (arith, (in_whole l at to tag next e).low, s.low)

      pub sizes_skip : is_operand_tag tag ≡ true → SizesSoFar l from to values stored ms next k
      sizes_skip h = record {
        sizes = s.sizes;
        low = further;
        sofar = sofar_skip (sizes_by values ms) l from to at s.low s.sizes s.sofar tag next e (operand_skipped values ms tag (slice (at + 3) next l) h);
        many = s.many;
        kept = s.kept;
      }

      module _ (h : is_operand_tag tag ≡ false) (v : Result ℤ Fault) (w : IndexIs tag (slice (at + 3) next l) deepest values v) where
        leads : ListLeads (sizes_by values ms) tag (slice (at + 3) next l) (λ q. value_told q v)
        leads = index_leads values ms tag (slice (at + 3) next l) h v w

        pub sizes_fail : (f : Fault) → v ≡ Err f → SizesGathered (size_arguments (slice from to l) values ms) stored (Err f)
        unfolding value_told
        sizes_fail f g = fails (sofar_fails (sizes_by values ms) l from to at s.low s.sizes s.sofar tag next e (λ q. value_told q v) leads f (λ q. ap (value_told q) g))

        pub sizes_more : (z : ℤ) (after : List ℤ) → v ≡ Ok z → (k < most_variables → after ≡ set stored k z) → length stored ≡ most_values → SizesSoFar l from to values after ms next (k + 1)
        unfolding value_told
        sizes_more z after f g n = record {
          sizes = s.sizes ++ (z ∷ []);
          low = further;
          sofar = sofar_more (sizes_by values ms) l from to at s.low s.sizes s.sofar tag next e (λ q. value_told q v) leads z (λ q. ap (value_told q) f);
          many = omega (arith, length-append s.sizes (z ∷ []), s.many);
          kept = λ i. rw (g (omega arith), add-one) (ap (λ (x : List ℤ). x ++ (z ∷ [])) (s.kept (omega arith)) ∙ sym (take-suc-set stored k z (omega arith)));
        }
