-- The operands among a call's arguments. Assumes nothing.
use mathlib.Core.Path.{◌≡◌, refl, sym, ap, ◌∙◌}
use mathlib.Core.Bool.{Bool, true, false, cond, ◌&&◌}
use mathlib.Core.List.{List, [], ◌∷◌, ◌++◌}
use Prim.Native.Nat.{ℕ, zero, suc, ◌+◌, ◌*◌, ◌≤◌, ◌<◌}
use native.Mathlib.Omega.{arith}
use borrow.Author.Tests.{ne_eqb, leb-true, leb-false}
use lib.IntN.{ℤ}
use lib.ListN.{length, take, set, length-append, length-take}
use lib.Seq.{slice}
use lib.Dec.{leb}
use Rattle.language.specs.Limits.{most_parameters}
use Rattle.language.specs.Tree.{Place, qbit, qbits, bad_type, ParameterType, plain, family_type, operand, bad_argument}
use Rattle.language.specs.Read.{field, read_argument, read_operand, choose, is_index_tag, is_operand_tag}
use Rattle.language.specs.Machine.{Meaning, no_meaning, after, ◌>>=◌, Direction, Condition, meanings_of, meaning_of, is_wire, is_quantum, is_family, takes, all_take}
use Rattle.kinds.specs.declared.Kind.{Kind}
use Rattle.kinds.specs.Numbers.{number_of, kind_with, kind_back}
use Rattle.std.specs.Prelude.{Result, Ok, Err}
use Rattle.indexes.specs.declared.Fault.{Fault}
use Rattle.indexes.specs.declared.Fault.TheVariants.{Stuck}
use Rattle.operands.specs.declared.Wire.{Wire}
use Rattle.operands.specs.declared.Meaning as code
use Rattle.operands.specs.declared.Meaning.TheVariants.{Wire as m_wire, Bit as m_bit, Wires, Bits, Family as m_family}
use Rattle.operands.specs.Meanings.{frame_of, stood, meaning_told, FieldMeans}
use Rattle.fields.specs.declared.NoHeader.TheVariants.{End, Cut}
use Rattle.fields.proofs.Between.{look_in, in_whole}
use Rattle.calls.specs.Arguments.{operand_numbers, operand_arguments, gathered_operand, gathered_operands, Unfit, OperandsKept, GathersMore, OperandsGathered, operands_are, operands_fail}
use Rattle.calls.proofs.ArgumentLists.{Lister, Sofar, ListLeads, Skipped, led, sofar_start, sofar_end, sofar_cut, sofar_skip, sofar_more, sofar_fails}

-- ---- operands that no family takes

pub and_second : (a b : Bool) → b ≡ false → (a && b) ≡ false
and_second true b h = h
and_second false b h = refl

-- more types or operands than the other
pub all_take_long : (xs : List ParameterType) (ms : List Meaning) → (length xs ≡ length ms → ⊥) → all_take xs ms ≡ false
unfolding all_take
all_take_long [] [] h = absurd (h refl)
all_take_long [] (m ∷ ms) h = refl
all_take_long (x ∷ xs) [] h = refl
all_take_long (x ∷ xs) (m ∷ ms) h = and_second (takes x m) (all_take xs ms) (all_take_long xs ms (λ e. h (ap suc e)))

takes_none : (x : ParameterType) (m : Meaning) → is_wire m ≡ false → is_quantum m ≡ false → is_family m ≡ false → takes x m ≡ false
unfolding takes
takes_none (plain (qbit p e)) m a b c = a
takes_none (plain (qbits p i e)) m a b c = b
takes_none (plain (bad_type n p)) m a b c = refl
takes_none (family_type p v n types e) m a b c = c

all_take_classical : (xs : List ParameterType) (ms : List Meaning) (m : Meaning) → is_wire m ≡ false → is_quantum m ≡ false → is_family m ≡ false → all_take xs (ms ++ (m ∷ [])) ≡ false
unfolding all_take
all_take_classical [] [] m a b c = refl
all_take_classical [] (n ∷ ms) m a b c = refl
all_take_classical (x ∷ xs) [] m a b c = rw (takes_none x m a b c) refl
all_take_classical (x ∷ xs) (n ∷ ms) m a b c = and_second (takes x n) (all_take xs (ms ++ (m ∷ []))) (all_take_classical xs ms m a b c)

-- what does not fit does not fit with more after it
all_take_more : (xs : List ParameterType) (ms : List Meaning) (m : Meaning) → all_take (take (length ms) xs) ms ≡ false → all_take xs (ms ++ (m ∷ [])) ≡ false
unfolding all_take
all_take_more xs [] m h = absurd (let z : ◌≡◌ {A = ℕ} 0 1 = cc in omega arith)
all_take_more [] (n ∷ ms) m h = refl
all_take_more (x ∷ xs) (n ∷ ms) m h = go (takes x n) (λ e. all_take_more xs ms m e) h
  where
    go : (b : Bool) → (all_take (take (length ms) xs) ms ≡ false → all_take xs (ms ++ (m ∷ [])) ≡ false) → (b && all_take (take (length ms) xs) ms) ≡ false → (b && all_take xs (ms ++ (m ∷ []))) ≡ false
    go true f h = f h
    go false f h = refl

unfit_more : (ms : List Meaning) (m : Meaning) → Unfit ms → Unfit (ms ++ (m ∷ []))
unfit_more ms m h types e = all_take_more types ms m (h (take (length ms) types) (omega (arith, length-take (length ms) types)))

unfit_long : (ms : List Meaning) (m : Meaning) → most_parameters ≤ length ms → Unfit (ms ++ (m ∷ []))
unfit_long ms m h types e = all_take_long types (ms ++ (m ∷ [])) (λ f. omega (arith, length-append ms (m ∷ [])))

-- ---- one operand more

-- more operands than any family takes
abbrev too_many : ℕ
too_many = most_parameters + 1

gathered_more : (k f s n : ℕ) (l : List ℕ) → 3 * n + 2 < length l
    → gathered_operands (take (3 * (n + 1)) (set (set (set l (3 * n) k) (3 * n + 1) f) (3 * n + 2) s)) ≡ gathered_operands (take (3 * n) l) ++ (gathered_operand (kind_with k) f s ∷ [])
unfolding gathered_operands
gathered_more k f s n [] h = absurd (omega arith)
gathered_more k f s n (a ∷ []) h = absurd (omega arith)
gathered_more k f s n (a ∷ b ∷ []) h = absurd (omega arith)
gathered_more k f s zero (a ∷ b ∷ c ∷ l) h = refl
gathered_more k f s (suc n) (a ∷ b ∷ c ∷ l) h =
    let e : 3 * suc n ≡ suc (suc (suc (3 * n))) = omega arith in
    let d : 3 * (suc n + 1) ≡ suc (suc (suc (3 * (n + 1)))) = omega arith in
    let i : suc (suc (suc (3 * n))) + 1 ≡ suc (suc (suc (3 * n + 1))) = omega arith in
    let j : suc (suc (suc (3 * n))) + 2 ≡ suc (suc (suc (3 * n + 2))) = omega arith in
    rw (d, e, i, j) (ap (λ (ms : List Meaning). gathered_operand (kind_with a) b c ∷ ms) (gathered_more k f s n l (omega arith)))

-- of a kind, by its number
pub gathered_kind : (k : Kind) (x f s n : ℕ) (l : List ℕ) → x ≡ number_of k → 3 * n + 2 < length l
    → gathered_operands (take (3 * (n + 1)) (set (set (set l (3 * n) x) (3 * n + 1) f) (3 * n + 2) s)) ≡ gathered_operands (take (3 * n) l) ++ (gathered_operand k f s ∷ [])
gathered_kind k x f s n l e h = gathered_more x f s n l h ∙ ap (λ (j : Kind). gathered_operands (take (3 * n) l) ++ (gathered_operand j f s ∷ [])) (ap kind_with e ∙ kind_back k)

pub gathered_length : (n : ℕ) (l : List ℕ) → 3 * n ≤ length l → length (gathered_operands (take (3 * n) l)) ≡ n
unfolding gathered_operands
gathered_length zero l h = refl
gathered_length (suc n) [] h = absurd (omega arith)
gathered_length (suc n) (a ∷ []) h = absurd (omega arith)
gathered_length (suc n) (a ∷ b ∷ []) h = absurd (omega arith)
gathered_length (suc n) (a ∷ b ∷ c ∷ l) h = let e : 3 * suc n ≡ suc (suc (suc (3 * n))) = omega arith in rw e (ap suc (gathered_length n l (omega arith)))

-- an operand that is no wire, no run of wires and no family
classical_is : (m : code.Meaning) → ((w : Wire) → m ≡ m_wire w → ⊥) → ((w : Wire) (k : ℕ) → m ≡ Wires w k → ⊥) → ((k : ℕ) → m ≡ m_family k → ⊥)
    → (is_wire (stood m) ≡ false) × (is_quantum (stood m) ≡ false) × (is_family (stood m) ≡ false)
unfolding stood is_wire is_quantum is_family
classical_is (m_wire w) a b d = absurd (a w refl)
classical_is (m_bit x) a b d = (refl, refl, refl)
classical_is (Wires w k) a b d = absurd (b w k refl)
classical_is (Bits x k) a b d = (refl, refl, refl)
classical_is (m_family k) a b d = absurd (d k refl)

module _ (given : List ℕ) (n : ℕ) (s : code.Meaning) where
  -- one operand more than any family takes
  pub gathers_long : length given ≡ operand_numbers → most_parameters ≤ n → GathersMore given n s given too_many
  gathers_long z h ms k = record { same = λ i. absurd (omega arith); unfit = λ i. go (leb n most_parameters) (leb-true n most_parameters) (leb-false n most_parameters) }
    where
      go : (b : Bool) → (b ≡ true → n ≤ most_parameters) → (b ≡ false → most_parameters < n) → Unfit (ms ++ (stood s ∷ []))
      go true f g = let i = f refl in unfit_long ms (stood s) (rw (k.same i) (omega (arith, gathered_length n given (omega arith))))
      go false f g = unfit_more ms (stood s) (k.unfit (g refl))

  module _ (h : n < most_parameters) where
    pub gathers_taken : (kind : Kind) (first size : ℕ) (after : List ℕ) → stood s ≡ gathered_operand kind first size
        → gathered_operands (take (3 * (n + 1)) after) ≡ gathered_operands (take (3 * n) given) ++ (gathered_operand kind first size ∷ []) → GathersMore given n s after (n + 1)
    gathers_taken kind first size after f g ms k = record {
      same = λ i. rw f (ap (λ (x : List Meaning). x ++ (gathered_operand kind first size ∷ [])) (k.same (omega arith)) ∙ sym g);
      unfit = λ i. absurd (omega arith);
    }

    pub gathers_classical : ((w : Wire) → s ≡ m_wire w → ⊥) → ((w : Wire) (k : ℕ) → s ≡ Wires w k → ⊥) → ((k : ℕ) → s ≡ m_family k → ⊥) → GathersMore given n s given too_many
    gathers_classical a b d ms k = record { same = λ i. absurd (omega arith); unfit = λ i types j. (let x = classical_is s a b d in all_take_classical types ms (stood s) x.0 x.1 x.2) }

-- before the first operand
pub gathers_nothing : (given : List ℕ) → OperandsKept [] given 0
unfolding gathered_operands
gathers_nothing given = record { same = λ i. refl; unfit = λ i. absurd (omega arith) }

-- ---- the walk

-- the meanings of arguments, as the machine lists them
abbrev meanings_by : List ℤ → List Meaning → Lister Meaning
meanings_by values ms q d c args = meanings_of q (frame_of d c values ms) args

-- what the walk knows at a position: the operands so far, and how they are kept
pub record OperandsSoFar (l : List ℕ) (from to : ℕ) (values : List ℤ) (ms : List Meaning) (given : List ℕ) (at n : ℕ) : Type 0 where
  pub operands : List Meaning
  pub low : from ≤ at
  pub sofar : Sofar (meanings_by values ms) l from to at operands
  pub kept : OperandsKept operands given n

module _ (values : List ℤ) (ms : List Meaning) (tag : ℕ) (content : List ℕ) where
  index_skipped : is_index_tag tag ≡ true → Skipped (meanings_by values ms) tag content
  unfolding read_argument meanings_of
  index_skipped h q t d c more = rw h

  no_operand : is_operand_tag tag ≡ false → (q t : Place) (d : Direction) (c : Condition) → meaning_of q (frame_of d c values ms) (read_operand (field t tag content)) ≡ no_meaning
  unfolding read_operand choose meaning_of
  no_operand h q t d c = rw (ne_eqb tag 48 (λ e. other e h refl), ne_eqb tag 49 (λ e. other e h refl), ne_eqb tag 50 (λ e. other e h refl), ne_eqb tag 51 (λ e. other e h refl)) refl
    where
      other : {n : ℕ} → tag ≡ n → is_operand_tag tag ≡ false → is_operand_tag n ≡ true → ⊥
      other e h f = let z : ◌≡◌ {A = Bool} true false = sym f ∙ ap is_operand_tag (sym e) ∙ h in let y : ◌≡◌ {A = ℕ} 0 1 = cc in omega arith

  operand_leads : is_index_tag tag ≡ false → (x : Result code.Meaning Fault) → FieldMeans tag content values ms x → ListLeads (meanings_by values ms) tag content (λ q. meaning_told q x)
  unfolding read_argument meanings_of led ◌>>=◌ after
  operand_leads h x w q t d c more = rw (w q t d c, h) (go (is_operand_tag tag) refl)
    where
      go : (b : Bool) → is_operand_tag tag ≡ b → meanings_of q (frame_of d c values ms) (cond b (operand t (read_operand (field t tag content))) (bad_argument 3 t) ∷ more) ≡ led (meaning_of q (frame_of d c values ms) (read_operand (field t tag content))) (meanings_of q (frame_of d c values ms) more)
      go true e = refl
      go false e = rw (no_operand e q t d c)

module _ (l : List ℕ) (from to : ℕ) (values : List ℤ) (ms : List Meaning) where
  pub operands_start : (given : List ℕ) → OperandsSoFar l from to values ms given from 0
  operands_start given = record { operands = []; low = omega arith; sofar = sofar_start (meanings_by values ms) l from to; kept = gathers_nothing given }

  module _ (given : List ℕ) (at n : ℕ) (s : OperandsSoFar l from to values ms given at n) where
    pub gathered_end : look_in l at to ≡ Err End → OperandsGathered (operand_arguments (slice from to l) values ms) given (Ok n)
    unfolding meanings_of
    gathered_end e = operands_are s.operands (sofar_end (meanings_by values ms) l from to at s.low s.operands s.sofar e (λ q d c. refl)) s.kept

    pub gathered_cut : look_in l at to ≡ Err Cut → OperandsGathered (operand_arguments (slice from to l) values ms) given (Err Stuck)
    unfolding meanings_of
    gathered_cut e = operands_fail (sofar_cut (meanings_by values ms) l from to at s.low s.operands s.sofar e (λ q t d c. refl))

    module _ (tag next : ℕ) (e : look_in l at to ≡ Ok (record { tag = tag; next = next })) where
      further : from ≤ next
      further = omega (arith, (in_whole l at to tag next e).low, s.low)

      pub gathered_skip : is_index_tag tag ≡ true → OperandsSoFar l from to values ms given next n
      gathered_skip h = record {
        operands = s.operands;
        low = further;
        sofar = sofar_skip (meanings_by values ms) l from to at s.low s.operands s.sofar tag next e (index_skipped values ms tag (slice (at + 3) next l) h);
        kept = s.kept;
      }

      module _ (h : is_index_tag tag ≡ false) (x : Result code.Meaning Fault) (w : FieldMeans tag (slice (at + 3) next l) values ms x) where
        leads : ListLeads (meanings_by values ms) tag (slice (at + 3) next l) (λ q. meaning_told q x)
        leads = operand_leads values ms tag (slice (at + 3) next l) h x w

        pub gathered_fail : (f : Fault) → x ≡ Err f → OperandsGathered (operand_arguments (slice from to l) values ms) given (Err f)
        unfolding meaning_told
        gathered_fail f g = operands_fail (sofar_fails (meanings_by values ms) l from to at s.low s.operands s.sofar tag next e (λ q. meaning_told q x) leads f (λ q. ap (meaning_told q) g))

        pub gathered_one : (m : code.Meaning) → x ≡ Ok m → (after : List ℕ) (r : ℕ) → GathersMore given n m after r → OperandsSoFar l from to values ms after next r
        unfolding meaning_told
        gathered_one m f after r k = record {
          operands = s.operands ++ (stood m ∷ []);
          low = further;
          sofar = sofar_more (meanings_by values ms) l from to at s.low s.operands s.sofar tag next e (λ q. meaning_told q x) leads (stood m) (λ q. ap (meaning_told q) f);
          kept = k s.operands s.kept;
        }
