-- What the sizes and the operands of a call come to. Assumes nothing.
use mathlib.Core.Path.{◌≡◌, refl, sym, ap, ◌∙◌}
use mathlib.Core.Bool.{Bool, true, false, cond, ◌&&◌}
use mathlib.Core.List.{List, [], ◌∷◌, map}
use Prim.Native.Nat.{ℕ, zero, suc, ◌+◌, ◌*◌, ◌≤◌, ◌<◌}
use native.Mathlib.Omega.{arith}
use lib.Dec.{eqb}
use borrow.Author.Tests.{eqb-true}
use lib.IntN.{ℤ}
use lib.ListN.{length, get_or, take, drop, drop_of_length-le}
use lib.Seq.{drop-cons}
use Rattle.language.specs.Limits.{most_variables, most_parameters}
use Rattle.language.specs.Tree.{Place, Argument}
use Rattle.language.specs.Lookup.{meaning}
use Rattle.language.specs.Machine.{call_family, Meaning, Run, give, no_meaning, after, ◌>>=◌, Direction, Condition, Frame, Family, sizes_of, meanings_of, all_take, enter, in_call, run_statements}
use Rattle.operands.specs.declared.Parameter.{Parameter}
use Rattle.operands.specs.declared.Scope.{Scope}
use Rattle.operands.specs.Meanings.{frame_of, operands_of, of_parameter}
use Rattle.std.specs.Prelude.{Option as Maybe, Some, None, Result, Ok, Err}
use Rattle.indexes.specs.declared.Fault.{Fault}
use Rattle.indexes.specs.declared.Fault.TheVariants.{Over, Stuck}
use Rattle.indexes.specs.Values.{fault_told}
use Rattle.calls.specs.Families.{FamilyHead, declared_at, BodyFrom}
use Rattle.kinds.specs.Numbers.{kind_with}
use Rattle.calls.specs.Arguments.{arguments_in, size_arguments, operand_arguments, operand_numbers, gathered_operand, gathered_operands, Gives, SizesGathered, are, fails, OperandsKept, OperandsGathered, operands_are, operands_fail, taking, FamilyTakes, Scopes, arguments_told, BodyBegins, Arguments}

-- a family takes these sizes and operands, or does not
unfoldable entered : Bool → Run (Unit {0}) → Run (Unit {0})
entered b run = cond b run no_meaning

module _ (q : Place) (f : Frame) (args : List Argument) (called : Family) where
  fails_first : (fault : Fault) → sizes_of q f args ≡ fault_told q fault → call_family q f args called ≡ fault_told q fault
  unfolding call_family ◌>>=◌ after fault_told
  fails_first Over e = rw e
  fails_first Stuck e = rw e

  module _ (zs : List ℤ) (z : sizes_of q f args ≡ give zs) where
    fails_second : (fault : Fault) → meanings_of q f args ≡ fault_told q fault → call_family q f args called ≡ fault_told q fault
    unfolding call_family ◌>>=◌ after fault_told
    fails_second Over e = rw (z, e)
    fails_second Stuck e = rw (z, e)

    enters : (ms : List Meaning) → meanings_of q f args ≡ give ms → call_family q f args called ≡ entered (eqb (length zs) called.variables && all_take called.types ms) (called.body (in_call f zs ms))
    unfolding call_family ◌>>=◌ after enter in_call entered
    enters ms e = rw (z, e)

module _ (l program : List ℕ) (at : ℕ) (values : List ℤ) (ms : List Meaning) (stored : List ℤ) (numbers : List ℕ) where
  -- a call that fails
  fails_call : (f : Fault) → ((q t : Place) (d : Direction) (c : Condition) (called : Family) → call_family q (frame_of d c values ms) (arguments_in t l) called ≡ fault_told q f) → Arguments l program at values ms stored numbers (Err f)
  unfolding arguments_told BodyBegins
  fails_call f h = record { same = λ q t d c limit out fs. h q t d c (meaning limit out fs (declared_at program at)); begins = tt }

  pub sizes_fail : (s : Result ℕ Fault) → SizesGathered (size_arguments l values ms) stored s → (f : Fault) → s ≡ Err f → Arguments l program at values ms stored numbers (Err f)
  sizes_fail s (are zs g n k) f e = absurd (let z : ◌≡◌ {A = ℕ} 0 1 = cc in omega arith)
  sizes_fail s (fails {f = x} g) f e =
      let i : x ≡ f = cc in
      fails_call f (λ q t d c called. fails_first q (frame_of d c values ms) (arguments_in t l) called f (g q t d c ∙ ap (fault_told q) i))

-- the sizes of a call that are counted
pub record SizesCounted (l : List ℕ) (values : List ℤ) (ms : List Meaning) (stored : List ℤ) (k : ℕ) : Type 0 where
  pub sizes : List ℤ
  pub gives : Gives (size_arguments l values ms) sizes
  pub many : length sizes ≡ k
  pub kept : k ≤ most_variables → sizes ≡ take k stored

pub sizes_counted : (l : List ℕ) (values : List ℤ) (ms : List Meaning) (stored : List ℤ) (s : Result ℕ Fault) (k : ℕ) → SizesGathered (size_arguments l values ms) stored s → s ≡ Ok k → SizesCounted l values ms stored k
sizes_counted l values ms stored s k (are {k = j} zs g n f) e = let i : j ≡ k = cc in rw (← i) (record { sizes = zs; gives = g; many = n; kept = f })
sizes_counted l values ms stored s k (fails g) e = absurd (let z : ◌≡◌ {A = ℕ} 0 1 = cc in omega arith)

module _ (l program : List ℕ) (at : ℕ) (values : List ℤ) (ms : List Meaning) (stored : List ℤ) (k : ℕ) (z : SizesCounted l values ms stored k) (numbers : List ℕ) where
  pub operands_fail_lem : (o : Result ℕ Fault) → OperandsGathered (operand_arguments l values ms) numbers o → (f : Fault) → o ≡ Err f → Arguments l program at values ms stored numbers (Err f)
  operands_fail_lem o (operands_are ns g n) f e = absurd (let z : ◌≡◌ {A = ℕ} 0 1 = cc in omega arith)
  operands_fail_lem o (operands_fail {f = x} g) f e =
      let i : x ≡ f = cc in
      fails_call l program at values ms stored numbers f (λ q t d c called. fails_second q (frame_of d c values ms) (arguments_in t l) called z.sizes (z.gives q t d c) f (g q t d c ∙ ap (fault_told q) i))

  module _ (o : Result ℕ Fault) (w : OperandsGathered (operand_arguments l values ms) numbers o) (n : ℕ) (a : o ≡ Ok n) where
    -- the operands that are kept
    kept : (ns : List Meaning) × Gives (operand_arguments l values ms) ns × OperandsKept ns numbers n
    kept = go o a w
      where
        go : (o : Result ℕ Fault) → o ≡ Ok n → OperandsGathered (operand_arguments l values ms) numbers o → (ns : List Meaning) × Gives (operand_arguments l values ms) ns × OperandsKept ns numbers n
        go o a (operands_are {n = m} ns f v) = let i : m ≡ n = cc in (ns, f, rw i at v)
        go o a (operands_fail f) = absurd (let z : ◌≡◌ {A = ℕ} 0 1 = cc in omega arith)

    is_entered : (b : Bool) → taking program at k kept.0 ≡ b → (q t : Place) (d : Direction) (c : Condition) (limit out : ℕ) (fs : List Family)
        → call_family q (frame_of d c values ms) (arguments_in t l) (meaning limit out fs (declared_at program at))
        ≡ entered b (run_statements limit out (declared_at program at).body fs (frame_of d c z.sizes kept.0))
    unfolding entered meaning in_call
    is_entered b f q t d c limit out fs =
        let e : (eqb (length z.sizes) (get_or program (at + 3) 0) && all_take (declared_at program at).types kept.0) ≡ b = rw z.many f in
        enters q (frame_of d c values ms) (arguments_in t l) (meaning limit out fs (declared_at program at)) z.sizes (z.gives q t d c) kept.0 (kept.1 q t d c)
        ∙ ap (λ (x : Bool). entered x (run_statements limit out (declared_at program at).body fs (frame_of d c z.sizes kept.0))) e

    pub not_taken : (f : Maybe ℕ) → FamilyTakes program at k n numbers f → f ≡ None → Arguments l program at values ms stored numbers (Err Stuck)
    unfolding entered arguments_told FamilyTakes BodyBegins fault_told
    not_taken f v i = record { same = λ q t d c limit out fs. is_entered false ((rw i at v) kept.0 kept.2) q t d c limit out fs; begins = tt }

    pub all_taken : (f : Maybe ℕ) (start : ℕ) → FamilyHead program at → FamilyTakes program at k n numbers f → f ≡ Some start → Arguments l program at values ms stored numbers (Ok (record { count = n; start = start }))
    unfolding entered arguments_told FamilyTakes BodyBegins
    all_taken f start h v i =
        let u : (taking program at k (gathered_operands (take (3 * n) numbers)) ≡ true) × BodyFrom program at start × (n ≤ most_parameters) = rw i at v in
        let j : kept.0 ≡ gathered_operands (take (3 * n) numbers) = kept.2.same u.2 in
        let y : taking program at k kept.0 ≡ true = rw j u.0 in
        let m : k ≡ get_or program (at + 3) 0 = eqb-true k (get_or program (at + 3) 0) (first (eqb k (get_or program (at + 3) 0)) _ y) in
        let x : z.sizes ≡ take (get_or program (at + 3) 0) stored = rw m at (z.kept (omega (arith, h.variables))) in
        record {
          same = λ q t d c limit out fs. is_entered true y q t d c limit out fs ∙ (λ n. run_statements limit out (declared_at program at).body fs (frame_of d c (x n) (j n)));
          begins = u.1;
        }
      where
        first : (a b : Bool) → (a && b) ≡ true → a ≡ true
        first true b h = refl
        first false b h = h

-- ---- the scope of the operands gathered

take_gathered : (n : ℕ) (l : List ℕ) → gathered_operands (take (3 * n) l) ≡ take n (gathered_operands l)
unfolding gathered_operands
take_gathered zero l = refl
take_gathered (suc n) [] = let e : 3 * suc n ≡ suc (suc (suc (3 * n))) = omega arith in rw e refl
take_gathered (suc n) (a ∷ []) = let e : 3 * suc n ≡ suc (suc (suc (3 * n))) = omega arith in rw e refl
take_gathered (suc n) (a ∷ b ∷ []) = let e : 3 * suc n ≡ suc (suc (suc (3 * n))) = omega arith in rw e refl
take_gathered (suc n) (a ∷ b ∷ c ∷ l) = let e : 3 * suc n ≡ suc (suc (suc (3 * n))) = omega arith in rw e (ap (λ (x : List Meaning). gathered_operand (kind_with a) b c ∷ x) (take_gathered n l))

map_take : (n : ℕ) (ps : List Parameter) → map of_parameter (take n ps) ≡ take n (map of_parameter ps)
map_take zero ps = refl
map_take (suc n) [] = refl
map_take (suc n) (p ∷ ps) = ap (λ (x : List Meaning). of_parameter p ∷ x) (map_take n ps)

-- the operand whose numbers begin at j
abbrev one : List ℕ → ℕ → Meaning
one l j = gathered_operand (kind_with (get_or l j 0)) (get_or l (j + 1) 0) (get_or l (j + 2) 0)

gathered_from : (l : List ℕ) (j : ℕ) → j + 2 < length l → gathered_operands (drop j l) ≡ (one l j ∷ gathered_operands (drop (j + 3) l))
unfolding gathered_operands
gathered_from l j h =
    let a = drop-cons l j 0 (omega arith) in
    let b = drop-cons l (suc j) 0 (omega arith) in
    let c = drop-cons l (suc (suc j)) 0 (omega arith) in
    let x : j + 1 ≡ suc j = omega arith in
    let y : j + 2 ≡ suc (suc j) = omega arith in
    let i : j + 3 ≡ suc (suc (suc j)) = omega arith in
    rw (x, y, i, a, b, c)

all_gathered : (l : List ℕ) → length l ≡ operand_numbers → gathered_operands l ≡ (one l 0 ∷ one l 3 ∷ one l 6 ∷ one l 9 ∷ one l 12 ∷ one l 15 ∷ one l 18 ∷ one l 21 ∷ [])
unfolding gathered_operands
all_gathered l h = rw (gathered_from l 0 (omega arith), gathered_from l 3 (omega arith), gathered_from l 6 (omega arith), gathered_from l 9 (omega arith), gathered_from l 12 (omega arith), gathered_from l 15 (omega arith), gathered_from l 18 (omega arith), gathered_from l 21 (omega arith), drop_of_length-le l {i = operand_numbers} (omega arith)) refl

pub scopes : (numbers : List ℕ) (n : ℕ) (s : Scope) → length numbers ≡ operand_numbers → s.top ≡ false → s.count ≡ n
    → map of_parameter s.params ≡ (one numbers 0 ∷ one numbers 3 ∷ one numbers 6 ∷ one numbers 9 ∷ one numbers 12 ∷ one numbers 15 ∷ one numbers 18 ∷ one numbers 21 ∷ []) → Scopes numbers n s
unfolding operands_of
scopes numbers n s z a b e = record { same = λ regs. rw (a, b) (map_take n s.params ∙ ap (take n) (e ∙ sym (all_gathered numbers z)) ∙ sym (take_gathered n numbers)) }
