-- Arguments gone through one by one, with what they gave so far. Assumes nothing.
use mathlib.Core.Path.{◌≡◌, refl, sym, ap, ◌∙◌}
use mathlib.Core.List.{List, [], ◌∷◌, ◌++◌, map, append_assoc, append-nil}
use Prim.Native.Nat.{ℕ, ◌+◌, ◌-◌, ◌≤◌, ◌<◌}
use lib.ListN.{length}
use native.Mathlib.Omega.{arith}
use lib.Seq.{slice}
use Rattle.language.specs.Tree.{Place, Argument, bad_argument}
use Rattle.language.specs.Read.{Field, field, read_argument}
use Rattle.language.specs.Machine.{Run, Outcome, going, ended, stuck, give, no_meaning, after, ◌>>=◌, Direction, Condition}
use Rattle.std.specs.Prelude.{Ok, Err}
use Rattle.indexes.specs.declared.Fault.{Fault}
use Rattle.indexes.specs.declared.Fault.TheVariants.{Over, Stuck}
use Rattle.indexes.specs.Values.{fault_told}
use Rattle.fields.specs.declared.NoHeader.{NoHeader}
use Rattle.fields.specs.declared.NoHeader.TheVariants.{End, Cut}
use Rattle.fields.specs.Header.{header_of}
use Rattle.fields.proofs.Headers.{View, ends, cuts, goes, view, fields_end}
use Rattle.fields.proofs.Between.{look_in, in_whole, in_none, in_bad}
use Rattle.calls.specs.Arguments.{arguments_in, Gives, Fails}

-- ---- runs that give lists

-- what a run gives, after what was given so far
unfoldable pub joined : {A : Type 0} → List A → Run (List A) → Run (List A)
joined xs run = run >>= (λ ys. give (xs ++ ys))

-- one value, and then what a run gives
unfoldable pub led : {A : Type 0} → Run A → Run (List A) → Run (List A)
led first run = first >>= (λ x. run >>= (λ ys. give (x ∷ ys)))

module _ {A : Type 0} where
  joined_none : (run : Run (List A)) → joined [] run ≡ run
  unfolding joined ◌>>=◌ after
  joined_none run i s = go (run s) i
    where
      go : (o : Outcome (List A)) → after o (λ ys. give ([] ++ ys)) ≡ o
      go (going ys s) = refl
      go (ended n p s) = refl
      go stuck = refl

  joined_end : (xs : List A) → joined xs (give []) ≡ give xs
  unfolding joined ◌>>=◌ after
  joined_end xs = ap (λ (ys : List A). give ys) (append-nil xs)

  joined_led : (xs : List A) (x : A) (run : Run (List A)) → joined xs (led (give x) run) ≡ joined (xs ++ (x ∷ [])) run
  unfolding joined led ◌>>=◌ after
  joined_led xs x run i s = go (run s) i
    where
      go : (o : Outcome (List A)) → after (after o (λ ys. give (x ∷ ys))) (λ ys. give (xs ++ ys)) ≡ after o (λ ys. give ((xs ++ (x ∷ [])) ++ ys))
      go (going ys s) = ap (λ (zs : List A). going zs s) (sym (append_assoc xs (x ∷ []) ys))
      go (ended n p s) = refl
      go stuck = refl

  joined_fails : (xs : List A) (q : Place) (f : Fault) (run : Run (List A)) → joined xs (led (fault_told q f) run) ≡ fault_told q f
  unfolding joined led ◌>>=◌ after fault_told
  joined_fails xs q Over run = refl
  joined_fails xs q Stuck run = refl

  joined_stuck : (xs : List A) → joined {A = A} xs no_meaning ≡ no_meaning
  unfolding joined ◌>>=◌ after
  joined_stuck xs = refl

-- ---- where a list ends or is cut off

module _ (l : List ℕ) (at to : ℕ) where
  pub ends_at : to ≤ at → look_in l at to ≡ Err End
  unfolding header_of
  ends_at h = ap (header_of at) (fields_end l at to h)

  pub cut_at : to ≤ length l → at < to → (e : NoHeader) → look_in l at to ≡ Err e → look_in l at to ≡ Err Cut
  unfolding header_of
  cut_at k h e f = go (view l at to k)
    where
      go : View l at to → look_in l at to ≡ Err Cut
      go (ends x i) = absurd (omega arith)
      go (cuts x) = ap (header_of at) x
      go (goes tag next w) = absurd (let x = ap (header_of at) w.first in let z : ◌≡◌ {A = ℕ} 0 1 = cc in omega arith)

-- ---- a list of arguments from a position on

-- a machine's list of what arguments give, at the call q
abbrev pub Lister : Type 0 → Type 0
Lister A = Place → Direction → Condition → List Argument → Run (List A)

-- what the arguments from `from` to `to` give is what those before `at` gave, and then what those from `at` on give
abbrev pub Sofar : {A : Type 0} → Lister A → List ℕ → (from to at : ℕ) → List A → Type 0
Sofar of l from to at xs = (q t : Place) (d : Direction) (c : Condition) → of q d c (arguments_in t (slice from to l)) ≡ joined xs (of q d c (arguments_in (t + (at - from)) (slice at to l)))

-- what an argument gives before those after it
abbrev pub ListLeads : {A : Type 0} → Lister A → ℕ → List ℕ → (Place → Run A) → Type 0
ListLeads of tag content first = (q t : Place) (d : Direction) (c : Condition) (more : List Argument) → of q d c (read_argument (field t tag content) ∷ more) ≡ led (first q) (of q d c more)

-- an argument gives nothing
abbrev pub Skipped : {A : Type 0} → Lister A → ℕ → List ℕ → Type 0
Skipped of tag content = (q t : Place) (d : Direction) (c : Condition) (more : List Argument) → of q d c (read_argument (field t tag content) ∷ more) ≡ of q d c more

module _ {A : Type 0} (of : Lister A) (l : List ℕ) (from to : ℕ) where
  pub sofar_start : Sofar of l from to from []
  sofar_start q t d c = let e : t + (from - from) ≡ t = omega arith in rw e (sym (joined_none (of q d c (arguments_in t (slice from to l)))))

  module _ (at : ℕ) (low : from ≤ at) (xs : List A) (s : Sofar of l from to at xs) where
    pub sofar_end : look_in l at to ≡ Err End → ((q : Place) (d : Direction) (c : Condition) → of q d c [] ≡ give []) → Gives (λ q t d c. of q d c (arguments_in t (slice from to l))) xs
    sofar_end e n q t d c =
        s q t d c ∙ ap (λ (fs : List Field). joined xs (of q d c (map read_argument fs))) (in_none l at to e (t + (at - from))) ∙ ap (joined xs) (n q d c) ∙ joined_end xs

    pub sofar_cut : look_in l at to ≡ Err Cut → ((q t : Place) (d : Direction) (c : Condition) → of q d c (bad_argument 2 t ∷ []) ≡ no_meaning) → Fails (λ q t d c. of q d c (arguments_in t (slice from to l))) Stuck
    unfolding read_argument fault_told
    sofar_cut e n q t d c =
        s q t d c ∙ ap (λ (fs : List Field). joined xs (of q d c (map read_argument fs))) (in_bad l at to e (t + (at - from))) ∙ ap (joined xs) (n q (t + (at - from)) d c) ∙ joined_stuck xs

    module _ (tag next : ℕ) (e : look_in l at to ≡ Ok (record { tag = tag; next = next })) where
      abbrev later : Place → List Argument
      later t = arguments_in (t + (next - from)) (slice next to l)

      sofar_first : (q t : Place) (d : Direction) (c : Condition) → of q d c (arguments_in t (slice from to l)) ≡ joined xs (of q d c (read_argument (field (t + (at - from)) tag (slice (at + 3) next l)) ∷ later t))
      sofar_first q t d c =
          let w = in_whole l at to tag next e in
          let i : t + (at - from) + (next - at) ≡ t + (next - from) = (let h = w.low in omega arith) in
          s q t d c ∙ ap (λ (fs : List Field). joined xs (of q d c (map read_argument fs))) (rw i at (w.first (t + (at - from))))

      -- an argument that gives nothing
      pub sofar_skip : Skipped of tag (slice (at + 3) next l) → Sofar of l from to next xs
      sofar_skip h q t d c = sofar_first q t d c ∙ ap (joined xs) (h q (t + (at - from)) d c (later t))

      module _ (first : Place → Run A) (h : ListLeads of tag (slice (at + 3) next l) first) where
        sofar_leads : (q t : Place) (d : Direction) (c : Condition) → of q d c (arguments_in t (slice from to l)) ≡ joined xs (led (first q) (of q d c (later t)))
        sofar_leads q t d c = sofar_first q t d c ∙ ap (joined xs) (h q (t + (at - from)) d c (later t))

        pub sofar_more : (x : A) → ((q : Place) → first q ≡ give x) → Sofar of l from to next (xs ++ (x ∷ []))
        sofar_more x f q t d c = sofar_leads q t d c ∙ ap (λ (r : Run A). joined xs (led r (of q d c (later t)))) (f q) ∙ joined_led xs x (of q d c (later t))

        pub sofar_fails : (f : Fault) → ((q : Place) → first q ≡ fault_told q f) → Fails (λ q t d c. of q d c (arguments_in t (slice from to l))) f
        sofar_fails f g q t d c = sofar_leads q t d c ∙ ap (λ (r : Run A). joined xs (led r (of q d c (later t)))) (g q) ∙ joined_fails xs q f (of q d c (later t))
