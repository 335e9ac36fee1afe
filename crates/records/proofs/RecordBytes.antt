-- A record's bytes, and what writing one does. Assumes nothing.
use Prim.Native.Nat.{ℕ, suc, ◌+◌, ◌-◌, ◌*◌, ◌<◌, ◌≤◌}
use mathlib.Core.Path.{◌≡◌, refl, sym, ap, ◌∙◌}
use mathlib.Core.List.{List, [], ◌∷◌, ◌++◌, append_assoc, append-nil}
use native.Mathlib.Omega.{arith}
use borrow.Rule.Slice.PartMut.{put_mid}
use borrow.Author.Tests.{le-leb, lt-leb}
use lib.ListN.{length, take, drop, length-append}
use lib.Seq.{sets, sets-eq, take_at, drop-append-add, drop-drop}
use Rattle.language.specs.Limits.{record_size, most_halvings}
use Rattle.language.specs.Tree.{Place}
use Rattle.language.specs.Machine.{Record, Action, Frame, after, ◌>>◌, few_halvings, write}
use Rattle.language.specs.Machine as machine
use Rattle.language.specs.Result.{record_bytes, bytes_of, condition_byte, condition_bit, output_bytes, written_into}
use Rattle.records.specs.declared.State.{State}
use Rattle.records.specs.declared.Stop.TheVariants.{Ended}
use Rattle.refusals.specs.declared.Reason.TheVariants.{KTooLarge, OutputFull}
use Rattle.std.specs.Prelude.{Ok, Err}
use Rattle.records.specs.declared.Condition.{Condition}
use Rattle.records.specs.Outcomes.{answer_told, flat_outcome, Does, condition_of, number_bytes, bytes_by, ActionNumbers}

-- bytes copied into a part of the output
pub put_part : (buffer word after : List ℕ) (from : ℕ) → from + length word ≤ length buffer → after ≡ word → put_mid from (from + length word - from) buffer after ≡ sets buffer from word
put_part buffer word after from h e =
    let n : from + length word - from ≡ length word = omega arith in
    rw (n, e, drop-drop, sets-eq word buffer from h, append_assoc) refl

-- the first eight bytes, and those after them
pub both_stores : (l : List ℕ) (at op kind a b c : ℕ) (rest : List ℕ) → sets (sets l at (number_bytes op kind a b c [])) (at + 8) rest ≡ sets l at (number_bytes op kind a b c rest)
both_stores l at op kind a b c rest = let e : at + 8 ≡ suc (suc (suc (suc (suc (suc (suc (suc at))))))) = omega arith in ap (λ (i : ℕ). sets (sets l at (number_bytes op kind a b c [])) i rest) e

pub length_bytes : (rs : List Record) → length (output_bytes rs) ≡ record_size * length rs
unfolding output_bytes record_bytes bytes_of
length_bytes [] = refl
length_bytes (r ∷ rs) = let h = length_bytes rs in omega arith

bytes_more : (rs : List Record) (r : Record) → output_bytes (rs ++ (r ∷ [])) ≡ output_bytes rs ++ record_bytes r
unfolding output_bytes
bytes_more [] r = append-nil (record_bytes r)
bytes_more (x ∷ rs) r = ap (λ (l : List ℕ). record_bytes x ++ l) (bytes_more rs r) ∙ sym (append_assoc (record_bytes x) (output_bytes rs) (record_bytes r))

record_bytes_lem : (a : Action) (k : machine.Condition) (c : Condition) (code first second n : ℕ) → k ≡ condition_of c → ActionNumbers a code first second n
    → record_bytes (record { action = a; condition = k }) ≡ bytes_by code (condition_byte (condition_of c)) first second (condition_bit (condition_of c)) n
unfolding record_bytes bytes_of
record_bytes_lem a k c code first second n e w = rw (e, w.its_code, w.its_first, w.its_second, w.its_halvings)

-- one record more
into_more : (lent : List ℕ) (rs : List Record) (r : Record) (l : List ℕ) (at : ℕ) (b : List ℕ) → l ≡ written_into lent rs → record_size * length rs ≡ at → at + length b ≤ length l → record_bytes r ≡ b
    → sets l at b ≡ written_into lent (rs ++ (r ∷ []))
unfolding written_into record_bytes bytes_of
into_more lent rs r l at b e s h q =
    let z : length (output_bytes rs) ≡ at = length_bytes rs ∙ s in
    let lb : length b ≡ record_size = sym (ap length q) in
    let n : record_size * length rs + length b ≡ record_size * length (rs ++ (r ∷ [])) = simp length-append (omega arith) in
    let t : take at l ≡ output_bytes rs = ap (take at) e ∙ take_at (output_bytes rs) (drop (record_size * length rs) lent) at z in
    let d : drop (at + length b) l ≡ drop (record_size * length (rs ++ (r ∷ []))) lent =
    ap (λ (x : List ℕ). drop (at + length b) x) e
    ∙ ap (λ (k : ℕ). drop (k + length b) (output_bytes rs ++ drop (record_size * length rs) lent)) (sym z)
    ∙ drop-append-add (output_bytes rs) (drop (record_size * length rs) lent) (length b)
    ∙ drop-drop (length b) (record_size * length rs) lent
    ∙ ap (λ (k : ℕ). drop k lent) n in
    let o : output_bytes rs ++ b ≡ output_bytes (rs ++ (r ∷ [])) = sym (bytes_more rs r ∙ ap (λ (x : List ℕ). output_bytes rs ++ x) q) in
    sets-eq b l at h ∙ (λ j. (t j ++ b) ++ d j) ∙ (λ j. o j ++ drop (record_size * length (rs ++ (r ∷ []))) lent)

module _ (limit : ℕ) (l : List ℕ) (st : State) (p : Place) (f : Frame) (a : Action) (k : ℕ) where
  -- a k that is too large
  pub write_many : most_halvings < k → Does l st l (Err (Ended KTooLarge p st)) (few_halvings p k >> write limit (length l) p f a)
  unfolding few_halvings ◌>>◌ after answer_told flat_outcome
  write_many h lent rs w = simp (lt-leb k most_halvings h) (let e = w.output in let s = w.size in cc)

  pub write_full : k ≤ most_halvings → length l < st.written + record_size → Does l st l (Err (Ended OutputFull p st)) (few_halvings p k >> write limit (length l) p f a)
  unfolding few_halvings ◌>>◌ after write answer_told flat_outcome
  write_full m h lent rs w =
      let s = w.size in
      simp (le-leb k most_halvings m, lt-leb (record_size * suc (length rs)) (length l) (omega arith)) (let e = w.output in cc)

  pub write_room : (l' : List ℕ) (c : Condition) (code first second : ℕ) → k ≤ most_halvings → f.condition ≡ condition_of c → ActionNumbers a code first second k → st.written + record_size ≤ length l
      → l' ≡ sets l st.written (bytes_by code (condition_byte (condition_of c)) first second (condition_bit (condition_of c)) k)
      → Does l st l' (Ok (record { written = st.written + record_size; steps = st.steps })) (few_halvings p k >> write limit (length l) p f a)
  unfolding few_halvings ◌>>◌ after write answer_told flat_outcome
  write_room l' c code first second m e u h j lent rs w =
      let s = w.size in
      let r : Record = record { action = a; condition = f.condition } in
      let n : record_size * length (rs ++ (r ∷ [])) ≡ st.written + record_size = simp length-append (omega arith) in
      let o : l' ≡ written_into lent (rs ++ (r ∷ [])) = j ∙ into_more lent rs r l st.written _ w.output s h (record_bytes_lem a f.condition c code first second k e u) in
      simp (le-leb k most_halvings m, le-leb (record_size * suc (length rs)) (length l) (omega arith)) cc
