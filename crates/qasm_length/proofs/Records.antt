-- The records in an output, as code goes through their bytes and puts their lines.
use mathlib.Core.Path.{◌≡◌, refl, ap, ap₂, ◌∙◌}
use mathlib.Core.List.{List, [], ◌∷◌, ◌++◌, append_assoc, append-nil}
use mathlib.Core.Bool.{Bool, true, false, cond}
use mathlib.Core.Option
use mathlib.Core.Option.{Option, none, some}
use Prim.Native.Nat.{ℕ, zero, suc, ◌+◌, ◌*◌, ◌-◌}
use native.Mathlib.Omega.{arith}
use native.Mathlib.Nat.{add_assoc}
use borrow.Author.Tests.{ne_eqb}
use lib.Dec.{leb, eqb}
use lib.ListN.{length, drop, get_or}
use lib.Seq.{get_or-drop}
use Rattle.language.specs.Limits.{record_size}
use Rattle.language.specs.Read.{choose}
use Rattle.language.specs.Machine.{Condition, when_bit, Action, do_reset, Record}
use Rattle.language.specs.Lookup.{mapped, followed}
use Rattle.qasm_text.specs.RecordsIn.{action_of, condition_of, number_at, record_at, records_in}
use Rattle.qasm_text.specs.Text.{line, lines}
use Rattle.qasm_length.specs.AnyBytes.{action_from, condition_from, record_from, records_from}

-- ---- where the bytes are records, code takes them for those

-- what is there is this
abbrev Says : {A : Type 0} → Option A → A → Type 0
Says none x = Unit {0}
Says (some a) x = x ≡ a

says_both : {A B C : Type 0} (f : A → B → C) (o : Option A) (p : Option B) (x : A) (y : B) → Says o x → Says p y → Says (followed o (λ a. mapped (f a) p)) (f x y)
unfolding followed mapped
says_both f none p x y s t = tt
says_both f (some a) none x y s t = tt
says_both f (some a) (some b) x y s t = ap₂ f s t

says_where : {A : Type 0} (b : Bool) (o : Option A) (x : A) → Says o x → Says (cond b o none) x
says_where true o x s = s
says_where false o x s = tt

action_says : (o : Option Action) (other : Action) → Says o (Option.get_or o other)
action_says none other = tt
action_says (some a) other = refl

condition_says : (byte bit : ℕ) → Says (condition_of byte bit) (condition_from byte bit)
unfolding condition_of choose condition_from
condition_says zero bit = refl
condition_says (suc zero) bit = refl
condition_says (suc (suc zero)) bit = refl
condition_says (suc (suc (suc n))) bit = let k = suc (suc (suc n)) in rw (ne_eqb k 0 (λ e. omega arith), ne_eqb k 1 (λ e. omega arith), ne_eqb k 2 (λ e. omega arith)) tt

record_says : (output : List ℕ) (at : ℕ) → Says (record_at output at) (record_from output at)
unfolding record_at action_from record_from
record_says output at =
    says_both (λ (a : Action) (c : Condition). record { action = a; condition = c }) _ _ _ _ (action_says (action_of (get_or output at 0) (number_at output (at + 2)) (number_at output (at + 4)) (number_at output (at + 8))) _) (condition_says (get_or output (at + 1) 0) (number_at output (at + 6)))

records_say : (n : ℕ) (output : List ℕ) → Says (records_in n output) (records_from n output)
unfolding records_in records_from
records_say zero output = refl
records_say (suc n) output =
    says_where (leb record_size (length output)) _ _ (says_both (λ (r : Record) (rs : List Record). r ∷ rs) _ _ _ _ (record_says output 0) (records_say n (drop record_size output)))

pub records_there : (n : ℕ) (output : List ℕ) (rs : List Record) → records_in n output ≡ some rs → records_from n output ≡ rs
records_there n output rs e = rw e at (records_say n output)

-- ---- one record

reset_either : (t : Bool) (a : Action) → Option.get_or (cond t (some a) none) a ≡ a
reset_either true a = refl
reset_either false a = refl

-- any other operation is a reset
pub action_other : (op first second k : ℕ) → (op ≡ 1 → ⊥) → (op ≡ 2 → ⊥) → (op ≡ 3 → ⊥) → (op ≡ 4 → ⊥) → (op ≡ 5 → ⊥) → (op ≡ 7 → ⊥) → (op ≡ 8 → ⊥) → (op ≡ 9 → ⊥) → (op ≡ 10 → ⊥)
    → action_from op first second k ≡ do_reset (record { number = first })
unfolding action_from action_of choose
action_other op first second k a b c d e f g h i =
    rw (ne_eqb op 1 a, ne_eqb op 2 b, ne_eqb op 3 c, ne_eqb op 4 d, ne_eqb op 5 e, ne_eqb op 7 f, ne_eqb op 8 g, ne_eqb op 9 h, ne_eqb op 10 i) (reset_either (eqb op 6) (do_reset (record { number = first })))

-- a condition that there is
pub condition_some : (kind bit : ℕ) → (kind ≡ 0 → ⊥) → condition_from kind bit ≡ when_bit (record { number = bit }) (kind - 1)
unfolding condition_from
condition_some zero bit h = absurd (h refl)
condition_some (suc value) bit h = let e : suc value - 1 ≡ value = omega arith in rw e

-- a record from what was read of it
pub record_read : (output : List ℕ) (at first second bit k : ℕ)
    → first ≡ number_at output (at + 2) → second ≡ number_at output (at + 4) → bit ≡ number_at output (at + 6) → k ≡ number_at output (at + 8)
    → record { action = action_from (get_or output at 0) first second k; condition = condition_from (get_or output (at + 1) 0) bit } ≡ record_from output at
unfolding record_from
record_read output at first second bit k f s b h = rw (f, s, b, h)

-- ---- one record more

-- a record past bytes that are passed by
record_past : (k at : ℕ) (output : List ℕ) → record_from (drop k output) at ≡ record_from output (k + at)
unfolding record_from
record_past k at output = simp (get_or-drop, add_assoc)

records_next : (i : ℕ) (output : List ℕ) → records_from (suc i) output ≡ records_from i output ++ (record_from output (record_size * i) ∷ [])
unfolding records_from
records_next zero output = refl
records_next (suc i) output =
    let e : record_size + record_size * i ≡ record_size * suc i = omega arith in
    ap (λ (l : List Record). record_from output 0 ∷ l) (records_next i (drop record_size output) ∙ rw (record_past record_size (record_size * i) output, e))

lines_append : (rs ss : List Record) → lines (rs ++ ss) ≡ lines rs ++ lines ss
unfolding lines
lines_append [] ss = refl
lines_append (r ∷ rs) ss = rw (append_assoc (line r) (lines rs) (lines ss)) (ap (λ (l : List ℕ). line r ++ l) (lines_append rs ss))

pub lines_next : (i : ℕ) (output : List ℕ) → lines (records_from (suc i) output) ≡ lines (records_from i output) ++ line (record_from output (record_size * i))
unfolding lines
lines_next i output =
    let r = record_from output (record_size * i) in
    ap lines (records_next i output) ∙ lines_append (records_from i output) (r ∷ []) ∙ ap (λ (l : List ℕ). lines (records_from i output) ++ l) (append-nil (line r))
