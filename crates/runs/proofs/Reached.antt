-- What is known at a top field of an accepted program. Assumes nothing.
use Prim.Native.Nat.{ℕ, ◌+◌}
use native.Mathlib.Omega.{arith}
use mathlib.Core.Path.{◌≡◌, refl, sym, ap, ◌∙◌, subst}
use mathlib.Core.List.{List, [], ◌∷◌, ◌++◌, map, append_assoc}
use lib.ListN.{length, take}
use lib.Seq.{slice}
use Rattle.language.specs.Tree.{Top}
use Rattle.language.specs.Read.{field, fields, read, read_top}
use Rattle.language.specs.Check.{Declared, nothing_declared, check, good}
use Rattle.language.specs.Machine.{Family, declared, all_declared}
use Rattle.language.proofs.Accepted.{TopGood, TopsGood, and_then, tops_good}
use Rattle.language.proofs.Families.{families_before}
use Rattle.std.specs.Prelude.{Ok}
use Rattle.fields.proofs.Parts.{look, rest_is}
use Rattle.fields.proofs.Headers.{when_whole}
use Rattle.runs.specs.declared.Totals.{Totals}
use Rattle.runs.specs.Whole.{tops_at}

abbrev pub zero_totals : Totals
zero_totals = record { families = 0; registers = 0; qubits = 0; bits = 0 }

-- the check counts what the code does
pub record Counted (t : Totals) (d : Declared) : Type 0 where
  pub families : length d.families ≡ t.families
  pub registers : length d.registers ≡ t.registers
  pub qubits : d.qubits ≡ t.qubits
  pub bits : d.bits ≡ t.bits

-- the first of good top fields, and the rest
record First (d : Declared) (x : Top) (xs : List Top) (last : Declared) : Type 0 where
  next : Declared
  good : TopGood d x next
  rest : TopsGood next xs last

first : {d last : Declared} {x : Top} {xs : List Top} → TopsGood d (x ∷ xs) last → First d x xs last
first (and_then a b) = record { next = _; good = a; rest = b }

module _ (limit room : ℕ) (l : List ℕ) where
  -- the top fields before a position, and that those from there on are good
  pub record Reached (at : ℕ) (t : Totals) : Type 0 where
    pub before : List Top
    pub joined : read l ≡ before ++ tops_at l at
    pub count : length (all_declared limit room before []) ≡ t.families
    pub now : Declared
    pub last : Declared
    pub good : TopsGood now (tops_at l at) last
    pub counted : Counted t now

  pub reached_start : (d : Declared) → check (read l) ≡ good d → Reached 0 zero_totals
  unfolding check read all_declared
  reached_start d e =
      let q : tops_at l 0 ≡ map read_top (fields 0 l) = ap (map read_top) (rest_is l 0) in
      record {
        before = [];
        joined = sym q;
        count = refl;
        now = nothing_declared;
        last = d;
        good = rw q (tops_good (map read_top (fields 0 l)) nothing_declared d e);
        counted = record { families = refl; registers = refl; qubits = refl; bits = refl };
      }

  -- the families that statements see there
  pub families_seen : {at : ℕ} {t : Totals} (r : Reached at t) → take t.families (all_declared limit room (read l) []) ≡ all_declared limit room r.before []
  families_seen {at} {t} r = rw (r.joined, ← r.count) (sym (families_before limit room r.before (tops_at l at)))

  -- the next top field
  abbrev pub top_of : ℕ → ℕ → ℕ → Top
  top_of at tag next = read_top (field at tag (slice (at + 3) next l))

  pub tops_next : (at tag next : ℕ) → look l at ≡ Ok (record { tag = tag; next = next }) → tops_at l at ≡ (top_of at tag next ∷ tops_at l next)
  tops_next at tag next e = ap (map read_top) (when_whole l at (length l) tag next (omega arith) e).first

  -- past it
  pub record Next (at tag next : ℕ) {t : Totals} (r : Reached at t) : Type 0 where
    pub next_now : Declared
    pub top_good : TopGood r.now (top_of at tag next) next_now
    pub go_on : (t' : Totals) → Counted t' next_now → length (declared limit room (top_of at tag next) (all_declared limit room r.before [])) ≡ t'.families → Reached next t'
    pub one_more_lem : (t' : Totals) (c : Counted t' next_now) (n : length (declared limit room (top_of at tag next) (all_declared limit room r.before [])) ≡ t'.families)
        → (go_on t' c n).before ≡ r.before ++ (top_of at tag next ∷ [])

  pub joined_one : (xs : List Top) (x : Top) (fs : List Family) → all_declared limit room (xs ++ (x ∷ [])) fs ≡ declared limit room x (all_declared limit room xs fs)
  unfolding all_declared
  joined_one [] x fs = refl
  joined_one (y ∷ xs) x fs = joined_one xs x (declared limit room y fs)

  pub reached_next : (at tag next : ℕ) {t : Totals} (r : Reached at t) → look l at ≡ Ok (record { tag = tag; next = next }) → Next at tag next r
  reached_next at tag next r e =
      let f = first (subst (λ (ys : List Top). TopsGood r.now ys r.last) (tops_next at tag next e) r.good) in
      record {
        next_now = f.next;
        top_good = f.good;
        go_on = λ t' c n. record {
          before = r.before ++ (top_of at tag next ∷ []);
          joined = r.joined ∙ ap (λ (ys : List Top). r.before ++ ys) (tops_next at tag next e) ∙ sym (append_assoc r.before (top_of at tag next ∷ []) (tops_at l next));
          count = ap length (joined_one r.before (top_of at tag next) []) ∙ n;
          now = f.next;
          last = r.last;
          good = f.rest;
          counted = c;
        };
        one_more_lem = λ t' c n. refl;
      }
