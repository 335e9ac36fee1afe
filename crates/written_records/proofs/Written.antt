-- Every call writes its list, and the list behind an answer is the one that can be read from its bytes.
use mathlib.Core.Path.{◌≡◌, refl, sym, ap, subst, ◌∙◌}
use mathlib.Core.List.{List, [], ◌∷◌, ◌++◌, map, append_assoc}
use mathlib.Core.Bool.{Bool, true, false, cond}
use mathlib.Core.Option.{Option, none, some, get_or}
use Prim.Native.Nat.{ℕ, suc, ◌+◌, ◌*◌}
use native.Mathlib.Omega.{arith}
use lib.IntN.{pos}
use lib.Dec.{eqb}
use lib.ListN.{length, drop, get_elem?}
use lib.Seq.{drop_at}
use Rattle.language.specs.Limits.{record_size}
use Rattle.language.specs.Tree.{Place, Refusal}
use Rattle.language.specs.Read.{read}
use Rattle.language.specs.Check.{Checked, good, refused}
use Rattle.language.specs.Machine.{Condition, always, when_bit, Action, do_reset, Record, Outcome, going, ended, stuck, Family, has_family_type, all_declared, run_program, run_instance}
use Rattle.language.specs.Result.{Answer, Conclusion, finished, bytes_of, condition_byte, condition_bit, op, first_number, second_number, halvings_of, record_bytes, output_bytes, written_into, result_of, untouched, conclusion_of, check_program, if_accepted, four_bytes, all_sizes_fit, instance_of, run_outcome, instance_outcome}
use Rattle.language.specs.Sound.{AllName, Sound}
use Rattle.language.proofs.Output.{record_size_lem}
use Rattle.written_records.specs.AnyBytes.{action_from, condition_from, record_from, records_from}
use Rattle.written_records.specs.Written.{records_of, records_if, run_records, records_at, instance_records, Wrote, Writes, Listed, RunWrites, InstanceWrites}
use Rattle.written_records.proofs.RecordsBack.{two_bytes_lem, action_back, records_written}

-- ---- every call writes its list

module _ (output : List ℕ) where
  outcome_writes : {A : Type 0} (o : Outcome A) → Writes output (records_of o) (conclusion_of output o)
  unfolding conclusion_of records_of result_of
  outcome_writes (going a s) = record { count = refl; output = refl }
  outcome_writes (ended n p s) = record { count = refl; output = refl }
  outcome_writes stuck = tt

  untouched_writes : (n : Refusal) (p : Place) → Writes output (some []) (untouched output n p)
  unfolding written_into output_bytes
  untouched_writes n p = record { count = refl; output = refl }

  if_writes : {A : Type 0} (c : Checked A) (list : Option (List Record)) (answer : Conclusion) → Writes output list answer → Writes output (records_if c list) (if_accepted output c answer)
  unfolding records_if if_accepted
  if_writes (good a) list answer h = h
  if_writes (refused n p) list answer h = untouched_writes n p

  cond_writes : (b : Bool) (list other : Option (List Record)) (c d : Conclusion) → Writes output list c → Writes output other d → Writes output (cond b list other) (cond b c d)
  cond_writes true list other c d h k = h
  cond_writes false list other c d h k = k

  found_writes : (o : Option Family) (sizes : List ℕ) → Writes output (records_at o sizes) (instance_of o sizes output)
  unfolding records_at instance_of
  found_writes none sizes = untouched_writes 20 0
  found_writes (some f) sizes =
      cond_writes (has_family_type f.types) _ _ _ _ (untouched_writes 34 0)
      (cond_writes (eqb (length sizes) (4 * f.variables)) _ _ _ _
      (cond_writes (all_sizes_fit (four_bytes sizes)) _ _ _ _ (outcome_writes (run_instance f (map pos (four_bytes sizes)))) (untouched_writes 22 0)) (untouched_writes 21 0))

pub run_writes : RunWrites
unfolding run_records run_outcome
run_writes program limit output = if_writes output (check_program program) _ _ (outcome_writes output (run_program limit (length output) (read program)))

pub instance_writes : InstanceWrites
unfolding instance_records instance_outcome
instance_writes program family sizes limit output =
    if_writes output (check_program program) _ _ (found_writes output (get_elem? (all_declared limit (length output) (read program) []) family) sizes)

-- ---- the list of an answer

-- a list that is there, and that the answer holds
pub record Came (lent : List ℕ) (came : Option (List Record)) (a : Answer) : Type 0 where
  pub list : List Record
  pub is : came ≡ some list
  pub wrote : Wrote lent list a

pub came_to : {lent : List ℕ} {c : Conclusion} {a : Answer} (came : Option (List Record)) → c ≡ finished a → Writes lent came c → Came lent came a
came_to {lent} {c} {a} came e w = go came (subst (Writes lent came) e w)
  where
    go : (came : Option (List Record)) → Writes lent came (finished a) → Came lent came a
    go none w = absurd w
    go (some list) w = record { list = list; is = refl; wrote = w }

-- ---- it is the one that code reads from the bytes

action_from_lem : (a : Action) → action_from (op a) (first_number a) (second_number a) (halvings_of a) ≡ a
unfolding action_from
action_from_lem a = ap (λ (o : Option Action). get_or o (do_reset (record { number = first_number a }))) (action_back a)

condition_from_lem : (c : Condition) → condition_from (condition_byte c) (condition_bit c) ≡ c
unfolding condition_from condition_byte condition_bit
condition_from_lem always = refl
condition_from_lem (when_bit b value) = let e : 1 + value ≡ suc value = omega arith in rw e

record_from_lem : (r : Record) (rest : List ℕ) → record_from (record_bytes r ++ rest) 0 ≡ r
unfolding record_from record_bytes bytes_of
record_from_lem r rest =
    rw (two_bytes_lem (first_number r.action), two_bytes_lem (second_number r.action), two_bytes_lem (condition_bit r.condition), two_bytes_lem (halvings_of r.action), action_from_lem r.action, condition_from_lem r.condition)

records_from_lem : (rs : List Record) (rest : List ℕ) → records_from (length rs) (output_bytes rs ++ rest) ≡ rs
unfolding records_from output_bytes
records_from_lem [] rest = refl
records_from_lem (r ∷ rs) rest =
    rw (append_assoc (record_bytes r) (output_bytes rs) rest, drop_at (record_bytes r) (output_bytes rs ++ rest) record_size (record_size_lem r), record_from_lem r (output_bytes rs ++ rest), records_from_lem rs rest)

pub wrote_from : {lent : List ℕ} {list : List Record} {a : Answer} → Wrote lent list a → records_from a.result.records a.output ≡ list
unfolding written_into
wrote_from {lent} {list} w = rw (← w.count, w.output) (records_from_lem list (drop (record_size * length list) lent))

-- so an answer holds one list only, and that of a sound answer names what is laid out
pub sound_listed : {least limit q b : ℕ} {lent : List ℕ} {list : List Record} {a : Answer} → Sound least limit q b lent a → Wrote lent list a → Listed q b lent list a
sound_listed {q = q} {b = b} {lent = lent} {list = list} {a = a} s w =
    let v : Wrote lent s.written a = record { count = s.count; output = s.output } in
    let named = subst (AllName q b) (sym (wrote_from v) ∙ wrote_from w) s.named in
    record { wrote = w; named = named; read = rw (← w.count, w.output) (records_written q b lent list named) }
