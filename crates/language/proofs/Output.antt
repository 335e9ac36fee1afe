-- The output's bytes: so many for each record, the rest as lent, and what the records name read from their bytes.
use mathlib.Core.Path.{◌≡◌, refl, sym, ◌∙◌}
use mathlib.Core.List.{List, [], ◌∷◌, ◌++◌, append_assoc}
use Prim.Native.Nat.{ℕ, zero, suc, ◌+◌, ◌*◌, ◌/◌, ◌%◌, ◌≤◌, ◌<◌}
use native.Mathlib.Omega.{arith}
use native.Mathlib.Nat.{add-zero}
use lib.ListN.{length, drop, get_or, length-append, length-drop}
use lib.Seq.{drop_at, get_or-append-add}
use Rattle.language.specs.Limits.{record_size, most_halvings}
use Rattle.language.specs.Read.{two_bytes}
use Rattle.language.specs.Machine.{Condition, always, when_bit, Action, do_h, do_t, do_tdg, do_reset, do_cx, do_measure, do_phase, do_cphase, forward, backward, Record}
use Rattle.language.specs.Result.{bytes_of, condition_byte, condition_bit, op, first_number, second_number, halvings_of, record_bytes, output_bytes, written_into}
use Rattle.language.specs.Sound.{OtherWire, Names, NamesBit, AllName, NamedAt}

pub record_size_lem : (r : Record) → length (record_bytes r) ≡ record_size
unfolding record_bytes bytes_of
record_size_lem r = refl

pub output_size : (rs : List Record) → length (output_bytes rs) ≡ record_size * length rs
unfolding output_bytes
output_size [] = refl
output_size (r ∷ rs) = length-append (record_bytes r) (output_bytes rs) ∙ omega (arith, record_size_lem r, output_size rs)

first_below : (q b : ℕ) (a : Action) → Names q b a → first_number a < q
unfolding first_number
first_below q b (do_h w) n = n
first_below q b (do_t w) n = n
first_below q b (do_tdg w) n = n
first_below q b (do_reset w) n = n
first_below q b (do_cx w x) n = n.0
first_below q b (do_measure w x) n = n.0
first_below q b (do_phase d k w) n = n.1
first_below q b (do_cphase d k w x) n = n.1

target_below : (q b : ℕ) (a : Action) → Names q b a → op a ≡ 4 → OtherWire q (first_number a) (second_number a)
unfolding op first_number second_number
target_below q b (do_h w) n e = absurd (omega arith)
target_below q b (do_t w) n e = absurd (omega arith)
target_below q b (do_tdg w) n e = absurd (omega arith)
target_below q b (do_reset w) n e = absurd (omega arith)
target_below q b (do_cx w x) n e = n.1
target_below q b (do_measure w x) n e = absurd (omega arith)
target_below q b (do_phase forward k w) n e = absurd (omega arith)
target_below q b (do_phase backward k w) n e = absurd (omega arith)
target_below q b (do_cphase forward k w x) n e = absurd (omega arith)
target_below q b (do_cphase backward k w x) n e = absurd (omega arith)

measured_below : (q b : ℕ) (a : Action) → Names q b a → op a ≡ 5 → second_number a < b
unfolding op second_number
measured_below q b (do_h w) n e = absurd (omega arith)
measured_below q b (do_t w) n e = absurd (omega arith)
measured_below q b (do_tdg w) n e = absurd (omega arith)
measured_below q b (do_reset w) n e = absurd (omega arith)
measured_below q b (do_cx w x) n e = absurd (omega arith)
measured_below q b (do_measure w x) n e = n.1
measured_below q b (do_phase forward k w) n e = absurd (omega arith)
measured_below q b (do_phase backward k w) n e = absurd (omega arith)
measured_below q b (do_cphase forward k w x) n e = absurd (omega arith)
measured_below q b (do_cphase backward k w x) n e = absurd (omega arith)

controlled_below : (q b : ℕ) (a : Action) → Names q b a → 9 ≤ op a → OtherWire q (first_number a) (second_number a)
unfolding op first_number second_number
controlled_below q b (do_h w) n e = absurd (omega arith)
controlled_below q b (do_t w) n e = absurd (omega arith)
controlled_below q b (do_tdg w) n e = absurd (omega arith)
controlled_below q b (do_reset w) n e = absurd (omega arith)
controlled_below q b (do_cx w x) n e = absurd (omega arith)
controlled_below q b (do_measure w x) n e = absurd (omega arith)
controlled_below q b (do_phase forward k w) n e = absurd (omega arith)
controlled_below q b (do_phase backward k w) n e = absurd (omega arith)
controlled_below q b (do_cphase d k w x) n e = n.2

halvings_below : (q b : ℕ) (a : Action) → Names q b a → halvings_of a ≤ most_halvings
unfolding halvings_of
halvings_below q b (do_h w) n = omega arith
halvings_below q b (do_t w) n = omega arith
halvings_below q b (do_tdg w) n = omega arith
halvings_below q b (do_reset w) n = omega arith
halvings_below q b (do_cx w x) n = omega arith
halvings_below q b (do_measure w x) n = omega arith
halvings_below q b (do_phase d k w) n = n.0
halvings_below q b (do_cphase d k w x) n = n.0

plain_halvings : (a : Action) → op a ≤ 6 → halvings_of a ≡ 0
unfolding op halvings_of
plain_halvings (do_h w) e = refl
plain_halvings (do_t w) e = refl
plain_halvings (do_tdg w) e = refl
plain_halvings (do_reset w) e = refl
plain_halvings (do_cx w x) e = refl
plain_halvings (do_measure w x) e = refl
plain_halvings (do_phase forward k w) e = absurd (omega arith)
plain_halvings (do_phase backward k w) e = absurd (omega arith)
plain_halvings (do_cphase forward k w x) e = absurd (omega arith)
plain_halvings (do_cphase backward k w x) e = absurd (omega arith)

condition_below : (b : ℕ) (c : Condition) → NamesBit b c → 1 ≤ condition_byte c → condition_bit c < b
unfolding condition_byte condition_bit
condition_below b always n h = absurd (omega arith)
condition_below b (when_bit x v) n h = n.0

op_known : (a : Action) → (1 ≤ op a) × (op a ≤ 10)
unfolding op
op_known (do_h w) = omega arith
op_known (do_t w) = omega arith
op_known (do_tdg w) = omega arith
op_known (do_reset w) = omega arith
op_known (do_cx w x) = omega arith
op_known (do_measure w x) = omega arith
op_known (do_phase forward k w) = omega arith
op_known (do_phase backward k w) = omega arith
op_known (do_cphase forward k w x) = omega arith
op_known (do_cphase backward k w x) = omega arith

value_known : (b : ℕ) (c : Condition) → NamesBit b c → condition_byte c ≤ 2
unfolding condition_byte
value_known b always n = omega arith
value_known b (when_bit x v) n = omega arith

-- the same record at another offset of another output
named_moved : (q b : ℕ) (xs ys : List ℕ) (i j : ℕ) → ((k : ℕ) → get_or xs (i + k) 0 ≡ get_or ys (j + k) 0) → NamedAt q b ys j → NamedAt q b xs i
named_moved q b xs ys i j e n =
    let o : get_or xs i 0 ≡ get_or ys j 0 = simp add-zero at (e 0) in
    record {
      op = rw o n.op;
      value = rw e n.value;
      first = rw (e 2, e 3) n.first;
      target = λ h. rw (e 2, e 3, e 4, e 5) (n.target (sym o ∙ h));
      measured = λ h. rw (e 4, e 5) (n.measured (sym o ∙ h));
      controlled = λ h. rw (e 2, e 3, e 4, e 5) (n.controlled (rw o at h));
      condition = λ h. rw (e 6, e 7) (n.condition (rw e at h));
      halvings = rw (e 8, e 9) n.halvings;
      plain = λ h. rw (e 8, e 9) (n.plain (rw o at h));
      zeros = rw (e 10, e 11) n.zeros;
    }

-- another wire, read from its bytes
other_bytes : (q m n : ℕ) → OtherWire q m n → OtherWire q (two_bytes (m % 256) (m / 256)) (two_bytes (n % 256) (n / 256))
other_bytes q m n h = (omega (arith, h.0), λ e. h.1 (omega (arith, e)))

first_named : (q b : ℕ) (r : Record) (rest : List ℕ) → Names q b r.action → NamesBit b r.condition → NamedAt q b (record_bytes r ++ rest) 0
unfolding record_bytes bytes_of
first_named q b r rest n c = record {
  op = op_known r.action;
  value = value_known b r.condition c;
  first = omega (arith, first_below q b r.action n);
  target = λ h. other_bytes q _ _ (target_below q b r.action n h);
  measured = λ h. omega (arith, measured_below q b r.action n h);
  controlled = λ h. other_bytes q _ _ (controlled_below q b r.action n h);
  condition = λ h. omega (arith, condition_below b r.condition c h);
  halvings = omega (arith, halvings_below q b r.action n);
  plain = λ h. omega (arith, plain_halvings r.action h);
  zeros = (refl, refl);
}

bytes_named : (q b : ℕ) (rs : List Record) (rest : List ℕ) → AllName q b rs → (i : ℕ) → i < length rs → NamedAt q b (output_bytes rs ++ rest) (record_size * i)
unfolding output_bytes
bytes_named q b [] rest n i h = absurd (omega arith)
bytes_named q b (r ∷ rs) rest n zero h = rw (append_assoc (record_bytes r) (output_bytes rs) rest) (first_named q b r (output_bytes rs ++ rest) n.0 n.1)
bytes_named q b (r ∷ rs) rest n (suc i) h = named_moved q b (record_bytes r ++ output_bytes rs ++ rest) (output_bytes rs ++ rest) (record_size * suc i) (record_size * i) (λ k.
    let e : record_size * suc i + k ≡ length (record_bytes r) + (record_size * i + k) = omega (arith, record_size_lem r) in
    rw (append_assoc (record_bytes r) (output_bytes rs) rest, e) (get_or-append-add (record_bytes r) (output_bytes rs ++ rest) (record_size * i + k) 0))
    (bytes_named q b rs rest n.2 i (omega arith))

pub written_size : (lent : List ℕ) (rs : List Record) → record_size * length rs ≤ length lent → length (written_into lent rs) ≡ length lent
unfolding written_into
written_size lent rs h = length-append (output_bytes rs) (drop (record_size * length rs) lent) ∙ omega (arith, output_size rs, length-drop (record_size * length rs) lent)

pub drop_written : (lent : List ℕ) (rs : List Record) → drop (record_size * length rs) (written_into lent rs) ≡ drop (record_size * length rs) lent
unfolding written_into
drop_written lent rs = drop_at (output_bytes rs) (drop (record_size * length rs) lent) (record_size * length rs) (output_size rs)

-- no records leave the output as lent
pub none_written : (lent : List ℕ) (rs : List Record) → length rs ≡ 0 → written_into lent rs ≡ lent
unfolding written_into output_bytes
none_written lent [] e = refl
none_written lent (r ∷ rs) e = absurd (omega arith)

pub bytes_written : (q b : ℕ) (lent : List ℕ) (rs : List Record) → AllName q b rs → (i : ℕ) → i < length rs → NamedAt q b (written_into lent rs) (record_size * i)
unfolding written_into
bytes_written q b lent rs n i h = bytes_named q b rs (drop (record_size * length rs) lent) n i h
