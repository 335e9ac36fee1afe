-- A list, walked forward or backward. Assumes nothing.
use Prim.Native.Nat.{ℕ, zero, suc, ◌+◌, ◌-◌, ◌<◌, ◌≤◌}
use mathlib.Core.Path.{◌≡◌, refl, sym, ap, ◌∙◌}
use mathlib.Core.List.{List, [], ◌∷◌}
use mathlib.Core.Bool.{Bool, true, false, ◌&&◌}
use native.Mathlib.Omega.{arith}
use lib.ListN.{length, drop}
use lib.Seq.{slice, slice_empty}
use Rattle.language.specs.Tree.{Statements}
use Rattle.language.specs.Read.{Field, field, bad_header, fields, fields_after, read_statement, statement_by, deep_statement, statements_by}
use Rattle.language.specs.Machine.{Run, Frame, Direction, forward, backward, no_meaning, done, in_order, run_statement, run_statements, after, ◌>>◌}
use Rattle.language.proofs.Runs.{run_joined, statements_split, then_done, done_then}
use Rattle.language.proofs.Integers.{clash}
use Rattle.std.specs.Prelude.{Option as Maybe, Some, None, Result, Ok}
use Rattle.fields.specs.declared.Header.{Header}
use Rattle.fields.specs.declared.NoHeader.{NoHeader}
use Rattle.fields.specs.Header.{fields_at, header_of}
use Rattle.fields.specs.Count.{Counted, Many, Broken, counted}
use Rattle.fields.proofs.Headers.{slice_none}
use Rattle.fields.proofs.Between.{FieldIn, in_whole}
use Rattle.fields.proofs.Counts.{Broke, lastly, before, broken_fields}
use Rattle.field_walk.specs.declared.Walk.{Walk}
use Rattle.field_walk.specs.declared.Held.{Held}
use Rattle.field_walk.specs.Walks.{is_broken, broken_in, FieldBegins, PositionsKept, Linked, Walking, NextField, Starting, passed_of, whole_of}
use Rattle.field_walk.proofs.Positions.{cut_in, begins_passes, slice_part, slice_rest}
use Rattle.gates.specs.declared.Mode.{Mode}
use Rattle.gates.specs.Gates.{direction_of}
use Rattle.unroller.specs.Runs.{families_in, one_run, list_run, rest_run}

-- ---- one part and the next

in_forward : (a b : Run (Unit {0})) (d : Direction) → d ≡ forward → in_order d a b ≡ (a >> b)
unfolding in_order
in_forward a b d e = rw e

in_backward : (a b : Run (Unit {0})) (d : Direction) → d ≡ backward → in_order d a b ≡ (b >> a)
unfolding in_order
in_backward a b d e = rw e

alone_is : (a : Run (Unit {0})) (d : Direction) → in_order d a done ≡ a
unfolding in_order
alone_is a forward = then_done a
alone_is a backward = done_then a

module _ (mode : Mode) (room base : ℕ) (l program : List ℕ) (f : Frame) where
  runs : List Field → Run (Unit {0})
  runs fs = run_statements mode.limit room (statements_by (read_statement mode.levels) fs) (families_in mode room program) f

  -- the statement of the field from `here` to `end`
  abbrev pub field_run : (here tag end : ℕ) → Run (Unit {0})
  field_run here tag end = one_run mode room (base + here) tag (slice (here + 3) end l) program f

  pub rest_done : (at to : ℕ) → to ≤ at → rest_run mode room base at to l program f ≡ done
  unfolding fields_after statements_by run_statements
  rest_done at to h = rw (slice_none at to l h)

  -- forward, the first field
  forward_next : (at to tag next : ℕ) → f.direction ≡ forward → FieldIn l at to tag next
      → rest_run mode room base at to l program f ≡ (field_run at tag next >> rest_run mode room base next to l program f)
  unfolding runs statements_by run_statements
  forward_next at to tag next d w =
      let z : base + at + (next - at) ≡ base + next = (let h = w.low in omega arith) in
      let g : fields (base + at) (slice at to l) ≡ (field (base + at) tag (slice (at + 3) next l) ∷ fields (base + next) (slice next to l)) =
      w.first (base + at) ∙ ap (λ (q : ℕ). field (base + at) tag (slice (at + 3) next l) ∷ fields q (slice next to l)) z in
      ap runs g ∙ in_forward _ _ f.direction d

  bad_is : (n bytes : ℕ) → run_statement mode.limit room (read_statement n (bad_header bytes)) (families_in mode room program) f ≡ no_meaning
  unfolding read_statement deep_statement statement_by run_statement
  bad_is zero bytes = refl
  bad_is (suc n) bytes = refl

  bad_last : (bytes : ℕ) → runs (bad_header bytes ∷ []) ≡ no_meaning
  unfolding runs statements_by run_statements
  bad_last bytes = alone_is _ f.direction ∙ bad_is mode.levels bytes

  forward_stops : (at to : ℕ) → at < to → to ≤ length l → ((k : Header) → header_of at (fields_at l at to) ≡ Ok k → ⊥) → rest_run mode room base at to l program f ≡ no_meaning
  unfolding runs
  forward_stops at to h w k = ap runs (cut_in l at to h w k (base + at)) ∙ bad_last (base + at)

  -- backward, the last field
  backward_next : (at here to tag : ℕ) → f.direction ≡ backward → FieldBegins l at here → FieldIn l here to tag to → to ≤ length l
      → rest_run mode room base at to l program f ≡ (field_run here tag to >> rest_run mode room base at here l program f)
  unfolding runs statements_by run_statements
  backward_next at here to tag d b w h =
      let c : here ≤ to = omega (arith, w.low) in
      let s = begins_passes l at here to b c h in
      let e : base + at + (here - at) ≡ base + here = (let z = b.0 in omega arith) in
      let one : fields (base + at + (here - at)) (drop (here - at) (slice at to l)) ≡ (field (base + here) tag (slice (here + 3) to l) ∷ []) =
      ap (λ (q : ℕ). fields q (drop (here - at) (slice at to l))) e ∙ ap (fields (base + here)) (slice_rest l at here to b.0) ∙ w.alone (base + here) in
      ap (λ (x : Statements). run_statements mode.limit room x (families_in mode room program) f) (statements_split (read_statement mode.levels) (base + at) s.skips)
      ∙ run_joined mode.limit room _ _ (families_in mode room program) f
      ∙ in_backward _ _ f.direction d
      ∙ (λ j. (ap runs one ∙ alone_is (field_run here tag to) f.direction) j >> list_run mode room (base + at) (sym (slice_part l at here to b.0 c) j) program f)

  -- ---- a list with a bad header, backward

  broke_runs : (fs : List Field) → f.direction ≡ backward → Broke fs → runs fs ≡ no_meaning
  unfolding runs statements_by run_statements ◌>>◌ after
  broke_runs fs d (lastly {p = p}) = bad_last p
  broke_runs fs d (before {p = p} {tag = tag} {content = content} {fs = rest} b) =
      let x = run_statement mode.limit room (read_statement mode.levels (field p tag content)) (families_in mode room program) f in
      in_backward x (runs rest) f.direction d ∙ ap (λ (y : Run (Unit {0})). y >> x) (broke_runs rest d b)

-- ---- the walk

module _ (mode : Mode) (room base : ℕ) (l program : List ℕ) (f : Frame) where
  list_broken : (reversed : Bool) → f.direction ≡ direction_of reversed → broken_in l reversed ≡ true → list_run mode room base l program f ≡ no_meaning
  unfolding broken_in is_broken direction_of runs
  list_broken reversed same h = go reversed same (counted (fields 0 l)) refl h
    where
      go : (b : Bool) → f.direction ≡ direction_of b → (c : Counted) → counted (fields 0 l) ≡ c → (b && is_broken c) ≡ true → list_run mode room base l program f ≡ no_meaning
      go true d Broken e h = broke_runs mode room base l program f (fields base l) d (broken_fields base l e)
      go true d (Many n) e h = absurd (clash (sym h))
      go false d c e h = absurd (clash (sym h))

module _ (mode : Mode) (room base : ℕ) (l program : List ℕ) (f : Frame) where
  -- what a turn of the walk does
  pub record Turn (reversed : Bool) (w : Walk) (kept : List ℕ) (tag end : ℕ) : Type 0 where
    pub runs_on : rest_run mode room base w.at w.to l program f
        ≡ (field_run mode room base l program f w.here tag end >> rest_run mode room base (passed_of w reversed end).at (passed_of w reversed end).to l program f)
    pub walking : Walking l reversed (passed_of w reversed end) kept
    pub less : (passed_of w reversed end).to - (passed_of w reversed end).at < w.to - w.at
    pub inside : w.here + 3 ≤ end
    pub within : end ≤ length l
    pub low : w.at ≤ w.here
    pub high : end ≤ w.to
    pub at_later : w.at ≤ (passed_of w reversed end).at
    pub to_sooner : (passed_of w reversed end).to ≤ w.to

  pub walk_turn : (reversed : Bool) → f.direction ≡ direction_of reversed → (w : Walk) (kept : List ℕ) (tag end : ℕ) → NextField l reversed w kept → w.at < w.to
      → header_of w.here (fields_at l w.here w.to) ≡ Ok (record { tag = tag; next = end }) → Turn reversed w kept tag end
  unfolding Walking NextField passed_of direction_of
  walk_turn true d w kept tag end n h e =
      let x = n.ends in
      let i : FieldIn l w.here w.to x.tag w.to = in_whole l w.here w.to x.tag w.to x.is in
      let y : ◌≡◌ {A = Result Header NoHeader} (Ok (record { tag = x.tag; next = w.to })) (Ok (record { tag = tag; next = end })) = sym x.is ∙ e in
      let z : ◌≡◌ {A = Header} (record { tag = x.tag; next = w.to }) (record { tag = tag; next = end }) = cc in
      let u : x.tag ≡ tag = ap (λ (k : Header). k.tag) z in
      let v : w.to ≡ end = ap (λ (k : Header). k.next) z in
      let b = backward_next mode room base l program f w.at w.here w.to x.tag d n.begins i n.within in
      record {
        runs_on = b ∙ (λ j. field_run mode room base l program f w.here (u j) (v j) >> rest_run mode room base w.at w.here l program f);
        walking = record { within = omega (arith, i.low, n.within); end = n.begins.1; few = n.few; kept = n.kept; linked = n.linked };
        less = omega (arith, i.low, n.begins.0);
        inside = omega (arith, i.low, v);
        within = omega (arith, n.within, v);
        low = n.begins.0;
        high = omega (arith, v);
        at_later = omega arith;
        to_sooner = omega (arith, i.low);
      }
  walk_turn false d w kept tag end n h e =
      let z = n.begins in
      let i : FieldIn l w.at w.to tag end = in_whole l w.at w.to tag end (rw z at e) in
      let b = forward_next mode room base l program f w.at w.to tag end d i in
      record {
        runs_on = rw z b;
        walking = record { within = n.within };
        less = omega (arith, i.low, i.high);
        inside = omega (arith, i.low, z);
        within = omega (arith, i.high, n.within);
        low = omega (arith, z);
        high = i.high;
        at_later = omega (arith, i.low);
        to_sooner = omega arith;
      }

  pub walk_stops : (reversed : Bool) → f.direction ≡ direction_of reversed → (w : Walk) (kept : List ℕ) → NextField l reversed w kept → w.at < w.to → ((k : Header) → header_of w.here (fields_at l w.here w.to) ≡ Ok k → ⊥)
      → rest_run mode room base w.at w.to l program f ≡ no_meaning
  unfolding NextField direction_of
  walk_stops true d w kept n h k = absurd (k _ n.ends.is)
  walk_stops false d w kept n h k = forward_stops mode room base l program f w.at w.to h n.within (rw n.begins at k)

  -- a walk that does not begin: the list is stuck before anything runs
  pub begin_stops : (reversed : Bool) → f.direction ≡ direction_of reversed → (from to : ℕ) (kept : List ℕ) (r : Maybe Held) → Starting l from to reversed kept r → r ≡ None → rest_run mode room base from to l program f ≡ no_meaning
  unfolding Starting
  begin_stops reversed d from to kept r s e = list_broken mode room (base + from) (slice from to l) program f reversed d (rw e at s)

pub walk_start : (l : List ℕ) (from to : ℕ) (reversed : Bool) (kept : List ℕ) (r : Maybe Held) (h : Held) → Starting l from to reversed kept r → r ≡ Some h → Walking l reversed (whole_of from to h.depth h.sure) kept
unfolding Starting
walk_start l from to reversed kept r h s e = rw e at s

pub walk_within : (l : List ℕ) (reversed : Bool) (w : Walk) (kept : List ℕ) → Walking l reversed w kept → w.to ≤ length l
unfolding Walking
walk_within l true w kept a = a.within
walk_within l false w kept a = a.within

-- the field that is next is within the bytes
pub next_within : (l : List ℕ) (reversed : Bool) (w : Walk) (kept : List ℕ) → NextField l reversed w kept → w.to ≤ length l
unfolding NextField
next_within l true w kept a = a.within
next_within l false w kept a = a.within

-- a list of one statement
pub list_single : (mode : Mode) (room base tag : ℕ) (bytes content program : List ℕ) (f : Frame) → fields base bytes ≡ (field base tag content ∷ []) → list_run mode room base bytes program f ≡ one_run mode room base tag content program f
unfolding statements_by run_statements
list_single mode room base tag bytes content program f e =
    ap (λ (fs : List Field). run_statements mode.limit room (statements_by (read_statement mode.levels) fs) (families_in mode room program) f) e ∙ alone_is (one_run mode room base tag content program f) f.direction

-- a walk of which nothing is left
pub walk_none : (l : List ℕ) (to : ℕ) (reversed : Bool) (kept : List ℕ) → to ≤ length l → Walking l reversed (whole_of to to 0 0) kept
unfolding Walking whole_of is_broken PositionsKept Linked counted fields_after
walk_none l to true kept h = record { within = h; end = rw (slice_empty to l) refl; few = omega arith; kept = refl; linked = tt }
walk_none l to false kept h = record { within = h }
