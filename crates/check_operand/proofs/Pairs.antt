-- Two operands in a row, the first of which is a wire: where the check stops, and what is left to test. Assumes nothing.
use mathlib.Core.Path.{◌≡◌, refl, sym, ap, ◌∙◌}
use mathlib.Core.List.{List}
use mathlib.Core.Bool.{Bool, true, not, ◌&&◌}
use Prim.Native.Nat.{ℕ, ◌≤◌, ◌<◌}
use lib.IntN.{ℤ}
use lib.ListN.{length, drop}
use Rattle.std.specs.Prelude.{Result, Ok, Err}
use Rattle.refusals.specs.declared.Refusal.{Refusal}
use Rattle.language.specs.Read.{Field, ending, operand_due}
use Rattle.language.specs.Check.{Checked, refused, ◌>>◌, fine, require, no_leftover, wire, check_operand, check_two, same_wire}
use Rattle.fields.specs.Header.{fields_at}
use Rattle.check_index.specs.Answers.{checked_part, PastField, Passes}
use Rattle.check_index.proofs.Answers.{part_goes, part_stops, passes_upto, left_some, left_none}
use Rattle.check_operand.specs.Operands.{checked_two, Leaves, Comparable, same_by}
use Rattle.check_operand.proofs.Operands.{second_is}
use Rattle.check_operand.proofs.Wires.{leaves_upto, fine_upto, last_test, two_then, can_compare, twice_is}
use Rattle.language.specs.Check as C

module _ (s : C.Scope) (d : C.Due) (program : List ℕ) (p from next : ℕ) (r : Result ℕ Refusal) where
  abbrev all : List Field
  all = fields_at program from next

  abbrev pub pair : Checked (Unit {0})
  pair = checked_two p s d (operand_due p 0 all) (operand_due p 1 all) (ending (drop 2 all))

  abbrev first : Checked (Unit {0})
  first = check_operand s wire (operand_due p 0 all)

  abbrev others : Checked (Unit {0})
  others = check_operand s d (operand_due p 1 all) >> no_leftover p (ending (drop 2 all))

  abbrev test : Checked (Unit {0})
  test = last_test p s d (operand_due p 0 all) (operand_due p 1 all)

  pair_is : ((first >> others) >> test) ≡ pair
  unfolding check_two
  pair_is = two_then p s d (operand_due p 0 all) (operand_due p 1 all) (ending (drop 2 all))

  module _ (u : checked_part r ≡ first) where
    pub first_stops : {e : Refusal} → r ≡ Err e → checked_part (Err e) ≡ pair
    first_stops q = part_stops _ (first >> others) test (part_stops r first others u q) refl ∙ pair_is

    module _ (mid : ℕ) (q : r ≡ Ok mid) (v : Passes program from next r) (t : Result ℕ Refusal) where
      abbrev rest : List Field
      rest = fields_at program mid next

      abbrev second : Checked (Unit {0})
      second = check_operand s d (operand_due p 0 rest)

      abbrev after : Checked (Unit {0})
      after = no_leftover p (ending (drop 1 rest))

      past : PastField program from next mid
      past = passes_upto program from next r mid q v

      second_next : (first >> others) ≡ (second >> after)
      second_next = part_goes r first u mid others q ∙ second_is s d program p from next mid past

      module _ (w : checked_part t ≡ second) where
        pub second_stops : {e : Refusal} → t ≡ Err e → checked_part (Err e) ≡ pair
        second_stops z = part_stops _ (first >> others) test (part_stops t second after w z ∙ sym second_next) refl ∙ pair_is

        module _ (end : ℕ) (z : t ≡ Ok end) (x : Passes program mid next t) where
          after_next : (first >> others) ≡ after
          after_next = second_next ∙ part_goes t second w end after z

          pub pair_long : end < next → next ≤ length program → refused 4 p ≡ pair
          unfolding ◌>>◌
          pair_long h k = sym (sym pair_is ∙ ap (λ (c : Checked (Unit {0})). c >> test) (after_next ∙ left_some program p mid next end (passes_upto program mid next t end z x) h k))

          pub pair_test : next ≤ end → test ≡ pair
          unfolding ◌>>◌
          pair_test h = sym (sym pair_is ∙ ap (λ (c : Checked (Unit {0})). c >> test) (after_next ∙ left_none program p mid next end (passes_upto program mid next t end z x) h))

          -- where the second is a wire too, and the forms of both are beside the answers
          module _ (h : next ≤ end) (k : next ≤ length program) (l m : List ℤ) (f : Leaves s (operand_due p 0 all) r l) (g : Leaves s (operand_due p 0 rest) t m) (i : d ≡ wire) where
            both_fine : check_operand s wire (operand_due p 0 rest) ≡ fine
            both_fine = ap (λ (c : C.Due). check_operand s c (operand_due p 0 rest)) (sym i) ∙ fine_upto t end second w z

            pub pair_compare : Comparable program from l × Comparable program mid m
            pair_compare = can_compare s program p from next mid k past l m (leaves_upto s (operand_due p 0 all) r l mid q f) (leaves_upto s (operand_due p 0 rest) t m end z g) (fine_upto r mid first u q) both_fine

            pub pair_tested : s.rules.twice ≡ true → {b : Bool} → b ≡ same_by program from mid l m → require 35 p (not b) ≡ pair
            pair_tested o e =
                let n = twice_is s program p from next mid k past l m (leaves_upto s (operand_due p 0 all) r l mid q f) (leaves_upto s (operand_due p 0 rest) t m end z g) (fine_upto r mid first u q) both_fine in
                ap (λ (b : Bool). require 35 p (not b)) (e ∙ n)
                ∙ ap (λ (b : Bool). require 35 p (not (b && same_wire s (operand_due p 0 all) (operand_due p 1 all)))) (sym o)
                ∙ ap (λ (c : C.Due). last_test p s c (operand_due p 0 all) (operand_due p 1 all)) (sym i)
                ∙ pair_test h
