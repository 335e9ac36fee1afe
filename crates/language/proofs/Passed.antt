-- A family that the check lets stand for a family parameter takes what the parameter is called with.
use mathlib.Core.Path.{◌≡◌, sym, subst}
use mathlib.Core.List.{List, [], ◌∷◌, map}
use mathlib.Core.Bool.{true}
use mathlib.Core.Option.{Option, none, some}
use Prim.Native.Nat.{ℕ}
use native.Mathlib.Omega.{arith}
use lib.IntN.{ℤ, pos, ◌-ℤ◌}
use lib.Dec.{eqb}
use borrow.Author.Tests.{eqb-true}
use lib.ListN.{length}
use Rattle.language.specs.Tree.{Place}
use Rattle.language.specs.Form.{Form, difference_of}
use Rattle.language.specs.Check as C
use Rattle.language.specs.Check.{fine, Formal, Kind, qubit, quantum, classical, formal, Signature, fitting, require}
use Rattle.language.specs.Machine.{Meaning}
use Rattle.language.proofs.Integers.{◌≼◌, ≼_trans, ≼-from-difference, and_both}
use Rattle.language.proofs.FormLaws.{value, Within, Naturals, start, naturals_length, value_difference, within_difference}
use Rattle.language.proofs.Safe.{World, then_both, required}
use Rattle.language.proofs.Fits.{single, quantums, AllMean, end, more, AllProper, qubits, sized, shown_by, showing_is_built, must_show_lem}

proper_wire : {n : ℕ} {ks : List Kind} → AllProper n (qubit ∷ ks) → AllProper n ks
proper_wire (qubits pr) = pr

proper_register : {n : ℕ} {i : Form} {ks : List Kind} → AllProper n (quantum i ∷ ks) → Within n i × AllProper n ks
proper_register (sized w pr) = (w, pr)

-- an actual size that the check compared is not above the formal one
size_below : (p : Place) (m : ℕ) (i j : Form) (ys : List ℤ) → C.must_show p (C.size_scope m) (difference_of i j) ≡ fine → Within m i → Within m j → Naturals m ys → value j ys ≼ value i ys
size_below p m i j ys e wi wj n =
    let g = showing_is_built m [] (difference_of i j) (shown_by p (C.size_scope m) (difference_of i j) e) in
    let w : Within (length ys) g.0 = subst (λ (x : ℕ). Within x g.0) (sym (naturals_length n)) (within_difference i j g.0 g.1 wi wj) in
    let q : value g.0 ys ≡ value i ys -ℤ value j ys = value_difference i j g.0 ys g.1 wi.full wj.full in
    ≼-from-difference (subst (λ (x : ℤ). pos 0 ≼ x) q (must_show_lem p (C.size_scope m) (difference_of i j) g.0 ys e (start n) g.1 w))

module _ {W : World} {gs hs : List Signature} {ys : List ℤ} where
  none_again : {ms : List Meaning} → AllMean W gs ys [] ms → AllMean W hs ys [] ms
  none_again end = end

  wire_again : {ks ls : List Kind} {ms : List Meaning} → AllMean W gs ys (qubit ∷ ks) ms → ((rest : List Meaning) → AllMean W gs ys ks rest → AllMean W hs ys ls rest) → AllMean W hs ys (qubit ∷ ls) ms
  wire_again (more (single l) a) k = more (single l) (k _ a)

  register_again : {i j : Form} {ks ls : List Kind} {ms : List Meaning} → value j ys ≼ value i ys → Within (length ys) j → AllMean W gs ys (quantum i ∷ ks) ms
      → ((rest : List Meaning) → AllMean W gs ys ks rest → AllMean W hs ys ls rest) → AllMean W hs ys (quantum j ∷ ls) ms
  register_again o w (more (quantums {n = n} u h l x) a) k = more (quantums {n = n} w (≼_trans o h) l x) (k _ a)

  -- meanings of the formal kinds are meanings of the actual ones
  kinds_again : (p : Place) (m : ℕ) (is : List (Option Form)) (ks : List Kind) (ms : List Meaning) → C.same_kinds is ks ≡ true → C.sizes_fit p m is ks ≡ fine → AllProper m (map C.plain_of is) → AllProper m ks → Naturals m ys
      → AllMean W gs ys (map C.plain_of is) ms → AllMean W hs ys ks ms
  unfolding C.same_kinds C.same_kind C.sizes_fit C.size_fits C.plain_size C.plain_of
  kinds_again p m [] [] ms e c pi pk n a = none_again a
  kinds_again p m [] (k ∷ ks) ms e c pi pk n a = absurd (let z : ◌≡◌ {A = ℕ} 0 1 = cc in omega arith)
  kinds_again p m (i ∷ is) [] ms e c pi pk n a = absurd (let z : ◌≡◌ {A = ℕ} 0 1 = cc in omega arith)
  kinds_again p m (none ∷ is) (qubit ∷ ks) ms e c pi pk n a =
      wire_again a λ rest b. kinds_again p m is ks rest e (then_both _ _ tt c).1 (proper_wire pi) (proper_wire pk) n b
  kinds_again p m (none ∷ is) (quantum j ∷ ks) ms e c pi pk n a = absurd (let z : ◌≡◌ {A = ℕ} 0 1 = cc in omega arith)
  kinds_again p m (none ∷ is) (classical j ∷ ks) ms e c pi pk n a = absurd (let z : ◌≡◌ {A = ℕ} 0 1 = cc in omega arith)
  kinds_again p m (none ∷ is) (formal g ∷ ks) ms e c pi pk n a = absurd (let z : ◌≡◌ {A = ℕ} 0 1 = cc in omega arith)
  kinds_again p m (some i ∷ is) (qubit ∷ ks) ms e c pi pk n a = absurd (let z : ◌≡◌ {A = ℕ} 0 1 = cc in omega arith)
  kinds_again p m (some i ∷ is) (quantum j ∷ ks) ms e c pi pk n a =
      let t = then_both (C.must_show p (C.size_scope m) (difference_of i j)) (C.sizes_fit p m is ks) tt c in
      let x = proper_register pi in
      let y = proper_register pk in
      register_again (size_below p m i j ys t.0 x.0 y.0 n) (subst (λ (l : ℕ). Within l j) (sym (naturals_length n)) y.0) a
      λ rest b. kinds_again p m is ks rest e t.1 x.1 y.1 n b
  kinds_again p m (some i ∷ is) (classical j ∷ ks) ms e c pi pk n a = absurd (let z : ◌≡◌ {A = ℕ} 0 1 = cc in omega arith)
  kinds_again p m (some i ∷ is) (formal g ∷ ks) ms e c pi pk n a = absurd (let z : ◌≡◌ {A = ℕ} 0 1 = cc in omega arith)

  -- so sizes and meanings of a family parameter are those of the family that stands for it
  pub stands : (p : Place) (f : Formal) (g : Signature) (ms : List Meaning) → C.family_fits p (fitting f) g ≡ fine → AllProper f.variables (map C.plain_of f.sizes) → AllProper g.variables g.parameters
      → Naturals f.variables ys → AllMean W gs ys (map C.plain_of f.sizes) ms → Naturals g.variables ys × AllMean W hs ys g.parameters ms
  unfolding C.family_fits
  stands p f g ms e pf pg n a =
      let t = then_both (require 9 p _) (C.sizes_fit p f.variables f.sizes g.parameters) tt e in
      let b = and_both (eqb f.variables g.variables) (C.same_kinds f.sizes g.parameters) (required 9 p _ t.0) in
      let q : f.variables ≡ g.variables = eqb-true f.variables g.variables b.0 in (
        subst (λ (x : ℕ). Naturals x ys) q n,
        kinds_again p f.variables f.sizes g.parameters ms b.1 t.1 pf (subst (λ (x : ℕ). AllProper x g.parameters) (sym q) pg) n a,
      )
