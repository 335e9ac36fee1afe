-- Parameters' types that the check accepts: their kinds, what they take, and how they are laid out.
use mathlib.Core.Path.{◌≡◌, refl, sym, ap, ◌∙◌, subst, subst₂}
use mathlib.Core.List.{List, [], ◌∷◌, map}
use mathlib.Core.Bool.{Bool, true, false, cond}
use Prim.Native.Nat.{ℕ, zero, suc, ◌+◌, ◌≤◌}
use native.Mathlib.Omega.{arith}
use lib.IntN.{ℤ, pos}
use lib.Dec.{leb}
use lib.ListN.{length, replicate, length-replicate}
use Rattle.language.specs.Limits.{most_wires, most_variables, most_loops}
use Rattle.language.specs.Tree.{Place, Ending, Number, Index, PlainType, qbit, qbits, bad_type, ParameterType, plain, family_type}
use Rattle.language.specs.Form.{Form, built}
use Rattle.language.specs.Check as C
use Rattle.language.specs.Check.{good, fine, Kind, qubit, quantum, formal, Signature, Scope, form_of, no_leftover}
use Rattle.language.specs.Machine as M
use Rattle.language.specs.Machine.{Meaning}
use Rattle.language.specs.Sound.{wires_in}
use Rattle.language.proofs.Integers.{◌≼◌, ≼_refl, natural}
use Rattle.language.proofs.FormLaws.{Naturals, Values, start}
use Rattle.language.proofs.FormLaws as L
use Rattle.language.proofs.Safe.{World, ends, Ok, Goes, ok_give, ok_bind, ok_then, not_good, both, then_both}
use Rattle.language.proofs.Fits.{single, quantums, formals, AllMean, end, more, AllProper, qubits, sized, of_family, quiet, Laid, index_sound, natural_ok, must_show_lem}
use Rattle.language.proofs.Accepted.{CountsGood, counts, counts_good}

-- ---- layout, in the quiet world

laid_out_lem : (p : Place) (n : ℕ) → Goes quiet (M.laid_out p n)
unfolding M.laid_out
laid_out_lem p n = go (leb n most_wires)
  where
    go : (b : Bool) → Goes quiet (cond b M.done (M.end_at 23 p))
    go true = ok_give tt
    go false = record { safe = λ s h. ends {n = 23} {s = s} (omega arith) h }

-- ---- what a parameter's type that is good was made of

-- a type, and its kind; a size is shown ≥ 0
pub data TypeGood (s : Scope) : ParameterType → Kind → Type 0 where
  a_qbit : {p : Place} {e : Ending} → TypeGood s (plain (qbit p e)) qubit
  a_qbits : {p : Place} {i : Index} {e : Ending} {f : Form} → form_of s i ≡ good f → C.must_show p s (built f) ≡ fine → TypeGood s (plain (qbits p i e)) (quantum f)
  a_formal : {p : Place} {v n : Number} {types : List PlainType} {e : Ending} {m : ℕ} {ks : List Kind} → m ≤ most_variables → C.plain_kinds (C.size_scope m) types ≡ good ks
      → TypeGood s (family_type p v n types e) (formal (record { variables = m; sizes = map C.plain_size ks }))

pub data TypesGood (s : Scope) : List ParameterType → List Kind → Type 0 where
  no_type : TypesGood s [] []
  and_type : {x : ParameterType} {k : Kind} {xs : List ParameterType} {ks : List Kind} → TypeGood s x k → TypesGood s xs ks → TypesGood s (x ∷ xs) (k ∷ ks)

few_variables : {v n : Number} {c : ℕ × ℕ} → CountsGood v n c → c.0 ≤ most_variables
few_variables (counts few count) = few

plain_good : (s : Scope) (x : PlainType) (k : Kind) → C.plain_kind s x ≡ good k → TypeGood s (plain x) k
unfolding C.plain_kind
plain_good s (qbit p en) k e =
    let t = then_both (no_leftover p en) _ k e in
    let q : qubit ≡ k = cc t.1 in
    subst (λ (y : Kind). TypeGood s (plain (qbit p en)) y) q a_qbit
plain_good s (qbits p i en) k e =
    let f = both (form_of s i) _ k e in
    let t = then_both (no_leftover p en) _ k f.second in
    let u = then_both (C.must_show p s (built f.value)) _ k t.1 in
    let q : quantum f.value ≡ k = cc u.1 in
    subst (λ (y : Kind). TypeGood s (plain (qbits p i en)) y) q (a_qbits f.first u.0)
plain_good s (bad_type n p) k e = absurd (not_good e)

type_good : (s : Scope) (x : ParameterType) (k : Kind) → C.kind_of s x ≡ good k → TypeGood s x k
unfolding C.kind_of C.check_formal
type_good s (plain x) k e = plain_good s x k e
type_good s (family_type p v n types en) k e =
    let b = both (C.check_counts p v n) _ k e in
    let g = both (C.check_formal p b.value.0 types en) _ k b.second in
    let c = both (C.plain_kinds (C.size_scope b.value.0) types) _ g.value g.first in
    let t = then_both (no_leftover p en) _ g.value c.second in
    let q : formal (record { variables = b.value.0; sizes = map C.plain_size c.value }) ≡ k = cc (t.1, g.second) in
    subst (λ (y : Kind). TypeGood s (family_type p v n types en) y) q (a_formal (few_variables (counts_good p v n b.value b.first)) c.first)

pub types_good : (s : Scope) (xs : List ParameterType) (ks : List Kind) → C.kinds_of s xs ≡ good ks → TypesGood s xs ks
unfolding C.kinds_of
types_good s [] ks e = let q : [] ≡ ks = cc in subst (λ (y : List Kind). TypesGood s [] y) q no_type
types_good s (x ∷ xs) ks e =
    let b = both (C.kind_of s x) _ ks e in
    let c = both (C.kinds_of s xs) _ ks b.second in
    let q : (b.value ∷ c.value) ≡ ks = cc c.second in
    subst (λ (y : List Kind). TypesGood s (x ∷ xs) y) q (and_type (type_good s x b.value b.first) (types_good s xs c.value c.first))

-- ---- what such parameters take, and how they are laid out

pub zeros : (m : ℕ) → Naturals m (replicate m (pos 0))
zeros zero = L.Naturals.end
zeros (suc m) = L.Naturals.also (zeros m)

-- sizes are forms in the variables
plain_proper : (s : Scope) {x : PlainType} {k : Kind} {ks : List Kind} (zs : List ℤ) → TypeGood s (plain x) k → s.variables ≤ most_variables → length s.loops ≤ most_loops → Values s.variables s.loops zs → AllProper (length zs) ks → AllProper (length zs) (k ∷ ks)
plain_proper s zs a_qbit m l v pr = qubits pr
plain_proper s zs (a_qbits {p = p} {i = i} {f = f} e c) m l v pr = sized (index_sound {W = quiet} p s i f zs e m l v).within pr

plains_proper : (s : Scope) (xs : List PlainType) (ks : List Kind) (zs : List ℤ) → C.plain_kinds s xs ≡ good ks → s.variables ≤ most_variables → length s.loops ≤ most_loops → Values s.variables s.loops zs → AllProper (length zs) ks
unfolding C.plain_kinds
plains_proper s [] ks zs e m l v = let q : [] ≡ ks = cc in subst (λ (y : List Kind). AllProper (length zs) y) q end
plains_proper s (x ∷ xs) ks zs e m l v =
    let b = both (C.plain_kind s x) _ ks e in
    let c = both (C.plain_kinds s xs) _ ks b.second in
    let q : (b.value ∷ c.value) ≡ ks = cc c.second in
    subst (λ (y : List Kind). AllProper (length zs) y) q (plain_proper s zs (plain_good s x b.value b.first) m l v (plains_proper s xs c.value zs c.first m l v))

-- plain kinds made of their sizes again
sizes_proper : {n : ℕ} {ks : List Kind} → AllProper n ks → AllProper n (map C.plain_of (map C.plain_size ks))
unfolding C.plain_of C.plain_size
sizes_proper end = end
sizes_proper (qubits pr) = qubits (sizes_proper pr)
sizes_proper (sized w pr) = sized w (sizes_proper pr)
sizes_proper (of_family u pr) = qubits (sizes_proper pr)

-- and of a family type's plain types, in its own variables
own_proper : (m : ℕ) (types : List PlainType) (ks : List Kind) → m ≤ most_variables → C.plain_kinds (C.size_scope m) types ≡ good ks → AllProper m (map C.plain_of (map C.plain_size ks))
own_proper m types ks few e = sizes_proper (subst (λ (x : ℕ). AllProper x ks) (length-replicate m (pos 0)) (plains_proper (C.size_scope m) types ks (replicate m (pos 0)) e few (omega arith) (start (zeros m))))

pub types_proper : (s : Scope) {types : List ParameterType} {ks : List Kind} (zs : List ℤ) → TypesGood s types ks → s.variables ≤ most_variables → length s.loops ≤ most_loops → Values s.variables s.loops zs → AllProper (length zs) ks
types_proper s zs no_type m l v = end
types_proper s zs (and_type a_qbit t) m l v = qubits (types_proper s zs t m l v)
types_proper s zs (and_type (a_qbits {e = en} e c) t) m l v = plain_proper s zs (a_qbits {e = en} e c) m l v (types_proper s zs t m l v)
types_proper s zs (and_type (a_formal {types = types} {m = n} {ks = ks} few e) t) m l v = of_family (own_proper n types ks few e) (types_proper s zs t m l v)

module _ {W : World} {gs : List Signature} where
  -- parameters that the check accepts, no family among them, are laid out as their kinds say
  pub layout_sound : (s : Scope) {types : List ParameterType} {ks : List Kind} (zs : List ℤ) (next : ℕ) → TypesGood s types ks → M.has_family_type types ≡ false → s.variables ≤ most_variables → length s.loops ≤ most_loops → Values s.variables s.loops zs
      → Ok quiet (Laid W gs zs ks next) (M.layout zs next types)
  unfolding M.has_family_type M.layout M.lay_wire M.lay_register M.laid_then wires_in
  layout_sound s zs next no_type u m l v = ok_give (record { means = λ h r. end })
  layout_sound s zs next (and_type (a_qbit {p = p}) t) u m l v =
      ok_then (laid_out_lem p (next + 1)) (ok_bind (layout_sound s zs (next + 1) t u m l v) λ ms h. ok_give (record { means = λ g r. more (single (omega arith)) (h.means (omega arith) r.1) }))
  layout_sound s zs next (and_type (a_qbits {p = p} {i = i} {f = f} e c) t) u m l v =
      let i₁ = index_sound p s i f zs e m l v in
      let n = natural (must_show_lem p s (built f) f zs c v refl i₁.within) in
      ok_bind i₁.evaluates λ z h. ok_bind (natural_ok z n.size (h ∙ n.is)) λ k j.
      ok_then (laid_out_lem p (next + k)) (ok_bind (layout_sound s zs (next + k) t u m l v) λ ms h₁.
      ok_give (record {
        means = λ g r. more (quantums {n = k} i₁.within (subst₂ (λ (a b : ℤ). a ≼ b) (sym n.is) (ap pos (sym j)) (≼_refl (pos n.size))) (omega arith) r.0) (h₁.means (omega arith) r.1);
      }))
  layout_sound s zs next (and_type (a_formal few e) t) u m l v = absurd (let z : ◌≡◌ {A = ℕ} 0 1 = cc in omega arith)

  -- parameters that the check accepts take what their kinds say
  pub types_take : (s : Scope) {types : List ParameterType} {ks : List Kind} {zs : List ℤ} {ms : List Meaning} → TypesGood s types ks → AllMean W gs zs ks ms → M.all_take types ms ≡ true
  unfolding M.all_take M.takes M.is_wire M.is_quantum M.is_family
  types_take s no_type end = refl
  types_take s (and_type a_qbit t) (more (single l) a) = types_take s t a
  types_take s (and_type (a_qbits e c) t) (more (quantums w h l j) a) = types_take s t a
  types_take s (and_type (a_formal few e) t) (more (formals p u h f) a) = types_take s t a
