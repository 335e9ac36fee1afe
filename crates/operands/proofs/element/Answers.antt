-- `operands::element` meets its contract. Assumes nothing.
use mathlib.Core.Path.{◌∙◌, ap, sym}
use Rattle.std.proofs.lemmas.Result.{err_from_is_err_and}
use Rattle.language.proofs.Integers.{range_back}
use Rattle.indexes.specs.Values.{fault_told}
use Rattle.operands.specs.Meanings.{stood, meaning_told, location_of}
use Rattle.operands.proofs.Meanings.{location_none, location_some, no_element, wires_nowhere, wires_at, bits_nowhere, bits_at}
use Rattle.operands.proofs.element.Goals as goal

pub returns-in_err-n-in-Wires : goal.returns-in_err-n-in-Wires
unfolding meaning_told fault_told stood
returns-in_err-n-in-Wires c =
    let a = c.args in
    let r = err_from_is_err_and c.from_residual.result c.from_residual.ensures.1 in
    let o = location_none c.indexed.result c.ok_or.result _ c.ok_or.ensures.value c.in_err-n-in-Wires.was in
    λ p. rw (r.1, r.2, o.1, c.in-Wires.is) (wires_nowhere p _ _ a.z (ap (location_of _ _) (sym (range_back {z = a.z} c.requires)) ∙ sym c.indexed.ensures ∙ o.0))

pub returns-in_ok-n-in-Wires : goal.returns-in_ok-n-in-Wires
unfolding meaning_told stood
returns-in_ok-n-in-Wires c =
    let a = c.args in
    let o = location_some c.indexed.result c.ok_or.result _ c.ok_or.ensures.value c.in_ok-n-in-Wires.was in
    λ p. rw c.in-Wires.is (wires_at p _ _ a.z _ (ap (location_of _ _) (sym (range_back {z = a.z} c.requires)) ∙ sym c.indexed.ensures ∙ o))

pub returns-in_err-n-in-Bits : goal.returns-in_err-n-in-Bits
unfolding meaning_told fault_told stood
returns-in_err-n-in-Bits c =
    let a = c.args in
    let r = err_from_is_err_and c.from_residual-in_err-n-in-Bits.result c.from_residual-in_err-n-in-Bits.ensures.1 in
    let o = location_none c.indexed-in-Bits.result c.ok_or-in-Bits.result _ c.ok_or-in-Bits.ensures.value c.in_err-n-in-Bits.was in
    λ p. rw (r.1, r.2, o.1, c.in-Bits.is) (bits_nowhere p _ _ a.z (ap (location_of _ _) (sym (range_back {z = a.z} c.requires)) ∙ sym c.indexed-in-Bits.ensures ∙ o.0))

pub returns-in_ok-n-in-Bits : goal.returns-in_ok-n-in-Bits
unfolding meaning_told stood
returns-in_ok-n-in-Bits c =
    let a = c.args in
    let o = location_some c.indexed-in-Bits.result c.ok_or-in-Bits.result _ c.ok_or-in-Bits.ensures.value c.in_ok-n-in-Bits.was in
    λ p. rw c.in-Bits.is (bits_at p _ _ a.z _ (ap (location_of _ _) (sym (range_back {z = a.z} c.requires)) ∙ sym c.indexed-in-Bits.ensures ∙ o))

pub returns-in_default : goal.returns-in_default
unfolding meaning_told fault_told
returns-in_default c =
    λ p. no_element c.args.s c.in_default.not-Wires c.in_default.not-Bits c.args.z
