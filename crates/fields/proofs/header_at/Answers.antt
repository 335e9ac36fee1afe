-- `fields::header_at` meets its contract. Assumes nothing.
use mathlib.Core.Path.{◌≡◌, sym, ap, ◌∙◌}
use Prim.Native.Nat.{ℕ, ◌+◌, ◌≤◌}
use Rattle.language.specs.Read.{two_bytes}
use lib.ListN.{length, get_or}
use native.Mathlib.Omega.{arith}
use Rattle.fields.specs.Header.{header_of}
use Rattle.fields.proofs.Headers.{fields_end, fields_short, fields_whole, fields_past, headed, size}
use Rattle.fields.proofs.header_at.Goals as goal

pub returns-then-to-at : goal.returns-then-to-at
unfolding header_of
returns-then-to-at c =
    let a = c.args in
    sym (ap (header_of a.at) (fields_end a.program.now a.at a.to c.if-to-at.true))

pub returns-then-to-at-lt3 : goal.returns-then-to-at-lt3
unfolding header_of
returns-then-to-at-lt3 c =
    let a = c.args in
    sym (ap (header_of a.at) (fields_short a.program.now a.at a.to (omega arith) (omega arith) (omega arith)))

pub returns-then-size-to : goal.returns-then-size-to
returns-then-size-to c =
    let a = c.args in
    let l = a.program.now in
    let h : a.at + 3 ≤ a.to = omega arith in
    let k : a.to ≤ length l = omega arith in
    let e : c.two_bytes-size.result ≡ size l a.at a.to h k = c.two_bytes-size.ensures.0 ∙ ap (λ (i : ℕ). two_bytes (get_or l (a.at + 1) 0) (get_or l i 0)) (let i : a.at + 1 + 1 ≡ a.at + 2 = omega arith in i) in
    let w = fields_whole l a.at a.to h k (omega arith) in
    rw e (sym (headed l a.at a.to (get_or l a.at 0) (a.at + 3 + size l a.at a.to h k) k w))

pub returns : goal.returns
unfolding header_of
returns c =
    let a = c.args in
    let l = a.program.now in
    let h : a.at + 3 ≤ a.to = omega arith in
    let k : a.to ≤ length l = omega arith in
    let e : c.two_bytes-size.result ≡ size l a.at a.to h k = c.two_bytes-size.ensures.0 ∙ ap (λ (i : ℕ). two_bytes (get_or l (a.at + 1) 0) (get_or l i 0)) (let i : a.at + 1 + 1 ≡ a.at + 2 = omega arith in i) in
    sym (ap (header_of a.at) (fields_past l a.at a.to h k (omega arith)))
