-- Laws on a buffer whose rest from a place on was lent to a call, which filled it. Assumes nothing.
use Prim.Native.Nat.{ℕ, ◌+◌, ◌-◌, ◌≤◌}
use mathlib.Core.Path.{◌≡◌}
use mathlib.Core.List.{List}
use native.Mathlib.Omega.{arith}
use borrow.Rule.Slice.PartMut.{mid_of, put_mid, same_len_mid}
use lib.ListN.{length, length-take}

-- the buffer afterwards
abbrev pub filled : (from : ℕ) (buffer rest : List ℕ) → List ℕ
filled from buffer rest = put_mid from (length buffer - from) buffer rest

-- the rest has as many bytes as before
abbrev pub Filled : (from : ℕ) (buffer rest : List ℕ) → Type 0
Filled from buffer rest = length rest ≡ length (mid_of from (length buffer - from) buffer)

pub filled_length : (from : ℕ) (buffer rest : List ℕ) → Filled from buffer rest → length (filled from buffer rest) ≡ length buffer
filled_length from buffer rest e = same_len_mid from (length buffer - from) buffer rest e

-- so many bytes of the rest end within the buffer
pub within : (from : ℕ) (buffer rest : List ℕ) (n : ℕ) → from ≤ length buffer → Filled from buffer rest → n ≤ length rest → from + n ≤ length buffer
within from buffer rest n h e k =
    let f : length (mid_of from (length buffer - from) buffer) ≤ length buffer - from = simp length-take (omega arith) in
    omega arith

-- a count of the bytes of the rest
pub part_count : (from : ℕ) (buffer : List ℕ) (all n : ℕ) → length buffer ≡ all → n ≤ length (mid_of from (length buffer - from) buffer) → n ≤ all - from
part_count from buffer all n e h =
    let f : length (mid_of from (length buffer - from) buffer) ≤ length buffer - from = simp length-take (omega arith) in
    omega arith
