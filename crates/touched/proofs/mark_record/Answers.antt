-- `touched::mark_record` meets its contract. Assumes nothing.
use Rattle.std.proofs.Common.{ℕ, ◌≡◌, ◌<◌, ◌≤◌, ◌⊎◌, inl, inr, get_or, arith}
use Rattle.touched.proofs.Named.{one_marked, two_marked}
use Rattle.touched.proofs.mark_record.Goals as goal
use Rattle.touched.proofs.mark_record.Goals.{in-4-1, in_default+else-op-lt9+then-op-lt11}

pub returns-in_default : goal.returns-in_default
returns-in_default c =
    let both = one_marked c.args.output.now c.args.map.now c.mark_after.new.map c.args.at c.two_bytes-first.result c.requires.map_size_in_bounds c.two_bytes-first.ensures.0 c.two_bytes-first.ensures.1 c.mark_after.ensures c.in_default.in_default-own.rest.1 (inl c.in_default.if-op-lt9-own.true) in
    record { marks = both.0; bit_set_2 = both.1 }

pub returns-in_default-2 : goal.returns-in_default-2
returns-in_default-2 c =
    let both = one_marked c.args.output.now c.args.map.now c.mark_after.new.map c.args.at c.two_bytes-first.result c.requires.map_size_in_bounds c.two_bytes-first.ensures.0 c.two_bytes-first.ensures.1 c.mark_after.ensures c.in_default.in_default-own.rest.1 (inr c.in_default.if-op-lt11-own.false) in
    record { marks = both.0; bit_set_2 = both.1 }

pub returns-in-4 : goal.returns-in-4
returns-in-4 c =
    let op : ℕ = get_or c.args.output.now c.args.at 0 in
    let two : (op ≡ 4) ⊎ ((9 ≤ op) × (op < 11)) = elim c.in-4-1.branch [ in-4-1 w ↦ inl (omega arith) | in_default+else-op-lt9+then-op-lt11 w ↦ inr (omega arith, omega arith) ] in
    let both = two_marked c.args.output.now c.args.map.now c.mark_after.new.map c.args.at c.two_bytes-first.result c.requires.map_size_in_bounds c.two_bytes-first.ensures.0 c.two_bytes-first.ensures.1 c.mark_after.ensures _ c.two_bytes.result c.two_bytes.ensures.0 c.two_bytes.ensures.1 c.mark.ensures two in
    record { marks = both.0; bit_set_2 = both.1 }
