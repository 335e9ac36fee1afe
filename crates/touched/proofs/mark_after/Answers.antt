-- `touched::mark_after` meets its contract. Assumes nothing.
use Rattle.touched.proofs.Named.{last_marked}
use Rattle.touched.proofs.mark_after.Goals as goal

pub returns-then-wire-last : goal.returns-then-wire-last
returns-then-wire-last c =
    last_marked c.args.map.now c.args.last c.args.wire c.requires.bit_set c.requires.wire_bound c.if-wire-last.true
