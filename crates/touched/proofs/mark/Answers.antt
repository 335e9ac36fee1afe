-- `touched::mark` meets its contract. Assumes nothing.
use Rattle.wire_map.specs.Marking.{marked}
use Rattle.touched.proofs.Named.{bit_fits, already_marked}
use Rattle.touched.proofs.mark.Goals as goal

pub returns-then-after-before : goal.returns-then-after-before
unfolding marked
returns-then-after-before c =
    rw (bit_fits c.args.wire)

pub returns-else-after-before : goal.returns-else-after-before
returns-else-after-before c =
    already_marked c.args.map.now c.args.wire c.if-after-before.false
