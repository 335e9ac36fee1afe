-- `operands::locate` meets its contract. Assumes nothing.
use native.Mathlib.Omega.{arith}
use mathlib.Core.Path.{◌∙◌, ap}
use Rattle.std.specs.Prelude.{Some}
use Rattle.operands.proofs.Meanings.{location_past, location_high, location_at}
use Rattle.operands.proofs.locate.Goals as goal

pub returns-then-from-i : goal.returns-then-from-i
returns-then-from-i c =
    let a = c.args in
    location_past a.first a.size a.i (omega arith)

pub returns-then-n-ge-LOCATIONS : goal.returns-then-n-ge-LOCATIONS
returns-then-n-ge-LOCATIONS c =
    let a = c.args in
    location_high a.first a.size a.i (omega arith)

pub returns : goal.returns
returns c =
    let a = c.args in
    ap Some (omega arith) ∙ location_at a.first a.size a.i (omega arith) (omega arith)
