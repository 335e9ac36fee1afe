-- `calls::takes` meets its contract. Assumes nothing.
use Rattle.calls.proofs.Types.{takes_quantum, takes_family_lem, takes_single}
use Rattle.calls.proofs.takes.Goals as goal

pub returns-in-Quantum : goal.returns-in-Quantum
returns-in-Quantum c =
    takes_quantum c.args.tag c.args.kind c.in-Quantum.is

pub returns-in-Family : goal.returns-in-Family
returns-in-Family c =
    takes_family_lem c.args.tag c.args.kind c.in-Family.is

pub returns-in_default : goal.returns-in_default
returns-in_default c =
    takes_single c.args.tag c.args.kind c.in_default.not-Quantum c.in_default.not-Family
