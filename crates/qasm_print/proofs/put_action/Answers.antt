-- `qasm_print::put_action` meets its contract. Assumes nothing.
use Rattle.language.specs.Read.{choose}
use Rattle.text_bytes.specs.Decimal.{ascii}
use Rattle.qasm_text.specs.Text.{angle_text, action_text}
use Rattle.qasm_text.specs.RecordsIn.{action_of}
use Rattle.qasm_length.specs.AnyBytes.{action_from}
use Rattle.qasm_length.proofs.Records.{action_other}
use Rattle.qasm_print.proofs.put_action.Goals as goal

pub put_on_wire-requires : goal.put_on_wire-requires
unfolding action_from action_of choose action_text ascii
put_on_wire-requires c =
    rw c.in-1.is at c.requires.room

pub put_on_wire-requires-in-2 : goal.put_on_wire-requires-in-2
unfolding action_from action_of choose action_text ascii
put_on_wire-requires-in-2 c =
    rw c.in-2.is at c.requires.room

pub put_on_wire-requires-in-3 : goal.put_on_wire-requires-in-3
unfolding action_from action_of choose action_text ascii
put_on_wire-requires-in-3 c =
    rw c.in-3.is at c.requires.room

pub put_cx-requires : goal.put_cx-requires
unfolding action_from action_of choose
put_cx-requires c =
    rw c.in-4.is at c.requires.room

pub put_measure-requires : goal.put_measure-requires
unfolding action_from action_of choose
put_measure-requires c =
    rw c.in-5.is at c.requires.room

pub put_phase-requires-clause-room : goal.put_phase-requires-clause-room
unfolding action_from action_of choose action_text angle_text ascii
put_phase-requires-clause-room c =
    rw c.in-7.is at c.requires.room

pub put_phase-requires-in-8-clause-room : goal.put_phase-requires-in-8-clause-room
unfolding action_from action_of choose action_text angle_text ascii
put_phase-requires-in-8-clause-room c =
    rw c.in-8.is at c.requires.room

pub put_cphase-requires-clause-room : goal.put_cphase-requires-clause-room
unfolding action_from action_of choose action_text angle_text ascii
put_cphase-requires-clause-room c =
    rw c.in-9.is at c.requires.room

pub put_cphase-requires-in-10-clause-room : goal.put_cphase-requires-in-10-clause-room
unfolding action_from action_of choose action_text angle_text ascii
put_cphase-requires-in-10-clause-room c =
    rw c.in-10.is at c.requires.room

pub put_on_wire-requires-in_default : goal.put_on_wire-requires-in_default
unfolding action_text ascii
put_on_wire-requires-in_default c =
    let r = c.in_default.in_default-own.rest in
    rw (action_other c.args.op c.args.first c.args.second c.args.k r.0.0.0.0.0.0.0.0.1 r.0.0.0.0.0.0.0.1 r.0.0.0.0.0.0.1 r.0.0.0.0.0.1 r.0.0.0.0.1 r.0.0.0.1 r.0.0.1 r.0.1 r.1) at c.requires.room

pub returns-in-1 : goal.returns-in-1
unfolding action_from action_of choose action_text ascii
returns-in-1 c =
    rw c.in-1.is c.put_on_wire.ensures

pub returns-in-2 : goal.returns-in-2
unfolding action_from action_of choose action_text ascii
returns-in-2 c =
    rw c.in-2.is c.put_on_wire-in-2.ensures

pub returns-in-3 : goal.returns-in-3
unfolding action_from action_of choose action_text ascii
returns-in-3 c =
    rw c.in-3.is c.put_on_wire-in-3.ensures

pub returns-in-4 : goal.returns-in-4
unfolding action_from action_of choose
returns-in-4 c =
    rw c.in-4.is c.put_cx.ensures

pub returns-in-5 : goal.returns-in-5
unfolding action_from action_of choose
returns-in-5 c =
    rw c.in-5.is c.put_measure.ensures

pub returns-in-7 : goal.returns-in-7
unfolding action_from action_of choose action_text angle_text ascii
returns-in-7 c =
    rw c.in-7.is c.put_phase.ensures

pub returns-in-8 : goal.returns-in-8
unfolding action_from action_of choose action_text angle_text ascii
returns-in-8 c =
    rw c.in-8.is c.put_phase-in-8.ensures

pub returns-in-9 : goal.returns-in-9
unfolding action_from action_of choose action_text angle_text ascii
returns-in-9 c =
    rw c.in-9.is c.put_cphase.ensures

pub returns-in-10 : goal.returns-in-10
unfolding action_from action_of choose action_text angle_text ascii
returns-in-10 c =
    rw c.in-10.is c.put_cphase-in-10.ensures

pub returns-in_default : goal.returns-in_default
unfolding action_text ascii
returns-in_default c =
    let r = c.in_default.in_default-own.rest in
    rw (action_other c.args.op c.args.first c.args.second c.args.k r.0.0.0.0.0.0.0.0.1 r.0.0.0.0.0.0.0.1 r.0.0.0.0.0.0.1 r.0.0.0.0.0.1 r.0.0.0.0.1 r.0.0.0.1 r.0.0.1 r.0.1 r.1) c.put_on_wire-in_default.ensures
