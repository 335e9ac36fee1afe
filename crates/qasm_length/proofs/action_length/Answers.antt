-- `qasm_length::action_length` meets its contract, operation by operation. Assumes nothing.
use native.Mathlib.Omega.{arith}
use Rattle.language.specs.Read.{choose}
use Rattle.qasm_text.specs.RecordsIn.{action_of}
use Rattle.qasm_text.proofs.TextLength.{angle_length, action_length, action_length_lem}
use Rattle.qasm_length.specs.AnyBytes.{action_from}
use Rattle.qasm_length.proofs.Parts.{other_action}
use Rattle.qasm_length.proofs.action_length.Goals as goal

pub returns-in-1 : goal.returns-in-1
unfolding action_from action_of choose action_length
returns-in-1 c =
    rw (action_length_lem, c.in-1.is) (record { same = omega arith; bound = omega arith })

pub returns-in-2 : goal.returns-in-2
unfolding action_from action_of choose action_length
returns-in-2 c =
    rw (action_length_lem, c.in-2.is) (record { same = omega arith; bound = omega arith })

pub returns-in-3 : goal.returns-in-3
unfolding action_from action_of choose action_length
returns-in-3 c =
    rw (action_length_lem, c.in-3.is) (record { same = omega arith; bound = omega arith })

pub returns-in-4 : goal.returns-in-4
unfolding action_from action_of choose action_length
returns-in-4 c =
    rw (action_length_lem, c.in-4.is) (record { same = omega arith; bound = omega arith })

pub returns-in-5 : goal.returns-in-5
unfolding action_from action_of choose action_length
returns-in-5 c =
    rw (action_length_lem, c.in-5.is) (record { same = omega arith; bound = omega arith })

pub returns-in-7 : goal.returns-in-7
unfolding action_from action_of choose action_length angle_length
returns-in-7 c =
    rw (action_length_lem, c.in-7.is) (record { same = omega arith; bound = omega arith })

pub returns-in-8 : goal.returns-in-8
unfolding action_from action_of choose action_length angle_length
returns-in-8 c =
    rw (action_length_lem, c.in-8.is) (record { same = omega arith; bound = omega arith })

pub returns-in-9 : goal.returns-in-9
unfolding action_from action_of choose action_length angle_length
returns-in-9 c =
    rw (action_length_lem, c.in-9.is) (record { same = omega arith; bound = omega arith })

pub returns-in-10 : goal.returns-in-10
unfolding action_from action_of choose action_length angle_length
returns-in-10 c =
    rw (action_length_lem, c.in-10.is) (record { same = omega arith; bound = omega arith })

pub returns-in_default : goal.returns-in_default
returns-in_default c =
    let a = c.args in
    let m = c.in_default.in_default-own.rest in
    rw (other_action a.op a.first a.second a.k m.0.0.0.0.0.0.0.0.1 m.0.0.0.0.0.0.0.1 m.0.0.0.0.0.0.1 m.0.0.0.0.0.1 m.0.0.0.0.1 m.0.0.0.1 m.0.0.1 m.0.1 m.1) (record { same = omega arith; bound = omega arith })
