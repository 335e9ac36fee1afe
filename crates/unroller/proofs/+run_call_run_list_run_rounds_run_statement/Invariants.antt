-- The cycle of calls meets its contracts. Assumes nothing.
use Prim.Native.Nat.{◌-◌, ◌+◌, ◌*◌}
use Rattle.unroller.proofs.ListLoop as M
use Rattle.unroller.proofs.+run_call_run_list_run_rounds_run_statement.Given as goal

abbrev pub decreases-run_call : goal.decreases-run_call
decreases-run_call l =
    l.mode.families_visible * 1048576 + 4 * (l.to - l.from) + 2

abbrev pub decreases-run_list : goal.decreases-run_list
decreases-run_list l =
    l.mode.families_visible * 1048576 + 4 * (l.to - l.from) + 1

abbrev pub decreases-run_rounds : goal.decreases-run_rounds
decreases-run_rounds l =
    l.mode.families_visible * 1048576 + 4 * (l.to - l.from) + 2

abbrev pub decreases-run_statement : goal.decreases-run_statement
decreases-run_statement l =
    l.mode.families_visible * 1048576 + 4 * (l.to - l.from) + 3

abbrev pub invariant-run_list-loop-w : goal.invariant-run_list-loop-w
invariant-run_list-loop-w l =
    M.Midway l.looping l.mode l.base l.from l.to l.place (l.start) l.total l.bytes l.program l.initial.vars l.scope l.regs l.initial.out l.initial.s l.vars l.out l.cuts l.w l.i l.s

abbrev pub decreases-run_list-loop-w : goal.decreases-run_list-loop-w
decreases-run_list-loop-w l =
    (l.total - l.i) * 65536 + (l.w.to - l.w.at)
