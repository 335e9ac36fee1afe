-- `check_statement::statement_tag` meets its contract. Assumes nothing.
use Rattle.std.proofs.Common.{rules}
use Rattle.std.proofs.lemmas.Bool.Decides.{nat_tests}
use Rattle.language.specs.Read.{choose, statement_by, gate_of, cx_of, phase_of, cphase_of}
use Rattle.language.specs.Check.{check_statement}
use Rattle.check_statement.proofs.statement_tag.Goals as goal

pub returns-in-32 : goal.returns-in-32
unfolding statement_by choose check_statement gate_of cx_of phase_of cphase_of
returns-in-32 c = search (rules, nat_tests)

pub returns-in-35 : goal.returns-in-35
unfolding statement_by choose check_statement gate_of cx_of phase_of cphase_of
returns-in-35 c = search (rules, nat_tests)

pub returns-in-37 : goal.returns-in-37
unfolding statement_by choose check_statement gate_of cx_of phase_of cphase_of
returns-in-37 c = search (rules, nat_tests)

pub returns-in-38 : goal.returns-in-38
unfolding statement_by choose check_statement gate_of cx_of phase_of cphase_of
returns-in-38 c = search (rules, nat_tests)

pub returns-in-40 : goal.returns-in-40
unfolding statement_by choose check_statement gate_of cx_of phase_of cphase_of
returns-in-40 c = search (rules, nat_tests)

pub returns-in-41 : goal.returns-in-41
unfolding statement_by choose check_statement gate_of cx_of phase_of cphase_of
returns-in-41 c = search (rules, nat_tests)

pub returns-in-36 : goal.returns-in-36
unfolding statement_by choose check_statement gate_of cx_of phase_of cphase_of
returns-in-36 c = search (rules, nat_tests)

pub returns-in_default : goal.returns-in_default
unfolding statement_by choose check_statement gate_of cx_of phase_of cphase_of
returns-in_default c = search (rules, nat_tests)

pub returns-in_default-2 : goal.returns-in_default-2
unfolding statement_by choose check_statement gate_of cx_of phase_of cphase_of
returns-in_default-2 c = search (rules, nat_tests)
