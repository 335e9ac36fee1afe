-- The check by fewer rules: what crate rule_laws compares the check with.
use Rattle.std.specs.Prelude.{List, true, false, ℕ, leb, length}
use Rattle.language.specs.Limits.{longest_program}
use Rattle.language.specs.Read.{read}
use Rattle.language.specs.Check.{Checked, ◌>>◌, require, Rules, Scope, Declared, check_tops_by, nothing_declared}

-- without the trials by a loop's range: the plain rule shows alone
abbrev pub no_ranges : Rules
no_ranges = record { ranges = false; twice = true }

-- without the test for a gate that uses one wire twice: the check before 35
abbrev pub no_twice : Rules
no_twice = record { ranges = true; twice = false }

-- the scope under these rules
abbrev pub under : Rules → Scope → Scope
under r s = record { families = s.families; operands = s.operands; variables = s.variables; loops = s.loops; rules = r }

-- the check of a program's bytes by these rules
unfoldable pub check_program_by : Rules → (program : List ℕ) → Checked Declared
check_program_by r program = require 1 0 (leb (length program) longest_program) >> check_tops_by r (read program) nothing_declared
