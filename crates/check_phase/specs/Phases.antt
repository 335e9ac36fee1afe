-- What is due in a phase and in a cphase.
use Rattle.std.specs.Prelude.{List, ℕ}
use Rattle.language.specs.Read.{Field, phase_of, cphase_of}
use Rattle.language.specs.Check.{Checked, Scope, check_statement}

-- the check of the phase at p with these fields
abbrev pub phase_due : Scope → (p : ℕ) → List Field → Checked (Unit {0})
phase_due s p fs = check_statement (phase_of p fs) s

abbrev pub cphase_due : Scope → (p : ℕ) → List Field → Checked (Unit {0})
cphase_due s p fs = check_statement (cphase_of p fs) s
