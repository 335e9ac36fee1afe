-- `forms::try_loops` calls itself for one loop less, and is measured by the loops.
use Rattle.forms.proofs.+try_loops.Given as goal

-- the loops that are left to try
abbrev pub decreases-try_loops : goal.decreases-try_loops
decreases-try_loops l = l.inner
