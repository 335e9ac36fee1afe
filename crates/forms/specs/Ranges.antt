-- The loops that ranges stand for.
use Rattle.std.specs.Prelude.{List, ℕ}
use Rattle.language.specs.Form.{Loop}
use Rattle.forms.specs.Rows.{loops_of}
use Rattle.forms.specs.declared.ranges.Ranges.{Ranges}

-- the outermost n loops, the innermost of them first
abbrev pub loops_in : ℕ → Ranges → List Loop
loops_in n r = loops_of n r.lows.now r.highs.now

abbrev pub all_loops : Ranges → List Loop
all_loops r = loops_in r.loops r
