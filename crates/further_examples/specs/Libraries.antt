-- Computed examples over libraries of more than 256 families: calls and passed families with two-byte numbers.
use Rattle.std.specs.Prelude.{◌≡◌, refl, List, [], ◌∷◌, ◌++◌, true, ℕ}
use Rattle.language.specs.Calls.{Example, run, instance, all_hold, computed, field, lit, qreg, one, lent, gives, turned_down}
use Rattle.language.specs.LongCalls.{gate, gates, h_of_it, long_call, q}
use Rattle.language.specs.Passing.{whole, passed, each}

-- 256 families that do nothing, and the family 256, which does h; 2,063 bytes
abbrev library : List ℕ
library = gates 256 ++ gate h_of_it

-- calls with a two-byte family number
calls : List Example
calls =
    -- the family 256 is entered, and not the family 0
    gives (run (library ++ qreg 1 ++ long_call 256 q) 100 (lent 12)) 0 0 1 2 (one 1 0)
    ∷ gives (run (library ++ qreg 1 ++ field 36 (0 ∷ q) ++ field 36 (255 ∷ q)) 100 (lent 8)) 0 0 0 2 (lent 8)
    ∷ turned_down (library ++ qreg 1 ++ long_call 255 q) 31 2068
    ∷ turned_down (library ++ qreg 1 ++ long_call 257 q) 8 2068
    -- parts after the number are as for a one-byte number: 4 where one is due, and where one is left over
    ∷ turned_down (library ++ qreg 1 ++ long_call 256 []) 4 2068
    ∷ turned_down (library ++ qreg 1 ++ long_call 256 (q ++ q)) 4 2068
    -- a family does not see itself
    ∷ turned_down (gates 256 ++ gate (long_call 256 (field 48 (0 ∷ [])))) 8 2056
    ∷ gives (instance library 256 [] 100 (lent 12)) 0 0 1 1 (one 1 0)
    ∷ gives (instance library 255 [] 100 (lent 8)) 0 0 0 0 (lent 8)
    ∷ gives (instance library 257 [] 100 (lent 8)) 20 0 0 0 (lent 8)
    ∷ []

-- numbers of two bytes, of the family called and of the one passed, with `each` as the family 257; the operand is at 2,130
passing : List Example
passing =
    gives (run (library ++ each ++ qreg 2 ++ long_call 257 (lit 2 ++ passed 256 ++ whole 0)) 100 (lent 24)) 0 0 2 8 (one 1 0 ++ one 1 1)
    ∷ gives (run (library ++ each ++ qreg 2 ++ long_call 257 (lit 2 ++ passed 0 ++ whole 0)) 100 (lent 24)) 0 0 0 6 (lent 24)
    ∷ turned_down (library ++ each ++ qreg 2 ++ long_call 257 (lit 2 ++ passed 257 ++ whole 0)) 33 2130
    ∷ turned_down (library ++ each ++ qreg 2 ++ long_call 257 (lit 2 ++ passed 258 ++ whole 0)) 8 2130
    ∷ []

calls_hold : all_hold calls ≡ true
unfolding computed calls
calls_hold = refl

passing_hold : all_hold passing ≡ true
unfolding computed passing
passing_hold = refl
