-- `records::numbers` meets its contract. Assumes nothing.
use mathlib.Core.Path.{refl}
use Rattle.language.specs.Result.{condition_byte, condition_bit}
use Rattle.records.specs.Outcomes.{condition_of}
use Rattle.records.proofs.numbers.Goals as goal

pub returns-in-Always : goal.returns-in-Always
unfolding condition_byte condition_bit condition_of
returns-in-Always c =
    rw c.in-Always.is (refl, refl)

pub returns-in-IsZero : goal.returns-in-IsZero
unfolding condition_byte condition_bit condition_of
returns-in-IsZero c =
    rw c.in-IsZero.is (refl, refl)

pub returns-in-IsOne : goal.returns-in-IsOne
unfolding condition_byte condition_bit condition_of
returns-in-IsOne c =
    rw c.in-IsOne.is (refl, refl)
