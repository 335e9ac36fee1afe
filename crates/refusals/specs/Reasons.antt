-- The numbers of reasons, and what a refusal is in the definitions.
use Rattle.std.specs.Prelude.{ℕ}
use Rattle.refusals.specs.declared.Reason.{Reason}
use Rattle.refusals.specs.declared.Reason.TheVariants.{TooLong, BadHeader, BadTag, BadContent, TooDeep, TooMany, TooLarge, NotInScope, WrongKind, ProductOfVariables, FormOutOfRange, NotShown, BadCondition, NoSuchFamily, WrongSizesLength, SizeTooLarge, TooManyWires, IndexOutOfRange, OneWireTwice, OutOfSteps, OutputFull, TextFull, LowNumber, KTooLarge, PassedTooLate, HasFamilyParameter, SameWire}

-- what a call answers
abbrev pub number_of : Reason → ℕ
number_of TooLong = 1
number_of BadHeader = 2
number_of BadTag = 3
number_of BadContent = 4
number_of TooDeep = 5
number_of TooMany = 6
number_of TooLarge = 7
number_of NotInScope = 8
number_of WrongKind = 9
number_of ProductOfVariables = 10
number_of FormOutOfRange = 11
number_of NotShown = 12
number_of BadCondition = 13
number_of NoSuchFamily = 20
number_of WrongSizesLength = 21
number_of SizeTooLarge = 22
number_of TooManyWires = 23
number_of IndexOutOfRange = 24
number_of OneWireTwice = 25
number_of OutOfSteps = 26
number_of OutputFull = 27
number_of TextFull = 30
number_of LowNumber = 31
number_of KTooLarge = 32
number_of PassedTooLate = 33
number_of HasFamilyParameter = 34
number_of SameWire = 35
