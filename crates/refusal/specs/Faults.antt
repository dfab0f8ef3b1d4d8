-- The faults and their numbers, by the list of refusals, and what a call that looks for a fault answers as a number.
use Rattle.std.specs.Prelude.{ℕ, Result, Ok, Err}
use Rattle.refusal.specs.declared.Fault.{Fault}
use Rattle.refusal.specs.declared.Fault.TheVariants.{TooLarge, CutShort, MagicWrong, VersionUnknown, ChecksumWrong, HashNotZero, IdUnknown, OutOfPlace, OverLimit, NotText, RuleBroken, RangesOverlap, LinkTwice, TimeLower, NotRegularFile, NotThere, RoomTooSmall, Stray, DoesNotFollow, TooDeep}

abbrev pub number_of : Fault → ℕ
number_of TooLarge = 1
number_of CutShort = 2
number_of MagicWrong = 3
number_of VersionUnknown = 4
number_of ChecksumWrong = 5
number_of HashNotZero = 6
number_of IdUnknown = 7
number_of OutOfPlace = 8
number_of OverLimit = 9
number_of NotText = 10
number_of RuleBroken = 11
number_of RangesOverlap = 12
number_of LinkTwice = 13
number_of TimeLower = 14
number_of NotRegularFile = 15
number_of NotThere = 16
number_of RoomTooSmall = 17
number_of Stray = 18
number_of DoesNotFollow = 23
number_of TooDeep = 24

-- the number that is answered: 0 where there is no fault
abbrev pub fault_number : {A : Type 0} → Result A Fault → ℕ
fault_number (Ok found) = 0
fault_number (Err fault) = number_of fault
